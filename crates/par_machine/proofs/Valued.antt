-- Values that are written are of classes with names.
use Rattle.std.proofs.Common.{◌≡◌, ℕ, ◌<◌, Bool, true, false, not, ◌&&◌, nat_lt, List, [], ◌∷◌}
use Rattle.std.proofs.Common.{length, refl, sym, ap, ◌∙◌, inl, inr, arith, lt-ltb}
use Rattle.std.proofs.lemmas.Bool.{cases_lt, false≢true}
use Rattle.std.proofs.lemmas.Option.{slice_get_past}
use Rattle.std.proofs.lemmas.Slice.Eq.{bytes_eq-Decides}
use Rattle.par_class.specs.declared.file.ClassFile.{ClassFile}
use Rattle.par_values.specs.declared.value.MVal.{MVal}
use Rattle.par_values.specs.declared.value.MVal.TheVariants.{Int, Null, Ref}
use Rattle.par_values.specs.declared.kind.Kind.{Kind}
use Rattle.par_values.specs.declared.kind.Kind.TheVariants as kind
use Rattle.par_values.specs.Areas.{Name, Areas, class_named, name_or_none, fits, shown_value}
use Rattle.par_values.specs.Areas.{operand}
use Rattle.par_values.specs.Reasons.{all_fit}
use Rattle.par_method_area.specs.par_step_laws.Classes.{class_names}
use Rattle.par_method_area.specs.Known.{IsTold}
use Rattle.par_method_area.proofs.Numbered.{many}
use Rattle.par_machine.specs.Site.{HasName}

named_within : (classes : List Name) (c : ℕ) → (class_named classes c ≡ [] → ⊥) → c < length classes
named_within classes c some =
    elim (cases_lt c (length classes)) [
      | inl within ↦ within
      | inr past ↦ absurd (some (ap name_or_none (slice_get_past classes c past)))
    ]

-- a value that shows as one that fits a field's kind
pub has_name : (files : List ClassFile) (kind : Kind) (w v : MVal) → IsTold kind
    → fits (class_names files) kind w ≡ true
    → shown_value (class_names files) w ≡ shown_value (class_names files) v → HasName files v
has_name files kind w (Int n) told fit same = tt
has_name files kind w Null told fit same = tt
has_name files kind (Int m) (Ref c n) told fit same = absurd (cc)
has_name files kind Null (Ref c n) told fit same = absurd (cc)
has_name files kind.Number (Ref d m) (Ref c n) told fit same = absurd (false≢true fit)
has_name files kind.AnyObject (Ref d m) (Ref c n) told fit same = absurd told
has_name files kind.Anything (Ref d m) (Ref c n) told fit same = absurd told
has_name files (kind.Object name) (Ref d m) (Ref c n) told fit same =
    let alike : class_named (class_names files) d ≡ class_named (class_names files) c = cc in
    let is : class_named (class_names files) d ≡ name =
    (bytes_eq-Decides (class_named (class_names files) d) name).0 fit in
    let within = named_within (class_names files) c (λ none. told (sym is ∙ alike ∙ none)) in
    omega (arith, many files, within)

-- what is not false is true
pub not_false : (b : Bool) → not b ≡ false → b ≡ true
not_false true is = refl
not_false false is = absurd (cc)

-- the last operand fits the first of some kinds
pub last_fits : (classes : List Name) (kind : Kind) (kinds : List Kind) (a : Areas)
    → nat_lt (length a.operands) (length (kind ∷ kinds)) ≡ false
    → not (all_fit classes (kind ∷ kinds) a.operands) ≡ false
    → fits classes kind (operand 0 a) ≡ true
last_fits classes kind kinds a lacks unfit = by_operands a.operands lacks (not_false _ unfit) where
  both : (x y : Bool) → (x && y) ≡ true → x ≡ true
  both true y is = refl
  both false y is = absurd (cc)

  by_operands : (vs : List MVal) → nat_lt (length vs) (length (kind ∷ kinds)) ≡ false
      → all_fit classes (kind ∷ kinds) vs ≡ true
      → fits classes kind (operand 0 (record a { operands = vs })) ≡ true
  by_operands [] lacks fit = absurd (false≢true (sym lacks ∙ lt-ltb _ _ (omega arith)))
  by_operands (v ∷ vs) lacks fit = both (fits classes kind v) (all_fit classes kinds vs) fit
