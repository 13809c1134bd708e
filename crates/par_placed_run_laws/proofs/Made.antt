-- A class that a constant of linked files names in a simple way is one of which objects are made.
use Rattle.std.proofs.Common.{◌≡◌, ℕ, zero, suc, ◌<◌, Bool, true, false, List, [], ◌∷◌, ◌++◌}
use Rattle.std.proofs.Common.{length}
use Rattle.std.proofs.Common.{Option, Some, None, refl, sym, ap, subst, ◌∙◌, inl, inr, slice_get}
use Rattle.std.proofs.Common.{codes, arith}
use Rattle.std.specs.Prelude.{◌⊎◌, if◌then◌else◌}
use Rattle.std.specs.List.{All, AllZip}
use Rattle.std.specs.Str.{bytes_eq}
use Rattle.std.proofs.lemmas.Bool.{or_cases}
use Rattle.std.proofs.lemmas.List.{length-map}
use Rattle.std.proofs.lemmas.List.Elements.{All-head, All-tail, All-cons}
use Rattle.par_pool.specs.declared.constant.Constant.{Constant}
use Rattle.par_pool.specs.declared.constant.Constant.TheVariants as constant
use Rattle.par_pool.specs.Entries.{IsAt, IsClassAt}
use Rattle.par_pool.proofs.Positions.{position-none}
use Rattle.par_class.specs.declared.file.ClassFile.{ClassFile}
use Rattle.par_index.proofs.Places.{position-within}
use Rattle.par_values.specs.declared.link.ClassLink.{ClassLink}
use Rattle.par_values.specs.declared.link.Link.TheVariants as link
use Rattle.par_values.specs.Areas.{Name}
use Rattle.par_step_laws.specs.par_single.Members.{own_name, own_names, text_of}
use Rattle.par_step_laws.specs.par_link.Builtins as builtins
use Rattle.par_step_laws.specs.par_link.Linked.{AreLinked}
use Rattle.par_step_laws.specs.par_link.Named.{class_of, class_place, class_named, named_by}
use Rattle.par_step_laws.specs.par_link.Order.{at, member_fault, description_fault}
use Rattle.par_step_laws.specs.par_link.Order.{constant_fault}
use Rattle.par_step_laws.specs.par_link.Order.{code_fault}
use Rattle.par_step_laws.specs.par_link.Order.{file_fault, ◌or◌}
use Rattle.par_step_laws.specs.par_link.Rules.{is_of, is_nothing}
use Rattle.par_step_laws.proofs.par_link.Faultless.{or-none, map-none, each-unbroken}
use Rattle.par_step_laws.proofs.par_link.Passing.{same_text}
use Rattle.par_step_laws.specs.Methods.{pool_of, class_pool, method_code}
use Rattle.par_class.specs.declared.file.Catch.{Catch}
use Rattle.par_place.specs.par_code_form.declared.labelled.Handler.{Handler}
use Rattle.par_place.specs.par_code_form.Placed.{offset_of, IsCatch}
use Rattle.par_step_laws.specs.Links.{link_of, class_link}
use Rattle.par_place.specs.par_code_form.PoolNames.{is_builtin, full_name}
use Rattle.par_placed_run_laws.specs.Laid.{IsOfMade}
use Rattle.par_placed_run_laws.specs.Made.{IsMade, HandlersNameMade, has_slash, IsSimple}
use Rattle.par_placed_run_laws.specs.Made.{PlacedCodeIsLaid}

-- ---- no class is absent

nothing_there : (index : ℕ) (c : Constant) → IsAt [] index c → ⊥
nothing_there zero c h = cc h
nothing_there (suc index) c h = cc h

some_named : (files : List ClassFile) (file : ClassFile) (k : ℕ) (name : Name)
    → file_fault files file ≡ None → IsClassAt file.pool.entries k name
    → is_nothing (class_named files name) ≡ false
unfolding constant_fault is_of named_by
some_named files file zero name h c = absurd (cc c.entry)
some_named files file (suc k) name h c =
    let rest = (or-none (member_fault file or description_fault file or constant_fault files file)
    (code_fault file) h).0 in
    let constants = (or-none (member_fault file or description_fault file)
    (constant_fault files file) rest).1 in
    let class = (or-none _ _ (or-none _ _ constants).0).0 in
    ap (λ (t : Name). is_nothing (class_named files t)) (sym (ap text_of c.is_name))
    ∙ position-none _ file.pool.entries (map-none suc _ (map-none _ _ class)) k
    (constant.Class c.text) c.entry

-- ---- a simple name

-- the texts of built-in classes have a slash
not_this : (class other : Name) → has_slash class ≡ false → has_slash other ≡ true
    → bytes_eq class other ≡ false
not_this class other simple slash = pick (bytes_eq class other) refl
  where
    pick : (b : Bool) → bytes_eq class other ≡ b → b ≡ false
    pick false e = refl
    pick true e =
        let same : has_slash class ≡ has_slash other = ap has_slash (same_text class other e) in
        absurd (cc (sym simple ∙ same ∙ slash))

no_builtin : (class : Name) → has_slash class ≡ false → builtins.builtin class ≡ None
no_builtin class simple =
    rw (
      not_this class (codes "java/lang/Object") simple refl,
      not_this class (codes "java/lang/Exception") simple refl,
      not_this class (codes "java/lang/ArithmeticException") simple refl,
      not_this class (codes "java/lang/NullPointerException") simple refl,
      not_this class (codes "paragon/Locks") simple refl,
    ) refl

-- ---- what it names

some_there : {A : Type 0} (xs : List A) (k : ℕ) → k < length xs
    → (x : A) × (slice_get xs k ≡ Some x)
some_there [] k lt = absurd (omega arith)
some_there (x ∷ xs) zero lt = (x, refl)
some_there (x ∷ xs) (suc k) lt = some_there xs k (omega arith)

module _ (files : List ClassFile) where
  abbrev pub IsMadeBy : Name → Type 0
  IsMadeBy full =
      (c : ClassLink) × (link_of files (class_named files full) ≡ link.Class c)
      × (c.is_made ≡ true)

  own_made : (name : Name) (own : Option ℕ) → class_place files name ≡ own
      → is_nothing (class_of None own) ≡ false
      → (c : ClassLink) × (link_of files (class_of None own) ≡ link.Class c) × (c.is_made ≡ true)
  own_made name None e h = absurd (cc h)
  own_made name (Some k) e h =
      let within = position-within (bytes_eq name) (own_names files) k e in
      let file = some_there files k (omega (arith, within, length-map files own_name)) in
      subst (λ o. (c : ClassLink) × (class_link k o ≡ link.Class c) × (c.is_made ≡ true))
      (sym file.1) (_, refl, refl)

  by_name : (class : Name) → has_slash class ≡ false
      → is_nothing (class_named files class) ≡ false → IsMadeBy class
  by_name class simple h =
      subst (λ b. (c : ClassLink) × (link_of files (class_of b (class_place files class))
      ≡ link.Class c) × (c.is_made ≡ true)) (sym (no_builtin class simple))
      (own_made class (class_place files class) refl
      (sym (ap (λ b. is_nothing (class_of b (class_place files class)))
      (no_builtin class simple)) ∙ h))

  arithmetic : IsMadeBy (full_name (codes "ArithmeticException"))
  arithmetic = (_, refl, refl)

  null_pointer : IsMadeBy (full_name (codes "NullPointerException"))
  null_pointer = (_, refl, refl)

  by_full_name : (class : Name) (b : Bool) → is_builtin class ≡ b → has_slash class ≡ false
      → is_nothing (class_named files (full_name class)) ≡ false → IsMadeBy (full_name class)
  by_full_name class false e simple h =
      let same : full_name class ≡ class =
      ap (λ (b : Bool). if b then codes "java/lang/" ++ class else class) e in
      subst IsMadeBy (sym same)
      (by_name class simple (ap (λ t. is_nothing (class_named files t)) (sym same) ∙ h))
  by_full_name class true e simple h =
      pick (or_cases (bytes_eq class (codes "ArithmeticException"))
      (bytes_eq class (codes "NullPointerException")) e)
    where
      pick : (bytes_eq class (codes "ArithmeticException") ≡ true)
          ⊎ (bytes_eq class (codes "NullPointerException") ≡ true) → IsMadeBy (full_name class)
      pick (inl is) =
          subst (λ t. IsMadeBy (full_name t))
          (sym (same_text class (codes "ArithmeticException") is)) arithmetic
      pick (inr is) =
          subst (λ t. IsMadeBy (full_name t))
          (sym (same_text class (codes "NullPointerException") is)) null_pointer

pub made : HandlersNameMade
made files linked c index class at simple =
    by_file (slice_get files c) refl at
  where
    by_file : (o : Option ClassFile) → slice_get files c ≡ o
        → IsClassAt (pool_of o) index (full_name class) → IsMade files class
    by_file None e at = absurd (nothing_there index _ at.entry)
    by_file (Some file) e at =
        by_full_name files class (is_builtin class) refl simple
        (some_named files file index (full_name class)
        (each-unbroken files linked.unbroken c file e) at)

all_made : (files : List ClassFile) → AreLinked files → (c : ℕ) (offset : ℕ → ℕ)
    (hs : List Handler) (ks : List Catch) → AllZip (IsCatch (class_pool files c) offset) hs ks
    → All IsSimple hs → All (IsOfMade files) hs
all_made files linked c offset [] ks are simple = λ k d lt. absurd (omega (arith, lt))
all_made files linked c offset (h ∷ hs) [] are simple = absurd are
all_made files linked c offset (h ∷ hs) (k ∷ ks) are simple =
    All-cons (IsOfMade files) h hs
    (made files linked c k.class h.class are.0.class (All-head IsSimple h hs simple))
    (all_made files linked c offset hs ks are.1 (All-tail IsSimple h hs simple))

pub laid : PlacedCodeIsLaid
laid files linked c m code placed items simple = record {
  placed = placed;
  items = items;
  handlers =
      all_made files linked c (offset_of code.items placed.indices) code.handlers
      (method_code files c m).catches placed.catches simple;
}
