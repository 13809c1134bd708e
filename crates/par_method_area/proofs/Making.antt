-- Classes by their rows.
use Rattle.std.proofs.Common.{◌≡◌, ℕ, ◌<◌, Bool, true, false, List, [], ◌∷◌, length, map, Option}
use Rattle.std.proofs.Common.{Some, None, slice_get, refl, sym, ap, subst, ◌∙◌}
use Rattle.std.proofs.lemmas.Option.{slice_get_within}
use Rattle.std.specs.List.{filter}
use Rattle.par_class.specs.declared.file.ClassFile.{ClassFile}
use Rattle.par_values.specs.declared.value.MVal.{MVal}
use Rattle.par_values.specs.Areas.{Name, name_or_none, first_value}
use Rattle.par_step_laws.specs.Classes.{class_names}
use Rattle.par_step_laws.specs.Fields.{is_own, kind_of}
use Rattle.par_step_laws.specs.Links.{class_link, unmade, exception_link}
use Rattle.par_actions.specs.declared.births.Class.{Class}
use Rattle.par_method_area.specs.declared.classes.ClassRow.{ClassRow}
use Rattle.par_method_area.specs.Area.{Area, AreTold}
use Rattle.par_method_area.specs.Classes.{IsClassRow}
use Rattle.par_method_area.specs.Known.{KnowsClass}
use Rattle.par_method_area.proofs.Beside.{found, missing}
use Rattle.par_method_area.proofs.Numbered.{name-at, flag-at, flag-missing}

twice : {A B C : Type 0} (f : B → C) (g : A → B) (xs : List A)
    → map f (map g xs) ≡ map (λ x. f (g x)) xs
twice f g [] = refl
twice f g (x ∷ xs) = ap (λ ys. f (g x) ∷ ys) (twice f g xs)

-- a class of which no object is made
pub unmade-found : (classes : List Name) (name : Name) {flag : Bool} (x : Class) → x.number ≡ 0
    → x.first.now ≡ [] → x.is_made ≡ false → x.is_exception ≡ flag
    → KnowsClass classes (unmade name flag) (Some x)
unmade-found classes name x number first made exception =
    record {
      is =
          record {
            number = sym number;
            first = sym first;
            is_exception = sym exception;
            is_made = sym made;
          };
      numbered = λ is. absurd (cc is);
      named = λ is. absurd (cc is);
    }

-- an exception that every program has
pub exception-found : (classes : List Name) (name : Name) (class : ℕ) (x : Class) → x.number ≡ class
    → x.first.now ≡ [] → x.is_made ≡ true → x.is_exception ≡ true
    → class < length classes → slice_get classes class ≡ Some name
    → KnowsClass classes (exception_link name class) (Some x)
exception-found classes name class x number first made exception within at =
    record {
      is =
          record {
            number = sym number;
            first = sym first;
            is_exception = sym exception;
            is_made = sym made;
          };
      numbered = λ is. within;
      named = λ is. ap name_or_none (sym at);
    }

module _ (files : List ClassFile) (rows : List ClassRow) (exceptions : List Bool)
    (statics : List MVal)
    (told : AreTold files rows exceptions statics) (class : ℕ) where
  pub class-gone : slice_get rows class ≡ None
      → KnowsClass (class_names files) (class_link class (slice_get files class)) None
  class-gone none =
      subst (λ (o : Option ClassFile). KnowsClass (class_names files) (class_link class o) None)
      (sym (missing (IsClassRow (class_names files) files) files rows class told.rows none)) tt

  pub flag-there : (row : ClassRow) → slice_get rows class ≡ Some row
      → slice_get exceptions class ≡ None → ⊥
  flag-there row at none =
      let here = found (IsClassRow (class_names files) files) files rows class row told.rows at in
      flag-missing files class here.item here.at
      (ap (λ (flags : List Bool). slice_get flags class) (sym told.exceptions) ∙ none)

  pub class-found : (row : ClassRow) (flag : Bool) (x : Class) → slice_get rows class ≡ Some row
      → slice_get exceptions class ≡ Some flag
      → x.number ≡ class → x.first.now ≡ row.first.items → x.is_made ≡ true → x.is_exception ≡ flag
      → KnowsClass (class_names files) (class_link class (slice_get files class)) (Some x)
  class-found row flag x at is number first made exception =
      let here = found (IsClassRow (class_names files) files) files rows class row told.rows at in
      let own = name-at files class here.item here.at in
      subst (λ (o : Option ClassFile). KnowsClass (class_names files) (class_link class o) (Some x))
      (sym here.at)
      (record {
        is = record {
          number = sym number;
          first =
              twice first_value (kind_of here.item.pool.entries) (filter is_own here.item.fields)
              ∙ sym (first ∙ here.is.first);
          is_exception =
              flag-at files class here.item flag here.at
              (ap (λ (flags : List Bool). slice_get flags class) (sym told.exceptions) ∙ is)
              ∙ sym exception;
          is_made = sym made;
        };
        numbered = λ made. slice_get_within (class_names files) class _ own;
        named = λ made. ap name_or_none (sym own);
      })

pub moved : (class : ℕ) {a b : Area} → a ≡ b → (x : Option Class)
    → KnowsClass (class_names a.files) (class_link class (slice_get a.files class)) x
    → KnowsClass (class_names b.files) (class_link class (slice_get b.files class)) x
moved class same x known =
    subst (λ (a : Area). KnowsClass (class_names a.files)
    (class_link class (slice_get a.files class)) x) same known
