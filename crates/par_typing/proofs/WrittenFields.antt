-- No field of the table is inferred where none of the source is.
use Rattle.std.proofs.Common.{◌≡◌, ℕ, ◌+◌, Bool, true, false, not, List, [], ◌∷◌, refl}
use Rattle.std.specs.Prelude.{count_by, if◌then◌else◌}
use Rattle.std.specs.List.{AllByRecursion}
use Rattle.par_tree.specs.declared.decl.FieldDecl.{FieldDecl}
use Rattle.par_tree.specs.Plain as plain
use Rattle.par_tree.specs.Plain.{Class, Declaration, Source}
use Rattle.par_refusals.specs.declared.refusal.Refusal.{Refusal}
use Rattle.par_refusals.specs.First.{when}
use Rattle.par_names.specs.Declarations.{classes_in, declared_classes}
use Rattle.par_typed_laws.specs.par_type_rules.Inferred.{fields_inferred, declaration_inferred}
use Rattle.par_typed_laws.specs.par_type_rules.Inferred.{all_inferred}
use Rattle.par_typed_laws.specs.par_resolved.Resolved.{Resolved, resolved, field_infos, class_infos}
use Rattle.par_typed_laws.proofs.Lists.{none_left, none_right, of_both}
use Rattle.par_typing.specs.TableLaws.{FieldsAreWritten}

abbrev IsWritten : FieldDecl → Type 0
IsWritten f = f.inferred ≡ false

abbrev AreWritten : Class → Type 0
AreWritten c = AllByRecursion IsWritten c.fields

not_inferred : (b : Bool) (f : Refusal) → when (not (not b)) f ≡ [] → b ≡ false
unfolding when
not_inferred true f h = absurd (cc h)
not_inferred false f h = refl

fields_written : (fs : List FieldDecl) → fields_inferred fs ≡ [] → AllByRecursion IsWritten fs
unfolding fields_inferred
fields_written [] h = tt
fields_written (f ∷ fs) h = (
  not_inferred f.inferred _ (none_left _ (fields_inferred fs) h),
  fields_written fs (none_right (when (not (not f.inferred)) _) _ h),
)

class_written : (d : Declaration) → declaration_inferred d ≡ []
    → AllByRecursion AreWritten (classes_in d)
unfolding declaration_inferred
class_written (plain.Actors ids) h = tt
class_written (plain.Lock lock) h = tt
class_written (plain.Policy policy) h = tt
class_written (plain.Declared class) h = (fields_written class.fields h, tt)

all_written : (ds : List Declaration) → all_inferred ds ≡ []
    → AllByRecursion AreWritten (declared_classes ds)
unfolding all_inferred
all_written [] h = tt
all_written (d ∷ ds) h =
    of_both AreWritten (classes_in d) (declared_classes ds)
    (class_written d (none_left _ (all_inferred ds) h))
    (all_written ds (none_right (declaration_inferred d) _ h))

infos_written : (r : Resolved) (next : ℕ) (fs : List FieldDecl) → AllByRecursion IsWritten fs
    → AllByRecursion (λ f. f.inferred ≡ false) (field_infos r next fs)
infos_written r next [] h = tt
infos_written r next (f ∷ fs) h =
    (h.0, infos_written r (if f.inferred then next + 1 else next) fs h.1)

classes_written : (r : Resolved) (class next : ℕ) (cs : List Class) → AllByRecursion AreWritten cs
    → AllByRecursion (λ c. AllByRecursion (λ f. f.inferred ≡ false) c.fields)
    (class_infos r class next cs)
classes_written r class next [] h = tt
classes_written r class next (c ∷ cs) h = (
  infos_written r next c.fields h.0,
  classes_written r (class + 1) (next + count_by (λ f. f.inferred) c.fields) cs h.1,
)

pub fields_are_written : FieldsAreWritten
fields_are_written source none = (
  tt,
  (
    tt,
    classes_written (resolved source) _ _ (declared_classes source)
        (all_written source none),
  ),
)
