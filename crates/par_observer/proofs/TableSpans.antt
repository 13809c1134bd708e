-- The places of methods in the table of a source are those of its tree.
use Rattle.std.proofs.Common.{ℕ, zero, suc, ◌≤◌, List, [], ◌∷◌, arith}
use Rattle.std.specs.Prelude.{slice_get}
use Rattle.std.specs.List.{AllByRecursion}
use Rattle.par_tree.specs.Plain as plain
use Rattle.par_tree.specs.Plain.{Class, Declaration, Source}
use Rattle.par_typed.specs.declared.table.MethodInfo.{MethodInfo}
use Rattle.par_typed.specs.declared.table.ClassInfo.{ClassInfo}
use Rattle.par_typed.specs.declared.table.Table.{Table}
use Rattle.par_span_laws.specs.Within.{MethodIn, DeclarationIn, IsWithin}
use Rattle.par_span_laws.proofs.Broken.{both, each, mapped}
use Rattle.par_names.specs.Declarations.{builtins, classes_in, declared_classes, classes}
use Rattle.par_resolved.specs.Resolved.{Resolved, resolved, method_info, class_infos, table_of}
use Rattle.par_check_laws.specs.Checks.{method_at, name_at}

module _ (m : ℕ) where
  abbrev pub InfosIn : List MethodInfo → Type 0
  InfosIn infos = AllByRecursion (λ info. info.at ≤ m) infos

  -- the places of the methods of all classes
  abbrev pub TableIn : Table → Type 0
  TableIn table = AllByRecursion (λ class. InfosIn class.methods) table.classes

  method_at_in : (infos : List MethodInfo) (k : ℕ) → InfosIn infos
      → method_at (slice_get infos k) ≤ m
  method_at_in [] k h = omega arith
  method_at_in (i ∷ infos) zero h = h.0
  method_at_in (i ∷ infos) (suc k) h = method_at_in infos k h.1

  pub name_at_in : (cs : List ClassInfo) (c k : ℕ)
      → AllByRecursion (λ class. InfosIn class.methods) cs → name_at (slice_get cs c) k ≤ m
  name_at_in [] c k h = omega arith
  name_at_in (class ∷ cs) zero k h = method_at_in class.methods k h.0
  name_at_in (class ∷ cs) (suc c) k h = name_at_in cs c k h.1

  abbrev MethodsIn : Class → Type 0
  MethodsIn class = AllByRecursion (MethodIn m) class.methods

  declared_in : (d : Declaration) → DeclarationIn m d → AllByRecursion MethodsIn (classes_in d)
  declared_in (plain.Actors ids) h = tt
  declared_in (plain.Lock lock) h = tt
  declared_in (plain.Policy policy) h = tt
  declared_in (plain.Declared class) h = (h.methods, tt)

  -- the classes that every program has have no methods
  all_in : (tree : Source) → IsWithin m tree → AllByRecursion MethodsIn (classes tree)
  all_in tree h =
      both MethodsIn builtins (declared_classes tree) (tt, (tt, tt))
      (each (DeclarationIn m) MethodsIn classes_in tree declared_in h)

  infos_in : (r : Resolved) (cs : List Class) (class next : ℕ) → AllByRecursion MethodsIn cs
      → AllByRecursion (λ info. InfosIn info.methods) (class_infos r class next cs)
  infos_in r [] class next h = tt
  infos_in r (c ∷ cs) class next h = (
    mapped (MethodIn m) (λ (i : MethodInfo). i.at ≤ m) (method_info r class) c.methods
        (λ f own. own.id) h.0,
    infos_in r cs _ _ h.1,
  )

  pub table_in : (tree : Source) → IsWithin m tree → TableIn (table_of tree)
  table_in tree h = infos_in (resolved tree) (classes tree) 0 _ (all_in tree h)
