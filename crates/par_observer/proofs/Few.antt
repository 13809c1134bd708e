-- A program has as many bodies as methods, and few enough to number.
use Rattle.std.proofs.Common.{◌≡◌, ℕ, ◌≤◌, ◌*◌, List, [], ◌∷◌, Option, Some, None, length, refl}
use Rattle.std.proofs.Common.{sym, subst, arith}
use Rattle.std.specs.List.{flat_map, AllByRecursion}
use Rattle.std.proofs.lemmas.List.{length-append}
use Rattle.par_tree.specs.Plain.{Method, Class, Source, Actors, Lock, Policy, Declared}
use Rattle.par_typed.specs.declared.program.TBody.{TBody}
use Rattle.par_typed.specs.declared.program.Typed.{Typed}
use Rattle.par_typed.specs.declared.table.Table.{Table}
use Rattle.par_typed.specs.Plain.{Body}
use Rattle.par_typed.specs.Shown.{bodies}
use Rattle.par_scope.specs.Names.{Names, names_of}
use Rattle.par_scope.specs.Home.{class_named}
use Rattle.par_names.specs.Declarations.{classes_in, declared_classes}
use Rattle.par_table.specs.par_faults.Limits.{class_limits}
use Rattle.par_type_rules.specs.TypedStmts.{Written}
use Rattle.par_type_rules.specs.TypedBodies.{typed_methods, typed_class}
use Rattle.par_type_rules.specs.TypedBodies.{typed_declaration}
use Rattle.par_type_rules.specs.TypedBodies.{typed_declarations}
use Rattle.par_resolved.specs.Resolved.{table_of}
use Rattle.par_typing.specs.Typed.{written}
use Rattle.par_table.proofs.par_faults.Within.{limits_kept, class_within}
use Rattle.par_check_laws.specs.Accepted.{MOST_BODIES}
use Rattle.par_observer.specs.Trees.{IsTypedTree}

module _ (w : Written) (table : Table) (names : Names) where
  many_methods : (class : ℕ) (ms : List Method)
      → length (typed_methods w table names class ms) ≡ length ms
  unfolding typed_methods
  many_methods class [] = refl
  many_methods class (m ∷ ms) = let more = many_methods class ms in omega (arith, more)

  few_in_class : (o : Option ℕ) (c : Class) → class_limits c ≡ []
      → length (typed_class w table names o c) ≤ 128
  unfolding typed_class
  few_in_class None c h = omega arith
  few_in_class (Some class) c h =
      let same = many_methods class c.methods in
      let few = (class_within c h).methods in
      omega (arith, same, few)

  few_in_all : (ds : Source) → AllByRecursion (λ c. class_limits c ≡ []) (flat_map classes_in ds)
      → length (typed_declarations w table names ds) ≤ 128 * length (flat_map classes_in ds)
  unfolding typed_declarations typed_declaration
  few_in_all [] h = omega arith
  few_in_all (Actors ids ∷ ds) h = few_in_all ds h
  few_in_all (Lock lock ∷ ds) h = few_in_all ds h
  few_in_all (Policy policy ∷ ds) h = few_in_all ds h
  few_in_all (Declared c ∷ ds) h =
      let own = typed_class w table names (class_named names c.id.name) c in
      let both = length-append own (typed_declarations w table names ds) in
      let few = few_in_class (class_named names c.id.name) c h.0 in
      let more = few_in_all ds h.1 in
      omega (arith, both, few, more)

many_shown : (bs : List TBody) → length (bodies bs) ≡ length bs
many_shown [] = refl
many_shown (b ∷ bs) = let more = many_shown bs in omega (arith, more)

pub few_bodies : (tree : Source) (typed : Typed) → IsTypedTree tree typed
    → length typed.bodies ≤ MOST_BODIES
few_bodies tree typed is =
    let limits = limits_kept tree is.right in
    let classes = limits.few_classes in
    let all = few_in_all (written tree) (table_of tree) (names_of (table_of tree)) tree
    limits.class_limits_kept in
    let shown : length (bodies typed.bodies) ≤ 128 * length (declared_classes tree) =
    subst (λ (bs : List Body). length bs ≤ 128 * length (declared_classes tree))
    (sym is.typed_is.bodies_are) all in
    let same = many_shown typed.bodies in
    omega (arith, classes, shown, same)
