-- A source that breaks no limit and no rule on types has small methods.
use Rattle.std.proofs.Common.{◌≡◌, ℕ, false, List, [], ◌∷◌, ◌++◌, Option, Some, None, arith}
use Rattle.std.specs.List.{flat_map, AllByRecursion}
use Rattle.par_tree.specs.Plain.{Method, Class, Declaration, Actors, Lock, Policy, Declared}
use Rattle.par_typed.specs.declared.table.Table.{Table}
use Rattle.par_names.specs.Declarations.{classes_in}
use Rattle.par_scope.specs.Names.{Names}
use Rattle.par_scope.specs.Locals.{no_locals}
use Rattle.par_scope.specs.Home.{Home, class_named, result_written}
use Rattle.par_type_rules.specs.Stmts.{braces_faults}
use Rattle.par_type_rules.specs.Methods.{with_params, params_faults, throws_faults}
use Rattle.par_type_rules.specs.Methods.{fields_faults}
use Rattle.par_type_rules.specs.Methods.{result_fault, end_fault, home_of, body_faults}
use Rattle.par_type_rules.specs.Methods.{method_faults}
use Rattle.par_type_rules.specs.Methods.{methods_faults, class_faults}
use Rattle.par_type_rules.specs.Program.{declaration_faults, declarations_faults}
use Rattle.par_typed_laws.specs.par_faults.Limits.{class_limits, method_limits}
use Rattle.par_annotation.specs.Small.{IsSmall, AreSmall, IsSmallClass, IsSmallSource}
use Rattle.par_source_laws.specs.Numbers.{HasNumbers, SourceHasNumbers}
use Rattle.par_typing.proofs.Ints.{braces_ints}
use Rattle.par_typed_laws.proofs.par_faults.Sized.{braces_few}
use Rattle.par_typed_laws.proofs.par_faults.Within.{left_none, right_none}
use Rattle.par_typed_laws.proofs.par_faults.Within.{MethodIsWithin, method_within}
use Rattle.par_typed_laws.proofs.par_faults.Within.{class_within}

small_method : (home : Home) (m : Method) → MethodIsWithin m → HasNumbers m
    → body_faults home m ≡ [] → IsSmall m
small_method home m limits numbers h =
    let one = result_fault home m.result in
    let two = params_faults home m.params in
    let three = throws_faults home m.throws in
    let four = braces_faults home false (with_params home no_locals m.params) m.body in
    let body = right_none (one ++ two ++ three) four (left_none (one ++ two ++ three ++ four)
    (end_fault home m) h) in
    let few = braces_few m.body in
    record {
      nodes = omega (arith, limits.nodes);
      locals = omega (arith, limits.nodes, limits.params, few);
      ints = braces_ints home false (with_params home no_locals m.params) m.body numbers body;
    }

small_methods : (table : Table) (names : Names) (class : ℕ) (ms : List Method)
    → AllByRecursion (λ m. method_limits m ≡ []) ms
    → AllByRecursion HasNumbers ms → methods_faults table names class ms ≡ [] → AreSmall ms
unfolding methods_faults
small_methods table names class [] limits numbers h = tt
small_methods table names class (m ∷ ms) limits numbers h =
    let one = method_faults table names class m in
    let more = methods_faults table names class ms in (
      small_method (home_of table names class (result_written names m.result)) m
          (method_within m limits.0) numbers.0 (left_none one more h),
      small_methods table names class ms limits.1 numbers.1 (right_none one more h),
    )

small_class : (table : Table) (names : Names) (o : Option ℕ) (c : Class) → class_limits c ≡ []
    → AllByRecursion HasNumbers c.methods
    → class_faults table names o c ≡ [] → IsSmallClass o c
unfolding class_faults
small_class table names None c limits numbers h = tt
small_class table names (Some class) c limits numbers h =
    small_methods table names class c.methods (class_within c limits).each_method numbers
    (right_none (fields_faults (home_of table names class None) c.fields)
    (methods_faults table names class c.methods) h)

pub small_source : (table : Table) (names : Names) (ds : List Declaration)
    → AllByRecursion (λ c. class_limits c ≡ []) (flat_map classes_in ds) → SourceHasNumbers ds
    → declarations_faults table names ds ≡ [] → IsSmallSource names ds
unfolding declarations_faults declaration_faults
small_source table names [] limits numbers h = tt
small_source table names (Actors ids ∷ ds) limits numbers h = (
  tt,
  small_source table names ds limits numbers.1
      (right_none [] (declarations_faults table names ds) h),
)
small_source table names (Lock lock ∷ ds) limits numbers h = (
  tt,
  small_source table names ds limits numbers.1
      (right_none [] (declarations_faults table names ds) h),
)
small_source table names (Policy policy ∷ ds) limits numbers h = (
  tt,
  small_source table names ds limits numbers.1
      (right_none [] (declarations_faults table names ds) h),
)
small_source table names (Declared class ∷ ds) limits numbers h =
    let one = class_faults table names (class_named names class.id.name) class in
    let more = declarations_faults table names ds in (
      small_class table names (class_named names class.id.name) class limits.0 numbers.0
          (left_none one more h),
      small_source table names ds limits.1 numbers.1 (right_none one more h),
    )
