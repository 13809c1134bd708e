-- The method of a body in its table, as the rules of flow know it.
use Rattle.std.proofs.Common.{◌≡◌, ℕ, Option, Some, None, ap}
use Rattle.std.specs.Prelude.{slice_get}
use Rattle.par_typed.specs.declared.table.Table.{Table}
use Rattle.par_typed.specs.declared.table.ClassInfo.{ClassInfo}
use Rattle.par_typed.specs.declared.table.MethodInfo.{MethodInfo}
use Rattle.par_typed.specs.Members.{methods_in, method_at}
use Rattle.par_program_laws.specs.Declares.{declares, methods_of, method_of}

in_class : (o : Option ClassInfo) (k : ℕ) (m : MethodInfo) → slice_get (methods_in o) k ≡ Some m
    → methods_of o k ≡ method_of (Some m)
in_class None k m is = absurd (cc is)
in_class (Some c) k m is = ap method_of is

-- the method that the rules know is that of the table
pub method_known : (table : Table) (class k : ℕ) (m : MethodInfo) → method_at table class k ≡ Some m
    → (declares table).method class k ≡ method_of (Some m)
unfolding declares
method_known table class k m is = in_class (slice_get table.classes class) k m is
