-- Policies as one observer meets them: it sees what has the policy or it does not.
use Rattle.std.specs.Prelude.{Bool, true, ◌&&◌, List, Option, Some, None, slice_get, IsTrue}
use Rattle.par_policy.specs.declared.clauses.Clause.{Clause}
use Rattle.par_typed.specs.declared.table.MethodInfo.{MethodInfo}
use Rattle.par_program_laws.specs.Lattice.{Lattice, seen_by}
use Rattle.par_run_laws.specs.par_secrecy.Shown.{Observer}

-- the lattice of one observer: a policy is whether it sees what has it
abbrev pub watched : List (List Clause) → Observer → Lattice
watched policies o = record {
  Policy = Bool;
  IsBelow = λ p q. IsTrue q → IsTrue p;
  join = λ p q. p && q;
  bottom = true;
  given = λ n. seen_by (slice_get policies n) o.actor o.locks;
}

-- there is one
abbrev pub IsThere : Option MethodInfo → Type 0
IsThere None = ⊥
IsThere (Some m) = Unit {0}
