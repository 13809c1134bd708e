-- When a body is accepted, and where it breaks a rule.
use Rattle.std.specs.Prelude.{◌≡◌, ℕ, Contains, slice_get}
use Rattle.par_pass_laws.specs.par_typed.declared.table.Table.{Table}
use Rattle.par_pass_laws.specs.par_typed.Plain.{Body}
use Rattle.par_pass_laws.specs.par_program_laws.Lattice.{Lattice, Seen, policies, numbers, joined}
use Rattle.par_pass_laws.specs.par_program_laws.Lattice.{seen_by}
use Rattle.par_pass_laws.specs.par_program_laws.Facts.{Facts}
use Rattle.par_pass_laws.specs.par_program_laws.Declares.{declares}
use Rattle.par_pass_laws.specs.par_program_laws.Closed.{IsClosed}
use Rattle.par_check_laws.specs.Asked.{Check}
use Rattle.par_check_laws.specs.Checks.{checks}
use Rattle.par_check_laws.specs.Keeps.{Keeps}

-- the policies of a table, by who sees them
abbrev pub among : Table → Lattice
among table = policies table.policies

abbrev pub Seeing : Table → Type 0
Seeing table = Facts (among table)

-- and one of them by its number
abbrev pub given : Table → ℕ → Seen
given table n = seen_by (slice_get table.policies n)

-- facts over policies keep a rule, and facts over sets of their numbers do
abbrev pub KeepsSeen : (table : Table) → Seeing table → Check → Type 0
KeepsSeen table a c = Keeps (among table) (λ p. p) (given table) a c

abbrev pub KeepsNumbered : Table → Facts numbers → Check → Type 0
KeepsNumbered table f c = Keeps numbers (joined table.policies) (given table) f c

-- some closed facts keep all rules
pub record IsAccepted (table : Table) (b : Body) : Type 0 where
  pub facts : Seeing table
  pub closed : IsClosed (among table) (declares table) b facts
  pub kept : (c : Check) → Contains (checks table b) c → KeepsSeen table facts c

-- the facts do not keep the rule at some node with this place
pub record Fails (table : Table) (b : Body) (rule at : ℕ) (a : Seeing table) : Type 0 where
  pub check : Check
  pub asked : Contains (checks table b) check
  pub rule_is : check.rule ≡ rule
  pub at_is : check.at ≡ at
  pub broken : KeepsSeen table a check → ⊥

-- all closed facts fail the rule at the place
abbrev pub IsBroken : Table → Body → ℕ → ℕ → Type 0
IsBroken table b rule at =
    (a : Seeing table) → IsClosed (among table) (declares table) b a → Fails table b rule at a
