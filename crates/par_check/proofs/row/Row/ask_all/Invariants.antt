use Rattle.std.proofs.Common.{ℕ, ◌<◌, [], get_or}
use Rattle.std.specs.Prelude.{IsTrue}
use Rattle.par_policy.specs.Order.{IsBelowAt}
use Rattle.par_bits.specs.Sets.{has}
use Rattle.par_atoms.specs.Atoms.{members}
use Rattle.par_check.specs.Rows.{IsRow}
use Rattle.par_check.proofs.row.Row.ask_all.Given as goal

-- the row is right, and each policy so far is below
abbrev pub invariant-loop-number : goal.invariant-loop-number
invariant-loop-number l =
    IsRow l.policies (members l.locks) l.q l.self
    × ((n : ℕ) → n < l.number → IsTrue (has l.set n)
    → IsBelowAt (get_or l.policies n []) (members l.locks) l.q)
