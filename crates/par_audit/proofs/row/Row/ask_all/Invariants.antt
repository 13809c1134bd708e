use Rattle.std.proofs.Common.{◌≡◌, ℕ, ◌<◌, false, [], get_or}
use Rattle.std.specs.Prelude.{IsTrue}
use Rattle.par_bits.specs.Sets.{has}
use Rattle.par_audit.specs.Rows.{is_one_released, IsRow}
use Rattle.par_audit.proofs.row.Row.ask_all.Given as goal

-- the row is right, and no policy so far is released
abbrev pub invariant-loop-number : goal.invariant-loop-number
invariant-loop-number l =
    IsRow l.policies l.actor l.q l.self
    × ((n : ℕ) → n < l.number → IsTrue (has l.set n)
    → is_one_released (get_or l.policies n []) l.q l.actor ≡ false)
