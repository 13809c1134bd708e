use Rattle.std.proofs.Common.{ℕ, ◌<◌, length}
use Rattle.std.specs.Prelude.{IsTrue}
use Rattle.par_bits.specs.Sets.{has}
use Rattle.par_policy_calls.proofs.lattice.join_below.Given as goal

abbrev pub invariant-loop-number : goal.invariant-loop-number
invariant-loop-number l = (n : ℕ) → IsTrue (has l.set n) → n < length l.table
