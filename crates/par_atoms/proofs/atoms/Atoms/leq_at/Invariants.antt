use Rattle.std.proofs.Common.{ℕ, ◌<◌, [], get_or}
use Rattle.std.specs.Prelude.{IsTrue}
use Rattle.par_policy.specs.Order.{IsBelowAt}
use Rattle.par_policy.specs.par_bits.Sets.{has}
use Rattle.par_atoms.specs.Atoms.{members}
use Rattle.par_atoms.proofs.atoms.Atoms.leq_at.Given as goal

abbrev pub invariant-loop-number : goal.invariant-loop-number
invariant-loop-number l =
    (n : ℕ) → n < l.number → IsTrue (has l.self n)
    → IsBelowAt (get_or l.policies n []) (members l.opened.locks.now) l.q
