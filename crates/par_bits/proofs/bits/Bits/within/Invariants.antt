use Rattle.std.proofs.Common.{◌≡◌, ℕ, ◌<◌, get_or, bit_or}
use Rattle.par_bits.proofs.bits.Bits.within.Given as goal

abbrev pub invariant-loop-k : goal.invariant-loop-k
invariant-loop-k g l =
    (j : ℕ) → j < l.k → bit_or (get_or l.word-items j 0) (get_or l.other-inside.words j 0)
    ≡ get_or l.other-inside.words j 0
