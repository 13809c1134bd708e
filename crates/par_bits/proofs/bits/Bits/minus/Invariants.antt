use Rattle.std.proofs.Common.{◌≡◌, ℕ, ◌<◌, ◌≤◌, get_or, length, bit_and}
use Rattle.std.specs.Int.{bit_not, w64}
use Rattle.par_bits.proofs.bits.Bits.minus.Given as goal

abbrev pub invariant-loop-k : goal.invariant-loop-k
invariant-loop-k g l = record {
  long : length l.words ≡ g.row.W;
  below : (j : ℕ) → j < l.k → get_or l.words j 0
      ≡ bit_and (get_or l.initial.words j 0) (bit_not w64 (get_or l.other-inside.words j 0));
  rest : (j : ℕ) → l.k ≤ j → get_or l.words j 0 ≡ get_or l.initial.words j 0;
}
