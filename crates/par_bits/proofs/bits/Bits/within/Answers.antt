use Rattle.std.proofs.Common.{bit_or, refl, sym, arith}
use Rattle.std.proofs.lemmas.Bool.{false≢true}
use Rattle.par_bits.proofs.Changed.{all_changed}
use Rattle.par_bits.proofs.Members.{within-from_words, word-from_within}
use Rattle.par_bits.proofs.bits.Bits.within.Goals as goal

pub returns-then-word-other : goal.returns-then-word-other
returns-then-word-other g c =
    rw (← c.self.view_is, ← c.other.view_is) (
      λ no. absurd (false≢true no),
      λ within.
          absurd (c.if-word-other.true
          (word-from_within c.self.inside.words c.other.inside.words c.self.invariant.2
          c.other.invariant.2 within c.loop-k.k)),
    )

pub returns : goal.returns
returns g c =
    let xs = c.self.inside.words in
    let ys = c.other.inside.words in
    let made =
    all_changed bit_or xs ys ys c.loop-k.k refl (omega arith) (omega arith) (omega arith)
    (λ j below. sym (c.loop-k.invariant j below)) in
    rw (← c.self.view_is, ← c.other.view_is) (
      λ _. within-from_words xs ys c.self.invariant.2 c.other.invariant.2 (λ j. sym (made j)),
      λ _. refl,
    )
