use Rattle.std.proofs.Common.{◌^◌, ◌<◌, bit_or, refl, ap₂, sym, subst, ◌∙◌, arith}
use Rattle.std.proofs.lemmas.Nat.{or_lt}
use Rattle.std.proofs.lemmas.List.{length-set}
use Rattle.par_bits.specs.Sets.{has, union}
use Rattle.par_bits.specs.Words.{AreWords}
use Rattle.par_bits.proofs.Changed.{changed_more, left_more, all_changed, word_at, AreWords-from}
use Rattle.par_bits.proofs.Members.{has_union}
use Rattle.par_bits.proofs.bits.Bits.union.Goals as goal

pub loop-k-preserved : goal.loop-k-preserved
loop-k-preserved g c = record {
  long = length-set c.loop-k.words c.loop-k.k _ ∙ c.loop-k.invariant.long;
  below =
      changed_more bit_or c.self.inside.words c.other.inside.words c.loop-k.words c.loop-k.k
      (omega arith) c.loop-k.invariant.below c.loop-k.invariant.rest;
  rest =
      left_more bit_or c.self.inside.words c.other.inside.words c.loop-k.words c.loop-k.k _
      c.loop-k.invariant.rest;
}

pub invariant_of-result : goal.invariant_of-result
invariant_of-result g c =
    let made =
    all_changed bit_or c.self.inside.words c.other.inside.words c.loop-k.words c.loop-k.k refl
    (omega arith) (omega arith) (omega arith) c.loop-k.invariant.below in
    let words : AreWords c.loop-k.words =
    AreWords-from c.loop-k.words
    (λ j. subst (λ w. w < 2 ^ 64) (sym (made j))
    (or_lt 64 _ _ (word_at c.self.inside.words c.self.invariant.2 j)
    (word_at c.other.inside.words c.other.invariant.2 j))) in
    (c.loop-k.invariant.long, c.self.invariant.1, words)

pub returns : goal.returns
returns g c =
    let made =
    all_changed bit_or c.self.inside.words c.other.inside.words c.loop-k.words c.loop-k.k refl
    (omega arith) (omega arith) (omega arith) c.loop-k.invariant.below in
    has_union c.loop-k.words c.self.inside.words c.other.inside.words
    (invariant_of-result g c).2 c.self.invariant.2 c.other.invariant.2 made
    ∙ ap₂ (λ a b. union (has a) (has b)) c.self.view_is c.other.view_is
