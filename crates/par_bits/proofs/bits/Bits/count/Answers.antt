use Rattle.std.proofs.Common.{◌*◌, ◌∙◌, ap, arith}
use Rattle.std.specs.List.{sum_by}
use Rattle.std.specs.Int.RustNames.{count_ones}
use Rattle.std.proofs.lemmas.List.{take_all}
use Rattle.par_bits.specs.Sets.{has, size}
use Rattle.par_bits.proofs.Sizes.{few_members, size_words}
use Rattle.par_bits.proofs.bits.Bits.count.Goals as goal

pub overflow_add-members : goal.overflow_add-members
overflow_add-members g c =
    let few =
    few_members c.self.inside.words c.loop-word.word-index c.self.invariant.2 (omega arith)
    (omega arith) in
    omega (arith, few, c.loop-word.invariant)

pub returns : goal.returns
returns g c =
    let whole = take_all c.loop-word.word-index c.self.inside.words (omega arith) in
    c.loop-word.invariant
    ∙ ap (sum_by count_ones) whole
    ∙ size_words c.self.inside.words g.row.W c.self.invariant.2 c.self.invariant.0
    ∙ ap (λ kept. size (has kept) (64 * g.row.W)) c.self.view_is
