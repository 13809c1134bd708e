use Rattle.std.proofs.Common.{◌&&◌, not, ap, ◌∙◌, arith}
use Rattle.par_bits.specs.Sets.{has}
use Rattle.par_reached.proofs.Halves.{half_ends, nothing}
use Rattle.par_reached.proofs.passes.drop_from.Goals as goal

pub returns-clause-rest : goal.returns-clause-rest
returns-clause-rest c =
    half_ends _ c.loop-place.place c.args.sets.now c.loop-place.sets c.loop-place.invariant
    (omega arith)
    (λ i n e. ap (λ y. has y n && not (has c.args.dropped.now n)) e
    ∙ ap (λ b. b && not (has c.args.dropped.now n)) (nothing n))
