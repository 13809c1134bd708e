use Rattle.std.proofs.Common.{refl}
use Rattle.par_frame_steps.specs.Marks.{names}
use Rattle.par_frame_steps.proofs.Parts.{part_unfit, part_fits}
use Rattle.par_frame_steps.proofs.pile.Pile.listed_into.Goals as goal

pub returns-then-not-part_into : goal.returns-then-not-part_into
returns-then-not-part_into c =
    part_unfit (names c.args.exceptions.now) c.args.self.now c.args.other.now c.loop-place.place
    _ _ c.part_into.result _ refl refl c.part_into.ensures c.loop-place.invariant
    c.if-not-part_into.true

pub loop-place-preserved : goal.loop-place-preserved
loop-place-preserved c =
    part_fits (names c.args.exceptions.now) c.args.self.now c.args.other.now c.loop-place.place
    _ _ c.part_into.result _ refl refl c.part_into.ensures c.loop-place.invariant
    c.if-not-part_into.false
