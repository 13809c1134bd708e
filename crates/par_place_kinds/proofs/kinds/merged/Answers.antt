use Rattle.par_place_kinds.specs.Marks.{names, kinds_of}
use Rattle.par_place_kinds.proofs.Lists.{merge-ends}
use Rattle.par_place_kinds.proofs.kinds.merged.Goals as goal

pub returns-then-place-others : goal.returns-then-place-others
returns-then-place-others c =
    merge-ends (names c.args.exceptions.now) c.args.kinds.now c.args.others.now
    c.loop-place.place (kinds_of c.loop-place.all.items) _ c.if-place-others.true
    c.loop-place.invariant
