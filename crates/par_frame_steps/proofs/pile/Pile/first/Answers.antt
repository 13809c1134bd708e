use Rattle.std.proofs.Common.{◌<◌, length, sym, arith}
use Rattle.std.proofs.lemmas.List.{length-take-le}
use Rattle.par_frame_steps.proofs.Parts.{first_few, first_inside, first_is, first_are}
use Rattle.par_frame_steps.proofs.pile.Pile.first.Goals as goal

pub first-requires-clause-many : goal.first-requires-clause-many
first-requires-clause-many c =
    let fewer : c.args.many < length c.args.self.now =
    omega (arith, c.if-many-len.false, c.len.ensures) in
    first_few c.self.inside.pieces c.self.inside.rest.items c.args.self.now c.args.many
    c.saturating_sub-whole.result c.self.invariant c.self.view_is fewer
    c.saturating_sub-whole.ensures

pub slice_bounds-copied-end : goal.slice_bounds-copied-end
slice_bounds-copied-end c =
    let fewer : c.args.many < length c.args.self.now =
    omega (arith, c.if-many-len.false, c.len.ensures) in
    sym (length-take-le _ c.part.result.now
    (first_inside c.self.inside.pieces c.self.inside.rest.items c.args.self.now c.args.many
    c.saturating_sub-whole.result c.self.invariant c.self.view_is fewer
    c.saturating_sub-whole.ensures c.part.result.now c.part.ensures))

pub invariant_of-result : goal.invariant_of-result
invariant_of-result c =
    let fewer : c.args.many < length c.args.self.now =
    omega (arith, c.if-many-len.false, c.len.ensures) in
    rw (c.in_ok-first.ensures, c.in_ok-copied.ensures) (first_are
    c.self.inside.pieces c.self.inside.rest.items c.args.self.now c.args.many
    c.saturating_sub-whole.result c.self.invariant c.self.view_is fewer
    c.saturating_sub-whole.ensures c.part.result.now c.part.ensures)

pub returns : goal.returns
returns c =
    let fewer : c.args.many < length c.args.self.now =
    omega (arith, c.if-many-len.false, c.len.ensures) in
    rw (c.in_ok-first.ensures, c.in_ok-copied.ensures) (first_is
    c.self.inside.pieces c.self.inside.rest.items c.args.self.now c.args.many
    c.saturating_sub-whole.result c.self.invariant c.self.view_is fewer
    c.saturating_sub-whole.ensures c.part.result.now c.part.ensures)
