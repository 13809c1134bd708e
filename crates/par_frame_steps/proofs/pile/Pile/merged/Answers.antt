use Rattle.par_frame_steps.specs.Marks.{names}
use Rattle.par_frame_steps.proofs.Piled.{pieces_same, merged_piled, merged_all}
use Rattle.par_frame_steps.proofs.pile.Pile.merged.Goals as goal

pub merged_pieces-requires-clause-many : goal.merged_pieces-requires-clause-many
merged_pieces-requires-clause-many c =
    let one = c.self.inside in
    let other = c.other.inside in
    rw (c.as_slice-mine.ensures, c.as_slice-its.ensures) (pieces_same
    (names c.args.exceptions.now) one.pieces other.pieces one.rest.items other.rest.items
    c.args.self.now c.args.other.now c.self.invariant c.other.invariant c.self.view_is
    c.other.view_is c.requires)

pub invariant_of-result : goal.invariant_of-result
invariant_of-result c =
    let one = c.self.inside in
    let other = c.other.inside in
    let is = c.in_ok-pieces.ensures in
    let many = rw c.as_slice-mine.ensures at is.many in
    let least = rw (c.as_slice-mine.ensures, c.as_slice-its.ensures) at is.least in
    let rest = rw (c.deref.ensures.value, c.deref-2.ensures.value) at c.in_ok-rest.ensures in
    rw c.in_ok-told.ensures (merged_piled (names c.args.exceptions.now) one.pieces other.pieces
    one.rest.items other.rest.items c.args.self.now c.args.other.now c.self.invariant
    c.other.invariant c.self.view_is c.other.view_is c.requires c.in_ok-pieces.pieces.items
    c.in_ok-rest.rest.items many is.whole least rest)

pub returns : goal.returns
returns c =
    let one = c.self.inside in
    let other = c.other.inside in
    let is = c.in_ok-pieces.ensures in
    let many = rw c.as_slice-mine.ensures at is.many in
    let least = rw (c.as_slice-mine.ensures, c.as_slice-its.ensures) at is.least in
    let rest = rw (c.deref.ensures.value, c.deref-2.ensures.value) at c.in_ok-rest.ensures in
    rw c.in_ok-told.ensures (merged_all (names c.args.exceptions.now) one.pieces other.pieces
    one.rest.items other.rest.items c.args.self.now c.args.other.now c.self.invariant
    c.other.invariant c.self.view_is c.other.view_is c.requires c.in_ok-pieces.pieces.items
    c.in_ok-rest.rest.items many is.whole least rest)
