use Rattle.std.proofs.Common.{◌≡◌, ◌&&◌, ◌∙◌, Bool, length, ap, sym}
use Rattle.par_frame_steps.specs.Marks.{names}
use Rattle.par_frame_steps.proofs.Piled.{unlike, into_piled, unfit_piled}
use Rattle.par_frame_steps.proofs.pile.Pile.fits_into.Goals as goal

pub returns-then-len : goal.returns-then-len
returns-then-len c =
    let one = c.self.inside in
    let other = c.other.inside in
    unlike (names c.args.exceptions.now) one.pieces other.pieces one.rest.items
    other.rest.items c.args.self.now c.args.other.now c.self.invariant c.other.invariant
    c.self.view_is c.other.view_is
    (λ same. c.if-len.true (c.len.ensures ∙ same ∙ sym c.len-2.ensures))

pub returns-then-pieces_into : goal.returns-then-pieces_into
returns-then-pieces_into c =
    let one = c.self.inside in
    let other = c.other.inside in
    let many : length one.pieces ≡ length other.pieces =
    sym c.len.ensures ∙ c.if-len.false ∙ c.len-2.ensures in
    let pieces = rw (c.as_slice.ensures, c.as_slice-2.ensures) at c.pieces_into.ensures in
    let rest =
    rw (c.deref.ensures.value, c.deref-then-pieces_into.ensures.value) at
    c.all_into.ensures in
    sym (ap (λ (b : Bool). b && c.all_into.result) c.if-pieces_into.true)
    ∙ into_piled (names c.args.exceptions.now) one.pieces other.pieces one.rest.items
    other.rest.items c.args.self.now c.args.other.now c.self.invariant c.other.invariant
    c.self.view_is c.other.view_is many c.pieces_into.result c.all_into.result pieces rest

pub returns-else-pieces_into : goal.returns-else-pieces_into
returns-else-pieces_into c =
    let one = c.self.inside in
    let other = c.other.inside in
    let many : length one.pieces ≡ length other.pieces =
    sym c.len.ensures ∙ c.if-len.false ∙ c.len-2.ensures in
    let pieces = rw (c.as_slice.ensures, c.as_slice-2.ensures) at c.pieces_into.ensures in
    unfit_piled (names c.args.exceptions.now) one.pieces other.pieces one.rest.items
    other.rest.items c.args.self.now c.args.other.now c.self.invariant c.other.invariant
    c.self.view_is c.other.view_is many c.pieces_into.result pieces c.if-pieces_into.false
