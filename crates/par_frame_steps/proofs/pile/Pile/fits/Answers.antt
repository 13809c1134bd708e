use Rattle.std.proofs.Common.{◌≡◌, ◌&&◌, ◌∙◌, Bool, length, ap, sym}
use Rattle.par_frame_steps.specs.Marks.{names}
use Rattle.par_frame_steps.proofs.Piled.{unlike, into_piled, unfit_piled}
use Rattle.par_frame_steps.proofs.pile.Pile.fits.Goals as goal
use Rattle.par_frame_steps.proofs.pile.Pile.fits.Goals.{then-fit, else-fit}

pub returns-then-len : goal.returns-then-len
returns-then-len c =
    let one = c.self.inside in
    let other = c.other.inside in
    unlike (names c.args.exceptions.now) one.pieces other.pieces one.rest.items
    other.rest.items c.args.self.now c.args.other.now c.self.invariant c.other.invariant
    c.self.view_is c.other.view_is
    (λ same. c.if-len.true (c.len.ensures ∙ same ∙ sym c.len-2.ensures))

pub returns : goal.returns
returns c =
    let one = c.self.inside in
    let other = c.other.inside in
    let many : length one.pieces ≡ length other.pieces =
    sym c.len.ensures ∙ c.if-len.false ∙ c.len-2.ensures in
    elim c.if-fit.branch [
      | then-fit w ↦
          let rest =
          rw (w.deref.ensures.value, w.deref-then-fit.ensures.value) at w.all_into.ensures in
          w.result-is
          ∙ sym (ap (λ (b : Bool). b && w.all_into.result) w.if-fit.true)
          ∙ into_piled (names c.args.exceptions.now) one.pieces other.pieces one.rest.items
          other.rest.items c.args.self.now c.args.other.now c.self.invariant c.other.invariant
          c.self.view_is c.other.view_is many c.in_ok-fit.fit w.all_into.result
          c.in_ok-fit.ensures rest
      | else-fit w ↦
          w.result-is
          ∙ unfit_piled (names c.args.exceptions.now) one.pieces other.pieces one.rest.items
          other.rest.items c.args.self.now c.args.other.now c.self.invariant c.other.invariant
          c.self.view_is c.other.view_is many c.in_ok-fit.fit c.in_ok-fit.ensures w.if-fit.false
    ]
