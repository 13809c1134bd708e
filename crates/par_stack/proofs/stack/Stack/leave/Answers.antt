use Rattle.std.proofs.Common.{List, ap, ◌∙◌, sym, subst}
use Rattle.par_stack.specs.declared.point.Extent.{Extent}
use Rattle.par_stack.specs.Frames.{Frame, without_running}
use Rattle.par_stack.specs.Layout.{frames_at, IsLaid}
use Rattle.par_stack.proofs.Laid.{seen, laid}
use Rattle.par_stack.proofs.Changes.{left_lie, apart}
use Rattle.par_stack.proofs.stack.Stack.leave.Goals as goal

pub invariant_of-self : goal.invariant_of-self
invariant_of-self c =
    let two = apart _ _ _ c.in-Some.ensures.items in
    let is =
    subst (λ (es : List Extent). IsLaid c.self.inside.places.items c.self.inside.running es) two
    c.self.invariant in
    laid _ _ _ _ _ (left_lie _ _ _ _ _ is c.truncate.ensures.items)

pub returns-in-Some-clause-left : goal.returns-in-Some-clause-left
returns-in-Some-clause-left c =
    let two = apart _ _ _ c.in-Some.ensures.items in
    let is =
    subst (λ (es : List Extent). IsLaid c.self.inside.places.items c.self.inside.running es) two
    c.self.invariant in
    seen _ _ _ _ _ (left_lie _ _ _ _ _ is c.truncate.ensures.items)
    ∙ ap (λ (es : List Extent). without_running
    (frames_at c.self.inside.places.items c.self.inside.running es)) (sym two)
    ∙ ap (λ (frames : List Frame). without_running frames) c.self.view_is
