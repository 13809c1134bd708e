use Rattle.std.proofs.Common.{◌<◌, List, length, ap, ◌∙◌, sym, subst}
use Rattle.par_stack.specs.Frames.{Frame, running, with_running, with_local}
use Rattle.par_stack.proofs.Laid.{seen, laid}
use Rattle.par_stack.proofs.Changes.{local_lie}
use Rattle.par_stack.proofs.stack.Stack.set_local.Goals as goal

pub invariant_of-self : goal.invariant_of-self
invariant_of-self c =
    let there =
    subst (λ (frames : List Frame). c.args.place < length (running frames).locals)
    (sym c.self.view_is) c.requires in
    laid _ _ _ _ _ (local_lie _ _ _ c.self.invariant c.args.place c.args.value there)

pub returns : goal.returns
returns c =
    let there =
    subst (λ (frames : List Frame). c.args.place < length (running frames).locals)
    (sym c.self.view_is) c.requires in
    seen _ _ _ _ _ (local_lie _ _ _ c.self.invariant c.args.place c.args.value there)
    ∙ ap (λ (frames : List Frame). with_running (with_local c.args.place c.args.value) frames)
    c.self.view_is
