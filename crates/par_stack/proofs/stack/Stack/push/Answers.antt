use Rattle.std.proofs.Common.{◌<◌, List, ap, ◌∙◌, sym, subst, arith}
use Rattle.par_stack.specs.Frames.{Frame, running, with_running, pushed}
use Rattle.par_stack.proofs.Laid.{counted, seen, laid}
use Rattle.par_stack.proofs.Changes.{pushed_lie}
use Rattle.par_stack.proofs.stack.Stack.push.Goals as goal

pub index_mut-requires : goal.index_mut-requires
index_mut-requires c =
    let k = counted _ _ _ _ c.self.invariant c.self.view_is in
    omega (arith, k.many, k.free, c.requires)

pub invariant_of-self : goal.invariant_of-self
invariant_of-self c =
    let some =
    subst (λ (frames : List Frame). 0 < (running frames).free) (sym c.self.view_is) c.requires in
    laid _ _ _ _ _ (pushed_lie _ _ _ c.self.invariant c.args.value some)

pub returns : goal.returns
returns c =
    let some =
    subst (λ (frames : List Frame). 0 < (running frames).free) (sym c.self.view_is) c.requires in
    seen _ _ _ _ _ (pushed_lie _ _ _ c.self.invariant c.args.value some)
    ∙ ap (λ (frames : List Frame). with_running (pushed c.args.value) frames) c.self.view_is
