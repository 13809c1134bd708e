use Rattle.std.proofs.Common.{◌≤◌, List, length, ap, ◌∙◌, sym, subst, arith}
use Rattle.par_stack.specs.Frames.{Frame, running, with_running, popped}
use Rattle.par_stack.proofs.Laid.{counted, seen, laid}
use Rattle.par_stack.proofs.Changes.{popped_lie}
use Rattle.par_stack.proofs.stack.Stack.pop.Goals as goal

pub overflow_sub-top : goal.overflow_sub-top
overflow_sub-top c =
    let k = counted _ _ _ _ c.self.invariant c.self.view_is in
    omega (arith, k.count, c.requires)

pub empty-requires : goal.empty-requires
empty-requires c =
    let k = counted _ _ _ _ c.self.invariant c.self.view_is in
    record { ordered = omega arith; within = omega (arith, k.many, k.free) }

pub invariant_of-self : goal.invariant_of-self
invariant_of-self c =
    let there =
    subst (λ (frames : List Frame). c.args.many ≤ length (running frames).operands)
    (sym c.self.view_is) c.requires in
    laid _ _ _ _ _ (popped_lie _ _ _ c.self.invariant c.args.many _ c.empty.ensures there)

pub returns : goal.returns
returns c =
    let there =
    subst (λ (frames : List Frame). c.args.many ≤ length (running frames).operands)
    (sym c.self.view_is) c.requires in
    seen _ _ _ _ _ (popped_lie _ _ _ c.self.invariant c.args.many _ c.empty.ensures there)
    ∙ ap (λ (frames : List Frame). with_running (popped c.args.many) frames) c.self.view_is
