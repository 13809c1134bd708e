use Rattle.std.proofs.Common.{List, ap, ◌∙◌}
use Rattle.par_stack.specs.Frames.{Frame, with_running, at_offset}
use Rattle.par_stack.proofs.Laid.{seen, laid}
use Rattle.par_stack.proofs.Changes.{offset_lie}
use Rattle.par_stack.proofs.stack.Stack.go_to.Goals as goal

pub invariant_of-self : goal.invariant_of-self
invariant_of-self c = laid _ _ _ _ _ (offset_lie _ _ _ c.self.invariant c.args.at)

pub returns : goal.returns
returns c =
    seen _ _ _ _ _ (offset_lie _ _ _ c.self.invariant c.args.at)
    ∙ ap (λ (frames : List Frame). with_running (at_offset c.args.at) frames) c.self.view_is
