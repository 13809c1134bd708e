use Rattle.std.proofs.Common.{List, ℕ, sym, subst, ◌∙◌}
use Rattle.par_given_frames.proofs.Meeting.{WalkIsMet, both-met, walk-unmet}
use Rattle.par_given_frames.proofs.needed.are_met.Goals as goal

pub returns-then-walk_is_met : goal.returns-then-walk_is_met
returns-then-walk_is_met c =
    let walk = rw c.as_slice.ensures at (c.walk_is_met.ensures.0 c.if-walk_is_met.true) in
    both-met c.args.flags.now c.args.code.now c.catches_are_met.result walk
    (rw c.as_slice-then-walk_is_met.ensures at c.catches_are_met.ensures)

pub returns-else-walk_is_met : goal.returns-else-walk_is_met
returns-else-walk_is_met c =
    rw c.if-walk_is_met.false
    (walk-unmet c.args.flags.now c.args.code.now
    (λ walk. absurd (cc (sym c.if-walk_is_met.false
    ∙ c.walk_is_met.ensures.1
    (subst (λ (code : List ℕ). WalkIsMet c.args.flags.now code) (sym c.as_slice.ensures) walk)))))
