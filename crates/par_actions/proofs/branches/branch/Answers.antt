use Rattle.std.proofs.Common.{◌≡◌, true, sym, ◌∙◌}
use Rattle.par_stack.specs.Frames.{running}
use Rattle.par_actions.proofs.Jumping.{jumps_5, goes_5, branch_jumps, branch_goes}
use Rattle.par_actions.proofs.branches.branch.Goals as goal
use Rattle.par_actions.proofs.branches.branch.Goals.{then-goes, else-goes}

pub returns-then-not-stands-clause-done : goal.returns-then-not-stands-clause-done
returns-then-not-stands-clause-done c = λ classes spot program o t is.
    elim c.if-goes.branch [
      | then-goes w ↦
          jumps_5 classes spot program (running c.args.stack.now) o c.args.many c.args.goes
          c.args.ways t c.requires is.room is.stands
          w.if-goes.true (sym w.stands-is ∙ c.if-not-stands.true)
      | else-goes w ↦
          goes_5 classes spot program (running c.args.stack.now) o c.args.many c.args.goes
          c.args.ways t c.requires is.room is.stands
          w.if-goes.false (sym w.stands-is ∙ c.if-not-stands.true)
    ]

pub returns-then-goes-2-clause-done : goal.returns-then-goes-2-clause-done
returns-then-goes-2-clause-done c = λ classes spot program o t is.
    let aside : c.args.ways.aside ≡ true =
    elim c.if-goes.branch [
      | then-goes w ↦ sym w.stands-is ∙ c.if-not-stands.false
      | else-goes w ↦ absurd (cc (w.if-goes.false, c.if-goes-2.true))
    ]
    in
    rw c.pop.ensures
    (branch_jumps classes spot program (running c.args.stack.now) o c.args.many c.args.goes
    c.args.ways t c.requires is.room is.stands
    c.if-goes-2.true aside)

pub returns-else-goes-2-clause-done : goal.returns-else-goes-2-clause-done
returns-else-goes-2-clause-done c = λ classes spot program o t is.
    let ahead : c.args.ways.ahead ≡ true =
    elim c.if-goes.branch [
      | then-goes w ↦ absurd (cc (w.if-goes.true, c.if-goes-2.false))
      | else-goes w ↦ sym w.stands-is ∙ c.if-not-stands.false
    ]
    in
    rw c.pop.ensures
    (branch_goes classes spot program (running c.args.stack.now) o c.args.many c.args.goes
    c.args.ways t c.requires is.room is.stands
    c.if-goes-2.false ahead)
