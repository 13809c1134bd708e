use Rattle.std.proofs.Common.{refl, ◌∙◌, arith}
use Rattle.par_machine.specs.Running.{state_in}
use Rattle.par_machine.proofs.QuietSteps.{one_more}
use Rattle.par_machine.proofs.run.Running.go_on.Goals as goal

pub loop-done-preserved : goal.loop-done-preserved
loop-done-preserved c =
    let files = c.args.area.now.files in
    let went = rw c.if-not-try_advance.false at c.try_advance.ensures in (
      one_more files c.loop-done.done (state_in files c.args.self.now)
          (state_in files c.loop-done.self) (state_in files c.try_advance.new.self)
          c.loop-done.invariant.0 went.is,
      went.sound,
      λ class.
          let more = went.grown class in
          let so_far = c.loop-done.invariant.2 class in
          omega (arith, more, so_far),
      let more = went.method refl in
          let so_far = c.loop-done.invariant.3 in
          (more.0 ∙ so_far.0, more.1 ∙ so_far.1),
    )
