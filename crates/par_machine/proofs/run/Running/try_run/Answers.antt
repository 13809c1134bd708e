use Rattle.std.proofs.Common.{◌≡◌, pos, ◌+ℤ◌, ap, ◌∙◌, rules, to_z, of_z, w16, arith}
use Rattle.par_stack.specs.Frames.{with_running, at_offset}
use Rattle.par_method_area.specs.par_step_laws.Step.{offset}
use Rattle.par_starts.specs.Standing.{reach_of}
use Rattle.par_machine.proofs.QuietSteps.{tried_not, tried_goes, tried_jumps}
use Rattle.par_machine.proofs.run.Running.try_run.Goals as goal

pub returns-in-Goes : goal.returns-in-Goes
returns-in-Goes c =
    let forward = c.requires.there.forward in
    tried_goes c.args.area.now c.args.self.now c.args.site c.try_perform.new.self c.in-Some.done
    c.in-Some.ensures.0 c.in-Goes.is c.point.ensures.some (omega (arith, forward))
    c.requires.within c.go_to.new.self c.go_to.ensures

pub returns-in-Jumps : goal.returns-in-Jumps
returns-in-Jumps c =
    let whole : to_z w16 (of_z w16 c.distance.result) ≡ c.distance.result = search rules in
    let same : c.target.result ≡ offset (pos c.args.site.point.at +ℤ reach_of c.args.site.instr) =
    c.target.ensures ∙ ap (λ z. offset (pos c.args.site.point.at +ℤ z))
    (whole ∙ c.distance.ensures) in
    tried_jumps c.args.area.now c.args.self.now c.args.site c.try_perform.new.self c.in-Some.done
    c.in-Some.ensures.0 c.in-Jumps.is c.point.ensures.some c.go_to-in-Jumps.new.self
    (c.go_to-in-Jumps.ensures
    ∙ ap (λ n. with_running (at_offset n) c.try_perform.new.self.stack) same)

pub returns-in_default-done : goal.returns-in_default-done
returns-in_default-done c =
    tried_not c.args.area.now c.args.self.now c.args.site c.try_perform.new.self c.in-Some.done
    c.in-Some.ensures.0 c.in-Some.ensures.1 c.in_default-done.not-Goes c.in_default-done.not-Jumps
