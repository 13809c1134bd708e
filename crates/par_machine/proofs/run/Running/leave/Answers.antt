use Rattle.std.proofs.Common.{◌≡◌, true, subst, sym, ◌∙◌}
use Rattle.par_stack.specs.Frames.{running, is_awaited}
use Rattle.par_machine.specs.Frames.{are_sound, Stands}
use Rattle.par_machine.proofs.Sound.{left_stands, left_sound, passed_sound}
use Rattle.par_machine.proofs.run.Running.leave.Goals as goal

pub pass-requires : goal.pass-requires
pass-requires c =
    subst (λ fs. Stands c.args.area.now.files (running fs)) (sym c.leave.ensures.left)
    (left_stands c.args.area.now.files c.args.self.now.stack c.requires.frames
    (sym c.leave.ensures.told ∙ c.if-not-leave.false))

pub returns-clause-sound : goal.returns-clause-sound
returns-clause-sound c =
    let is : is_awaited c.args.self.now.stack ≡ true = sym c.leave.ensures.told
    ∙ c.if-not-leave.false in
    let left : are_sound c.args.area.now.files c.leave.new.self ≡ true =
    subst (λ fs. are_sound c.args.area.now.files fs ≡ true) (sym c.leave.ensures.left)
    (left_sound c.args.area.now.files c.args.self.now.stack c.requires.frames is) in
    record {
      frames = passed_sound c.args.area.now.files c.leave.new.self c.pass.new.stack _ left
          c.pass.ensures.passed c.pass.ensures.stands;
      objects = c.requires.objects;
      lines = c.requires.lines;
    }
