use Rattle.std.proofs.Common.{◌≡◌, ◌<◌, true, subst, sym, ◌∙◌}
use Rattle.par_stack.specs.Frames.{running, is_awaited}
use Rattle.par_machine.specs.Frames.{are_sound, Stands}
use Rattle.par_machine.proofs.Sound.{left_stands, left_sound, passed_sound, left_room, pushed_sound}
use Rattle.par_machine.proofs.run.Running.leave_with.Goals as goal

pub pass-requires : goal.pass-requires
pass-requires c =
    subst (λ fs. Stands c.args.area.now.files (running fs)) (sym c.leave.ensures.left)
    (left_stands c.args.area.now.files c.args.self.now.stack c.requires.sound.frames
    (sym c.leave.ensures.told ∙ c.if-not-leave.false))

pub push-requires : goal.push-requires
push-requires c =
    let is : is_awaited c.args.self.now.stack ≡ true = sym c.leave.ensures.told
    ∙ c.if-not-leave.false in
    let some = left_room c.args.area.now.files c.args.self.now.stack c.requires.sound.frames is
    c.requires.given in
    subst (λ fs. 0 < (running fs).free) (sym c.pass.ensures.passed)
    (subst (λ fs. 0 < (running fs).free) (sym c.leave.ensures.left) some)

pub returns-clause-sound : goal.returns-clause-sound
returns-clause-sound c =
    let is : is_awaited c.args.self.now.stack ≡ true = sym c.leave.ensures.told
    ∙ c.if-not-leave.false in
    let left : are_sound c.args.area.now.files c.leave.new.self ≡ true =
    subst (λ fs. are_sound c.args.area.now.files fs ≡ true) (sym c.leave.ensures.left)
    (left_sound c.args.area.now.files c.args.self.now.stack c.requires.sound.frames is) in
    let some =
    subst (λ fs. 0 < (running fs).free) (sym c.pass.ensures.passed)
    (subst (λ fs. 0 < (running fs).free) (sym c.leave.ensures.left)
    (left_room c.args.area.now.files c.args.self.now.stack c.requires.sound.frames is
    c.requires.given)) in
    record {
      frames =
          subst (λ fs. are_sound c.args.area.now.files fs ≡ true) (sym c.push.ensures)
          (pushed_sound c.args.area.now.files c.pass.new.stack c.args.value
          (passed_sound c.args.area.now.files c.leave.new.self c.pass.new.stack _ left
          c.pass.ensures.passed c.pass.ensures.stands)
          c.pass.ensures.stands some);
      objects = c.requires.sound.objects;
      lines = c.requires.sound.lines;
    }
