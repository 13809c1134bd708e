use Rattle.std.proofs.Common.{◌≡◌, ◌<◌, true, [], refl, subst, sym, ◌∙◌, arith}
use Rattle.par_values.specs.declared.value.MVal.TheVariants.{Ref}
use Rattle.par_stack.specs.Frames.{running}
use Rattle.par_unwinding.specs.Landing.{Lands}
use Rattle.par_machine.specs.Frames.{are_sound}
use Rattle.par_machine.specs.Objects.{count_classes, AreObjects}
use Rattle.par_machine.specs.Running.{state_in}
use Rattle.par_machine.specs.Site.{areas_at}
use Rattle.par_machine.specs.Turn.{MakesOrTells}
use Rattle.par_machine.proofs.Born.{born_stay, born_other}
use Rattle.par_machine.proofs.Held.{length-objects_in}
use Rattle.par_machine.proofs.Sound.{first_stands}
use Rattle.par_machine.proofs.Thrown.{landing_is, roomy, landed_sound, next_turn, next_state}
use Rattle.par_machine.proofs.run.Running.throw_next.Goals as goal

pub stuck-requires : goal.stuck-requires
stuck-requires c =
    let stands = first_stands c.args.area.now.files c.args.self.now.stack c.point-point.ensures.some
    c.requires.sound.frames in
    let same = c.point-point.ensures.is in
    subst (λ p. p.class < count_classes c.args.area.now.files) (sym same)
    (omega (arith, stands.class))

pub land-requires-clause-roomy : goal.land-requires-clause-roomy
land-requires-clause-roomy c =
    let is =
    landing_is c.args.area.now.files c.linked.result.now c.args.thrown c.args.self.now.stack
    c.landing_of-landing.result c.linked.ensures
    c.landing_of-landing.ensures.taken c.landing_of-landing.ensures.uncaught in
    let lands = subst (λ fs. Lands fs c.args.thrown c.args.self.now.stack c.in-Some-landing.landing)
    c.linked.ensures c.in-Some-landing.ensures.taken in
    roomy c.args.area.now.files c.args.self.now.stack c.args.thrown c.args.other
    c.in-Some-landing.landing lands
    (sym (c.reason_against.ensures c.args.thrown c.args.self.now.stack is) ∙ c.in_default.is)
    c.requires.sound.frames

pub returns-in_err-n-clause-memory : goal.returns-in_err-n-clause-memory
returns-in_err-n-clause-memory c = λ e.
    let files = c.args.area.now.files in
    let is =
    landing_is files c.linked.result.now c.args.thrown c.args.self.now.stack
    c.landing_of-landing.result c.linked.ensures
    c.landing_of-landing.ensures.taken c.landing_of-landing.ensures.uncaught in
    let lands = subst (λ fs. Lands fs c.args.thrown c.args.self.now.stack c.in-Some-landing.landing)
    c.linked.ensures c.in-Some-landing.ensures.taken in
    let free = sym (c.reason_against.ensures c.args.thrown c.args.self.now.stack is)
    ∙ c.in_default.is in
    subst (λ t. MakesOrTells t (state_in files c.args.self.now))
    (sym (next_turn files c.args.self.now c.args.thrown c.args.other c.in-Some-landing.landing lands
    free c.point-point.ensures.some (running c.args.self.now.stack).point))
    (λ same. born_other c.args.thrown [] (areas_at files c.args.self.now)
    (omega (arith, length-objects_in (count_classes files) c.args.self.now.heap, c.requires.class))
    same)

pub returns-clause-turn : goal.returns-clause-turn
returns-clause-turn c =
    let files = c.args.area.now.files in
    let is =
    landing_is files c.linked.result.now c.args.thrown c.args.self.now.stack
    c.landing_of-landing.result c.linked.ensures
    c.landing_of-landing.ensures.taken c.landing_of-landing.ensures.uncaught in
    let lands = subst (λ fs. Lands fs c.args.thrown c.args.self.now.stack c.in-Some-landing.landing)
    c.linked.ensures c.in-Some-landing.ensures.taken in
    let free = sym (c.reason_against.ensures c.args.thrown c.args.self.now.stack is)
    ∙ c.in_default.is in
    next_turn files c.args.self.now c.args.thrown c.args.other c.in-Some-landing.landing lands free
    c.point-point.ensures.some (running c.args.self.now.stack).point
    ∙ next_state files c.args.self.now c.args.thrown c.in-Some-landing.landing c.in_ok-n.n
    c.land.new.stack c.birth.new.self c.requires.sound.objects c.requires.class
    c.in_ok-n.ensures.number c.in_ok-n.ensures.born c.land.ensures

pub returns-clause-sound : goal.returns-clause-sound
returns-clause-sound c =
    let files = c.args.area.now.files in
    let is =
    landing_is files c.linked.result.now c.args.thrown c.args.self.now.stack
    c.landing_of-landing.result c.linked.ensures
    c.landing_of-landing.ensures.taken c.landing_of-landing.ensures.uncaught in
    let lands = subst (λ fs. Lands fs c.args.thrown c.args.self.now.stack c.in-Some-landing.landing)
    c.linked.ensures c.in-Some-landing.ensures.taken in
    record {
      frames =
          subst (λ fs. are_sound files fs ≡ true) (sym c.land.ensures)
          (landed_sound files c.args.self.now.stack c.args.thrown c.args.other
          c.in-Some-landing.landing lands
          (sym (c.reason_against.ensures c.args.thrown c.args.self.now.stack is) ∙ c.in_default.is)
          c.requires.sound.frames (Ref c.args.thrown c.in_ok-n.n));
      objects =
          subst (AreObjects files) (sym c.in_ok-n.ensures.born)
          (born_stay files c.args.self.now.heap (areas_at files c.args.self.now)
          c.requires.sound.objects refl c.args.thrown [] c.requires.class (sym c.requires.bare));
      lines = c.requires.sound.lines;
    }
