use Rattle.std.proofs.Common.{◌≡◌, ◌<◌, true, false, ◌∷◌, subst, sym, ap, ◌∙◌, arith}
use Rattle.std.proofs.lemmas.Bool.{false≢true}
use Rattle.par_values.specs.declared.value.MVal.TheVariants.{Ref}
use Rattle.par_values.specs.Reasons.{is_of}
use Rattle.par_method_area.specs.par_step_laws.Classes.{exceptions}
use Rattle.par_method_area.specs.par_step_laws.Handlers.{caught}
use Rattle.par_stack.specs.Frames.{running}
use Rattle.par_unwinding.specs.Landing.{Lands}
use Rattle.par_machine.specs.Frames.{are_sound}
use Rattle.par_machine.specs.Objects.{count_classes}
use Rattle.par_machine.specs.Running.{here, below, state_in}
use Rattle.par_machine.specs.Site.{areas_at}
use Rattle.par_machine.specs.Throwing.{landing_reason}
use Rattle.par_machine.proofs.Knowing.{in_exceptions}
use Rattle.par_machine.proofs.Sound.{first_stands}
use Rattle.par_machine.proofs.Thrown.{frames_cons, landing_is, told_exception, exception_bad}
use Rattle.par_machine.proofs.Thrown.{other_bad, told_bad, roomy, landed_sound}
use Rattle.par_machine.proofs.run.Running.throw.Goals as goal

pub stuck-requires : goal.stuck-requires
stuck-requires c =
    let stands = first_stands c.args.area.now.files c.args.self.now.stack c.point-point.ensures.some
    c.requires.sound.frames in
    let same = c.point-point.ensures.is in
    subst (λ p. p.class < count_classes c.args.area.now.files) (sym same)
    (omega (arith, stands.class))

pub stuck-requires-in-Some-reason_against : goal.stuck-requires-in-Some-reason_against
stuck-requires-in-Some-reason_against c =
    let stands = first_stands c.args.area.now.files c.args.self.now.stack c.point-point.ensures.some
    c.requires.sound.frames in
    let same = c.point-point.ensures.is in
    subst (λ p. p.class < count_classes c.args.area.now.files) (sym same)
    (omega (arith, stands.class))

pub unreachable-requires-in_default-other : goal.unreachable-requires-in_default-other
unreachable-requires-in_default-other c =
    let files = c.args.area.now.files in
    let lies = told_exception files c.exceptions.result.now c.exceptions.ensures c.in-Ref.thrown
    c.in-Ref.field-1 false (sym c.if-not-is_exception.true ∙ c.is_exception.ensures) in
    false≢true (sym lies ∙ ap (is_of (exceptions files)) (sym c.in-Ref.is)
    ∙ c.requires.free c.in_default-other.is)

pub returns-then-not-is_exception-clause-turn : goal.returns-then-not-is_exception-clause-turn
returns-then-not-is_exception-clause-turn c =
    let files = c.args.area.now.files in
    let old = c.args.self.now in
    let lies = told_exception files c.exceptions.result.now c.exceptions.ensures c.in-Ref.thrown
    c.in-Ref.field-1 false (sym c.if-not-is_exception.true ∙ c.is_exception.ensures) in
    told_bad files c.stuck.result (running old.stack).point c.point-point.result c.in-Some.reason _
    (other_bad files (running old.stack).point c.args.exception c.args.other (here old ∷ below old)
    (areas_at files old) c.in-Some.reason c.in-Some.is
    (ap (is_of (exceptions files)) c.in-Ref.is ∙ lies))
    c.point-point.ensures.is c.stuck.ensures (state_in files old)

pub returns-in-Some-reason_against-clause-turn : goal.returns-in-Some-reason_against-clause-turn
returns-in-Some-reason_against-clause-turn c =
    let files = c.args.area.now.files in
    let old = c.args.self.now in
    let flies = told_exception files c.exceptions.result.now c.exceptions.ensures c.in-Ref.thrown
    c.in-Ref.field-1 true (sym c.if-not-is_exception.false ∙ c.is_exception.ensures) in
    let is =
    landing_is files c.linked.result.now c.in-Ref.thrown old.stack c.landing_of-landing.result
    c.linked.ensures c.landing_of-landing.ensures.taken c.landing_of-landing.ensures.uncaught in
    told_bad files c.stuck-in-Some-reason_against.result (running old.stack).point
    c.point-point.result c.in-Some-reason_against.reason _
    (exception_bad files (running old.stack).point c.args.exception c.args.other
    (here old ∷ below old) (areas_at files old) c.in-Ref.thrown c.in-Ref.field-1
    c.in-Some-reason_against.reason c.in-Ref.is
    (ap (is_of (exceptions files)) c.in-Ref.is ∙ flies)
    (ap (λ fs. landing_reason files (caught files c.in-Ref.thrown fs) c.args.other)
    (sym (frames_cons old.stack c.point-point.ensures.some))
    ∙ sym (c.reason_against.ensures c.in-Ref.thrown old.stack is) ∙ c.in-Some-reason_against.is))
    c.point-point.ensures.is c.stuck-in-Some-reason_against.ensures (state_in files old)

pub uncaught-requires : goal.uncaught-requires
uncaught-requires c =
    let files = c.args.area.now.files in
    let flies = told_exception files c.exceptions.result.now c.exceptions.ensures c.in-Ref.thrown
    c.in-Ref.field-1 true (sym c.if-not-is_exception.false ∙ c.is_exception.ensures) in
    let within = in_exceptions files 0 c.in-Ref.thrown flies in
    omega (arith, within)

pub land-requires-clause-roomy : goal.land-requires-clause-roomy
land-requires-clause-roomy c =
    let is =
    landing_is c.args.area.now.files c.linked.result.now c.in-Ref.thrown c.args.self.now.stack
    c.landing_of-landing.result c.linked.ensures
    c.landing_of-landing.ensures.taken c.landing_of-landing.ensures.uncaught in
    let lands = subst (λ fs. Lands fs c.in-Ref.thrown c.args.self.now.stack
    c.in-Some-landing.landing) c.linked.ensures c.in-Some-landing.ensures.taken in
    roomy c.args.area.now.files c.args.self.now.stack c.in-Ref.thrown c.args.other
    c.in-Some-landing.landing lands
    (sym (c.reason_against.ensures c.in-Ref.thrown c.args.self.now.stack is)
    ∙ c.in_default-reason_against.is) c.requires.sound.frames

pub returns-clause-sound : goal.returns-clause-sound
returns-clause-sound c =
    let is =
    landing_is c.args.area.now.files c.linked.result.now c.in-Ref.thrown c.args.self.now.stack
    c.landing_of-landing.result c.linked.ensures
    c.landing_of-landing.ensures.taken c.landing_of-landing.ensures.uncaught in
    let lands = subst (λ fs. Lands fs c.in-Ref.thrown c.args.self.now.stack
    c.in-Some-landing.landing) c.linked.ensures c.in-Some-landing.ensures.taken in
    record {
      frames =
          subst (λ fs. are_sound c.args.area.now.files fs ≡ true) (sym c.land.ensures)
          (landed_sound c.args.area.now.files c.args.self.now.stack c.in-Ref.thrown c.args.other
          c.in-Some-landing.landing lands
          (sym (c.reason_against.ensures c.in-Ref.thrown c.args.self.now.stack is)
          ∙ c.in_default-reason_against.is) c.requires.sound.frames
          (Ref c.in-Ref.thrown c.in-Ref.field-1));
      objects = c.requires.sound.objects;
      lines = c.requires.sound.lines;
    }
