-- What an instruction came to, from what its action tells.
use Rattle.std.proofs.Common.{◌≡◌, ℕ, ◌+◌, ◌-◌, pos, ◌+ℤ◌, Bool, false, List, ◌∷◌, Option, IsTrue}
use Rattle.std.proofs.Common.{refl, sym, ap, subst, ◌∙◌, arith}
use Rattle.par_class.specs.declared.file.ClassFile.{ClassFile}
use Rattle.par_values.specs.declared.value.MVal.{MVal}
use Rattle.par_values.specs.Areas.{Areas, Objects, InputLists}
use Rattle.par_values.specs.Effects.{Effect, effect}
use Rattle.par_values.specs.Reasons.{reason}
use Rattle.par_single.specs.Walk.{starts_at, stands_at}
use Rattle.par_method_area.specs.par_step_laws.Classes.{class_names}
use Rattle.par_method_area.specs.par_step_laws.Links.{link_at}
use Rattle.par_method_area.specs.par_step_laws.State.{State, whole_inputs}
use Rattle.par_method_area.specs.par_step_laws.Step.{is_misreceived, called_on_object, or_2, moved}
use Rattle.par_method_area.specs.par_step_laws.Step.{state_with}
use Rattle.par_stack.specs.declared.point.Point.{Point}
use Rattle.par_stack.specs.Frames as stack
use Rattle.par_stack.specs.Frames.{running, waiting}
use Rattle.par_unwinding.specs.Shown.{frame_of, frames_of}
use Rattle.par_method_area.specs.par_actions.declared.done.Done.{Done}
use Rattle.par_method_area.specs.par_actions.declared.done.Ways.{Ways}
use Rattle.par_method_area.specs.par_actions.Done.{IsAt, IsAtFork, areas_in, distance, Comes}
use Rattle.par_method_area.specs.par_actions.Done.{IsDone, Keeps}
use Rattle.par_method_area.specs.par_actions.Done.{is_still}
use Rattle.par_machine.specs.Frames.{code_of}
use Rattle.par_machine.specs.Instructions.{is_branch}
use Rattle.par_machine.specs.Objects.{count_classes, objects_in}
use Rattle.par_machine.specs.Running.{here, below, state_in}
use Rattle.par_machine.specs.Site.{areas_at, operation_at, does, spot_of, against, IsThere, IsCome}
use Rattle.par_machine.specs.declared.run.Running.{Running}
use Rattle.par_machine.specs.declared.site.Site.{Site}
use Rattle.par_machine.proofs.Standing.{may_put, is_plain, not_put, no_lock, way_stands}
use Rattle.par_machine.proofs.Standing.{ahead_stands}
use Rattle.par_machine.proofs.Effected.{effect_of}

module _ (files : List ClassFile) (old : Running) (s : Site) where
  abbrev plain_effect : Effect
  plain_effect = effect (class_names files) (operation_at files old s) (areas_at files old)

  abbrev plain_reason : Option ℕ
  plain_reason = reason (class_names files) (spot_of files old s) (operation_at files old s)
      (areas_at files old)

  module _ (ahead : Bool) (there : IsThere files old s ahead) where
    behind : starts_at (code_of files (running old.stack).point).code
        ((running old.stack).point.at + (s.next - s.point.at)) ≡ ahead
    behind =
        let at : (running old.stack).point.at + (s.next - s.point.at) ≡ s.next =
        omega (arith, ap (λ (p : Point). p.at) there.point, there.forward) in
        ap (λ (at : ℕ). starts_at (code_of files (running old.stack).point).code at) at
        ∙ ap (λ (p : Point). starts_at (code_of files p).code s.next) there.point ∙ there.is_ahead

    -- an instruction that is no branch has the room and the way that an action asks for
    pub is_at : is_branch s.instr ≡ false → IsAt (spot_of files old s) ahead old.stack
    is_at plain = record {
      room = sym there.stands.room;
      stands =
          ahead_stands (code_of files (running old.stack).point).code (running old.stack).point.at
          (s.next - s.point.at) ahead
          (operation_at files old s) plain_effect
          (effect_of (class_names files) (operation_at files old s) (areas_at files old))
          (is_plain (link_at files (here old).class) s.instr plain).fork behind;
    }

    -- and a branch has both of its ways
    pub is_at_fork : (ways : Ways) → ways.ahead ≡ ahead
        → stands_at (code_of files (running old.stack).point).code
        (pos (running old.stack).point.at +ℤ distance (operation_at files old s)) ≡ ways.aside
        → IsAtFork (spot_of files old s) ways (class_names files) (operation_at files old s)
        (areas_at files old) old.stack
    is_at_fork ways same aside = record {
      room = sym there.stands.room;
      stands =
          way_stands (code_of files (running old.stack).point).code (running old.stack).point.at
          (s.next - s.point.at) ways
          (operation_at files old s) plain_effect
          (effect_of (class_names files) (operation_at files old s) (areas_at files old))
          (behind ∙ sym same) aside;
    }

  -- the state of a run by its parts
  abbrev state_by : stack.Frame → Point → List stack.Frame → List MVal → Objects → InputLists
      → State
  state_by g point frames statics objects inputs = record {
    frames = frame_of (record g { point = point }) ∷ frames_of frames;
    statics = statics;
    objects = objects;
    inputs = inputs;
  }

  -- the state after an action
  pub state_is : (new : Running) (program : Areas) → Keeps old.stack new.stack
      → new.statics ≡ program.statics → objects_in (count_classes files) new.heap ≡ program.objects
      → whole_inputs new.lines ≡ program.inputs
      → state_in files new ≡ state_with (moved (here old).at (areas_in program (running new.stack))
      (here old) ∷ below old) (areas_in program (running new.stack))
  state_is new program kept statics objects inputs =
      let g : stack.Frame = running new.stack in
      ap (λ p. state_by g p (waiting new.stack) new.statics
      (objects_in (count_classes files) new.heap) (whole_inputs new.lines)) kept.point
      ∙ ap (λ fs. state_by g (running old.stack).point fs new.statics
      (objects_in (count_classes files) new.heap) (whole_inputs new.lines)) kept.waiting
      ∙ ap (λ vs. state_by g (running old.stack).point (waiting old.stack) vs
      (objects_in (count_classes files) new.heap) (whole_inputs new.lines)) statics
      ∙ ap (λ os. state_by g (running old.stack).point (waiting old.stack) program.statics os
      (whole_inputs new.lines)) objects
      ∙ ap (λ is. state_by g (running old.stack).point (waiting old.stack) program.statics
      program.objects is) inputs

  -- an instruction that neither writes a static field nor calls on an object
  pub plainly : (done : Done) (after : Areas) → may_put s.instr ≡ false
      → is_misreceived files (here old).class (called_on_object s.instr)
      (areas_at files old) ≡ false
      → IsDone done (class_names files) (operation_at files old s) (spot_of files old s)
      plain_reason plain_effect after
      → IsDone done (class_names files) (operation_at files old s) (spot_of files old s)
      (against files old s) (does files old s) after
  plainly done after plain received is =
      let same : does files old s ≡ plain_effect =
      no_lock (operation_at files old s) plain_effect
      (not_put (link_at files (here old).class) s.instr plain)
      (effect_of (class_names files) (operation_at files old s) (areas_at files old)) in
      let r : against files old s ≡ plain_reason = ap (λ b. or_2 b plain_reason) received in
      subst (λ e. IsDone done (class_names files) (operation_at files old s) (spot_of files old s)
      (against files old s) e after) (sym same)
      (subst (λ n. IsDone done (class_names files) (operation_at files old s) (spot_of files old s)
      n plain_effect after) (sym r) is)

  -- one that changes only the frame that runs
  pub came : (done : Done) (frames : List stack.Frame) → (running old.stack).point ≡ s.point
      → may_put s.instr ≡ false
      → is_misreceived files (here old).class (called_on_object s.instr)
      (areas_at files old) ≡ false
      → Comes done (class_names files) (spot_of files old s) (operation_at files old s)
      (areas_at files old) old.stack frames
      → Keeps old.stack frames → (IsTrue (is_still done) → frames ≡ old.stack)
      → IsCome files old s done (record old { stack = frames })
  came done frames point plain received comes kept still = record {
    after = areas_in (areas_at files old) (running frames);
    point = point;
    state = state_is (record old { stack = frames }) (areas_at files old) kept refl refl refl;
    is = plainly done (areas_in (areas_at files old) (running frames)) plain received comes;
    still = λ is. ap (λ fs. state_in files (record old { stack = fs })) (still is);
  }
