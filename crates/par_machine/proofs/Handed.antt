-- What is handed out of what an instruction came to.
use Rattle.std.proofs.Common.{◌≡◌, ℕ, suc, ◌<◌, ◌≤◌, pos, ◌+ℤ◌, true, false, List, ◌∷◌, length}
use Rattle.std.proofs.Common.{Option, Result, Ok, IsTrue, IsErrOf, codes, refl, sym, ap, subst, ◌∙◌}
use Rattle.std.proofs.Common.{◌⊎◌, inl, inr, arith}
use Rattle.std.proofs.lemmas.Bool.{false≢true}
use Rattle.par_class.specs.declared.file.ClassFile.{ClassFile}
use Rattle.par_heap.specs.Heap.{objects_of}
use Rattle.par_values.specs.declared.value.MVal.{MVal}
use Rattle.par_values.specs.declared.run.Event.{Event}
use Rattle.par_stack.specs.Frames as stack
use Rattle.par_stack.specs.Frames.{running, with_running, at_offset}
use Rattle.par_method_area.specs.par_step_laws.Classes.{exception_named}
use Rattle.par_method_area.specs.par_step_laws.Step as plain
use Rattle.par_method_area.specs.par_step_laws.Step.{offset}
use Rattle.par_method_area.specs.par_actions.declared.done.Done.{Done}
use Rattle.par_method_area.specs.par_actions.declared.done.Done.TheVariants as done
use Rattle.par_method_area.specs.par_actions.Done.{is_still}
use Rattle.par_method_area.specs.Area.{Area}
use Rattle.par_machine.specs.Frames.{code_of}
use Rattle.par_starts.specs.Standing.{reach_of}
use Rattle.par_machine.specs.Running.{here, below, state_in, IsSound}
use Rattle.par_machine.specs.Settled.{turn_from, is_told, Tells, IsSettled}
use Rattle.par_machine.specs.Site.{areas_at, is_call, IsCome, CameTo}
use Rattle.par_machine.specs.Throwing.{throw_of, throw_next_of}
use Rattle.par_machine.specs.Turn.{IsTurn, is_over, MakesOrTells}
use Rattle.par_machine.specs.declared.run.Running.{Running}
use Rattle.par_machine.specs.declared.site.Site.{Site}
use Rattle.par_machine.specs.declared.turn.Turn.{Turn}
use Rattle.par_machine.specs.declared.turn.Turn.TheVariants.{Silent, Happened}
use Rattle.par_machine.specs.declared.turn.Stuck.{Stuck}
use Rattle.par_machine.specs.declared.turn.Stuck.TheVariants.{Memory}
use Rattle.par_machine.proofs.Gone.{gone_sound, goes_turn, jumps_turn, tells_turn, turn_here}
use Rattle.par_machine.proofs.Gone.{done_here, next_thrown, object_thrown}

-- where nothing is called, the run stands at the site
pub stays_there : (d k : Done) (P : Type 0) → d ≡ k → is_call k ≡ false → IsTrue (is_call d) ⊎ P → P
stays_there d k P is never stays = elim stays
    [ inl h ↦ absurd (false≢true (sym never ∙ ap is_call (sym is) ∙ h)) | inr there ↦ there ]

-- one that makes an event calls nothing
pub told_no_call : (d : Done) → is_told d ≡ true → is_call d ≡ false
told_no_call done.Calls is = absurd (cc)
told_no_call _ is = refl

come_of : (files : List ClassFile) (before : Running) (s : Site) (d : Done) (old : Running)
    → is_told d ≡ true → CameTo files before s d old → IsCome files before s d old
come_of files before s done.Goes old is came = came
come_of files before s done.Jumps old is came = came
come_of files before s done.ThrowsArithmetic old is came = came
come_of files before s (done.ThrowsNull later) old is came = came
come_of files before s (done.Throws v later) old is came = came
come_of files before s (done.Sets v) old is came = came
come_of files before s (done.Puts n v) old is came = came
come_of files before s (done.Born n) old is came = came
come_of files before s (done.Outs n) old is came = came
come_of files before s done.Calls old is came = absurd (cc)
come_of files before s done.Returns old is came = came
come_of files before s (done.ReturnsWith v) old is came = came
come_of files before s (done.Bad n) old is came = came

module _ (area : Area) (s : Site) (old : Running) (sound : IsSound area old) where
  -- ---- it goes on in the frame that runs

  module _ (frames : List stack.Frame) (some : 0 < length old.stack)
      (point : (running old.stack).point ≡ s.point) where
    -- it goes on behind itself
    pub goes_settled : s.point.at ≤ s.next → s.next ≤ length (code_of area.files s.point).code
        → frames ≡ with_running (at_offset s.next) old.stack
        → IsSettled area s done.Goes old (Ok Silent) (record old { stack = frames })
    goes_settled forward within is = record {
      is = λ before come. goes_turn area.files before s old frames come forward is;
      memory = λ before come e. absurd (cc);
      over = λ h. absurd (cc);
      sound = gone_sound area old s.point frames s.next sound some point within is;
      grown = λ class. omega arith;
      unmade = λ h. refl;
    }

    -- it goes on at its distance
    pub jumps_settled : offset (pos s.point.at +ℤ reach_of s.instr) ≤ length
        (code_of area.files s.point).code
        → frames ≡ with_running (at_offset (offset (pos s.point.at +ℤ reach_of s.instr))) old.stack
        → IsSettled area s done.Jumps old (Ok Silent) (record old { stack = frames })
    jumps_settled within is = record {
      is = λ before come. jumps_turn area.files before s old frames come is;
      memory = λ before come e. absurd (cc);
      over = λ h. absurd (cc);
      sound = gone_sound area old s.point frames (offset (pos s.point.at +ℤ reach_of s.instr)) sound
          some point within is;
      grown = λ class. omega arith;
      unmade = λ h. refl;
    }

    -- it makes an event and goes on
    pub tells_settled : (d : Done) (e : Event) → is_told d ≡ true → Tells area.files s d e
        → s.point.at ≤ s.next
        → s.next ≤ length (code_of area.files s.point).code
        → frames ≡ with_running (at_offset s.next) old.stack
        → IsSettled area s d old (Ok (Happened e)) (record old { stack = frames })
    tells_settled d e told tells forward within is = record {
      is = λ before came.
          let come = come_of area.files before s d old told came in
          tells_turn area.files before s old d e frames come (tells before old come) forward is;
      memory = λ before come e. absurd (cc);
      over = λ h. absurd (cc);
      sound = gone_sound area old s.point frames s.next sound some point within is;
      grown = λ class. omega arith;
      unmade = λ h. refl;
    }

  -- ---- it leaves the frame that runs, or the program

  module _ (d : Done) (still : is_still d ≡ true) (turn : plain.Turn)
      (came : (before : Running) → CameTo area.files before s d old
      → (turn_from area.files before s ≡ turn) × (state_in area.files old ≡ state_in area.files
      before)) where
    -- whatever turn it comes to
    pub still_settled : (result : Result Turn Stuck) (new : Running)
        → IsTurn result turn (state_in area.files new)
        → (IsErrOf result Memory → MakesOrTells turn (state_in area.files old))
        → (IsTrue (is_over result) → new ≡ old) → IsSound area new
        → ((class : ℕ) → length (objects_of new.heap class) ≤ suc
        (length (objects_of old.heap class))) → IsSettled area s d old result new
    still_settled result new is memory over new_sound grown = record {
      is = λ before h. subst (λ t. IsTurn result t (state_in area.files new))
          (sym (came before h).0) is;
      memory = λ before h e.
          subst (λ st. MakesOrTells (turn_from area.files before s) st) (came before h).1
          (subst (λ t. MakesOrTells t (state_in area.files old)) (sym (came before h).0)
          (memory e));
      over = λ h. (over h, still);
      sound = new_sound;
      grown = grown;
      unmade = λ h. absurd (cc);
    }

  -- an equal heap has grown by nothing
  pub heap_grown : (new : Running) → new.heap ≡ old.heap → (class : ℕ)
      → length (objects_of new.heap class) ≤ suc (length (objects_of old.heap class))
  heap_grown new same class = let h = ap (λ held. length (objects_of held class)) same in omega
      (arith, h)

  -- ---- it throws

  module _ (later : Option ℕ) (result : Result Turn Stuck) (new : Running) where
    abbrev next_turn : ℕ → plain.Turn
    next_turn class = throw_next_of area.files (running old.stack).point later class
        (here old ∷ below old) (areas_at area.files old)

    abbrev Settles : plain.Turn → Done → Type 0
    Settles turn d =
        IsTurn result turn (state_in area.files new)
        → (IsErrOf result Memory → MakesOrTells turn (state_in area.files old))
        → (IsTrue (is_over result) → new ≡ old) → IsSound area new
        → ((class : ℕ) → length (objects_of new.heap class) ≤ suc
        (length (objects_of old.heap class))) → IsSettled area s d old result new

    -- an exception of a null pointer
    pub null_settled : (class : ℕ) → exception_named area.files
        (codes "NullPointerException") ≡ class → Settles (next_turn class) (done.ThrowsNull later)
    null_settled class named is memory over new_sound grown =
        still_settled (done.ThrowsNull later) refl (next_turn class)
        (λ before come.
        let h = done_here area.files before s old (done.ThrowsNull later) come
        (come.still refl) in (
          turn_here area.files before s old (come.still refl)
              ∙ next_thrown area.files old s later (codes "NullPointerException") class h.0 h.1
              named,
          come.still refl,
        )) result new is memory over new_sound grown

    -- an object
    pub object_settled : (v : MVal)
        → Settles (throw_of area.files (running old.stack).point later v (here old ∷ below old)
        (areas_at area.files old)) (done.Throws v later)
    object_settled v is memory over new_sound grown =
        still_settled (done.Throws v later) refl (throw_of area.files (running old.stack).point
        later v (here old ∷ below old) (areas_at area.files old))
        (λ before come.
        let h = done_here area.files before s old (done.Throws v later) come
        (come.still refl) in (
          turn_here area.files before s old (come.still refl)
              ∙ object_thrown area.files old s later v h.0 h.1,
          come.still refl,
        )) result new is memory over new_sound grown
