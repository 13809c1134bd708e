-- What an instruction comes to, from what it came to where it stands.
use Rattle.std.proofs.Common.{◌≡◌, ℕ, ◌+◌, ◌<◌, ◌≤◌, pos, ◌+ℤ◌, List, [], ◌∷◌, length, Option, Some}
use Rattle.std.proofs.Common.{None, codes, refl, sym, ap, subst, ◌∙◌, arith}
use Rattle.par_class.specs.declared.file.ClassFile.{ClassFile}
use Rattle.par_values.specs.declared.value.MVal.{MVal}
use Rattle.par_values.specs.declared.run.Event.{Event}
use Rattle.par_values.specs.Areas.{Name, Areas}
use Rattle.par_values.specs.Effects.{Effect, Goes, Happens, Jumps, Throws, ThrowsObject}
use Rattle.par_values.specs.Operations.{operation}
use Rattle.par_stack.specs.declared.point.Point.{Point}
use Rattle.par_stack.specs.Frames as stack
use Rattle.par_stack.specs.Frames.{running, with_running, at_offset}
use Rattle.par_method_area.specs.par_step_laws.Classes.{class_names, exception_named}
use Rattle.par_method_area.specs.par_step_laws.Links.{link_at}
use Rattle.par_method_area.specs.par_step_laws.State.{Frame, State}
use Rattle.par_method_area.specs.par_step_laws.Step.{Turn, Silent, Shows, turn_at, areas_of}
use Rattle.par_method_area.specs.par_step_laws.Step.{done_by}
use Rattle.par_method_area.specs.par_step_laws.Step.{spot}
use Rattle.par_method_area.specs.par_step_laws.Step.{reason_against, decided, applied, moved}
use Rattle.par_method_area.specs.par_step_laws.Step.{state_with, offset}
use Rattle.par_method_area.specs.par_step_laws.Step.{handlers, thrown_class}
use Rattle.par_method_area.specs.par_actions.declared.done.Done.{Done}
use Rattle.par_method_area.specs.par_actions.declared.done.Done.TheVariants as done
use Rattle.par_method_area.specs.par_actions.Done.{IsDone, thrown_reason, distance}
use Rattle.par_method_area.specs.Area.{Area}
use Rattle.par_machine.specs.Frames.{code_of, Stands}
use Rattle.par_starts.specs.Standing.{reach_of}
use Rattle.par_machine.specs.Running.{here, below, state_in, IsSound}
use Rattle.par_machine.specs.Settled.{turn_from, gone_to}
use Rattle.par_machine.specs.Site.{areas_at, operation_at, does, spot_of, against, decoded, IsCome}
use Rattle.par_machine.specs.Throwing.{landing_reason, unless, throw_of, throw_next_of}
use Rattle.par_machine.specs.declared.run.Running.{Running}
use Rattle.par_machine.specs.declared.site.Site.{Site}
use Rattle.par_machine.proofs.Sound.{first_stands, passed_sound}
use Rattle.par_machine.proofs.Standing.{distance_is}
use Rattle.par_machine.proofs.Turning.{turn_runs}

-- ---- the run goes on at another offset

-- a run whose frame goes on shows the state that goes on
pub gone : (files : List ClassFile) (r : Running) (frames : List stack.Frame) (at : ℕ)
    → frames ≡ with_running (at_offset at) r.stack
    → state_in files (record r { stack = frames }) ≡ gone_to at (state_in files r)
gone files r frames at is = ap (λ fs. state_in files (record r { stack = fs })) is

-- it stays sound within its code
pub gone_sound : (area : Area) (old : Running) (p : Point) (frames : List stack.Frame) (at : ℕ)
    → IsSound area old → 0 < length old.stack
    → (running old.stack).point ≡ p → at ≤ length (code_of area.files p).code
    → frames ≡ with_running (at_offset at) old.stack
    → IsSound area (record old { stack = frames })
gone_sound area old p frames at sound some point within is =
    let stands = first_stands area.files old.stack some sound.frames in
    let new_stands : Stands area.files (at_offset at (running old.stack)) = record {
      class = stands.class;
      within = subst (λ (q : Point). at ≤ length (code_of area.files q).code) (sym point) within;
      room = stands.room;
    } in
    record {
      frames =
          passed_sound area.files old.stack frames at sound.frames is
          (subst (λ fs. Stands area.files (running fs)) (sym is) new_stands);
      objects = sound.objects;
      lines = sound.lines;
    }

abbrev nowhere : Frame
nowhere = record { class = 0; method = 0; at = 0; locals = []; operands = [] }

abbrev first : List Frame → Frame
first [] = nowhere
first (f ∷ frames) = f

abbrev rest : List Frame → List Frame
rest [] = []
rest (f ∷ frames) = frames

module _ (files : List ClassFile) (before : Running) (s : Site) where
  next_is : (running before.stack).point ≡ s.point → s.point.at ≤ s.next
      → (here before).at + (decoded s).size ≡ s.next
  next_is point forward = let at = ap (λ (p : Point). p.at) point in omega (arith, at, forward)

  runs : (e : Effect) → against files before s ≡ None → does files before s ≡ e
      → turn_from files before s ≡ applied files e (decoded s).size (here before) (below before)
      (state_in files before)
  runs e none is = turn_runs files (here before) (below before) (state_in files before) (decoded s)
      e none is

  module _ (old : Running) where
    -- the state after it, at an offset
    abbrev at_after : Areas → ℕ → State
    at_after after at = state_with (moved at after (here before) ∷ below before) after

    passed : (after : Areas) (frames : List stack.Frame) (at : ℕ)
        → state_in files old ≡ at_after after (here before).at
        → frames ≡ with_running (at_offset at) old.stack
        → state_in files (record old { stack = frames }) ≡ at_after after at
    passed after frames at state is = gone files old frames at is ∙ ap (gone_to at) state

    -- it goes on behind itself
    pub goes_turn : (frames : List stack.Frame) → IsCome files before s done.Goes old
        → s.point.at ≤ s.next
        → frames ≡ with_running (at_offset s.next) old.stack
        → turn_from files before s ≡ Silent (state_in files (record old { stack = frames }))
    goes_turn frames come forward is =
        runs (Goes come.after) come.is.0 come.is.1
        ∙ ap (λ k. Silent (at_after come.after k)) (next_is come.point forward)
        ∙ ap Silent (sym (passed come.after frames s.next come.state is))

    -- it goes on at its distance
    pub jumps_turn : (frames : List stack.Frame) → IsCome files before s done.Jumps old
        → frames ≡ with_running (at_offset (offset (pos s.point.at +ℤ reach_of s.instr))) old.stack
        → turn_from files before s ≡ Silent (state_in files (record old { stack = frames }))
    jumps_turn frames come is =
        runs (Jumps (distance (operation_at files before s)) come.after) come.is.0 come.is.1
        ∙ ap (λ z. Silent (at_after come.after (offset (pos (here before).at +ℤ z))))
        (distance_is (link_at files (here before).class) s.instr)
        ∙ ap (λ (p : Point). Silent (at_after come.after (offset (pos p.at +ℤ reach_of s.instr))))
        come.point
        ∙ ap Silent (sym (passed come.after frames (offset (pos s.point.at +ℤ reach_of s.instr))
        come.state is))

    -- it makes an event
    pub tells_turn : (d : Done) (e : Event) (frames : List stack.Frame)
        (come : IsCome files before s d old)
        → (against files before s ≡ None) × (does files before s ≡ Happens e come.after)
        → s.point.at ≤ s.next
        → frames ≡ with_running (at_offset s.next) old.stack
        → turn_from files before s ≡ Shows e (state_in files (record old { stack = frames }))
    tells_turn d e frames come tells forward is =
        runs (Happens e come.after) tells.0 tells.1
        ∙ ap (λ k. Shows e (at_after come.after k)) (next_is come.point forward)
        ∙ ap (Shows e) (sym (passed come.after frames s.next come.state is))

    -- ---- nothing is changed before it

    -- what it came to is so from the state that is left, too
    pub turn_here : state_in files old ≡ state_in files before
        → turn_from files before s ≡ turn_from files old s
    turn_here same = ap (λ (st : State). turn_at files (Some (decoded s)) (first st.frames)
        (rest st.frames) st) (sym same)

    abbrev IsDoneFrom : Done → Areas → State → Type 0
    IsDoneFrom d after st =
        let f = first st.frames in
        let does = done_by files f.class s.instr (areas_of f st) in
        IsDone d (class_names files) (operation (link_at files f.class) s.instr)
        (spot files f (rest st.frames) (decoded s).size does)
        (reason_against files (decoded s) f (rest st.frames) (areas_of f st)) does after

    -- what it came to is so of the state that is left
    pub done_here : (d : Done) (come : IsCome files before s d old)
        → state_in files old ≡ state_in files before
        → IsDone d (class_names files) (operation_at files old s) (spot_of files old s)
        (against files old s) (does files old s) come.after
    done_here d come same = subst (IsDoneFrom d come.after) (sym same) come.is

-- ---- throws

module _ (files : List ClassFile) (r : Running) (s : Site) where
  abbrev frames_in : List Frame
  frames_in = here r ∷ below r

  abbrev comes_to : Effect → Turn
  comes_to e = applied files e (decoded s).size (here r) (below r) (state_in files r)

  decided_unless : (m : Option ℕ) → decided files m (decoded s) (here r) (below r)
      (state_in files r)
      ≡ unless files (running r.stack).point m (comes_to (does files r s))
  decided_unless None = refl
  decided_unless (Some n) = refl

  unless_thrown : (later : Option ℕ) (e : Effect)
      → against files r s ≡ thrown_reason later (spot_of files r s) → does files r s ≡ e
      → turn_from files r s ≡ unless files (running r.stack).point
      (landing_reason files (handlers files (thrown_class files e) frames_in) later) (comes_to e)
  unless_thrown later e reason is =
      decided_unless (against files r s)
      ∙ ap (λ m. unless files (running r.stack).point m (comes_to (does files r s))) reason
      ∙ ap (λ (d : Effect). unless files (running r.stack).point
      (landing_reason files (handlers files (thrown_class files d) frames_in) later) (comes_to d))
      is

  -- it throws the next object of an exception
  pub next_thrown : (later : Option ℕ) (name : Name) (class : ℕ)
      → against files r s ≡ thrown_reason later (spot_of files r s)
      → does files r s ≡ Throws name → exception_named files name ≡ class
      → turn_from files r s ≡ throw_next_of files (running r.stack).point later class frames_in
      (areas_at files r)
  next_thrown later name class reason is same =
      unless_thrown later (Throws name) reason is
      ∙ ap (λ (k : ℕ). throw_next_of files (running r.stack).point later k frames_in
      (areas_at files r)) same

  -- it throws an object
  pub object_thrown : (later : Option ℕ) (v : MVal)
      → against files r s ≡ thrown_reason later (spot_of files r s)
      → does files r s ≡ ThrowsObject v
      → turn_from files r s ≡ throw_of files (running r.stack).point later v frames_in
      (areas_at files r)
  object_thrown later v reason is = unless_thrown later (ThrowsObject v) reason is

-- the number of the class of null pointers
pub null_pointer : (files : List ClassFile) → exception_named files
    (codes "NullPointerException") ≡ length files + 1
null_pointer files = refl
