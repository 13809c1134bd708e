-- What a throw comes to, from where it lands.
use Rattle.std.proofs.Common.{◌≡◌, ℕ, ◌+◌, ◌<◌, Bool, true, false, not, ◌==◌, if◌then◌else◌, List}
use Rattle.std.proofs.Common.{[], ◌∷◌, length, drop, slice_index_or, Option, Some, None, IfSome}
use Rattle.std.proofs.Common.{IfNone, Result, refl, sym, ap, subst, ◌∙◌, arith, length-drop}
use Rattle.std.proofs.lemmas.Bool.Decides.{nat_tests}
use Rattle.par_class.specs.declared.file.ClassFile.{ClassFile}
use Rattle.par_values.specs.declared.value.MVal.{MVal}
use Rattle.par_values.specs.declared.value.MVal.TheVariants.{Ref}
use Rattle.par_values.specs.Areas.{Areas, next_number, with_object}
use Rattle.par_values.specs.Effects.{Returns}
use Rattle.par_values.specs.Reasons.{Spot, is_of}
use Rattle.par_heap.specs.Heap as heap
use Rattle.par_stack.specs.declared.point.Point.{Point}
use Rattle.par_stack.specs.Frames as stack
use Rattle.par_stack.specs.Frames.{running, waiting, with_running, left_with}
use Rattle.par_method_area.specs.par_step_laws.Classes.{class_names, exceptions}
use Rattle.par_method_area.specs.par_step_laws.Handlers.{caught, is_lost, is_roomless}
use Rattle.par_method_area.specs.par_step_laws.State.{Frame, State, whole_inputs, entered}
use Rattle.par_method_area.specs.par_step_laws.Step.{Turn, Silent, spot, handlers, number_of_class}
use Rattle.par_method_area.specs.par_step_laws.Step.{throws, thrown_to}
use Rattle.par_method_area.specs.par_step_laws.Step.{throws_next, state_with}
use Rattle.par_method_area.specs.par_actions.Done.{lesser}
use Rattle.par_method_area.specs.par_actions.Leaving.{KnowsExceptions}
use Rattle.par_unwinding.specs.Shown.{frame_of, frames_of}
use Rattle.par_unwinding.specs.Landing.{Lands, gone_on}
use Rattle.par_unwinding.specs.declared.landings.Landing.{Landing}
use Rattle.par_machine.specs.Frames.{code_of, are_sound, Stands}
use Rattle.par_machine.specs.Objects.{count_classes, objects_in, AreObjects}
use Rattle.par_machine.specs.Running.{here, below, state_in}
use Rattle.par_machine.specs.Site.{areas_at}
use Rattle.par_machine.specs.Throwing.{landing_reason, bad_at, unless, throw_of, throw_next_of}
use Rattle.par_machine.specs.Throwing.{IsLanding}
use Rattle.par_machine.specs.Turn.{IsTurn}
use Rattle.par_machine.specs.declared.run.Running.{Running}
use Rattle.par_machine.specs.declared.turn.Stuck.{Stuck}
use Rattle.par_machine.specs.declared.turn.Turn as machine
use Rattle.par_machine.proofs.Born.{born_is}
use Rattle.par_machine.proofs.Held.{are_shown}
use Rattle.par_machine.proofs.Sound.{changed, dropped, first_stands}
use Rattle.par_machine.proofs.Within.{start_within}

-- frames are the first and the others
pub frames_cons : (frames : List stack.Frame) → 0 < length frames
    → frames_of frames ≡ frame_of (running frames) ∷ frames_of (waiting frames)
frames_cons [] some = absurd (omega arith)
frames_cons (f ∷ frames) some = refl

-- with no reason there is the turn
pub unless_none : (files : List ClassFile) (p : Point) (m : Option ℕ) (turn : Turn) → m ≡ None
    → unless files p m turn ≡ turn
unless_none files p m turn is = ap (λ n. unless files p n turn) is

-- where a throw lands, by what a search answers
pub landing_is : (files linked : List ClassFile) (thrown : ℕ) (frames : List stack.Frame)
    (l : Option Landing) → linked ≡ files
    → IfSome l (Lands linked thrown frames) → IfNone l
    (caught linked thrown (frames_of frames) ≡ []) → IsLanding files thrown frames l
landing_is files linked thrown frames None same taken gone =
    ap (λ fs. caught fs thrown (frames_of frames)) (sym same) ∙ gone
landing_is files linked thrown frames (Some l) same taken gone =
    subst (λ fs. Lands fs thrown frames l) same taken

-- ---- nothing stands against a handler

-- a frame may take an exception
pub record IsOpen (files : List ClassFile) (f : Frame) : Type 0 where
  pub room : is_roomless files (f ∷ []) ≡ false
  pub there : is_lost files (f ∷ []) ≡ false

open_by : (roomless lost : Bool) (other : Option ℕ)
    → lesser (if roomless then Some 3 else (if lost then Some 5 else None)) other ≡ None
    → (roomless ≡ false) × (lost ≡ false)
open_by true lost None is = absurd (cc)
open_by true lost (Some n) is = absurd (cc)
open_by false true None is = absurd (cc)
open_by false true (Some n) is = absurd (cc)
open_by false false other is = (refl, refl)

-- where no reason stands against a throw, the frame may take it
pub is_open : (files : List ClassFile) (f : Frame) (frames : List Frame) (other : Option ℕ)
    → landing_reason files (f ∷ frames) other ≡ None → IsOpen files f
is_open files f frames other is =
    let both = open_by (is_roomless files (f ∷ frames)) (is_lost files (f ∷ frames)) other is in
    record { room = both.0; there = both.1 }

not_false : (b : Bool) → not b ≡ false → b ≡ true
not_false true is = refl
not_false false is = absurd (cc)

some_room : (room : ℕ) → (room == 0) ≡ false → 0 < room
some_room room is = grind (arith, nat_tests)

module _ (files : List ClassFile) (all : List stack.Frame) (thrown : ℕ) (other : Option ℕ)
    (l : Landing) (lands : Lands files thrown all l)
    (free : landing_reason files (caught files thrown (frames_of all)) other ≡ None) where
  -- the frame that goes on
  abbrev lander : stack.Frame
  lander = running (gone_on l.above l.point.at all)

  opened : IsOpen files (frame_of lander)
  opened =
      is_open files (frame_of lander) (frames_of (waiting (gone_on l.above l.point.at all))) other
      (ap (λ left. landing_reason files left other) (sym lands.caught) ∙ free)

  module _ (sound : are_sound files all ≡ true) where
    some : 0 < length (drop l.above all)
    some = let there = lands.there in simp length-drop (omega arith)

    before : Stands files (running (drop l.above all))
    before = first_stands files (drop l.above all) some (dropped files l.above all sound)

    -- it has room for the exception
    pub roomy : 0 < length (running (drop l.above all)).operands + (running (drop l.above all)).free
    roomy =
        let room = some_room (code_of files (running (drop l.above all)).point).max_stack
        opened.room in
        omega (arith, before.room, room)

    stands : (v : MVal) → Stands files (left_with v lander)
    stands v = record {
      class = before.class;
      within = let within = start_within (code_of files lander.point).code lander.point.at
          (not_false _ opened.there) in omega arith;
      room = let room = roomy in omega (arith, before.room);
    }

    -- it stays sound with it
    pub landed_sound : (v : MVal) → are_sound files
        (with_running (left_with v) (gone_on l.above l.point.at all)) ≡ true
    landed_sound v =
        changed files (drop l.above all) (left_with v lander) (dropped files l.above all sound)
        (stands v) refl

  -- the turn that lands there
  pub landed_turn : (v : MVal) (a : Areas) → thrown_to (class_names files) v thrown
      (caught files thrown (frames_of all)) a
      ≡ Silent (state_with (frame_of (left_with v lander) ∷ frames_of
      (waiting (gone_on l.above l.point.at all))) a)
  landed_turn v a = ap (λ left. thrown_to (class_names files) v thrown left a) lands.caught

-- ---- an object is thrown

-- of each class it is told whether its objects are exceptions
pub told_exception : (files : List ClassFile) (flags : List Bool)
    → ((spot : Spot) → spot.exceptions ≡ exceptions files → KnowsExceptions spot flags)
    → (class n : ℕ) (b : Bool) → b ≡ slice_index_or flags class false
    → is_of (exceptions files) (Ref class n) ≡ b
told_exception files flags knows class n b is =
    knows (spot files (entered 0 0 []) [] 0 Returns) refl class ∙ sym is

module _ (files : List ClassFile) (p : Point) (v : MVal) (other : Option ℕ) (frames : List Frame)
    (a : Areas) where
  abbrev throw_by : (flies : Bool) → Turn
  throw_by flies =
      unless files p
      (landing_reason files (handlers files (if flies then number_of_class v else None) frames)
      other) (throws files v (number_of_class v) frames a)

  -- where something stands against an exception the code is bad
  pub exception_bad : (class n reason : ℕ) → v ≡ Ref class n → is_of (exceptions files) v ≡ true
      → landing_reason files (caught files class frames) other ≡ Some reason
      → throw_of files p other v frames a ≡ bad_at files p reason
  exception_bad class n reason is flies against =
      ap throw_by flies
      ∙ ap (λ w. unless files p
      (landing_reason files (handlers files (number_of_class w) frames) other)
      (throws files w (number_of_class w) frames a)) is
      ∙ ap (λ m. unless files p m (throws files (Ref class n) (Some class) frames a)) against

  -- nothing but the other reason stands against an object that is no exception
  pub other_bad : (reason : ℕ) → other ≡ Some reason → is_of (exceptions files) v ≡ false
      → throw_of files p other v frames a ≡ bad_at files p reason
  other_bad reason is lies =
      ap throw_by lies
      ∙ ap (λ m. unless files p m (throws files v (number_of_class v) frames a)) is

-- an answer that tells bad code at a point is one to a turn that comes to it
pub told_bad : (files : List ClassFile) (result : Result machine.Turn Stuck) (p q : Point)
    (reason : ℕ) (turn : Turn) → turn ≡ bad_at files p reason → q ≡ p
    → ((after : State) → IsTurn result (bad_at files q reason) after)
    → (after : State) → IsTurn result turn after
told_bad files result p q reason turn is same told after =
    subst (λ t. IsTurn result t after) (sym is)
    (subst (λ (r : Point). IsTurn result (bad_at files r reason) after) same (told after))

-- ---- the next object of an exception is thrown

module _ (files : List ClassFile) (r : Running) (thrown : ℕ) where
  -- the areas with one object more
  abbrev with_next : Areas
  with_next = with_object thrown [] (areas_at files r)

  abbrev next : MVal
  next = Ref thrown (next_number thrown (areas_at files r))

  -- the turn of a throw of the next object
  pub next_turn : (other : Option ℕ) (l : Landing) → Lands files thrown r.stack l
      → landing_reason files (caught files thrown (frames_of r.stack)) other ≡ None
      → 0 < length r.stack → (p : Point)
      → throw_next_of files p other thrown (here r ∷ below r) (areas_at files r)
      ≡ Silent (state_with (frame_of (left_with next (running (gone_on l.above l.point.at r.stack)))
      ∷ frames_of (waiting (gone_on l.above l.point.at r.stack))) with_next)
  next_turn other l lands free some p =
      ap (λ fs. throw_next_of files p other thrown fs (areas_at files r))
      (sym (frames_cons r.stack some))
      ∙ unless_none files p (landing_reason files (caught files thrown (frames_of r.stack)) other)
      (throws_next files thrown (frames_of r.stack) (areas_at files r)) free
      ∙ landed_turn files r.stack thrown other l lands free next with_next

  -- the state behind it is that of the run
  pub next_state : (l : Landing) (n : ℕ) (new : List stack.Frame) (held : heap.Objects)
      → AreObjects files r.heap → thrown < count_classes files
      → n ≡ length (heap.objects_of r.heap thrown) → held ≡ heap.with_object r.heap thrown []
      → new ≡ with_running (left_with (Ref thrown n)) (gone_on l.above l.point.at r.stack)
      → Silent (state_with (frame_of (left_with next (running (gone_on l.above l.point.at r.stack)))
      ∷ frames_of (waiting (gone_on l.above l.point.at r.stack))) with_next)
      ≡ Silent (state_in files (record {
        stack = new;
        statics = r.statics;
        heap = held;
        lines = r.lines;
      }))
  next_state l n new held are there number born is =
      let shown = are_shown files r.heap (areas_at files r) are refl thrown in
      let same : next_number thrown (areas_at files r) ≡ n =
      ap (λ (xs : List (List MVal)). length xs) shown ∙ sym number in
      let objects : with_next.objects ≡ objects_in (count_classes files) held =
      born_is files r.heap (areas_at files r) are refl thrown [] there
      ∙ ap (objects_in (count_classes files)) (sym born) in
      ap (λ k. Silent (state_with (frame_of (left_with (Ref thrown k)
      (running (gone_on l.above l.point.at r.stack))) ∷ frames_of
      (waiting (gone_on l.above l.point.at r.stack))) with_next)) same
      ∙ ap (λ os. Silent (record {
        frames = frame_of (left_with (Ref thrown n) (running (gone_on l.above l.point.at r.stack)))
            ∷ frames_of (waiting (gone_on l.above l.point.at r.stack));
        statics = r.statics;
        objects = os;
        inputs = whole_inputs r.lines;
      })) objects
      ∙ ap (λ fs. Silent (state_in files (record {
        stack = fs;
        statics = r.statics;
        heap = held;
        lines = r.lines;
      }))) (sym is)
