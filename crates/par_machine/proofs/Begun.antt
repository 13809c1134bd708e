-- A run before its first instruction.
use Rattle.std.proofs.Common.{◌≡◌, ℕ, zero, suc, ◌-◌, true, List, [], ◌∷◌, replicate, Option, Some}
use Rattle.std.proofs.Common.{None, slice_get, refl, sym, ap, subst, ◌∙◌, arith}
use Rattle.std.proofs.lemmas.Bool.{and_from}
use Rattle.std.proofs.lemmas.Option.{slice_get_within}
use Rattle.par_class.specs.declared.file.ClassFile.{ClassFile}
use Rattle.par_values.specs.declared.value.MVal.{MVal}
use Rattle.par_values.specs.declared.inputs.Inputs.{Inputs}
use Rattle.par_values.specs.declared.inputs.ChannelInput.{ChannelInput}
use Rattle.par_values.specs.Areas.{Objects}
use Rattle.par_stack.specs.declared.point.Point.{Point}
use Rattle.par_stack.specs.Frames as stack
use Rattle.par_method_area.specs.par_step_laws.Fields.{all_statics}
use Rattle.par_method_area.specs.par_step_laws.Methods.{method_code}
use Rattle.par_method_area.specs.par_step_laws.State.{Frame, State, entered, main_place, start}
use Rattle.par_method_area.specs.par_step_laws.State.{frame_of, whole_inputs}
use Rattle.par_method_area.specs.par_step_laws.State.{no_objects}
use Rattle.par_machine.specs.Frames.{are_sound}
use Rattle.par_machine.specs.Objects.{count_classes, objects_in, AreObjects}
use Rattle.par_machine.specs.Running.{state_in}
use Rattle.par_machine.specs.declared.run.Running.{Running}
use Rattle.par_machine.proofs.Sound as sound

objects_none : (many : ℕ) → objects_in many [] ≡ replicate many []
unfolding objects_in
objects_none zero = refl
objects_none (suc many) = ap (λ (os : Objects). [] ∷ os) (objects_none many)

-- where a run begins
abbrev pub first_point : ℕ → ℕ → Point
first_point main method = record { class = main; method = method; at = 0 }

-- the frame with which it begins
abbrev pub first_frame : List ClassFile → ℕ → ℕ → stack.Frame
first_frame files main method =
    stack.entered (first_point main method) [] (method_code files main method).max_locals
    (method_code files main method).max_stack

-- and no other frame waits
abbrev pub first_stack : List ClassFile → ℕ → ℕ → List stack.Frame
first_stack files main method = first_frame files main method ∷ []

abbrev with_frames : List Frame → List MVal → Objects → List ChannelInput → State
with_frames frames statics objects lines = record
    { frames = frames; statics = statics; objects = objects; inputs = whole_inputs lines }

-- a run of these parts shows the first state
pub begun : (files : List ClassFile) (main method : ℕ) (r : Running) (inputs : Inputs)
    → main_place (slice_get files main) ≡ Some method
    → r.stack ≡ first_stack files main method → r.statics ≡ all_statics files → r.heap ≡ []
    → r.lines ≡ inputs.channels
    → state_in files r ≡ start files main inputs
begun files main method r inputs place frames statics heap lines =
    let none : (method_code files main method).max_locals -
    0 ≡ (method_code files main method).max_locals = omega arith in
    ap (λ fs. state_in files (record r { stack = fs })) frames
    ∙ ap (λ n. with_frames (entered main method (replicate n None) ∷ []) r.statics
    (objects_in (count_classes files) r.heap) r.lines) none
    ∙ ap (λ p. with_frames (frame_of files main p) r.statics
    (objects_in (count_classes files) r.heap) r.lines) (sym place)
    ∙ ap (λ vs. with_frames (frame_of files main (main_place (slice_get files main))) vs
    (objects_in (count_classes files) r.heap) r.lines) statics
    ∙ ap (λ os. with_frames (frame_of files main (main_place (slice_get files main)))
    (all_statics files) (objects_in (count_classes files) os) r.lines) heap
    ∙ ap (λ os. with_frames (frame_of files main (main_place (slice_get files main)))
    (all_statics files) os r.lines) (objects_none (count_classes files))
    ∙ ap (λ ls. with_frames (frame_of files main (main_place (slice_get files main)))
    (all_statics files) (no_objects files) ls) lines

listed : (file : Option ClassFile) (method : ℕ) → main_place file ≡ Some method
    → (f : ClassFile) × (file ≡ Some f)
listed None method is = absurd (cc)
listed (Some f) method is = (f, refl)

-- the first frame stands
pub first_sound : (files : List ClassFile) (main method : ℕ) (frames : List stack.Frame)
    → main_place (slice_get files main) ≡ Some method
    → frames ≡ first_stack files main method → are_sound files frames ≡ true
unfolding are_sound
first_sound files main method frames place is =
    let f = listed (slice_get files main) method place in
    let there = slice_get_within files main f.0 f.1 in
    subst (λ fs. are_sound files fs ≡ true) (sym is)
    (and_from _ _ (sound.standing files (first_frame files main method)
    (record { class = there; within = omega arith; room = omega arith })) refl)

-- an empty heap has the objects of any files
pub no_objects_are : (files : List ClassFile) → AreObjects files []
no_objects_are files = record {
  none = λ class h. refl;
  wide = λ class k d h. absurd (omega arith);
}
