-- What the passes find tells whether a method is verified.
use Rattle.std.proofs.Common.{◌≡◌, ℕ, ◌<◌, Bool, true, false, List, length, Option, Some, None}
use Rattle.std.proofs.Common.{is_some, sym, ap, ◌∙◌, subst}
use Rattle.std.proofs.Math.Path.{fun_ext}
use Rattle.std.specs.List.{All}
use Rattle.par_instr.specs.declared.instr.Instr.{Instr}
use Rattle.par_class.specs.declared.file.CodeAttr.{CodeAttr}
use Rattle.par_class.specs.declared.file.ClassFile.{ClassFile}
use Rattle.par_values.specs.declared.kind.Kind.{Kind}
use Rattle.par_values.specs.Areas.{Name}
use Rattle.par_step_laws.specs.Methods.{method_code}
use Rattle.par_kinds.specs.Kinds.{KFrame}
use Rattle.par_kinds.specs.Acts.{Act}
use Rattle.par_kinds.specs.Fits.{Given}
use Rattle.par_kinds.specs.Linked.{exception_names, act_at, caught_kind, first_frame, result_of}
use Rattle.par_kinds.specs.Shapes.{act_of, shape_at}
use Rattle.par_verify_laws.specs.par_kinds.Passes.{Table, Judged, frame_at}
use Rattle.par_verify_laws.specs.par_kinds.Passes.{frames_as_told, start_table}
use Rattle.par_verify_laws.proofs.par_kinds.Least.{frames_as_told_are_least}
use Rattle.par_verify_laws.proofs.Shaped.{acts_agree}
use Rattle.par_kinds.specs.declared.frame.PlacedFrame.{PlacedFrame}
use Rattle.par_kinds.specs.declared.frame.MethodFrames.{MethodFrames}
use Rattle.par_verify_laws.specs.par_frames.Broken.{IsPlacedIn}
use Rattle.par_verify_laws.specs.Verified.{AllFrames, FitsMethod, frames_in}
use Rattle.par_verify.specs.Answers.{Says}
use Rattle.par_verify.specs.Starts.{told_of, IsJudged}
use Rattle.par_verify.proofs.Telling.{told-within}

module _ (files : List ClassFile) (all : AllFrames) (class place : ℕ) where
  decided : (o : Option Table) → Judged (exception_names files) (FitsMethod files all class place) o
      → (b : Bool) → b ≡ is_some o → Says files all class place b
  decided (Some t) found true is = (frame_at t, found.0)
  decided (Some t) found false is = absurd (cc is)
  decided None none true is = absurd (cc is)
  decided None none false is = λ verified. none verified.0 verified.1

  abbrev Found : List Name → (Instr → Act) → CodeAttr → KFrame → Given → Option Table
  Found exc act code first told =
      frames_as_told exc act (caught_kind files class) code first told

  -- what is found by what the code of the verifier knows
  says : (exc : List Name) (gives : Option Kind) (code : CodeAttr) (first : KFrame)
      (fs : List PlacedFrame) (b : Bool)
      → exc ≡ exception_names files → gives ≡ result_of files class place
      → method_code files class place ≡ code → first ≡ first_frame files class place
      → fs ≡ frames_in all class place → All (IsPlacedIn code) (frames_in all class place)
      → b ≡ is_some (Found exc (act_of gives (shape_at files class)) code first
      (told_of code.max_locals fs))
      → Says files all class place b
  says exc gives code first fs b excs gave coded begun told placed found =
      let real : CodeAttr = method_code files class place in
      let us : List PlacedFrame = frames_in all class place in
      let acts : act_of (result_of files class place) (shape_at files class)
      ≡ act_at files class place =
      fun_ext (λ i. sym (acts_agree files class place i)) in
      let same : Found exc (act_of gives (shape_at files class)) code first
      (told_of code.max_locals fs)
      ≡ Found (exception_names files) (act_at files class place) real
      (first_frame files class place) (told_of real.max_locals us) =
      ap (λ e. Found e (act_of gives (shape_at files class)) code first
      (told_of code.max_locals fs)) excs
      ∙ ap (λ g. Found (exception_names files) (act_of g (shape_at files class)) code first
      (told_of code.max_locals fs)) gave
      ∙ ap (λ a. Found (exception_names files) a code first (told_of code.max_locals fs)) acts
      ∙ ap (λ f. Found (exception_names files) (act_at files class place) code f
      (told_of code.max_locals fs)) begun
      ∙ ap (λ gs. Found (exception_names files) (act_at files class place) code
      (first_frame files class place) (told_of code.max_locals gs)) told
      ∙ ap (λ (c : CodeAttr). Found (exception_names files) (act_at files class place) c
      (first_frame files class place) (told_of c.max_locals us)) (sym coded) in
      let inside : (at : ℕ) (k : KFrame) → told_of real.max_locals us at ≡ Some k
      → at < length real.code =
      told-within real.max_locals real us
      (subst (λ (c : CodeAttr). All (IsPlacedIn c) us) (sym coded) placed) in
      decided (Found (exception_names files) (act_at files class place) real
      (first_frame files class place) (told_of real.max_locals us))
      (frames_as_told_are_least (exception_names files) (act_at files class place)
      (caught_kind files class) real (first_frame files class place)
      (told_of real.max_locals us) inside)
      b (found ∙ ap is_some same)

  -- what is judged of the frames that a method tells
  pub judged-says : (exc : List Name) (gives : Option Kind) (code : CodeAttr) (first : KFrame)
      (table : Table) (frames : MethodFrames) (b : Bool)
      → exc ≡ exception_names files → gives ≡ result_of files class place
      → method_code files class place ≡ code → first ≡ first_frame files class place
      → frames_in all class place ≡ frames.at → All (IsPlacedIn code) frames.at
      → table ≡ start_table (told_of code.max_locals frames.at) 0 code.code
      → IsJudged exc (act_of gives (shape_at files class)) (caught_kind files class) code first
      table b
      → Says files all class place b
  judged-says exc gives code first table frames b excs gave coded begun are placed told judged =
      says exc gives code first frames.at b excs gave coded begun (sym are)
      (subst (All (IsPlacedIn code)) (sym are) placed)
      (judged (told_of code.max_locals frames.at) told
      (told-within code.max_locals code frames.at placed))
