-- From how class files are loaded and linked to what their verification comes to.
use Rattle.std.proofs.Common.{◌≡◌, ℕ, suc, ◌<◌, length, List, [], ◌∷◌, IfOk, IfErr, Option, Some}
use Rattle.std.proofs.Common.{Result, Ok, Err, refl, sym, subst, inl, inr}
use Rattle.std.specs.Bool.{OnFalse}
use Rattle.std.specs.List.{slice_get, AllZip}
use Rattle.std.specs.Prelude.{Bool, true, false}
use Rattle.par_io.specs.Causes.{FolderCounts, Makes, Files}
use Rattle.par_class.specs.declared.file.MethodFile.{MethodFile}
use Rattle.par_class.specs.declared.file.ClassFile.{ClassFile}
use Rattle.par_link.specs.Linked as link
use Rattle.par_verify.specs.par_verify_laws.Verified.{AllFrames, AreFramesOf, IsUnverified}
use Rattle.par_verify.proofs.par_verify_laws.Never.{verified_programs_are_never_bad}
use Rattle.par_verify.specs.par_frames.par_kinds.declared.frame.MethodFrames.{MethodFrames}
use Rattle.par_verify.specs.par_frames.Broken.{AreFrames, HasFrames}
use Rattle.par_verify.specs.Answers.{Verified as Verdict}
use Rattle.par_verify.specs.Told.{Tells}
use Rattle.par_verify.specs.declared.error.Unfit.{Unfit}
use Rattle.par_verify.specs.declared.error.VerifyError.{VerifyError}
use Rattle.par_verify.specs.declared.error.VerifyError.TheVariants as error
use Rattle.par_verify.proofs.Methods.{class_there}
use Rattle.par_framed_program.specs.Framed.{AreFramed}
use Rattle.par_loader.specs.declared.error.Unloaded.{Unloaded}
use Rattle.par_loader.specs.declared.error.Unloaded.TheVariants as un
use Rattle.par_loader.specs.Begun.{AreCoded, BeginsMain}
use Rattle.par_loader.specs.Ends.{Judges}
use Rattle.par_tool.specs.declared.answer.Answer.{Answer}
use Rattle.par_tool.specs.declared.answer.Answer.TheVariants.{Verified, BadClass}
use Rattle.par_tool.specs.declared.reads.Failure.{Failure}
use Rattle.par_tool.specs.declared.reads.Failure.TheVariants.{Answered, Memory}
use Rattle.par_tool.specs.Failures.{IsFailure, FaultsAreTold, failure_of}
use Rattle.par_tool.specs.Texts.{is_fault}
use Rattle.par_tool.specs.Outside.{Text}
use Rattle.par_tool.specs.Classes.{IsUnlinked, AreLinked}
use Rattle.par_tool.specs.declared.verifications.TheConstants.{UNFIT}
use Rattle.par_tool.specs.Verifications.{AreFit, AreNeverBad, IsAnsweredFor, IsNameAt}
use Rattle.par_tool.specs.Verifications.{IsUnverifiable, IsUnverifiedBy, VerifiedSo}
use Rattle.par_tool.proofs.Loads.{one_more, linked_reads}

-- files whose methods frames fit come to no bad code
pub never_bad : (main : Text) (all : List ClassFile) → link.AreLinked all → AreCoded all
    → BeginsMain main all → AreFit all → AreNeverBad main all
never_bad main all linked coded begins fit =
    λ inputs m. verified_programs_are_never_bad all fit.frames main begins.file inputs m linked
    coded fit.verified begins.first begins.own begins.begun

-- ---- why files are not had

module _ (files : Option Files) (main : Text) where
  pub classes_fail : (before after : FolderCounts) (e : Unloaded)
      → IsUnlinked files before after main e
      → IsFailure (VerifiedSo files before after main) (failure_of e)
  classes_fail before after un.Absent h = h
  classes_fail before after un.TooLong h = h
  classes_fail before after un.Failed h = h
  classes_fail before after (un.BadClass c n v) h = inl h
  classes_fail before after un.Memory h = tt

  -- ---- what linked files come to

  module _ (before between after : FolderCounts) (all : List ClassFile)
      (first : Makes 1 0 before between) (h : Judges files main between after (Ok all)) where
    links : AreLinked files main (suc h.2.0) all
    links = record { classes = h.0; of = h.1; links = h.2.2 }

    makes : Makes (suc h.2.0) 0 before after
    makes = one_more h.2.0 before between after first h.2.1

    answered : (a : Answer) → (AreFit all → AreNeverBad main all) → IsAnsweredFor all a
        → VerifiedSo files before after main a
    answered (Verified many) safe is =
        (suc h.2.0, makes, (all, links, (is, safe is.1)))
    answered _ safe is = absurd is

    pub all_fit : (r : Result Answer Failure) → (AreFit all → AreNeverBad main all)
        → IfOk r (IsAnsweredFor all) → IfOk r (VerifiedSo files before after main)
    all_fit (Ok a) safe is = answered a safe is
    all_fit (Err e) safe is = tt

    refuses : (f : Failure) → IsFailure (IsUnverifiable all) f
        → IsFailure (VerifiedSo files before after main) f
    refuses (Answered (BadClass class number value)) is =
        inr (suc h.2.0, makes, (all, links, is))
    refuses (Answered _) is = absurd is
    refuses Memory is = tt

    pub all_unfit : (r : Result Answer Failure) → IfErr r (IsFailure (IsUnverifiable all))
        → IfErr r (IsFailure (VerifiedSo files before after main))
    all_unfit (Ok a) is = tt
    all_unfit (Err f) is = refuses f is

    -- memory is wanting for their frames
    pub all_read : IsUnlinked files before after main un.Memory
    all_read =
        (h.0, h.1, linked_reads h.0 main (suc h.2.0) all h.2.2 before after makes)

-- where nothing was asked for no fault is left untold
pub none_untold : {A : Type 0} (r : Result A Failure) (before after : ℕ) → after ≡ before
    → FaultsAreTold r before after
none_untold (Ok x) before after same = same
none_untold (Err Memory) before after same = same
none_untold (Err (Answered a)) before after same = in_case (is_fault a) where
  in_case : (b : Bool) → OnFalse b (after ≡ before)
  in_case true = tt
  in_case false = same

-- ---- methods with frames

-- the frames of methods that have some
methods_frames : (file : ClassFile) (ms : List MethodFile)
    → ((place : ℕ) (m : MethodFile) → slice_get ms place ≡ Some m → HasFrames file m)
    → (of_file : List MethodFrames) × AllZip (AreFrames file) ms of_file
methods_frames file [] has = ([], tt)
methods_frames file (m ∷ ms) has =
    let first = has 0 m refl in
    let rest = methods_frames file ms (λ place. has (suc place)) in
    (first.0 ∷ rest.0, (first.1, rest.1))

-- those of files, where all their methods do
pub frames_there : (files : List ClassFile) → AreFramed files
    → (all : AllFrames) × AreFramesOf files all
frames_there [] framed = ([], tt)
frames_there (file ∷ files) framed =
    let first = methods_frames file file.methods (framed 0 file refl) in
    let rest = frames_there files (λ class. framed (suc class)) in
    (first.0 ∷ rest.0, (first.1, rest.1))

-- ---- a method that no frames fit

-- what the error of a verification says of the frames that the files have
pub unverified_by : (all : List ClassFile) (frames : AllFrames) (e : VerifyError)
    → AreFramesOf all frames → Verdict {A = ℕ} all frames (Err e) → IsUnverifiedBy all e
unverified_by all frames (error.Broken class method) of unverified = (frames, of, unverified)
unverified_by all frames error.Memory of unverified = tt

-- the method that an error tells
module _ (all : List ClassFile) (unfit : Unfit) where
  abbrev pub IsFirst : Type 0
  IsFirst =
      (frames : AllFrames) × AreFramesOf all frames
      × IsUnverified all frames unfit.class unfit.method

  pub first_told : (e : VerifyError) → IsUnverifiedBy all e → Tells e (Ok unfit) → IsFirst
  first_told (error.Broken class method) (frames, of, unverified) is = (
    frames,
    of,
    subst (λ c. IsUnverified all frames c unfit.method) (sym is.0)
        (subst (λ m. IsUnverified all frames class m) (sym is.1) unverified),
  )
  first_told error.Memory by is = absurd is

  -- it stands in one of the files
  pub first_there : IsFirst → unfit.class < length all
  first_there (frames, of, unverified) =
      class_there all unfit.class unfit.method unverified.coded

pub first_so : (all : List ClassFile) (unfit : Unfit) (class : Text) → IsFirst all unfit
    → IsNameAt all unfit.class class
    → IsUnverifiable all (BadClass class UNFIT unfit.method)
first_so all unfit class (frames, of, unverified) (file, there, own) = inr (record {
  frames = frames;
  of = of;
  place = unfit.class;
  unfit = unverified;
  file = file;
  there = there;
  own = own;
  number_is = refl;
})
