-- The frames that are told of a method stand where its instructions start.
use Rattle.std.proofs.Common.{◌≡◌, ℕ, ◌<◌, ◌==◌, cond, Bool, true, false, List, [], ◌∷◌, length}
use Rattle.std.proofs.Common.{Option, Some, None, refl, sym, ap, subst, ◌∙◌, MatchOption}
use Rattle.std.proofs.lemmas.Bool.{eqb-true}
use Rattle.std.proofs.lemmas.List.Elements.{All-tail, All-head, All-nil}
use Rattle.std.proofs.lemmas.Slice.Zip.{AllZip-left}
use Rattle.std.specs.List.{All, AllZip, slice_get}
use Rattle.std.specs.Option.{option_map, IsSomeAnd}
use Rattle.par_class.specs.declared.file.CodeAttr.{CodeAttr}
use Rattle.par_class.specs.declared.file.MethodFile.{MethodFile}
use Rattle.par_class.specs.declared.file.ClassFile.{ClassFile}
use Rattle.par_single.specs.Walk.{starts_at}
use Rattle.par_kinds.specs.declared.frame.PlacedFrame.{PlacedFrame}
use Rattle.par_kinds.specs.declared.frame.MethodFrames.{MethodFrames}
use Rattle.par_kinds.specs.Kinds.{KFrame}
use Rattle.par_kinds.specs.Told.{as_met, told}
use Rattle.par_verify_laws.specs.par_frames.Broken.{AreFrames, AreFramesIf, AreGivenIn, IsPlacedIn}
use Rattle.par_verify_laws.proofs.par_kinds.Ending.{starts-within}
use Rattle.par_verify_laws.specs.Verified.{AllFrames, AreFramesOf, frames_in, frames_told}
use Rattle.par_verify_laws.specs.Verified.{methods_told, whole}
use Rattle.par_verify.specs.Answers.{IsMethod}
use Rattle.par_verify.specs.Starts.{told_of}

-- of frames in their places one that is told of an offset stands where an instruction does
told-starts : (code : CodeAttr) (fs : List PlacedFrame) (at : ℕ) (k : KFrame)
    → All (IsPlacedIn code) fs → told fs at ≡ Some k → starts_at code.code at ≡ true
told-starts code [] at k placed is = absurd (cc is)
told-starts code (f ∷ fs) at k placed is =
    in_case (told-starts code fs at k (All-tail (IsPlacedIn code) f fs placed)) (f.offset == at)
    refl is
  where
    in_case : (told fs at ≡ Some k → starts_at code.code at ≡ true) → (b : Bool)
        → f.offset == at ≡ b → cond b (Some (as_met f.frame)) (told fs at) ≡ Some k
        → starts_at code.code at ≡ true
    in_case later true same there =
        ap (starts_at code.code) (sym (eqb-true f.offset at same))
        ∙ (All-head (IsPlacedIn code) f fs placed).starts
    in_case later false other there = later there

unmapped : {A B : Type 0} (f : A → B) (o : Option A) (y : B) → option_map f o ≡ Some y
    → (x : A) × (o ≡ Some x)
unmapped f None y is = absurd (cc is)
unmapped f (Some x) y is = (x, refl)

pub told-within : (many : ℕ) (code : CodeAttr) (fs : List PlacedFrame) → All (IsPlacedIn code) fs
    → (at : ℕ) (k : KFrame) → told_of many fs at ≡ Some k → at < length code.code
told-within many code fs placed at k is =
    let frame = unmapped (whole many) (told fs at) k is in
    starts-within code.code at 0 (told-starts code fs at frame.0 placed frame.1)

-- ---- all frames

there : {A : Type 0} (o : Option A) (P : A → Type 0) → IsSomeAnd o P
    → (x : A) × (o ≡ Some x) × P x
there None P is = absurd is
there (Some x) P is = (x, refl, is)

-- what stands beside an item of the first list
beside : {A B : Type 0} (Q : A → B → Type 0) (xs : List A) (ys : List B) (k : ℕ) (x : A)
    → AllZip Q xs ys → slice_get xs k ≡ Some x → (y : B) × (slice_get ys k ≡ Some y) × Q x y
beside Q xs ys k x zipped is =
    there (slice_get ys k) (Q x)
    (subst (λ (o : Option _). MatchOption o (Unit {0}) (λ x. IsSomeAnd (slice_get ys k) (Q x))) is
    (AllZip-left Q xs ys zipped k))

placed-if : (b : Bool) (file : ClassFile) (m : MethodFile) (code : CodeAttr) (fs : MethodFrames)
    → m.code ≡ Some code → AreFramesIf b file m fs → All (IsPlacedIn code) fs.at
placed-if true file m code fs is given =
    (subst (λ (o : Option CodeAttr). AreGivenIn file m o fs.at) is given).placed
placed-if false file m code fs is none =
    subst (All (IsPlacedIn code)) (sym none) (All-nil (IsPlacedIn code))

-- the frames of a method among those of all
pub frames-of : (files : List ClassFile) (all : AllFrames) (class place : ℕ) (file : ClassFile)
    (m : MethodFile) → AreFramesOf files all → IsMethod files class file place m
    → (of_method : MethodFrames) × (frames_in all class place ≡ of_method.at)
    × AreFrames file m of_method
frames-of files all class place file m framed at =
    let of_file = beside (λ file frames. AllZip (AreFrames file) file.methods frames) files all
    class file framed at.listed in
    let of_method = beside (AreFrames file) file.methods of_file.0 place m of_file.2 at.there in (
      of_method.0,
      ap (λ o. frames_told (slice_get (methods_told o) place)) of_file.1
          ∙ ap frames_told of_method.1,
      of_method.2,
    )

-- the frames that are told of a method are in their places
pub all-placed : (file : ClassFile) (m : MethodFile) (code : CodeAttr) (frames : MethodFrames)
    → AreFrames file m frames → m.code ≡ Some code → All (IsPlacedIn code) frames.at
all-placed file m code frames are is =
    placed-if (file.major == 51) file m code frames is are
