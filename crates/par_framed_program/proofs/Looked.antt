-- Files before one are framed, one by one.
use Rattle.std.proofs.Common.{◌≡◌, ℕ, zero, suc, ◌+◌, ◌≤◌, List, [], ◌∷◌, length, Some, refl}
use Rattle.std.proofs.Common.{sym, ◌∙◌, subst, inl, inr}
use Rattle.std.proofs.Common.{Err, arith}
use Rattle.std.specs.Prelude.{slice_get}
use Rattle.std.specs.List.{AllZip}
use Rattle.std.proofs.lemmas.Bool.{cases_lt}
use Rattle.std.proofs.lemmas.Option.{slice_get_within}
use Rattle.par_class.specs.declared.file.MethodFile.{MethodFile}
use Rattle.par_class.specs.declared.file.ClassFile.{ClassFile}
use Rattle.par_given_frames.specs.par_kinds.declared.frame.MethodFrames.{MethodFrames}
use Rattle.par_frames.specs.Broken.{AreFrames, HasFrames, IsBroken}
use Rattle.par_single.specs.Members.{own_name}
use Rattle.par_single.specs.Descriptors.{Text}
use Rattle.par_loader.specs.declared.error.Unloaded.{Unloaded}
use Rattle.par_loader.specs.declared.error.Unloaded.TheVariants.{Absent, TooLong, Failed, BadClass}
use Rattle.par_loader.specs.declared.error.Unloaded.TheVariants.{Memory}
use Rattle.par_loader.specs.Ends.{IsBadAs}
use Rattle.par_framed_program.specs.Framed.{IsFramed, AreFramedBefore, AreFramed, IsUnframed}
use Rattle.par_framed_program.specs.Framed.{Framed}

module _ (files : List ClassFile) (place : ℕ) where
  pub framed_more : (file : ClassFile) → AreFramedBefore files place
      → slice_get files place ≡ Some file → IsFramed file → AreFramedBefore files (place + 1)
  framed_more file before there is i other less found =
      elim (cases_lt i place) [
        | inl low ↦ before i other low found
        | inr high ↦
            let same : i ≡ place = omega arith in
            let one : slice_get files place ≡ Some other =
            subst (λ (k : ℕ). slice_get files k ≡ Some other) same found in
            let alike : file ≡ other = cc (sym there ∙ one) in
            subst IsFramed alike is
      ]

  pub framed_all : length files ≤ place → AreFramedBefore files place → AreFramed files
  framed_all long before i file found =
      before i file (omega (arith, slice_get_within files i file found)) found

-- what is told of a method without frames
pub told : {A : Type 0} (P : A → Type 0) (files : List ClassFile) (class : Text)
    (number value : ℕ) (e : Unloaded) → IsBadAs class number value e
    → IsUnframed files class number value → Framed P files (Err e)
told P files class number value Absent bad is = absurd bad
told P files class number value TooLong bad is = absurd bad
told P files class number value Failed bad is = absurd bad
told P files class number value Memory bad is = tt
told P files class number value (BadClass c n v) bad is =
    subst (λ (n : ℕ). IsUnframed files c n v) (sym bad.1)
    (subst (λ (v : ℕ). IsUnframed files c number v) (sym bad.2)
    (subst (λ (c : Text). IsUnframed files c number value) (sym bad.0) is))

-- methods of which the frames are known have some
zip-has : (file : ClassFile) (ms : List MethodFile) (fs : List MethodFrames)
    → AllZip (AreFrames file) ms fs → (place : ℕ) (m : MethodFile)
    → slice_get ms place ≡ Some m → HasFrames file m
zip-has file [] fs zip place m is = absurd (cc is)
zip-has file (x ∷ ms) [] zip place m is = absurd zip
zip-has file (x ∷ ms) (f ∷ fs) zip zero m is =
    let same : x ≡ m = cc is in (f, subst (λ (y : MethodFile). AreFrames file y f) same zip.0)
zip-has file (x ∷ ms) (f ∷ fs) zip (suc place) m is = zip-has file ms fs zip.1 place m is

pub known_framed : (file : ClassFile) (fs : List MethodFrames)
    → AllZip (AreFrames file) file.methods fs → IsFramed file
known_framed file fs zip place m is = zip-has file file.methods fs zip place m is

pub unframed_here : (files : List ClassFile) (place : ℕ) (file : ClassFile) (number method : ℕ)
    → AreFramedBefore files place → slice_get files place ≡ Some file
    → IsBroken file number method → IsUnframed files (own_name file) 46 method
unframed_here files place file number method before there broken = record {
  place = place;
  file = file;
  there = there;
  own = refl;
  broken = subst (λ (n : ℕ). IsBroken file n method) broken.number_ broken;
  before = before;
}
