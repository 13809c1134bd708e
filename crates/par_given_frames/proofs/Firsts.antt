-- The methods before one have frames.
use Rattle.std.proofs.Common.{◌≡◌, ℕ, zero, suc, ◌+◌, ◌<◌, ◌≤◌, List, [], ◌∷◌, ◌++◌, length, take}
use Rattle.std.proofs.Common.{get_or}
use Rattle.std.proofs.Common.{Some, None, inl, inr, arith, refl, sym, ◌∙◌, subst}
use Rattle.std.specs.Prelude.{slice_get, IsTrue}
use Rattle.std.specs.List.{AllZip}
use Rattle.std.proofs.lemmas.Grind.{common_steps}
use Rattle.std.proofs.lemmas.Bool.{cases_lt}
use Rattle.std.proofs.lemmas.Option.{slice_get_within}
use Rattle.par_class.specs.declared.file.MethodFile.{MethodFile}
use Rattle.par_class.specs.declared.file.ClassFile.{ClassFile}
use Rattle.par_frames.specs.par_link.Conditions.{is_short, IsSmall}
use Rattle.par_kinds.specs.declared.frame.MethodFrames.{MethodFrames}
use Rattle.par_frames.specs.Broken.{AreFrames, HasFrames, IsBroken}
use Rattle.par_given_frames.specs.Answers.{IsFirstBroken}
use Rattle.par_given_frames.proofs.Meeting.{all_at}

abbrev pub AreFramedBelow : ClassFile → ℕ → Type 0
AreFramedBelow file place =
    (i : ℕ) (m : MethodFile) → i < place → slice_get file.methods i ≡ Some m → HasFrames file m

-- a method at a place has short code
pub short_at : (file : ClassFile) (place : ℕ) (m : MethodFile) → IsSmall file
    → place < length file.methods → m ≡ get_or file.methods place m
    → IsTrue (is_short m.code)
short_at file place m small less is =
    all_at (λ (m : MethodFile). is_short m.code) file.methods m small.code (place, less, sym is)

-- one more element at the end of two lists
zip-push : {A B : Type 0} (R : A → B → Type 0) (xs : List A) (ys : List B) (x : A) (y : B)
    → AllZip R xs ys → R x y → AllZip R (xs ++ x ∷ []) (ys ++ y ∷ [])
zip-push R [] [] x y zip one = (one, tt)
zip-push R [] (z ∷ ys) x y zip one = absurd zip
zip-push R (z ∷ xs) [] x y zip one = absurd zip
zip-push R (z ∷ xs) (w ∷ ys) x y zip one = (zip.0, zip-push R xs ys x y zip.1 one)

pub zip_more : {A B : Type 0} (R : A → B → Type 0) (xs : List A) (ys : List B) (i : ℕ) (x : A)
    (y : B) → i < length xs → x ≡ get_or xs i x → AllZip R (take i xs) ys → R x y
    → AllZip R (take (i + 1) xs) (ys ++ y ∷ [])
zip_more {A} R xs ys i x y less is zip one =
    let more : take (i + 1) xs ≡ take i xs ++ x ∷ [] = grind (arith, common_steps) in
    subst (λ (zs : List A). AllZip R zs (ys ++ y ∷ [])) (sym more)
    (zip-push R (take i xs) ys x y zip one)

-- methods of which the frames are known have some
zip-framed : (file : ClassFile) (n : ℕ) (ms : List MethodFile) (fs : List MethodFrames)
    → AllZip (AreFrames file) (take n ms) fs → (i : ℕ) (m : MethodFile) → i < n
    → slice_get ms i ≡ Some m → HasFrames file m
zip-framed file zero ms fs zip i m less is = absurd (omega (arith, less))
zip-framed file (suc n) [] fs zip i m less is = absurd (cc is)
zip-framed file (suc n) (x ∷ ms) [] zip i m less is = absurd zip
zip-framed file (suc n) (x ∷ ms) (f ∷ fs) zip zero m less is =
    let same : x ≡ m = cc is in (f, subst (λ (y : MethodFile). AreFrames file y f) same zip.0)
zip-framed file (suc n) (x ∷ ms) (f ∷ fs) zip (suc i) m less is =
    zip-framed file n ms fs zip.1 i m (omega (arith, less)) is

pub framed_below : (file : ClassFile) (place : ℕ) (fs : List MethodFrames)
    → AllZip (AreFrames file) (take place file.methods) fs → AreFramedBelow file place
framed_below file place fs zip i m less is = zip-framed file place file.methods fs zip i m less is

module _ (file : ClassFile) (place : ℕ) where
  pub framed_more : (m : MethodFile) → AreFramedBelow file place
      → slice_get file.methods place ≡ Some m → HasFrames file m → AreFramedBelow file (place + 1)
  framed_more m before there has i n less is =
      elim (cases_lt i place) [
        | inl low ↦ before i n low is
        | inr high ↦
            let same : i ≡ place = omega arith in
            let one : slice_get file.methods place ≡ Some n =
            subst (λ (k : ℕ). slice_get file.methods k ≡ Some n) same is in
            let alike : m ≡ n = cc (sym there ∙ one) in
            subst (HasFrames file) alike has
      ]

  pub framed_all : length file.methods ≤ place → AreFramedBelow file place
      → IsFirstBroken file None
  framed_all long before i m is =
      before i m (omega (arith, slice_get_within file.methods i m is)) is

  pub broken_here : (m : MethodFile) → AreFramedBelow file place
      → slice_get file.methods place ≡ Some m → (HasFrames file m → ⊥) → IsBroken file 46 place
  broken_here m before there none = record {
    number_ = refl;
    broken = m;
    there = there;
    has_none = none;
    first = before;
  }
