-- Frames that are told of a method are among those that fit, where they tell the same.
use Rattle.std.proofs.Common.{◌≡◌, ℕ, zero, suc, ◌-◌, ◌≤◌, Bool, true, false, List, [], ◌∷◌, ◌++◌}
use Rattle.std.proofs.Common.{Option, Some, None, length, replicate, refl, sym, ap, ◌∙◌, arith}
use Rattle.std.specs.Prelude.{◌==◌, if◌then◌else◌, reverse}
use Rattle.std.specs.List.{AllByRecursion, AllZip}
use Rattle.std.specs.Option.{option_map}
use Rattle.std.proofs.lemmas.Bool.{eqb-true}
use Rattle.par_kinds.specs.declared.frame.PlacedFrame.{PlacedFrame}
use Rattle.par_kinds.specs.declared.frame.VKind.{VKind}
use Rattle.par_kinds.specs.declared.frame.VKind.TheVariants.{Top as ATop}
use Rattle.par_kinds.specs.Kinds.{KFrame, kind_at}
use Rattle.par_kinds.specs.Fits.{Given}
use Rattle.par_kinds.specs.Linked.{padded}
use Rattle.par_kinds.specs.Told.{as_met, told}
use Rattle.par_placed_fit_laws.specs.Laws.{IsGivenAt}
use Rattle.par_framed_file_laws.specs.par_given_frames.Laws.{TellsSame, AreWithin}
use Rattle.par_verify_laws.specs.Verified.{whole}

-- ---- the locals that are not listed

padded-is : (many : ℕ) (ks ls : List VKind) → length ls ≡ many → length ks ≤ many
    → ((n : ℕ) → kind_at ks n ≡ kind_at ls n) → padded many ks ≡ ls
padded-is many [] [] size few same =
    let none : many - 0 ≡ 0 = omega (arith, size) in
    ap (λ (n : ℕ). replicate n ATop) none
padded-is zero [] (l ∷ ls) size few same = absurd (omega (arith, size))
padded-is (suc many) [] (l ∷ ls) size few same =
    let here : suc many - 0 ≡ suc (many - 0) = omega arith in
    let rest = padded-is many [] ls (omega (arith, size)) (omega arith) (λ n. same (suc n)) in
    ap (λ (n : ℕ). replicate n ATop) here ∙ (λ i. same 0 i ∷ rest i)
padded-is many (k ∷ ks) [] size few same = absurd (omega (arith, size, few))
padded-is zero (k ∷ ks) (l ∷ ls) size few same = absurd (omega (arith, size))
padded-is (suc many) (k ∷ ks) (l ∷ ls) size few same =
    let here : suc many - length (k ∷ ks) ≡ many - length ks = omega arith in
    let rest = padded-is many ks ls (omega (arith, size)) (omega (arith, few))
    (λ n. same (suc n)) in
    ap (λ (n : ℕ). (k ∷ ks) ++ replicate n ATop) here ∙ (λ i. same 0 i ∷ rest i)

-- ---- what is told is given

-- a frame with all its locals is the one that is given for its offset
abbrev pub IsToldAt : ℕ → Given → PlacedFrame → Type 0
IsToldAt many given g = given g.offset ≡ Some (whole many (as_met g.frame))

-- a frame that tells the same as one that is given
one_told : (many : ℕ) (given : Given)
    → ((at : ℕ) (k : KFrame) → given at ≡ Some k → length k.locals ≡ many)
    → (f g : PlacedFrame) → TellsSame f g → length g.frame.locals ≤ many → IsGivenAt given f
    → IsToldAt many given g
one_told many given sizes f g s few is =
    let same : padded many g.frame.locals ≡ f.frame.locals =
    padded-is many g.frame.locals f.frame.locals (sizes f.offset (as_met f.frame) is) few
    s.locals in
    ap given s.offset ∙ is
    ∙ (λ i. Some (record { locals = sym same i; stack = reverse (sym s.stack i) }))

pub all_told : (many : ℕ) (given : Given)
    → ((at : ℕ) (k : KFrame) → given at ≡ Some k → length k.locals ≡ many)
    → (fs gs : List PlacedFrame) → AllZip TellsSame fs gs → AreWithin many gs
    → AllByRecursion (IsGivenAt given) fs → AllByRecursion (IsToldAt many given) gs
all_told many given sizes [] [] s few all = tt
all_told many given sizes [] (g ∷ gs) s few all = absurd s
all_told many given sizes (f ∷ fs) [] s few all = absurd s
all_told many given sizes (f ∷ fs) (g ∷ gs) s few all = (
  one_told many given sizes f g s.0 few.0 all.0,
  all_told many given sizes fs gs s.1 few.1 all.1,
)

told_given : (many : ℕ) (given : Given) (gs : List PlacedFrame)
    → AllByRecursion (IsToldAt many given) gs → (at : ℕ) (k : KFrame) → told gs at ≡ Some k
    → given at ≡ Some (whole many k)
told_given many given [] all at k is = absurd (cc is)
told_given many given (g ∷ gs) all at k is =
    in_case (g.offset == at) refl is (told_given many given gs all.1 at k)
  where
    in_case : (b : Bool) → (g.offset == at) ≡ b
        → (if b then Some (as_met g.frame) else told gs at) ≡ Some k
        → (told gs at ≡ Some k → given at ≡ Some (whole many k)) → given at ≡ Some (whole many k)
    in_case true same e later =
        let is_k : as_met g.frame ≡ k = cc e in
        ap given (sym (eqb-true g.offset at same)) ∙ all.0
        ∙ ap (λ (x : KFrame). Some (whole many x)) is_k
    in_case false same e later = later e

-- so is what is told of a method
pub whole_given : (many : ℕ) (given : Given) (gs : List PlacedFrame)
    → AllByRecursion (IsToldAt many given) gs
    → (at : ℕ) (k : KFrame) → option_map (whole many) (told gs at) ≡ Some k → given at ≡ Some k
whole_given many given gs all at k is = in_case (told gs at) refl is
  where
    in_case : (o : Option KFrame) → told gs at ≡ o → option_map (whole many) o ≡ Some k
        → given at ≡ Some k
    in_case None none e = absurd (cc e)
    in_case (Some l) some e = told_given many given gs all at l some ∙ e
