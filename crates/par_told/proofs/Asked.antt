-- Members above a number, asked for one after the other.
use Rattle.std.proofs.Common.{◌≡◌, ℕ, suc, ◌+◌, ◌<◌, Bool, true, false, ◌||◌, not, ◌&&◌, refl, sym}
use Rattle.std.proofs.Common.{ap}
use Rattle.std.proofs.Common.{subst, ◌∙◌, arith}
use Rattle.par_bits.specs.Sets.{Set}
use Rattle.par_infer.specs.Bounds.{any_below}
use Rattle.par_infer.proofs.Replaced.{any_in}

pub none_more : (p : Set) (n : ℕ) → any_below n p ≡ false → p n ≡ false
    → any_below (n + 1) p ≡ false
none_more p n none is =
    let next : suc n ≡ n + 1 = omega arith in
    subst (λ k. any_below k p ≡ false) next (ap (λ b. b || any_below n p) is ∙ none)

-- one above is enough
pub one_above : (p : Set) (own : Bool) (n : ℕ) → n < 256 → p n ≡ true
    → false ≡ (own && not (any_below 256 p))
one_above p own n small is = by_any own (any_below 256 p) (any_in 256 p n small is) where
  by_any : (own b : Bool) → b ≡ true → false ≡ (own && not b)
  by_any true b e = sym (ap not e)
  by_any false b e = refl

pub none_above : (p : Set) (own : Bool) → own ≡ true → any_below 256 p ≡ false
    → true ≡ (own && not (any_below 256 p))
none_above p own is none = sym (ap (λ b. b && not (any_below 256 p)) is ∙ ap not none)
