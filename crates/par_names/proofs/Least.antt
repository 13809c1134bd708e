-- The least place of a name, as one more name is looked at.
use Rattle.std.proofs.Common.{◌≡◌, ℕ, Bool, true, false, cond, ◌||◌, ◌&&◌, List, Option, Some, None}
use Rattle.std.proofs.Common.{refl, sym, ap, ◌∙◌, arith}
use Rattle.std.proofs.lemmas.Bool.Decides.{nat_tests}
use Rattle.std.specs.Prelude.{nat_lt}
use Rattle.std.specs.Str.{bytes_eq}
use Rattle.std.proofs.lemmas.Slice.Eq.{bytes_eq-Decides}
use Rattle.par_names.specs.Earliest.{is_below}

-- a lesser place tells as much
lesser : (o : Option ℕ) (p at : ℕ) → is_below o p ≡ true
    → is_below o at ≡ (is_below o at || nat_lt p at)
unfolding is_below
lesser None p at e = absurd (cc e)
lesser (Some q) p at e = grind (arith, nat_tests)

-- without a lesser place this one is the least
least : (o : Option ℕ) (p at : ℕ) → is_below o p ≡ false
    → nat_lt p at ≡ (is_below o at || nat_lt p at)
unfolding is_below
least None p at e = refl
least (Some q) p at e = grind (arith, nat_tests)

no_more : (b : Bool) → b ≡ (b || false)
no_more true = refl
no_more false = refl

module _ (before : List ℕ → Option ℕ) (n q : List ℕ) (p at : ℕ) where
  -- where the name has a lesser place, nothing changes
  pub kept : is_below (before n) p ≡ true
      → is_below (before q) at ≡ (is_below (before q) at || (bytes_eq n q && nat_lt p at))
  kept h = in_case (bytes_eq n q) refl where
    in_case : (b : Bool) → bytes_eq n q ≡ b
        → is_below (before q) at ≡ (is_below (before q) at || (b && nat_lt p at))
    in_case true e =
        lesser (before q) p at (ap (λ x. is_below (before x) p) (sym ((bytes_eq-Decides n q).0 e))
        ∙ h)
    in_case false e = no_more (is_below (before q) at)

  -- where it has none, this one is put
  pub put : is_below (before n) p ≡ false
      → is_below (cond (bytes_eq n q) (Some p) (before q)) at
      ≡ (is_below (before q) at || (bytes_eq n q && nat_lt p at))
  unfolding is_below
  put h = in_case (bytes_eq n q) refl where
    in_case : (b : Bool) → bytes_eq n q ≡ b
        → is_below (cond b (Some p) (before q)) at ≡ (is_below (before q) at || (b && nat_lt p at))
    in_case true e =
        least (before q) p at (ap (λ x. is_below (before x) p) (sym ((bytes_eq-Decides n q).0 e))
        ∙ h)
    in_case false e = no_more (is_below (before q) at)

pub nothing_below : (at : ℕ) → is_below None at ≡ false
unfolding is_below
nothing_below at = refl
