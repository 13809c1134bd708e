-- Two answers of two lists join to the answer of both.
use Rattle.std.proofs.Common.{◌≡◌, List, [], ◌∷◌, Option, Some, None, Bool, true, false, cond, refl}
use Rattle.std.proofs.Common.{sym, ap, ◌∙◌, arith}
use Rattle.std.specs.Prelude.{fold}
use Rattle.std.proofs.lemmas.Bool.Decides.{nat_tests}
use Rattle.par_refusals.specs.declared.refusal.Refusal.{Refusal}
use Rattle.par_refusals.specs.First.{comes_before, earlier, first_of}

skipped : (f g h : Refusal) → comes_before g f ≡ true → comes_before h g ≡ true
    → comes_before h f ≡ true
skipped f g h j k = grind (arith, nat_tests)

behind : (f g h : Refusal) → comes_before g f ≡ false → comes_before h g ≡ false
    → comes_before h f ≡ false
behind f g h j k = grind (arith, nat_tests)

-- the earlier of two, as one
lesser : Refusal → Refusal → Refusal
lesser g h = cond (comes_before h g) h g

earlier_is : (g h : Refusal) → earlier (Some g) h ≡ Some (lesser g h)
unfolding lesser
earlier_is g h = in_case (comes_before h g) where
  in_case : (b : Bool) → cond b (Some h) (Some g) ≡ Some (cond b h g)
  in_case true = refl
  in_case false = refl

-- to keep the earlier of three, it does not matter which two are looked at first
in_turn : (o : Option Refusal) (g h : Refusal) → earlier (earlier o g) h ≡ earlier o (lesser g h)
unfolding lesser
in_turn None g h = earlier_is g h
in_turn (Some f) g h = in_case (comes_before g f) (comes_before h g) refl refl where
  in_case : (b d : Bool) → comes_before g f ≡ b → comes_before h g ≡ d
      → earlier (cond b (Some g) (Some f)) h ≡ earlier (Some f) (cond d h g)
  in_case true true j k = rw k (rw (skipped f g h j k) refl)
  in_case true false j k = rw k (rw j refl)
  in_case false true j k = refl
  in_case false false j k = rw (behind f g h j k) (rw j refl)

-- the first of some, noted behind what was found before
module _ (o : Option Refusal) where
  joined : (g : Refusal) (gs : List Refusal) (f : Refusal) → fold earlier (Some g) gs ≡ Some f
      → earlier o f ≡ fold earlier (earlier o g) gs
  joined g [] f e = ap (earlier o) (sym (cc e))
  joined g (h ∷ hs) f e =
      joined (lesser g h) hs f (ap (λ x. fold earlier x hs) (sym (earlier_is g h)) ∙ e)
      ∙ ap (λ x. fold earlier x hs) (sym (in_turn o g h))

  pub noted_first : (gs : List Refusal) (f : Refusal) → Some f ≡ first_of None gs
      → earlier o f ≡ first_of o gs
  unfolding first_of
  noted_first [] f e = absurd (cc e)
  noted_first (g ∷ gs) f e = joined g gs f (sym e)

  pub noted_none : (gs : List Refusal) → None ≡ first_of None gs → o ≡ first_of o gs
  unfolding first_of
  noted_none [] e = refl
  noted_none (g ∷ gs) e = absurd (cc (e ∙ first_some g gs)) where
    kept : Refusal → List Refusal → Refusal
    kept f [] = f
    kept f (h ∷ hs) = kept (lesser f h) hs

    first_some : (f : Refusal) (fs : List Refusal) → fold earlier (Some f) fs ≡ Some (kept f fs)
    first_some f [] = refl
    first_some f (h ∷ hs) =
        ap (λ x. fold earlier x hs) (earlier_is f h) ∙ first_some (lesser f h) hs
