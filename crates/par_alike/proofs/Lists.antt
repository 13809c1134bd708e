-- Two lists of shown events.
use Rattle.std.proofs.Common.{◌≡◌, ℕ, zero, suc, Bool, true, false, cond, ◌⊎◌, inl, inr, ⊎_elim}
use Rattle.std.proofs.Common.{List, [], ◌∷◌, Some, refl, sym, subst, take}
use Rattle.std.specs.Prelude.{IsTrue, slice_get}
use Rattle.par_run_laws.specs.par_secrecy.Runs.{Witnessed}
use Rattle.par_run_laws.specs.par_secrecy.Secure.{events}

module _ (R : Witnessed → Witnessed → Type 0) where
  -- as far as both go, the events are equal up to a first pair that is in R
  abbrev pub Agree : List Witnessed → List Witnessed → Type 0
  Agree [] ys = Unit {0}
  Agree (x ∷ xs) [] = Unit {0}
  Agree (x ∷ xs) (y ∷ ys) = (x.event ≡ y.event ⊎ R x y) × (x.event ≡ y.event → Agree xs ys)

  -- a list that is at its end agrees with each
  pub agree_nil : (xs : List Witnessed) → Agree xs []
  agree_nil [] = tt
  agree_nil (x ∷ xs) = tt

  -- agreeing goes both ways
  pub agree_swap : ((x y : Witnessed) → R x y → R y x) → (xs ys : List Witnessed) → Agree xs ys
      → Agree ys xs
  agree_swap r [] ys h = agree_nil ys
  agree_swap r (x ∷ xs) [] h = tt
  agree_swap r (x ∷ xs) (y ∷ ys) h =
      (⊎_elim (λ e. inl (sym e)) (λ q. inr (r x y q)) h.0, λ e. agree_swap r xs ys (h.1 (sym e)))

  -- the k-th events
  pub agree_at : (k : ℕ) (xs ys : List Witnessed) → Agree xs ys → (a b : Witnessed)
      → slice_get xs k ≡ Some a → slice_get ys k ≡ Some b
      → events (take k xs) ≡ events (take k ys) → a.event ≡ b.event ⊎ R a b
  agree_at k [] ys h = λ a b p q. cc
  agree_at k (x ∷ xs) [] h = λ a b p q. cc
  agree_at zero (x ∷ xs) (y ∷ ys) h =
      λ a b p q e.
      let pa : x ≡ a = cc in
      let qb : y ≡ b = cc in
      subst (λ z. z.event ≡ b.event ⊎ R z b) pa (subst (λ z. x.event ≡ z.event ⊎ R x z) qb h.0)
  agree_at (suc k) (x ∷ xs) (y ∷ ys) h =
      λ a b p q e.
      let head : x.event ≡ y.event = cc in
      let tail : events (take k xs) ≡ events (take k ys) = cc in
      agree_at k xs ys (h.1 head) a b p q tail

  -- two events of one policy
  pub agree_emit : (b : Bool) (x y : Witnessed) (xs ys : List Witnessed)
      → (IsTrue b → (x.event ≡ y.event ⊎ R x y) × (x.event ≡ y.event → Agree xs ys))
      → (b ≡ false → Agree xs ys) → Agree (cond b (x ∷ xs) xs) (cond b (y ∷ ys) ys)
  agree_emit true x y xs ys f g = f refl
  agree_emit false x y xs ys f g = g refl

  -- an event that isn't seen
  pub agree_skip : (b : Bool) (x : Witnessed) (xs ys : List Witnessed) → b ≡ false → Agree xs ys
      → Agree (cond b (x ∷ xs) xs) ys
  agree_skip true x xs ys e h = cc
  agree_skip false x xs ys e h = h
