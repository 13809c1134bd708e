-- Two lists of what an observer is shown, as far as both go.
use Rattle.std.proofs.Common.{◌≡◌, ℕ, zero, suc, Bool, true, false, cond, List, [], ◌∷◌, refl, sym}
use Rattle.std.proofs.Common.{subst, take}
use Rattle.std.specs.Prelude.{IsTrue}
use Rattle.par_policy.specs.Numbers.{within}
use Rattle.par_secrecy.specs.Runs.{Witnessed}
use Rattle.par_secrecy.specs.Shown.{Observer}
use Rattle.par_secrecy.specs.Secure.{events, NextAgree}

module _ (o : Observer) where
  -- the events are equal up to a first pair where a lock is open that the observer lacks
  abbrev pub Agree : List Witnessed → List Witnessed → Type 0
  Agree [] ys = Unit {0}
  Agree (x ∷ xs) [] = Unit {0}
  Agree (x ∷ xs) (y ∷ ys) =
      (IsTrue (within x.locks o.locks) → IsTrue (within y.locks o.locks) → x.event ≡ y.event)
      × (x.event ≡ y.event → Agree xs ys)

  pub agree_nothing : (xs : List Witnessed) → Agree xs []
  agree_nothing [] = tt
  agree_nothing (x ∷ xs) = tt

  pub agree_swapped : (xs ys : List Witnessed) → Agree xs ys → Agree ys xs
  agree_swapped [] ys h = agree_nothing ys
  agree_swapped (x ∷ xs) [] h = tt
  agree_swapped (x ∷ xs) (y ∷ ys) h =
      ((λ p q. sym (h.0 q p)), λ e. agree_swapped xs ys (h.1 (sym e)))

  -- what agrees has equal next events
  pub next_agree : (k : ℕ) (xs ys : List Witnessed) → Agree xs ys → NextAgree o xs ys k
  next_agree k [] ys h = λ a b p q. cc
  next_agree k (x ∷ xs) [] h = λ a b p q. cc
  next_agree zero (x ∷ xs) (y ∷ ys) h = λ a b p q e u v.
      let first : x ≡ a = cc in
      let second : y ≡ b = cc in
      let has_first = subst (λ w. IsTrue (within w.locks o.locks)) (sym first) u in
      let has_second = subst (λ w. IsTrue (within w.locks o.locks)) (sym second) v in
      subst (λ w. w.event ≡ b.event) first
      (subst (λ w. x.event ≡ w.event) second (h.0 has_first has_second))
  next_agree (suc k) (x ∷ xs) (y ∷ ys) h = λ a b p q e u v.
      let head : x.event ≡ y.event = cc in
      let tail : events (take k xs) ≡ events (take k ys) = cc in
      next_agree k xs ys (h.1 head) a b p q tail u v

  -- two events, where both or neither are seen
  pub agree_both : (b : Bool) (x y : Witnessed) (xs ys : List Witnessed)
      → (IsTrue b → (IsTrue (within x.locks o.locks) → IsTrue (within y.locks o.locks)
      → x.event ≡ y.event) × (x.event ≡ y.event → Agree xs ys))
      → (b ≡ false → Agree xs ys) → Agree (cond b (x ∷ xs) xs) (cond b (y ∷ ys) ys)
  agree_both true x y xs ys seen unseen = seen refl
  agree_both false x y xs ys seen unseen = unseen refl
