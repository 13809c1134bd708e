-- Updated values: where two updates agree, and what one leaves as it was.
use Rattle.std.proofs.Common.{◌≡◌, ℕ, Bool, true, false, cond, refl, ap, ◌∙◌, subst, ◌==◌}
use Rattle.std.proofs.lemmas.Bool.{eqb-true}
use Rattle.par_run_laws.specs.State.{put}

-- equal choices
pick : {X : Type 0} (b : Bool) (u v p q : X) → (b ≡ true → u ≡ v) → (b ≡ false → p ≡ q)
    → cond b u p ≡ cond b v q
pick true u v p q f g = f refl
pick false u v p q f g = g refl

-- two updates at one place agree where the values do
pub put_like : {X : Type 0} (f f' : ℕ → X) (c : ℕ) (v v' : X) (i : ℕ) → (i ≡ c → v ≡ v')
    → f i ≡ f' i → put f c v i ≡ put f' c v' i
put_like f f' c v v' i h p = pick (i == c) v v' (f i) (f' i) (λ e. h (eqb-true i c e)) (λ e. p)

-- an update that puts what is there changes nothing
pub put_keep : {X : Type 0} (f : ℕ → X) (c : ℕ) (v : X) (i : ℕ) → (i ≡ c → f i ≡ v)
    → f i ≡ put f c v i
put_keep f c v i h = go (i == c) refl
  where
    go : (b : Bool) → (i == c) ≡ b → f i ≡ cond b v (f i)
    go true e = h (eqb-true i c e)
    go false e = refl

-- the same of a table of tables
pub put2_like : {X : Type 0} (f f' : ℕ → ℕ → X) (c k : ℕ) (v v' : X) (i j : ℕ)
    → (i ≡ c → j ≡ k → v ≡ v') → f i j ≡ f' i j
    → put f c (put (f c) k v) i j ≡ put f' c (put (f' c) k v') i j
put2_like f f' c k v v' i j h p = go (i == c) refl
  where
    go : (b : Bool) → (i == c) ≡ b
        → (cond b (put (f c) k v) (f i)) j ≡ (cond b (put (f' c) k v') (f' i)) j
    go true e =
        let at = eqb-true i c e in
        put_like (f c) (f' c) k v v' j (h at) (subst (λ z. f z j ≡ f' z j) at p)
    go false e = p

-- one that is elsewhere changes nothing here
pub put2_keep : {X : Type 0} (f : ℕ → ℕ → X) (c k : ℕ) (v : X) (i j : ℕ) → (i ≡ c → j ≡ k → ⊥)
    → f i j ≡ put f c (put (f c) k v) i j
put2_keep f c k v i j h = go (i == c) refl
  where
    go : (b : Bool) → (i == c) ≡ b → f i j ≡ (cond b (put (f c) k v) (f i)) j
    go true e =
        let at = eqb-true i c e in
        ap (λ z. f z j) at ∙ put_keep (f c) k v j (λ q. absurd (h at q))
    go false e = refl

-- and of a table of those
pub put3_like : {X : Type 0} (f f' : ℕ → ℕ → ℕ → X) (c n k : ℕ) (v v' : X) (i m j : ℕ)
    → (i ≡ c → j ≡ k → v ≡ v') → f i m j ≡ f' i m j
    → put f c (put (f c) n (put (f c n) k v)) i m j ≡ put f' c (put (f' c) n (put (f' c n) k v'))
    i m j
put3_like f f' c n k v v' i m j h p = go (i == c) refl
  where
    go : (b : Bool) → (i == c) ≡ b → (cond b (put (f c) n (put (f c n) k v)) (f i)) m j ≡
        (cond b (put (f' c) n (put (f' c n) k v')) (f' i)) m j
    go true e =
        let at = eqb-true i c e in
        put2_like (f c) (f' c) n k v v' m j (λ q r. h at r) (subst (λ z. f z m j ≡ f' z m j) at p)
    go false e = p

pub put3_keep : {X : Type 0} (f : ℕ → ℕ → ℕ → X) (c n k : ℕ) (v : X) (i m j : ℕ)
    → (i ≡ c → j ≡ k → ⊥) → f i m j ≡ put f c (put (f c) n (put (f c n) k v)) i m j
put3_keep f c n k v i m j h = go (i == c) refl
  where
    go : (b : Bool) → (i == c) ≡ b → f i m j ≡ (cond b (put (f c) n (put (f c n) k v)) (f i)) m j
    go true e =
        let at = eqb-true i c e in
        ap (λ z. f z m j) at ∙ put2_keep (f c) n k v m j (λ q r. h at r)
    go false e = refl

-- a whole object
pub object_like : {X : Type 0} (f f' : ℕ → ℕ → ℕ → X) (c n n' : ℕ) (vs : ℕ → X) (i m j : ℕ)
    → (i ≡ c → n ≡ n') → f i m j ≡ f' i m j
    → put f c (put (f c) n vs) i m j ≡ put f' c (put (f' c) n' vs) i m j
object_like f f' c n n' vs i m j h p = go (i == c) refl
  where
    rows : (n n' : ℕ) → n ≡ n' → f c m j ≡ f' c m j → (b : Bool) → (m == n) ≡ b
        → (cond b vs (f c m)) j ≡ (put (f' c) n vs m) j
    rows n n' e p b q =
        subst (λ b. (cond b vs (f c m)) j ≡ (put (f' c) n vs m) j) q (same_row (m == n))
      where
        same_row : (b : Bool) → (cond b vs (f c m)) j ≡ (cond b vs (f' c m)) j
        same_row true = refl
        same_row false = p

    go : (b : Bool) → (i == c) ≡ b
        → (cond b (put (f c) n vs) (f i)) m j ≡ (cond b (put (f' c) n' vs) (f' i)) m j
    go true e =
        let at = eqb-true i c e in
        subst (λ n'. put (f c) n vs m j ≡ put (f' c) n' vs m j) (h at)
        (rows n n' (h at) (subst (λ z. f z m j ≡ f' z m j) at p) (m == n) refl)
    go false e = p

-- an update of another table changes nothing here
pub object_keep : {X : Type 0} (f : ℕ → ℕ → ℕ → X) (c n : ℕ) (vs : ℕ → X) (i m j : ℕ)
    → (i ≡ c → ⊥) → f i m j ≡ put f c (put (f c) n vs) i m j
object_keep f c n vs i m j h = ap (λ r. r m j) (put_keep f c (put (f c) n vs) i (λ e. absurd (h e)))

-- what holds of the new value and of all others
pub put_all : {X : Type 0} (P : X → Type 0) (f : ℕ → X) (c : ℕ) (v : X) (i : ℕ) → P v
    → ((i : ℕ) → P (f i)) → P (put f c v i)
put_all P f c v i h k = go (i == c)
  where
    go : (b : Bool) → P (cond b v (f i))
    go true = h
    go false = k i
