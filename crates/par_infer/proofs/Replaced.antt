-- Sets with inferred numbers replaced stand for the joins that the sets stand for with the filling.
use Rattle.std.proofs.Common.{◌≡◌, ℕ, zero, suc, ◌<◌, Bool, true, false, cond, ◌||◌, ◌&&◌, not}
use Rattle.std.proofs.Common.{Option, Some, None, List, refl, sym, subst, ap, ◌∙◌}
use Rattle.std.proofs.Common.{eq-eqb, arith, length}
use Rattle.std.specs.Prelude.{IsTrue, nat_eq, map, slice_get}
use Rattle.std.proofs.lemmas.Bool.{eqb-true, and_parts, and_from, or_left, or_right}
use Rattle.par_policy.specs.declared.clauses.Clause.{Clause}
use Rattle.par_bits.specs.Sets.{Set, union}
use Rattle.par_program_laws.specs.Lattice.{Seen, numbers, IsSeenBelow, joined, seen_by}
use Rattle.par_program_laws.specs.Ways.{Way}
use Rattle.par_program_laws.specs.Facts.{Facts}
use Rattle.par_program_laws.specs.Rules.{way, Holds}
use Rattle.par_check.specs.par_check_laws.Asked.{Condition, Open, Released, Worth, Joined}
use Rattle.par_check.specs.par_check_laws.Asked.{Context}
use Rattle.par_check.specs.par_check_laws.Asked.{Effect, Among}
use Rattle.par_check.specs.par_check_laws.Asked.{Never, Check}
use Rattle.par_pass_laws.specs.Seens.{given_of, join_of, plain}
use Rattle.par_infer.specs.Seens.{filled}
use Rattle.par_check.specs.par_check_laws.Keeps.{Satisfies, Keeps}
use Rattle.par_infer.specs.Keeps.{unopened, strict, limit}
use Rattle.par_infer.specs.Bounds.{any_below, replaced}
use Rattle.par_infer.specs.Laws.{is_in}
use Rattle.par_pass_laws.proofs.Instances.{in_either}
use Rattle.par_infer.proofs.Choices.{by_cases, not_true, true_not}
use Rattle.par_infer.proofs.Seens.{join_below, join_member, member_below, plain_join}
use Rattle.par_infer.proofs.Seens.{plain_given, filled_inside, filled_outside}

pub clash : false ≡ true → ⊥
clash e = cc

below : (i k : ℕ) → i < suc k → nat_eq i k ≡ false → i < k
below i k h s = apart (λ q. clash (sym s ∙ eq-eqb i k q)) where
  apart : (i ≡ k → ⊥) → i < k
  apart n = omega (arith, h, n)

pub any_in : (k : ℕ) (p : Set) (i : ℕ) → i < k → IsTrue (p i) → IsTrue (any_below k p)
any_in zero p i h e = absurd (omega (arith, h))
any_in (suc k) p i h e =
    by_cases (nat_eq i k) (IsTrue (p k || any_below k p))
    (λ s. or_left _ _ (subst (λ j. IsTrue (p j)) (eqb-true i k s) e))
    (λ s. or_right _ _ (any_in k p i (below i k h s) e))

pub in_any : (k : ℕ) (p : Set) (C : Type 0) → ((i : ℕ) → IsTrue (p i) → C)
    → IsTrue (any_below k p) → C
in_any zero p C g h = cc
in_any (suc k) p C g h = in_either (p k) (any_below k p) C (g k) (in_any k p C g) h

module _ (is : Set) (σ : ℕ → Set) (s : Set) where
  pub replaced_plain : (n : ℕ) → IsTrue (s n) → is n ≡ false → IsTrue (replaced is σ s n)
  replaced_plain n h e = or_left _ _ (and_from _ _ h (not_true (is n) e))

  pub replaced_by : (i n : ℕ) → IsTrue (s i) → IsTrue (is i) → i < 256 → IsTrue (σ i n)
      → IsTrue (replaced is σ s n)
  replaced_by i n h e l m =
      or_right _ _
      (any_in 256 (λ i. (s i && is i) && σ i n) i l (and_from _ _ (and_from _ _ h e) m))

  pub in_replaced : (n : ℕ) (C : Type 0) → (IsTrue (s n) → is n ≡ false → C)
      → ((i : ℕ) → IsTrue (s i) → IsTrue (is i) → IsTrue (σ i n) → C)
      → IsTrue (replaced is σ s n) → C
  in_replaced n C f g h =
      in_either (s n && not (is n)) (any_below 256 (λ i. (s i && is i) && σ i n)) C
      (λ e. let p = and_parts _ _ e in f p.0 (true_not (is n) p.1))
      (in_any 256 (λ i. (s i && is i) && σ i n) C
      (λ i k. let p = and_parts _ _ k in let q = and_parts _ _ p.0 in g i q.0 q.1 p.1)) h

module _ (ps : List (List Clause)) (is : Set) (σ : ℕ → Set)
    (ranges : (i : ℕ) → IsTrue (is i) → i < length ps) (few : (i : ℕ) → IsTrue (is i) → i < 256)
  where
    -- what the sets stand for, in place of the inferred policies
    abbrev pub placed : List Seen
    placed = filled is (λ i. joined ps (σ i)) ps

    pub placed_in : (i : ℕ) → IsTrue (is i) → given_of placed i ≡ joined ps (σ i)
    placed_in i e = filled_inside ps is (λ i. joined ps (σ i)) i e (ranges i e)

    pub placed_out : (n : ℕ) → is n ≡ false → given_of placed n ≡ given_of (plain ps) n
    placed_out n e = filled_outside ps is (λ i. joined ps (σ i)) n e

    -- a policy of a set is below the policy of an inferred number that has the set
    pub set_member : (i n : ℕ) → IsTrue (is i) → IsTrue (σ i n)
        → IsSeenBelow (given_of (plain ps) n) (given_of placed i)
    set_member i n e m actor locks h =
        join_member (plain ps) (σ i) n m actor locks
        (subst (λ b. IsTrue b) (sym (plain_join ps (σ i) actor locks))
        (subst (λ (q : Seen). IsTrue (q actor locks)) (placed_in i e) h))

    -- and an inferred policy is below whatever all policies of its set are
    pub set_below : (i : ℕ) (q : Seen) → IsTrue (is i)
        → ((n : ℕ) → IsTrue (σ i n) → IsSeenBelow (given_of (plain ps) n) q)
        → IsSeenBelow (given_of placed i) q
    set_below i q e f actor locks h =
        subst (λ (q : Seen). IsTrue (q actor locks)) (sym (placed_in i e))
        (subst (λ b. IsTrue b) (plain_join ps (σ i) actor locks)
        (join_below (plain ps) (σ i) q f actor locks h))

    pub replaced_lower : (s : Set) → IsSeenBelow (joined ps (replaced is σ s)) (join_of placed s)
    replaced_lower s actor locks h =
        subst (λ b. IsTrue b) (plain_join ps (replaced is σ s) actor locks)
        (join_below (plain ps) (replaced is σ s) (join_of placed s) (λ n k.
        in_replaced is σ s n (IsSeenBelow (given_of (plain ps) n) (join_of placed s))
        (λ e o actor locks h. subst (λ (q : Seen). IsTrue (q actor locks)) (placed_out n o)
        (join_member placed s n e actor locks h))
        (λ i e d m actor locks h. set_member i n d m actor locks
        (join_member placed s i e actor locks h))
        k) actor locks h)

    pub replaced_upper : (s : Set) → IsSeenBelow (join_of placed s) (joined ps (replaced is σ s))
    replaced_upper s actor locks h =
        join_below placed s (join_of (plain ps) (replaced is σ s)) (λ n k.
        by_cases (is n) (IsSeenBelow (given_of placed n) (join_of (plain ps) (replaced is σ s)))
        (λ e. set_below n (join_of (plain ps) (replaced is σ s)) e (λ m j.
        member_below (plain ps) (replaced is σ s) m (replaced_by is σ s n m k e (few n e) j)))
        (λ e actor locks h. subst (λ (q : Seen). IsTrue (q actor locks)) (sym (placed_out n e))
        (join_member (plain ps) (replaced is σ s) n (replaced_plain is σ s n k e) actor locks h)))
        actor locks (subst (λ b. IsTrue b) (sym (plain_join ps (replaced is σ s) actor locks)) h)

-- rules whose limit is no inferred field
module _ (ps : List (List Clause)) (is : Set) (ψ : ℕ → Seen) (r : Set → Set) (f : Facts numbers)
  where
    abbrev qs : List Seen
    qs = filled is ψ ps

    out : (n : ℕ) → is n ≡ false → (actor : ℕ) (locks : List ℕ)
        → given_of qs n actor locks ≡ seen_by (slice_get ps n) actor locks
    out n e actor locks =
        ap (λ (q : Seen). q actor locks) (filled_outside ps is ψ n e) ∙ plain_given ps n actor locks

    to_plain : (n : ℕ) → is n ≡ false → (actor : ℕ) (locks : List ℕ)
        → IsTrue (given_of qs n actor locks) → IsTrue (seen_by (slice_get ps n) actor locks)
    to_plain n e actor locks h = subst (λ b. IsTrue b) (out n e actor locks) h

    of_plain : (n : ℕ) → is n ≡ false → (actor : ℕ) (locks : List ℕ)
        → IsTrue (seen_by (slice_get ps n) actor locks) → IsTrue (given_of qs n actor locks)
    of_plain n e actor locks h = subst (λ b. IsTrue b) (sym (out n e actor locks)) h

    abbrev Old : Way numbers → Condition → Type 0
    Old w c = Satisfies numbers (λ s. joined ps (r s)) (λ n. seen_by (slice_get ps n)) f w c

    abbrev New : Way numbers → Condition → Type 0
    New w c = Satisfies numbers (join_of qs) (given_of qs) f w c

    abbrev HasPlainEffect : Condition → Type 0
    HasPlainEffect c = (e p : ℕ) → c ≡ Effect e p → is e ≡ false

    open_out : (v p : ℕ) → is p ≡ false → unopened is (Released v p) ≡ Released v p
    open_out v p e = pick (is p) e where
      pick : (b : Bool) → b ≡ false → cond b (Worth v p) (Released v p) ≡ Released v p
      pick true e = cc
      pick false e = refl

    module _ (upper : (s : Set) → IsSeenBelow (join_of qs s) (joined ps (r s))) where
      new_satisfied : (w : Way numbers) (c : Condition) → is_in is (limit c) ≡ false
          → HasPlainEffect c → Old w c → New w (unopened is c)
      new_satisfied w (Open locks) e d k = k
      new_satisfied w (Released v p) e d k =
          subst (New w) (sym (open_out v p e)) (λ actor locks h.
          upper (f v).value actor _ (k actor locks (to_plain p e actor locks h)))
      new_satisfied w (Worth v p) e d k =
          λ actor locks h. upper (f v).value actor locks
          (k actor locks (to_plain p e actor locks h))
      new_satisfied w (Joined v p) e d k =
          λ actor locks h. upper (union (f v).value w.context) actor locks
          (k actor locks (to_plain p e actor locks h))
      new_satisfied w (Context p) e d k =
          λ actor locks h. upper w.context actor locks (k actor locks (to_plain p e actor locks h))
      new_satisfied w (Effect g p) e d k =
          λ actor locks h. of_plain g (d g p refl) actor locks
          (k actor locks (to_plain p e actor locks h))
      new_satisfied w (Among locks those) e d k = k
      new_satisfied w Never e d k = k

      new_holds : (o : Option (Way numbers)) (c : Condition) → is_in is (limit c) ≡ false
          → HasPlainEffect c → Holds numbers o (λ w. Old w c)
          → Holds numbers o (λ w. New w (unopened is c))
      new_holds None c e d k = tt
      new_holds (Some w) c e d k = new_satisfied w c e d k

      pub new_kept : (c : Check) → is_in is (limit c.condition) ≡ false → HasPlainEffect c.condition
          → Keeps numbers (λ s. joined ps (r s)) (λ n. seen_by (slice_get ps n)) f c
          → Keeps numbers (join_of qs) (given_of qs) f (strict is c)
      new_kept c e d k =
          new_holds (way numbers (f c.spot.point).entry (map f c.spot.parts) c.spot.from)
          c.condition
          e d k

    module _ (lower : (s : Set) → IsSeenBelow (joined ps (r s)) (join_of qs s)) where
      old_satisfied : (w : Way numbers) (c : Condition) → is_in is (limit c) ≡ false
          → HasPlainEffect c → New w (unopened is c) → Old w c
      old_satisfied w (Open locks) e d k = k
      old_satisfied w (Released v p) e d k = λ actor locks h.
          let k : New w (Released v p) = subst (New w) (open_out v p e) k in
          lower (f v).value actor _ (k actor locks (of_plain p e actor locks h))
      old_satisfied w (Worth v p) e d k =
          λ actor locks h. lower (f v).value actor locks
          (k actor locks (of_plain p e actor locks h))
      old_satisfied w (Joined v p) e d k =
          λ actor locks h. lower (union (f v).value w.context) actor locks
          (k actor locks (of_plain p e actor locks h))
      old_satisfied w (Context p) e d k =
          λ actor locks h. lower w.context actor locks (k actor locks (of_plain p e actor locks h))
      old_satisfied w (Effect g p) e d k =
          λ actor locks h. to_plain g (d g p refl) actor locks
          (k actor locks (of_plain p e actor locks h))
      old_satisfied w (Among locks those) e d k = k
      old_satisfied w Never e d k = k

      old_holds : (o : Option (Way numbers)) (c : Condition) → is_in is (limit c) ≡ false
          → HasPlainEffect c → Holds numbers o (λ w. New w (unopened is c))
          → Holds numbers o (λ w. Old w c)
      old_holds None c e d k = tt
      old_holds (Some w) c e d k = old_satisfied w c e d k

      pub old_kept : (c : Check) → is_in is (limit c.condition) ≡ false → HasPlainEffect c.condition
          → Keeps numbers (join_of qs) (given_of qs) f (strict is c)
          → Keeps numbers (λ s. joined ps (r s)) (λ n. seen_by (slice_get ps n)) f c
      old_kept c e d k =
          old_holds (way numbers (f c.spot.point).entry (map f c.spot.parts) c.spot.from)
          c.condition
          e d k
