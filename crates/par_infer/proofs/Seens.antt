-- Joins of policies in a list.
use Rattle.std.proofs.Common.{◌≡◌, ℕ, zero, suc, ◌<◌, Bool, true, false, cond, ◌||◌, ◌&&◌, not}
use Rattle.std.proofs.Common.{List}
use Rattle.std.proofs.Common.{[], ◌∷◌, refl, ap, sym, subst, eq-eqb, arith, length}
use Rattle.std.specs.Prelude.{IsTrue, slice_get}
use Rattle.std.proofs.lemmas.Bool.{eqb-true}
use Rattle.par_policy.specs.declared.clauses.Clause.{Clause}
use Rattle.par_policy.specs.Sees.{sees}
use Rattle.par_policy.proofs.Seen.{sees_more}
use Rattle.par_bits.specs.Sets.{Set, IsWithin, none, adding}
use Rattle.par_program_laws.specs.Lattice.{Seen, IsSeenBelow, joined, seen_by}
use Rattle.std.proofs.lemmas.Bool.{and_from}
use Rattle.par_pass_laws.proofs.Instances.{in_both_l, in_both_r}
use Rattle.par_pass_laws.specs.Seens.{given_of, join_of, plain}
use Rattle.par_infer.specs.Seens.{IsPolicy, filled}

where_had : (b c d : Bool) → (IsTrue c → IsTrue d) → IsTrue (not b || c) → IsTrue (not b || d)
where_had false c d f h = refl
where_had true c d f h = f h

where_in : (b c : Bool) → (IsTrue b → IsTrue c) → IsTrue (not b || c)
where_in true c g = g refl
where_in false c g = refl

where_out : (b c : Bool) → IsTrue (not b || c) → IsTrue b → IsTrue c
where_out true c h k = h
where_out false c h k = cc

-- who sees a join sees each of its policies
pub join_member : (ps : List Seen) (s : Set) (n : ℕ) → IsTrue (s n) → (actor : ℕ) (locks : List ℕ)
    → IsTrue (join_of ps s actor locks) → IsTrue (given_of ps n actor locks)
join_member [] s n e actor locks h = refl
join_member (p ∷ ps) s zero e actor locks h =
    where_out (s 0) (p actor locks) (in_both_l (not (s 0) || p actor locks) _ h) e
join_member (p ∷ ps) s (suc n) e actor locks h =
    join_member ps (λ m. s (suc m)) n e actor locks (in_both_r (not (s 0) || p actor locks) _ h)

-- where each policy of a set is below, their join is
pub join_below : (ps : List Seen) (s : Set) (q : Seen)
    → ((n : ℕ) → IsTrue (s n) → IsSeenBelow (given_of ps n) q) → IsSeenBelow (join_of ps s) q
join_below [] s q f actor locks h = refl
join_below (p ∷ ps) s q f actor locks h =
    and_from (not (s 0) || p actor locks) (join_of ps (λ n. s (suc n)) actor locks)
    (where_in (s 0) (p actor locks) (λ e. f 0 e actor locks h))
    (join_below ps (λ n. s (suc n)) q (λ n. f (suc n)) actor locks h)

pub member_below : (ps : List Seen) (s : Set) (n : ℕ) → IsTrue (s n)
    → IsSeenBelow (given_of ps n) (join_of ps s)
member_below ps s n e actor locks h = join_member ps s n e actor locks h

pub join_order : (ps : List Seen) (s t : Set) → IsWithin s t
    → IsSeenBelow (join_of ps s) (join_of ps t)
join_order ps s t f = join_below ps s (join_of ps t) (λ n e. member_below ps t n (f n e))

pub join_given : (ps : List Seen) (n : ℕ) → IsSeenBelow (given_of ps n) (join_of ps (adding none n))
join_given ps n = member_below ps (adding none n) n (eq-eqb n n refl)

pub given_join : (ps : List Seen) (n : ℕ) → IsSeenBelow (join_of ps (adding none n)) (given_of ps n)
given_join ps n =
    join_below ps (adding none n) (given_of ps n) (λ m e.
    subst (λ k. IsSeenBelow (given_of ps k) (given_of ps n)) (sym (eqb-true m n e))
    (λ actor locks h. h))

-- policies are seen with more locks, and so is their join
pub join_more : (ps : List Seen) → ((n : ℕ) → IsPolicy (given_of ps n)) → (s : Set)
    → IsPolicy (join_of ps s)
join_more ps f s actor few more w h = go ps f s h where
  go : (ps : List Seen) → ((n : ℕ) → IsPolicy (given_of ps n)) → (s : Set)
      → IsTrue (join_of ps s actor few) → IsTrue (join_of ps s actor more)
  go [] f s h = refl
  go (p ∷ ps) f s h =
      and_from (not (s 0) || p actor more) (join_of ps (λ n. s (suc n)) actor more)
      (where_had (s 0) (p actor few) (p actor more) (f 0 actor few more w)
      (in_both_l (not (s 0) || p actor few) _ h))
      (go ps (λ n. f (suc n)) (λ n. s (suc n)) (in_both_r (not (s 0) || p actor few) _ h))

-- ---- the policies of a table

pub plain_join : (ps : List (List Clause)) (s : Set) (actor : ℕ) (locks : List ℕ)
    → join_of (plain ps) s actor locks ≡ joined ps s actor locks
unfolding joined
plain_join [] s actor locks = refl
plain_join (p ∷ ps) s actor locks =
    ap (λ b. (not (s 0) || sees p actor locks) && b) (plain_join ps (λ n. s (suc n)) actor locks)

pub plain_given : (ps : List (List Clause)) (n : ℕ) (actor : ℕ) (locks : List ℕ)
    → given_of (plain ps) n actor locks ≡ seen_by (slice_get ps n) actor locks
plain_given [] n actor locks = refl
plain_given (p ∷ ps) zero actor locks = refl
plain_given (p ∷ ps) (suc n) actor locks = plain_given ps n actor locks

pub plain_policy : (ps : List (List Clause)) (n : ℕ) → IsPolicy (given_of (plain ps) n)
plain_policy [] n actor few more w h = refl
plain_policy (p ∷ ps) zero actor few more w h = sees_more p actor few more w h
plain_policy (p ∷ ps) (suc n) actor few more w h = plain_policy ps n actor few more w h

-- ---- with a filling in place

pub filled_inside : (ps : List (List Clause)) (is : Set) (φ : ℕ → Seen) (n : ℕ) → IsTrue (is n)
    → n < length ps → given_of (filled is φ ps) n ≡ φ n
filled_inside [] is φ n e h = absurd (omega (arith, h))
filled_inside (p ∷ ps) is φ zero e h = cond_true (is 0) e where
  cond_true : (b : Bool) → IsTrue b
      → (let pick : Seen = λ actor locks. cond b (φ 0) (sees p) actor locks in pick ≡ φ 0)
  cond_true true e = refl
  cond_true false e = cc
filled_inside (p ∷ ps) is φ (suc n) e h =
    filled_inside ps (λ n. is (suc n)) (λ n. φ (suc n)) n e (omega (arith, h))

pub filled_outside : (ps : List (List Clause)) (is : Set) (φ : ℕ → Seen) (n : ℕ) → is n ≡ false
    → given_of (filled is φ ps) n ≡ given_of (plain ps) n
filled_outside [] is φ n e = refl
filled_outside (p ∷ ps) is φ zero e = cond_false (is 0) e where
  cond_false : (b : Bool) → b ≡ false
      → (let pick : Seen = λ actor locks. cond b (φ 0) (sees p) actor locks in
      let own : Seen = λ actor locks. sees p actor locks in pick ≡ own)
  cond_false true e = cc
  cond_false false e = refl
filled_outside (p ∷ ps) is φ (suc n) e =
    filled_outside ps (λ n. is (suc n)) (λ n. φ (suc n)) n e
