-- A join has each clause that is settled.
use Rattle.std.proofs.Common.{◌≡◌, ℕ, ◌<◌, ◌≤◌, Bool, true, false, not, ◌||◌, ◌&&◌, List, [], ◌∷◌}
use Rattle.std.proofs.Common.{◌++◌, length, get_or, All, Contains}
use Rattle.std.proofs.Common.{refl, sym, ap, subst, ⊎_elim, arith}
use Rattle.std.proofs.Common.{None}
use Rattle.std.specs.Prelude.{IsTrue, nat_eq, nat_le}
use Rattle.std.specs.List.{list_any, list_all}
use Rattle.std.specs.Cmp.{IsEquivalence}
use Rattle.std.proofs.lemmas.Bool.{and_parts, and_from, or_cases, false≢true}
use Rattle.std.proofs.lemmas.Bool.{eqb-true, eq-eqb}
use Rattle.std.proofs.lemmas.Bool.Decides.{nat_tests}
use Rattle.std.proofs.lemmas.List.Elements.{All-nil, All-cons, All-head, All-tail, All-append}
use Rattle.std.proofs.lemmas.List.Folds.{list_any_at}
use Rattle.std.proofs.lemmas.Map.Keys.{IsDistinct-from_apart}
use Rattle.std.proofs.lemmas.Map.Made.{length-le_from_is_member}
use Rattle.par_typed.specs.par_policy.declared.clauses.Clause.{Clause}
use Rattle.par_typed.specs.par_policy.Numbers.{within}
use Rattle.par_typed.specs.par_policy.Sees.{allows, sees}
use Rattle.par_typed.specs.par_policy.Order.{IsBelow}
use Rattle.par_typed.specs.par_policy.Normal.{covers, IsNormal}
use Rattle.par_typed.specs.par_policy.Lattice.{IsJoin}
use Rattle.par_typed.proofs.par_policy.Members.{All-from_within, within-from_All}
use Rattle.par_typed.proofs.par_policy.Seen.{covers_itself, allows_by_cover}
use Rattle.par_typed.proofs.par_policy.Seen.{within-trans, same_tests}
use Rattle.par_resolved.specs.declared.limits.TheConstants.{MOST_CLAUSES, MOST_LOCKS}
use Rattle.par_resolved.specs.Sets.{joined}
use Rattle.par_resolved.specs.Policies.{fits, within_limits}
use Rattle.par_resolved.proofs.Normal.{joined_join}
use Rattle.par_resolved.specs.Settled.{settled, settled_beside}

-- ---- one clause

-- what is not so, or so with more, is so with more where it is so
pub with_more : (a b : Bool) → IsTrue (not a || b) → IsTrue a → IsTrue b
with_more true b h k = h
with_more false b h k = absurd (false≢true k)

pub within_both : (xs ys zs : List ℕ) → IsTrue (within xs zs) → IsTrue (within ys zs)
    → IsTrue (within (xs ++ ys) zs)
within_both xs ys zs h k =
    within-from_All (xs ++ ys) zs
    (All-append (Contains zs) xs ys (All-from_within xs zs h) (All-from_within ys zs k))

beside_within : (q : List Clause) (k c m : Clause) → IsTrue (settled_beside q k c)
    → IsTrue (covers m k) → IsTrue (covers c m) → IsTrue (sees q m.actor m.locks)
    → IsTrue (within k.locks m.locks)
beside_within [] k c m all cover first seen = absurd (false≢true seen)
beside_within (d ∷ q) k c m all cover first seen =
    let parts = and_parts (not (covers d k) || within k.locks (c.locks ++ d.locks))
    (settled_beside q k c) all in
    ⊎_elim
    (λ here.
    within-trans k.locks (c.locks ++ d.locks) m.locks
    (with_more (covers d k) (within k.locks (c.locks ++ d.locks)) parts.0
    (allows_by_cover d m k.actor k.locks here cover))
    (within_both c.locks d.locks m.locks
    (and_parts (nat_eq c.actor m.actor) (within c.locks m.locks) first).1
    (and_parts (nat_eq d.actor m.actor) (within d.locks m.locks) here).1))
    (λ later. beside_within q k c m parts.1 cover first later)
    (or_cases (covers d m) (sees q m.actor m.locks) seen)

-- a settled clause has only locks of each clause that covers it and sees both policies
settled_within : (p q : List Clause) (k m : Clause) → IsTrue (settled p q k) → IsTrue (covers m k)
    → IsTrue (sees p m.actor m.locks) → IsTrue (sees q m.actor m.locks)
    → IsTrue (within k.locks m.locks)
settled_within [] q k m all cover seen other = absurd (false≢true seen)
settled_within (c ∷ p) q k m all cover seen other =
    let parts = and_parts (not (covers c k) || settled_beside q k c) (settled p q k) all in
    ⊎_elim
    (λ here.
    beside_within q k c m
    (with_more (covers c k) (settled_beside q k c) parts.0
    (allows_by_cover c m k.actor k.locks here cover))
    cover here other)
    (λ later. settled_within p q k m parts.1 cover later other)
    (or_cases (covers c m) (sees p m.actor m.locks) seen)

-- ---- clauses that cover each other

abbrev pub alike : Clause → Clause → Bool
alike c d = covers c d && covers d c

alike_parts : (c d : Clause) → IsTrue (alike c d) → IsTrue (covers c d) × IsTrue (covers d c)
alike_parts c d = and_parts (covers c d) (covers d c)

alike_symm : (c d : Clause) → IsTrue (alike c d) → IsTrue (alike d c)
alike_symm c d h =
    let parts = alike_parts c d h in and_from (covers d c) (covers c d) parts.1 parts.0

alike_trans : (c d e : Clause) → IsTrue (alike c d) → IsTrue (alike d e) → IsTrue (alike c e)
alike_trans c d e h k =
    let one = alike_parts c d h in
    let other = alike_parts d e k in
    and_from (covers c e) (covers e c) (allows_by_cover c d e.actor e.locks one.0 other.0)
    (allows_by_cover e d c.actor c.locks other.1 one.1)

alike_is : IsEquivalence alike
alike_is = record {
  refl = λ c. and_from (covers c c) (covers c c) (covers_itself c) (covers_itself c);
  symm = λ c d. same_tests (alike c d) (alike d c) (alike_symm c d) (alike_symm d c);
  congr =
      λ c d e h. same_tests (alike c e) (alike d e) (alike_trans d c e (alike_symm c d h))
      (alike_trans c d e h);
}

-- ---- all of them

any_gives : (f : Clause → Bool) (xs : List Clause) (b : Bool)
    → All (λ x. IsTrue (f x) → IsTrue b) xs → IsTrue (list_any f xs) → IsTrue b
any_gives f [] b all h = absurd (false≢true h)
any_gives f (x ∷ xs) b all h =
    ⊎_elim (All-head (λ y. IsTrue (f y) → IsTrue b) x xs all)
    (any_gives f xs b (All-tail (λ y. IsTrue (f y) → IsTrue b) x xs all))
    (or_cases (f x) (list_any f xs) h)

all_so : (f : Clause → Bool) (xs : List Clause) → IsTrue (list_all f xs)
    → All (λ x. IsTrue (f x)) xs
all_so f [] h = All-nil (λ x. IsTrue (f x))
all_so f (x ∷ xs) h =
    let parts = and_parts (f x) (list_all f xs) h in
    All-cons (λ y. IsTrue (f y)) x xs parts.0 (all_so f xs parts.1)

module _ (join front p q : List Clause) (is : IsJoin join p q) (above : IsBelow p front)
    (other : IsBelow q front) where
  -- a clause that covers a settled one of the front is like it
  like_settled : (k m : Clause) → IsTrue (settled p q k) → IsTrue (sees join m.actor m.locks)
      → IsTrue (covers m k) → IsTrue (alike k m)
  like_settled k m all seen cover =
      let both = and_parts (sees p m.actor m.locks) (sees q m.actor m.locks)
      (subst IsTrue (is m.actor m.locks) seen) in
      let actors = and_parts (nat_eq m.actor k.actor) (within m.locks k.locks) cover in
      and_from (covers k m) (covers m k)
      (and_from (nat_eq k.actor m.actor) (within k.locks m.locks)
      (eq-eqb k.actor m.actor (sym (eqb-true m.actor k.actor actors.0)))
      (settled_within p q k m all cover both.0 both.1))
      cover

  -- the join has a clause like a settled one
  has_settled : (k : Clause) → IsTrue (settled p q k) → IsTrue (sees front k.actor k.locks)
      → (x : Clause) → IsTrue (alike x k) → IsTrue (list_any (alike x) join)
  has_settled k all seen x like =
      any_gives (λ m. covers m k) join (list_any (alike x) join)
      (λ i d inside cover.
      let m = get_or join i d in
      list_any_at (alike x) join i d inside
      (alike_trans x k m like
      (like_settled k m all
      (list_any_at (allows m.actor m.locks) join i d inside (covers_itself m)) cover)))
      (subst IsTrue (sym (is k.actor k.locks))
      (and_from (sees p k.actor k.locks) (sees q k.actor k.locks) (above k.actor k.locks seen)
      (other k.actor k.locks seen)))

  -- the join has at least as many clauses as a front that is settled
  pub settled_many : IsNormal front → IsTrue (list_all (settled p q) front)
      → length front ≤ length join
  settled_many normal all =
      length-le_from_is_member alike_is front join
      (IsDistinct-from_apart alike front (λ i j d below inside.
      ap (λ b. b && covers (get_or front j d) (get_or front i d))
      (normal.minimal i j d below inside).0))
      (λ x among.
      any_gives (alike x) front (list_any (alike x) join)
      (λ i d inside like.
      let k = get_or front i d in
      has_settled k (all_so (settled p q) front all i d inside)
      (list_any_at (allows k.actor k.locks) front i d inside (covers_itself k)) x like)
      among)

-- ---- a join of too many clauses

over_limits : (p : List Clause) → MOST_CLAUSES < length p → fits p ≡ false
over_limits p many = in_case (fits p) refl
  where
    in_case : (b : Bool) → fits p ≡ b → fits p ≡ false
    in_case true is =
        let few = (and_parts (nat_le (length p) MOST_CLAUSES)
        (list_all (λ c. nat_le (length c.locks) MOST_LOCKS) p) is).0 in
        absurd (grind (arith, nat_tests, few, many))
    in_case false is = is

-- a settled front of too many clauses is that of a join of too many
pub front_exceeds : (front p q : List Clause) → IsNormal front → IsBelow p front × IsBelow q front
    → IsTrue (list_all (settled p q) front) → MOST_CLAUSES < length front
    → None ≡ within_limits (joined p q)
front_exceeds front p q normal above all many =
    let is : fits (joined p q) ≡ false =
    over_limits (joined p q)
    (omega (
      arith,
      many,
      settled_many (joined p q) front p q (joined_join p q) above.0 above.1 normal all,
    )) in
    rw is refl
