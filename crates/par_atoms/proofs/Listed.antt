-- The members of a set as a list.
use Rattle.std.proofs.Common.{◌≡◌, ℕ, ◌+◌, ◌<◌, ◌≤◌, Bool, true, false, ◌&&◌, List, [], get_or}
use Rattle.std.proofs.Common.{Contains, sym, ap, ◌∙◌, refl, arith}
use Rattle.std.specs.Prelude.{IsTrue, ◌↔◌, nat_lt}
use Rattle.std.specs.List.{filter, range_with_len}
use Rattle.std.proofs.lemmas.Bool.{and_parts, and_from, ltb-true, lt-ltb, le-ltb}
use Rattle.std.proofs.lemmas.List.Elements.{All-contains, Contains-get_or}
use Rattle.std.proofs.lemmas.List.FromFn.{length-range_with_len, get_or-range_with_len}
use Rattle.std.proofs.lemmas.List.Kept.{AllPairs-filter}
use Rattle.par_policy.specs.declared.clauses.Clause.{Clause}
use Rattle.par_policy.specs.Numbers.{IsAscending}
use Rattle.par_policy.specs.Numbers as numbers
use Rattle.par_policy.specs.Order.{IsBelowAt, IsJoinBelowAt, policies_of}
use Rattle.par_policy.proofs.Seen.{same_tests}
use Rattle.par_policy.proofs.Members.{Contains-from_has, has-from_Contains}
use Rattle.par_policy.proofs.Filtered.{Contains-from_filter, Contains-filter}
use Rattle.par_policy.proofs.Below.{join_below-from_each, each_below-from_join}
use Rattle.par_policy.specs.par_bits.Sets.{has}
use Rattle.par_atoms.specs.Atoms.{members}

Contains-range : (bound n : ℕ) → n < bound → Contains (range_with_len 0 bound) n
Contains-range bound n below =
    let long = length-range_with_len 0 bound in
    let here = get_or-range_with_len 0 bound n n below in
    let zero_and : 0 + n ≡ n = omega arith in (n, omega (arith, long, below), here ∙ zero_and)

below-from_range : (bound n : ℕ) → Contains (range_with_len 0 bound) n → n < bound
below-from_range bound n (k, inside, at) =
    let long = length-range_with_len 0 bound in
    let short : k < bound = omega (arith, long, inside) in
    let here = get_or-range_with_len 0 bound k n short in omega (arith, here, at, short)

ascending_range : (bound : ℕ) → IsAscending (range_with_len 0 bound)
ascending_range bound i j d below inside =
    let long = length-range_with_len 0 bound in
    let short : j < bound = omega (arith, long, inside) in
    let first = get_or-range_with_len 0 bound i d (omega arith) in
    let second = get_or-range_with_len 0 bound j d short in omega (arith, first, second, below)

module _ (bound set : ℕ) where
  abbrev listed : List ℕ
  listed = filter (has set) (range_with_len 0 bound)

  listed_ascend : IsAscending listed
  listed_ascend =
      AllPairs-filter (λ x y. x < y) (has set) (range_with_len 0 bound) (ascending_range bound)

  listed_iff : (n : ℕ) → Contains listed n ↔ ((n < bound) × IsTrue (has set n))
  listed_iff n = (
    λ h. let parts = Contains-from_filter (has set) (range_with_len 0 bound) n h in
        (below-from_range bound n parts.0, parts.1),
    λ h. Contains-filter (has set) (range_with_len 0 bound) n (Contains-range bound n h.0) h.1,
  )

  listed_test : (n : ℕ) → (nat_lt n bound && has set n) ≡ numbers.has listed n
  listed_test n =
      same_tests (nat_lt n bound && has set n) (numbers.has listed n)
      (λ h. let parts = and_parts (nat_lt n bound) (has set n) h in
      has-from_Contains listed n ((listed_iff n).1 (ltb-true n bound parts.0, parts.1)))
      (λ h. let parts = (listed_iff n).0 (Contains-from_has listed n h) in
      and_from (nat_lt n bound) (has set n) (lt-ltb n bound parts.0) parts.1)

  module _ (table : List (List Clause)) (opened : List ℕ) (q : List Clause) where
    abbrev Below : ℕ → Type 0
    Below n = IsBelowAt (get_or table n []) opened q

    each_iff : IsJoinBelowAt (policies_of table listed) opened q
        ↔ ((n : ℕ) → n < bound → IsTrue (has set n) → Below n)
    each_iff = (
      λ h n below member.
          All-contains Below listed n (each_below-from_join
          (λ m. get_or table m []) listed opened q h) ((listed_iff n).1 (below, member)),
      λ h.
          join_below-from_each (λ m. get_or table m []) listed opened q
          (λ k d inside. let parts =
          (listed_iff (get_or listed k d)).0 (Contains-get_or listed k d inside) in
          h (get_or listed k d) parts.0 parts.1),
    )

pub members_iff : (set : ℕ) → IsAscending (members set)
    × ((n : ℕ) → Contains (members set) n ↔ ((n < 256) × IsTrue (has set n)))
unfolding members
members_iff set = (listed_ascend 256 set, listed_iff 256 set)

pub has_members : (set n : ℕ) → (nat_lt n 256 && has set n) ≡ numbers.has (members set) n
unfolding members
has_members set n = listed_test 256 set n

pub join_below_iff : (table : List (List Clause)) (set : ℕ) (opened : List ℕ) (q : List Clause)
    → IsJoinBelowAt (policies_of table (members set)) opened q
    ↔ ((n : ℕ) → n < 256 → IsTrue (has set n) → IsBelowAt (get_or table n []) opened q)
unfolding members
join_below_iff table set opened q = each_iff 256 set table opened q

pub has_below : (set n : ℕ) → n < 256 → has set n ≡ numbers.has (members set) n
has_below set n below = sym (ap (λ b. b && has set n) (lt-ltb n 256 below)) ∙ has_members set n

pub has_not_above : (set n : ℕ) → 256 ≤ n → false ≡ numbers.has (members set) n
has_not_above set n above = sym (ap (λ b. b && has set n) (le-ltb n 256 above)) ∙ has_members set n

and_false : (a : Bool) → (a && false) ≡ false
and_false true = refl
and_false false = refl

-- a set without numbers above is that of its members
pub has_listed : (set : ℕ) → ((n : ℕ) → IsTrue (has set n) → n < 256) → (n : ℕ)
    → has set n ≡ numbers.has (members set) n
has_listed set small n = by_test (has set n) refl
  where
    by_test : (b : Bool) → has set n ≡ b → has set n ≡ numbers.has (members set) n
    by_test true h = has_below set n (small n h)
    by_test false h =
        h ∙ sym (and_false (nat_lt n 256)) ∙ ap (λ b. nat_lt n 256 && b) (sym h)
        ∙ has_members set n
