-- What is told of a set stands for its join.
use Rattle.std.proofs.Common.{◌≡◌, ℕ, zero, suc, ◌<◌, ◌≤◌, ◌↔◌, Bool, true, false, List, []}
use Rattle.std.proofs.Common.{◌∷◌, Some, length, get_or, refl, sym, subst, arith}
use Rattle.std.specs.Prelude.{IsTrue, nat_lt, slice_get}
use Rattle.std.proofs.lemmas.Bool.{and_parts, and_from, ltb-true}
use Rattle.std.proofs.lemmas.Option.{slice_get-get_or}
use Rattle.std.proofs.Math.Path.{fun_ext}
use Rattle.par_policy.specs.declared.clauses.Clause.{Clause}
use Rattle.par_policy.proofs.Below.{below_iff}
use Rattle.par_policy.proofs.Seen.{same_tests}
use Rattle.par_bits.specs.Sets.{Set}
use Rattle.par_typed.specs.declared.table.Table.{Table}
use Rattle.par_program_laws.specs.Lattice.{IsSeenBelow, joined, seen_by}
use Rattle.par_pass_laws.specs.Seens.{given_of, join_of, plain}
use Rattle.par_program_laws.specs.WellDeclared.{IsWellDeclared}
use Rattle.par_program_laws.specs.Inferred.{inferred}
use Rattle.par_infer.specs.Printed.{Orders}
use Rattle.par_infer.proofs.Printed.{highest_stand}
use Rattle.par_infer.proofs.Seens.{join_below, join_member, join_order, plain_join}
use Rattle.par_told.specs.Told.{is_below, having, none_above, told}
use Rattle.par_told.proofs.Shared.{one_number, not_below}

-- ---- numbers without a policy stand for nothing

beyond : (ps : List (List Clause)) (n : ℕ) → length ps ≤ n → (actor : ℕ) (locks : List ℕ)
    → IsTrue (given_of (plain ps) n actor locks)
beyond [] n h actor locks = refl
beyond (p ∷ ps) zero h actor locks = absurd (omega (arith, h))
beyond (p ∷ ps) (suc n) h actor locks = beyond ps n (omega (arith, h)) actor locks

module _ (ps : List (List Clause)) where
  turned : (s t : Set) → IsSeenBelow (join_of (plain ps) s) (join_of (plain ps) t)
      → IsSeenBelow (joined ps s) (joined ps t)
  turned s t f actor locks h =
      subst (λ b. IsTrue b) (plain_join ps s actor locks)
      (f actor locks (subst (λ b. IsTrue b) (sym (plain_join ps t actor locks)) h))

  having_lower : (s : Set) → IsSeenBelow (joined ps s) (joined ps (having ps s))
  having_lower s =
      turned s (having ps s) (join_below (plain ps) s (join_of (plain ps) (having ps s))
      (λ n h actor locks seen. in_case n h actor locks seen (nat_lt n (length ps)) refl)) where
        in_case : (n : ℕ) → IsTrue (s n) → (actor : ℕ) (locks : List ℕ)
            → IsTrue (join_of (plain ps) (having ps s) actor locks)
            → (b : Bool) → nat_lt n (length ps) ≡ b
            → IsTrue (given_of (plain ps) n actor locks)
        in_case n h actor locks seen true e =
            join_member (plain ps) (having ps s) n (and_from (s n) (nat_lt n (length ps)) h e)
            actor locks seen
        in_case n h actor locks seen false e =
            beyond ps n (not_below n (length ps) e) actor locks

  having_upper : (s : Set) → IsSeenBelow (joined ps (having ps s)) (joined ps s)
  having_upper s =
      turned (having ps s) s (join_order (plain ps) (having ps s) s (λ n h. (and_parts _ _ h).0))

  inside : (s : Set) (n : ℕ) → IsTrue (having ps s n) → n < length ps
  inside s n h = ltb-true n (length ps) (and_parts (s n) (nat_lt n (length ps)) h).1

  -- ---- the test tells the order

  exact_so : (m n : ℕ) → m < length ps → n < length ps
      → IsTrue (is_below ps m n)
      ↔ IsSeenBelow (seen_by (slice_get ps m)) (seen_by (slice_get ps n))
  exact_so m n im in_n =
      subst (λ o. IsTrue (is_below ps m n)
      ↔ IsSeenBelow (seen_by o) (seen_by (slice_get ps n))) (sym (slice_get-get_or ps m [] im))
      (subst (λ o. IsTrue (is_below ps m n)
      ↔ IsSeenBelow (seen_by (Some (get_or ps m []))) (seen_by o))
      (sym (slice_get-get_or ps n [] in_n)) (below_iff (get_or ps m []) (get_or ps n [])))

-- ---- what is told

pub told_member : (ps : List (List Clause)) (s : Set) (n : ℕ) → IsTrue (told ps s n)
    → IsTrue (s n)
unfolding told
told_member ps s n h = (and_parts _ _ (and_parts _ _ h).0).0

module _ (table : Table) (declared : IsWellDeclared table) (few : length table.policies ≤ 256)
    (s : Set) (known : (n : ℕ) → IsTrue (s n) → inferred table n ≡ false) where
  abbrev ps : List (List Clause)
  ps = table.policies

  known_in : (n : ℕ) → IsTrue (having ps s n) → inferred table n ≡ false
  known_in n h = known n (and_parts (s n) (nat_lt n (length ps)) h).0

  orders : Orders ps (having ps s) (is_below ps)
  orders = record {
    few = λ n h. let l = inside ps s n h in omega (arith, l, few);
    exact = λ m n hm hn. exact_so ps m n (inside ps s m hm) (inside ps s n hn);
    different =
        λ m n hm hn below above. one_number table declared.policies m n (inside ps s m hm)
        (inside ps s n hn) (known_in m hm) (known_in n hn)
        ((below_iff (get_or ps m []) (get_or ps n [])).0 below)
        ((below_iff (get_or ps n []) (get_or ps m [])).0 above);
  }

  -- the same see both joins
  pub told_stands : joined ps s ≡ joined ps (told ps s)
  unfolding told none_above
  told_stands =
      let both = highest_stand ps (having ps s) (is_below ps) orders in
      fun_ext (λ actor. fun_ext (λ locks. same_tests (joined ps s actor locks)
      (joined ps (told ps s) actor locks)
      (λ h. both.1 actor locks (having_upper ps s actor locks h))
      (λ h. having_lower ps s actor locks (both.0 actor locks h))))
