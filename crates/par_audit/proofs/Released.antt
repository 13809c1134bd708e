-- A join is released where one of its policies is.
use Rattle.std.proofs.Common.{◌≡◌, ℕ, ◌<◌, Bool, true, false, ◌&&◌, ◌||◌, not, List, [], ◌∷◌}
use Rattle.std.proofs.Common.{length}
use Rattle.std.proofs.Common.{get_or, refl, sym, ap, ◌∙◌}
use Rattle.std.specs.Prelude.{IsTrue, nat_eq}
use Rattle.std.specs.List.{list_any}
use Rattle.std.proofs.lemmas.Bool.{or_parts, or_from, or_left, or_right}
use Rattle.par_policy.specs.declared.clauses.Clause.{Clause}
use Rattle.par_policy.specs.Sees.{sees}
use Rattle.par_bits.specs.Sets.{Set}
use Rattle.par_program_laws.specs.Lattice.{joined}
use Rattle.par_audit.specs.Released.{is_released}
use Rattle.par_audit.specs.Rows.{is_one_released}
use Rattle.par_audit.proofs.Joins.{one_of_joined, joined_of_all}

not_asked : (own seen : Bool) → (own && not seen) ≡ false → IsTrue own → IsTrue seen
not_asked true true is held = refl
not_asked true false is held = sym is
not_asked false seen is held = absurd cc

fewer : (own one all : Bool) → (own && not one) ≡ true → (IsTrue all → IsTrue one)
    → (own && not all) ≡ true
fewer true true all is more = absurd cc
fewer true false true is more = more refl
fewer true false false is more = refl
fewer false one all is more = absurd cc

no_more : (own one : Bool) → (IsTrue own → IsTrue one) → (own && not one) ≡ false
no_more true true more = refl
no_more true false more = sym (more refl)
no_more false one more = refl

any_cases : (b c : Bool) → (b || c) ≡ true → (P : Type 0) → (b ≡ true → P) → (c ≡ true → P) → P
any_cases true c is P first later = first refl
any_cases false c is P first later = later is

module _ (table : List (List Clause)) (s : Set) (actor : ℕ) where
  -- one policy of the set is released
  pub where_one : (n : ℕ) → n < length table → IsTrue (s n) → (q : List Clause)
      → is_one_released (get_or table n []) q actor ≡ true → is_released table s q actor ≡ true
  where_one n less held [] is = absurd cc
  where_one n less held (c ∷ cs) is =
      let own = nat_eq c.actor actor in
      let one = sees (get_or table n []) actor c.locks in
      let all = joined table s actor c.locks in
      any_cases (own && not one) (is_one_released (get_or table n []) cs actor) is
      (is_released table s (c ∷ cs) actor ≡ true)
      (λ head. or_left (own && not all) (is_released table s cs actor)
      (fewer own one all head (λ h. one_of_joined table s actor c.locks h n less held)))
      (λ tail. or_right (own && not all) (is_released table s cs actor)
      (where_one n less held cs tail))

  -- none is
  pub where_none : (q : List Clause)
      → ((n : ℕ) → n < length table → IsTrue (s n)
      → is_one_released (get_or table n []) q actor ≡ false)
      → is_released table s q actor ≡ false
  where_none [] none = refl
  where_none (c ∷ cs) none =
      let own = nat_eq c.actor actor in
      or_from (own && not (joined table s actor c.locks)) (is_released table s cs actor)
      (no_more own (joined table s actor c.locks) (λ mine.
      joined_of_all table s actor c.locks (λ n less held.
      let both = or_parts (own && not (sees (get_or table n []) actor c.locks))
      (is_one_released (get_or table n []) cs actor) (none n less held) in
      not_asked own (sees (get_or table n []) actor c.locks) both.0 mine)))
      (where_none cs (λ n less held.
      (or_parts (own && not (sees (get_or table n []) actor c.locks))
      (is_one_released (get_or table n []) cs actor) (none n less held)).1))
