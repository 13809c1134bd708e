-- A join, policy by policy.
use Rattle.std.proofs.Common.{◌≡◌, ℕ, zero, suc, ◌<◌, Bool, true, false, ◌||◌, not, List, []}
use Rattle.std.proofs.Common.{◌∷◌, refl, subst, arith, length}
use Rattle.std.specs.Prelude.{IsTrue, slice_index_or}
use Rattle.std.proofs.lemmas.Bool.{and_parts, and_from}
use Rattle.par_policy.specs.declared.clauses.Clause.{Clause}
use Rattle.par_policy.specs.Sees.{sees}
use Rattle.par_bits.specs.Sets.{Set}
use Rattle.par_program_laws.specs.Lattice.{joined}

pub one_of_joined : (table : List (List Clause)) (s : Set) (actor : ℕ) (locks : List ℕ)
    → IsTrue (joined table s actor locks)
    → (n : ℕ) → n < length table → IsTrue (s n)
    → IsTrue (sees (slice_index_or table n []) actor locks)
unfolding joined
one_of_joined [] s actor locks h n less held = absurd (omega (arith, less))
one_of_joined (p ∷ ps) s actor locks h zero less held =
    let parts = and_parts (not (s 0) || sees p actor locks) (joined ps (λ n. s (suc n)) actor locks)
    h in
    subst (λ b. IsTrue (not b || sees p actor locks)) held parts.0
one_of_joined (p ∷ ps) s actor locks h (suc n) less held =
    let parts = and_parts (not (s 0) || sees p actor locks) (joined ps (λ n. s (suc n)) actor locks)
    h in
    one_of_joined ps (λ n. s (suc n)) actor locks parts.1 n (omega (arith, less)) held

where_held : (b c : Bool) → (IsTrue b → IsTrue c) → IsTrue (not b || c)
where_held true c f = f refl
where_held false c f = refl

pub joined_of_all : (table : List (List Clause)) (s : Set) (actor : ℕ) (locks : List ℕ)
    → ((n : ℕ) → n < length table → IsTrue (s n)
    → IsTrue (sees (slice_index_or table n []) actor locks))
    → IsTrue (joined table s actor locks)
unfolding joined
joined_of_all [] s actor locks f = refl
joined_of_all (p ∷ ps) s actor locks f =
    and_from (not (s 0) || sees p actor locks) (joined ps (λ n. s (suc n)) actor locks)
    (where_held (s 0) (sees p actor locks) (λ held. f 0 (omega arith) held))
    (joined_of_all ps (λ n. s (suc n)) actor locks
    (λ n less held. f (suc n) (omega (arith, less)) held))

pub false_from : (b : Bool) → (IsTrue b → ⊥) → false ≡ b
false_from true f = absurd (f refl)
false_from false f = refl
