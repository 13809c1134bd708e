-- A nearest clause stands for all clauses of its policy.
use Rattle.std.proofs.Common.{◌≡◌, ℕ, ◌+◌, ◌<◌, Bool, true, false, ◌||◌, ◌&&◌, List, [], ◌∷◌}
use Rattle.std.proofs.Common.{◌++◌, take, get_or, length, Contains, refl, sym, ap, subst, ◌∙◌}
use Rattle.std.proofs.Common.{⊎_elim}
use Rattle.std.specs.Prelude.{IsTrue, nat_eq}
use Rattle.std.specs.List.{list_all}
use Rattle.std.proofs.lemmas.Bool.{and_parts, and_from, or_cases, false≢true}
use Rattle.std.proofs.lemmas.Bool.{eqb-true, eq-eqb}
use Rattle.std.proofs.lemmas.List.{take_more}
use Rattle.std.proofs.lemmas.List.Folds.{list_any_at}
use Rattle.par_typed.specs.par_policy.declared.clauses.Clause.{Clause}
use Rattle.par_typed.specs.par_policy.Numbers.{within}
use Rattle.par_typed.specs.par_policy.Sees.{allows, sees, IsSeenAlike}
use Rattle.par_typed.specs.par_policy.Lattice.{IsJoin, AllowsBoth}
use Rattle.par_typed.specs.par_policy.Normal.{IsNormal}
use Rattle.par_typed.proofs.par_policy.Seen.{within-trans, same_tests}
use Rattle.par_typed.proofs.par_policy.Kept.{sees_push}
use Rattle.par_resolved.specs.Sets.{joined}
use Rattle.par_resolved.specs.Nearest.{is_near, IsNearest}
use Rattle.par_resolved.proofs.Normal.{one_join}
use Rattle.par_resolved.proofs.Stays.{with_more, within_both}

-- whom the clause allows and who sees the policy is allowed by what adds the least
near_allows : (q : List Clause) (c near : Clause) (actor : ℕ) (locks : List ℕ)
    → c.actor ≡ near.actor → IsTrue (list_all (is_near c near) q)
    → IsTrue (allows actor locks c) → IsTrue (sees q actor locks)
    → IsTrue (allows actor locks near)
near_allows [] c near actor locks same all first seen = absurd (false≢true seen)
near_allows (d ∷ q) c near actor locks same all first seen =
    let parts = and_parts (is_near c near d) (list_all (is_near c near) q) all in
    let one = and_parts (nat_eq c.actor actor) (within c.locks locks) first in
    ⊎_elim
    (λ here.
    let other = and_parts (nat_eq d.actor actor) (within d.locks locks) here in
    let alike : IsTrue (nat_eq d.actor c.actor) =
    eq-eqb d.actor c.actor (eqb-true d.actor actor other.0 ∙ sym (eqb-true c.actor actor one.0)) in
    and_from (nat_eq near.actor actor) (within near.locks locks)
    (eq-eqb near.actor actor (sym same ∙ eqb-true c.actor actor one.0))
    (within-trans near.locks (c.locks ++ d.locks) locks
    (with_more (nat_eq d.actor c.actor) (within near.locks (c.locks ++ d.locks)) parts.0 alike)
    (within_both c.locks d.locks locks one.1 other.1)))
    (λ later. near_allows q c near actor locks same parts.1 first later)
    (or_cases (allows actor locks d) (sees q actor locks) seen)

-- who is allowed by one of the clauses sees them
member_sees : (q : List Clause) (near : Clause) (actor : ℕ) (locks : List ℕ) → Contains q near
    → IsTrue (allows actor locks near) → IsTrue (sees q actor locks)
member_sees q near actor locks among h =
    list_any_at (allows actor locks) q among.0 near among.1
    (subst (λ d. IsTrue (allows actor locks d)) (sym among.2) h)

-- one of the clauses that adds the least is the nearest
pub nearest_is : (q : List Clause) (c near : Clause) → c.actor ≡ near.actor → Contains q near
    → IsTrue (list_all (is_near c near) q) → IsNearest q c near
nearest_is q c near same among all actor locks =
    same_tests (allows actor locks c && allows actor locks near)
    (allows actor locks c && sees q actor locks)
    (λ h.
    let both = and_parts (allows actor locks c) (allows actor locks near) h in
    and_from (allows actor locks c) (sees q actor locks) both.0
    (member_sees q near actor locks among both.1))
    (λ h.
    let both = and_parts (allows actor locks c) (sees q actor locks) h in
    and_from (allows actor locks c) (allows actor locks near) both.0
    (near_allows q c near actor locks same all both.0 both.1))

spread_right : (a b x : Bool) → ((a && x) || (b && x)) ≡ ((a || b) && x)
spread_right true true true = refl
spread_right true true false = refl
spread_right true false true = refl
spread_right true false false = refl
spread_right false b x = refl

-- one clause more is joined with its nearest
pub join_more : (made p q : List Clause) (c near both : Clause) (i : ℕ) → i < length p
    → c ≡ get_or p i c → IsJoin made (take i p) q → IsNearest q c near → AllowsBoth both c near
    → IsJoin (made ++ both ∷ []) (take (i + 1) p) q
join_more made p q c near both i inside is so least allowed actor locks =
    sees_push made both actor locks
    ∙ ap (λ b. b || allows actor locks both) (so actor locks)
    ∙ ap (λ b. (sees (take i p) actor locks && sees q actor locks) || b)
    (allowed actor locks ∙ least actor locks)
    ∙ spread_right (sees (take i p) actor locks) (allows actor locks c) (sees q actor locks)
    ∙ ap (λ b. b && sees q actor locks)
    (sym (sees_push (take i p) c actor locks)
    ∙ ap (λ cs. sees cs actor locks)
    (sym (take_more p i c inside ∙ ap (λ d. take i p ++ d ∷ []) (sym is))))

-- what is seen by those that see such clauses is the join
pub alike_join : (r made p q : List Clause) → IsNormal r → IsSeenAlike r made → IsJoin made p q
    → r ≡ joined p q
alike_join r made p q normal alike is =
    one_join r p q normal (λ actor locks. alike actor locks ∙ is actor locks)
