-- Observers with more locks see more.
use Rattle.std.proofs.Common.{◌≡◌, ℕ, Bool, true, false, List, [], ◌∷◌, ◌++◌, Contains, refl, sym}
use Rattle.std.proofs.Common.{◌∙◌, ⊎_elim}
use Rattle.std.specs.Prelude.{IsTrue, nat_eq}
use Rattle.std.proofs.lemmas.Bool.{and_parts, and_from, or_cases, or_left, or_right, eqb-true}
use Rattle.std.proofs.lemmas.Bool.{eq-eqb}
use Rattle.std.proofs.lemmas.List.Elements.{All-contains, All-weaker, All-append}
use Rattle.std.proofs.lemmas.List.Elements.{All-contains_itself, Contains-append_left}
use Rattle.std.proofs.lemmas.List.Elements.{Contains-append_right}
use Rattle.par_policy.specs.declared.clauses.Clause.{Clause}
use Rattle.par_policy.specs.Numbers.{within}
use Rattle.par_policy.specs.Sees.{allows, sees, sees_at}
use Rattle.par_policy.specs.Normal.{covers}
use Rattle.par_policy.proofs.Members.{All-from_within, within-from_All}

pub within_itself : (xs : List ℕ) → IsTrue (within xs xs)
within_itself xs = within-from_All xs xs (All-contains_itself xs)

pub within-trans : (xs ys zs : List ℕ) → IsTrue (within xs ys) → IsTrue (within ys zs)
    → IsTrue (within xs zs)
within-trans xs ys zs h k =
    let outer = All-from_within ys zs k in
    within-from_All xs zs (All-weaker (Contains ys) (Contains zs)
    (λ x in_ys. All-contains (Contains zs) ys x outer in_ys) xs (All-from_within xs ys h))

pub within-append_more : (xs ys more : List ℕ) → IsTrue (within xs ys)
    → IsTrue (within (xs ++ more) (ys ++ more))
within-append_more xs ys more h =
    within-from_All (xs ++ more) (ys ++ more)
    (All-append (Contains (ys ++ more)) xs more
    (All-weaker (Contains ys) (Contains (ys ++ more))
    (λ x in_ys. Contains-append_left ys more x in_ys) xs (All-from_within xs ys h))
    (All-weaker (Contains more) (Contains (ys ++ more))
    (λ x in_more. Contains-append_right ys more x in_more) more (All-contains_itself more)))

pub covers_itself : (c : Clause) → IsTrue (covers c c)
covers_itself c = and_from _ _ (eq-eqb c.actor c.actor refl) (within_itself c.locks)

-- whom a clause allows, each clause that covers it allows
pub allows_by_cover : (c d : Clause) (actor : ℕ) (locks : List ℕ) → IsTrue (covers c d)
    → IsTrue (allows actor locks d) → IsTrue (allows actor locks c)
allows_by_cover c d actor locks h k =
    let cover = and_parts (nat_eq c.actor d.actor) (within c.locks d.locks) h in
    let allowed = and_parts (nat_eq d.actor actor) (within d.locks locks) k in
    and_from _ _ (eq-eqb c.actor actor (eqb-true _ _ cover.0 ∙ eqb-true _ _ allowed.0))
    (within-trans c.locks d.locks locks cover.1 allowed.1)

pub sees_more : (p : List Clause) (actor : ℕ) (fewer more : List ℕ) → IsTrue (within fewer more)
    → IsTrue (sees p actor fewer) → IsTrue (sees p actor more)
sees_more [] actor fewer more h k = k
sees_more (c ∷ p) actor fewer more h k =
    ⊎_elim
    (λ first.
    let allowed = and_parts (nat_eq c.actor actor) (within c.locks fewer) first in
    or_left (allows actor more c) (sees p actor more)
    (and_from _ _ allowed.0 (within-trans c.locks fewer more allowed.1 h)))
    (λ later. or_right (allows actor more c) (sees p actor more)
    (sees_more p actor fewer more h later))
    (or_cases (allows actor fewer c) (sees p actor fewer) k)

pub sees_at_more : (p : List Clause) (opened : List ℕ) (actor : ℕ) (fewer more : List ℕ)
    → IsTrue (within fewer more) → IsTrue (sees_at p opened actor fewer)
    → IsTrue (sees_at p opened actor more)
sees_at_more p opened actor fewer more h k =
    sees_more p actor (fewer ++ opened) (more ++ opened) (within-append_more fewer more opened h) k

-- two tests that follow from each other are equal
pub same_tests : (a b : Bool) → (IsTrue a → IsTrue b) → (IsTrue b → IsTrue a) → a ≡ b
same_tests true b h k = sym (h refl)
same_tests false true h k = k refl
same_tests false false h k = refl

pub within_front : (xs more : List ℕ) → IsTrue (within xs (xs ++ more))
within_front xs more =
    within-from_All xs (xs ++ more)
    (All-weaker (Contains xs) (Contains (xs ++ more)) (λ x h. Contains-append_left xs more x h) xs
    (All-contains_itself xs))
