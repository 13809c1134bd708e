-- Terms of policies that are written the same say the same.
use Rattle.std.proofs.Common.{◌≡◌, ℕ, ◌+◌, ◌<◌, ◌≤◌, List, [], ◌∷◌, ◌++◌, map, take, length}
use Rattle.std.proofs.Common.{get_or, Some, sym, ap, ◌∙◌, subst}
use Rattle.std.specs.Prelude.{IsTrue, position}
use Rattle.std.specs.Str.{bytes_eq}
use Rattle.std.proofs.lemmas.List.{take_all}
use Rattle.std.proofs.lemmas.Slice.Eq.{bytes_eq-Decides}
use Rattle.par_tree.specs.declared.ident.Ident.{Ident}
use Rattle.par_tree.specs.declared.policy.ClauseTree.{ClauseTree}
use Rattle.par_tree.specs.declared.policy.PolicyTerm.{PolicyTerm}
use Rattle.par_tree.specs.declared.policy.PolicyTerm.TheVariants.{Clauses, Named}
use Rattle.par_resolved.specs.Numbers.{Numbers}
use Rattle.par_resolved.specs.Policies.{Known, clause_of, value_at, term_value}
use Rattle.par_resolved.specs.Sets.{normal}
use Rattle.par_resolved.proofs.Loops.{map_more}

-- ---- lists, item by item

-- the first items of both come to the same
abbrev pub AreSoFar : {K A B : Type 0} → (K → A → B) → List A → List A → ℕ → Type 0
AreSoFar {K} value one other i =
    (k : K) → map (value k) (take i one) ≡ map (value k) (take i other)

pub one_more : {K A B : Type 0} (value : K → A → B) (one other : List A) (i : ℕ) (x y : A)
    → i < length one → length one ≡ length other → x ≡ get_or one i x → y ≡ get_or other i y
    → AreSoFar value one other i → ((k : K) → value k x ≡ value k y)
    → AreSoFar value one other (i + 1)
one_more value one other i x y inside alike is also so same k =
    let f = value k in
    map_more f one i x inside is
    ∙ ap (λ vs. vs ++ f x ∷ []) (so k)
    ∙ ap (λ v. map f (take i other) ++ v ∷ []) (same k)
    ∙ sym (map_more f other i y (subst (λ n. i < n) alike inside) also)

pub whole : {K A B : Type 0} (value : K → A → B) (one other : List A) (i : ℕ)
    → length one ≤ i → length one ≡ length other → AreSoFar value one other i
    → (k : K) → map (value k) one ≡ map (value k) other
whole value one other i past alike so k =
    let f = value k in
    ap (map f) (sym (take_all i one past)) ∙ so k
    ∙ ap (map f) (take_all i other (subst (λ n. n ≤ i) alike past))

-- ---- terms

named : (a b : Ident) → a.name ≡ b.name → (k : Known)
    → term_value k (Named a) ≡ term_value k (Named b)
unfolding term_value
named a b same k = ap (λ n. value_at k.values (position (bytes_eq n) k.names)) same

-- the same name names the same
pub same_names : (one other : PolicyTerm) (a b : Ident) → one ≡ Named a → other ≡ Named b
    → IsTrue (bytes_eq a.name b.name) → (k : Known) → term_value k one ≡ term_value k other
same_names one other a b is also same k =
    ap (term_value k) is ∙ named a b ((bytes_eq-Decides a.name b.name).0 same) k
    ∙ sym (ap (term_value k) also)

written_out : (cs ds : List ClauseTree) (k : Known)
    → map (clause_of k.numbers) cs ≡ map (clause_of k.numbers) ds
    → term_value k (Clauses cs) ≡ term_value k (Clauses ds)
unfolding term_value
written_out cs ds k same = ap (λ clauses. Some (normal clauses)) same

-- the same clauses come to the same
pub same_clauses : (one other : PolicyTerm) (cs ds : List ClauseTree) → one ≡ Clauses cs
    → other ≡ Clauses ds
    → ((n : Numbers) → map (clause_of n) cs ≡ map (clause_of n) ds) → (k : Known)
    → term_value k one ≡ term_value k other
same_clauses one other cs ds is also same k =
    ap (term_value k) is ∙ written_out cs ds k (same k.numbers) ∙ sym (ap (term_value k) also)
