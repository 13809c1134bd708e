-- Normal forms that the same observers see are equal.
use Rattle.std.proofs.Common.{◌≡◌, ℕ, List, get_or, Contains, false, sym, ap, ◌∙◌, subst, inl, inr}
use Rattle.std.specs.Prelude.{IsTrue, nat_eq}
use Rattle.std.specs.Ordering.{ordering_reverse}
use Rattle.std.specs.declared.cmp.Ordering.TheVariants.{Less}
use Rattle.std.proofs.lemmas.Bool.{and_parts, eqb-true, both_ways, cases_order}
use Rattle.std.proofs.lemmas.List.{get_or_default}
use Rattle.std.proofs.lemmas.List.Elements.{All-contains}
use Rattle.std.proofs.lemmas.List.Folds.{Any-from_list_any, list_any_at}
use Rattle.par_policy.specs.declared.clauses.Clause.{Clause}
use Rattle.par_policy.specs.Numbers.{IsAscending, within}
use Rattle.par_policy.specs.Sees.{allows, sees}
use Rattle.par_policy.specs.Order.{IsBelow}
use Rattle.par_policy.specs.Normal.{IsNormal, clause_cmp, covers}
use Rattle.par_policy.proofs.Members.{All-from_within}
use Rattle.par_policy.proofs.Seen.{covers_itself, allows_by_cover}
use Rattle.par_policy.proofs.Kept.{clause_cmp_total}
use Rattle.par_policy.proofs.Ordered.{Members, same_numbers, same_ordered}

same_fields : (c d : Clause) → c.actor ≡ d.actor → c.locks ≡ d.locks → c ≡ d
same_fields c d e f =
    let first : ℕ → Clause = λ a. record { actor = a; locks = c.locks } in
    let second : List ℕ → Clause = λ l. record { actor = d.actor; locks = l } in
    ap first e ∙ ap second f

members_of_within : (xs ys : List ℕ) → IsTrue (within xs ys) → Members xs ys
members_of_within xs ys h x in_xs = All-contains (Contains ys) xs x (All-from_within xs ys h) in_xs

-- clauses that cover each other are one clause
pub same_clause : (c d : Clause) → IsAscending c.locks → IsAscending d.locks → IsTrue (covers c d)
    → IsTrue (covers d c) → c ≡ d
same_clause c d up also h k =
    let there = and_parts (nat_eq c.actor d.actor) (within c.locks d.locks) h in
    let back = and_parts (nat_eq d.actor c.actor) (within d.locks c.locks) k in
    same_fields c d (eqb-true c.actor d.actor there.0)
    (same_numbers c.locks d.locks up also (members_of_within c.locks d.locks there.1)
    (members_of_within d.locks c.locks back.1))

-- a clause that covers one of the list, and is in the list, is that one
same_place : (p : List Clause) → IsNormal p → (e c : Clause) → Contains p e → Contains p c
    → IsTrue (covers e c) → e ≡ c
same_place p normal e c (j, in_j, at_j) (i, in_i, at_i) h =
    let first : get_or p i e ≡ c = get_or_default p i e c in_i ∙ at_i in
    elim (cases_order j i) [
      | inl same ↦ sym at_j ∙ ap (λ n. get_or p n e) same ∙ first
      | inr (inl below) ↦
          let apart = normal.minimal j i e below in_i in
          absurd (both_ways (covers e c)
          (subst (λ k. covers k c ≡ false) at_j
          (subst (λ k. covers (get_or p j e) k ≡ false) first apart.0)) h)
      | inr (inr over) ↦
          let apart = normal.minimal i j e over in_j in
          absurd (both_ways (covers e c)
          (subst (λ k. covers k c ≡ false) at_j
          (subst (λ k. covers (get_or p j e) k ≡ false) first apart.1)) h)
    ]

-- a clause that covers another, in a policy that its observer sees
covering : (p : List Clause) (d : Clause) → IsTrue (sees p d.actor d.locks)
    → (e : Clause) × Contains p e × IsTrue (covers e d)
covering p d h = let (k, e, inside, at, allowed) = Any-from_list_any (allows d.actor d.locks) p h in
    (e, (k, inside, at), allowed)

seen_itself : (p : List Clause) (c : Clause) → Contains p c → IsTrue (sees p c.actor c.locks)
seen_itself p c (i, inside, at) =
    list_any_at (allows c.actor c.locks) p i c inside
    (subst (λ k. IsTrue (covers k c)) (sym at) (covers_itself c))

-- each clause of a normal form is one of any other that the same observers see
clauses_of_alike : (p q : List Clause) → IsNormal p → IsNormal q → IsBelow p q → IsBelow q p
    → Members p q
clauses_of_alike p q normal other below above c in_p =
    let (d, in_q, d_covers) = covering q c (above c.actor c.locks (seen_itself p c in_p)) in
    let (e, in_p_too, e_covers) = covering p d (below d.actor d.locks (seen_itself q d in_q)) in
    let one : e ≡ c =
    same_place p normal e c in_p_too in_p (allows_by_cover e d c.actor c.locks e_covers d_covers) in
    let up = All-contains (λ k. IsAscending k.locks) p c normal.lock_sets in_p in
    let also = All-contains (λ k. IsAscending k.locks) q d other.lock_sets in_q in
    subst (Contains q)
    (sym (same_clause c d up also (subst (λ k. IsTrue (covers k d)) one e_covers) d_covers)) in_q

clause_order_is_strict : (c d : Clause) → clause_cmp c d ≡ Less → clause_cmp d c ≡ Less → ⊥
clause_order_is_strict c d h k = cc (clause_cmp_total.antisymm c d, ap ordering_reverse k)

-- two policies in normal form, each below the other, are equal lists
pub same_normal_forms : (p q : List Clause) → IsNormal p → IsNormal q → IsBelow p q
    → IsBelow q p → p ≡ q
same_normal_forms p q normal other below above =
    same_ordered (λ c d. clause_cmp c d ≡ Less) clause_order_is_strict p q normal.ascending
    other.ascending
    (clauses_of_alike p q normal other below above) (clauses_of_alike q p other normal above below)
