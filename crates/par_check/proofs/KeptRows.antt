-- Rows that are right stay so as one more is kept.
use Rattle.std.proofs.Common.{◌≡◌, Bool, true, false, cond, Some, List, [], get_or}
use Rattle.std.proofs.Common.{refl, sym, ap, subst, ◌∙◌}
use Rattle.std.specs.Prelude.{nat_eq, ◌==◌}
use Rattle.std.specs.Cmp.Lexicographic.{pointwise}
use Rattle.std.specs.HashMap.{get}
use Rattle.std.proofs.lemmas.Bool.{and_parts, eqb-true}
use Rattle.std.proofs.lemmas.Slice.Eq.{bytes_eq-Decides}
use Rattle.par_policy.specs.declared.clauses.Clause.{Clause}
use Rattle.par_check.specs.declared.row.Row.{Row}
use Rattle.par_check.specs.Rows.{IsRow, Key, same_key, Rows, AreRows}

abbrev IsRowAt : List (List Clause) → Key → Row → Type 0
IsRowAt table key row = IsRow table key.1.items (get_or table key.0 []) row

-- keys that are the same tell of the same policy and locks
same_row : (table : List (List Clause)) (k q : Key) (row : Row) → same_key k q ≡ true
    → IsRowAt table k row → IsRowAt table q row
same_row table k q row same is =
    let parts = and_parts (k.0 == q.0) (pointwise nat_eq k.1.items q.1.items) same in
    let number : k.0 ≡ q.0 = eqb-true k.0 q.0 parts.0 in
    let locks : k.1.items ≡ q.1.items = (bytes_eq-Decides k.1.items q.1.items).0 parts.1 in
    subst (λ n. IsRow table q.1.items (get_or table n []) row) number
    (subst (λ ls. IsRow table ls (get_or table k.0 []) row) locks is)

pub rows_more : (table : List (List Clause)) (old new : Rows) (k : Key) (r : Row)
    → AreRows table old → IsRowAt table k r
    → ((q : Key) → get same_key new q ≡ cond (same_key k q) (Some r) (get same_key old q))
    → AreRows table new
rows_more table old new k r are is updates q row found = in_case (same_key k q) refl where
  in_case : (b : Bool) → same_key k q ≡ b → IsRowAt table q row
  in_case true same =
      let there : Some r ≡ Some row =
      sym (updates q ∙ ap (λ b. cond b (Some r) (get same_key old q)) same) ∙ found in
      let row_is : r ≡ row = cc in
      subst (IsRowAt table q) row_is (same_row table k q r same is)
  in_case false apart =
      are q row (sym (updates q ∙ ap (λ b. cond b (Some r) (get same_key old q)) apart) ∙ found)
