-- Rows that are right.
use Rattle.std.proofs.Common.{◌≡◌, ℕ, ◌<◌, Bool, true, false, List, [], length, get_or, set}
use Rattle.std.proofs.Common.{refl, sym, ap, subst, ◌∙◌, arith, inl, inr}
use Rattle.std.specs.Prelude.{IsTrue}
use Rattle.std.specs.List.{All}
use Rattle.std.proofs.lemmas.Bool.Decides.{eqb_tells}
use Rattle.std.proofs.lemmas.List.{length-set, get_or-set_other}
use Rattle.std.proofs.lemmas.Grind.{get_or-set_at}
use Rattle.std.proofs.lemmas.List.Elements.{All-get_or}
use Rattle.par_policy.specs.declared.clauses.Clause.{Clause}
use Rattle.par_bits.specs.Sets.{has, none}
use Rattle.par_audit.specs.declared.row.Row.{Row}
use Rattle.par_audit.specs.Rows.{IsRow, AreRows}

abbrev pub IsUnknown : Row → Type 0
IsUnknown row = (has row.released ≡ none) × (has row.kept ≡ none)

none_held : {P : Type 0} (set n : ℕ) → has set ≡ none → IsTrue (has set n) → P
none_held set n is held = let e : false ≡ true = sym (ap (λ s. s n) is) ∙ held in absurd cc

-- a row that knows nothing is right
unknown_row : (table : List (List Clause)) (actor : ℕ) (q : List Clause) (row : Row)
    → IsUnknown row → IsRow table actor q row
unknown_row table actor q row is = record {
  released = λ n less held. none_held row.released n is.0 held;
  kept = λ n less held. none_held row.kept n is.1 held;
}

pub unknown_rows : (table : List (List Clause)) (actor : ℕ) (rows : List Row)
    → length rows ≡ length table → All IsUnknown rows → AreRows table actor rows
unknown_rows table actor rows many all = record {
  many = many;
  right = λ n d less. unknown_row table actor (get_or table n []) (get_or rows n d)
      (All-get_or IsUnknown rows n d (omega (arith, many, less)) all);
}

-- one row is kept
pub row_kept : (table : List (List Clause)) (actor : ℕ) (rows : List Row) (at : ℕ) (row : Row)
    → AreRows table actor rows → at < length table → IsRow table actor (get_or table at []) row
    → AreRows table actor (set rows at row)
row_kept table actor rows at row are inside is = record {
  many = length-set rows at row ∙ are.many;
  right = λ n d less. in_case n d less;
} where
  in_case : (n : ℕ) (d : Row) → n < length table
      → IsRow table actor (get_or table n []) (get_or (set rows at row) n d)
  in_case n d less = elim (eqb_tells n at) as
      (λ _. IsRow table actor (get_or table n []) (get_or (set rows at row) n d)) [
        | inl same ↦
            let many = are.many in
            let here = get_or-set_at rows at n row d same.1 (omega (arith, many, inside)) in
            subst (IsRow table actor (get_or table n [])) (sym here)
            (subst (λ k. IsRow table actor (get_or table k []) row) (sym same.1) is)
        | inr other ↦
            subst (IsRow table actor (get_or table n []))
            (sym (get_or-set_other rows at n row d other.1)) (are.right n d less)
      ]
