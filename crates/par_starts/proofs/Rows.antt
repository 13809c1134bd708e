-- The rows of code, filled one after the other.
use Rattle.std.proofs.Common.{◌≡◌, ℕ, ◌+◌, ◌<◌, ◌≤◌, List, [], ◌∷◌, ◌++◌, length, get_or, Option}
use Rattle.std.proofs.Common.{None, refl, sym, ap, subst, arith, inl, inr, below_more}
use Rattle.std.proofs.Math.ListN.{drop_of_length-le}
use Rattle.std.proofs.lemmas.Bool.{cases_lt}
use Rattle.std.proofs.lemmas.List.{get_or_append_left, get_or_push, get_or_past, length_push}
use Rattle.par_instr.specs.Decoding.{decoded, decoded_at}
use Rattle.par_starts.specs.declared.instructions.Standing.{Standing}
use Rattle.par_starts.specs.Standing.{IsStanding}

-- so many rows, each of what stands at its offset
abbrev pub AreStanding : List ℕ → List (Option Standing) → ℕ → Type 0
AreStanding code rows n =
    (length rows ≡ n) × ((k : ℕ) → k < n → IsStanding code k (get_or rows k None))

-- one row more
pub one_more : (code : List ℕ) (rows new : List (Option Standing)) (n : ℕ) (row : Option Standing)
    → new ≡ rows ++ row ∷ [] → AreStanding code rows n → IsStanding code n row
    → AreStanding code new (n + 1)
one_more code rows new n row is told here =
    let all : (k : ℕ) → k < n + 1 → IsStanding code k (get_or (rows ++ row ∷ []) k None) =
    below_more (λ (k : ℕ). IsStanding code k (get_or (rows ++ row ∷ []) k None)) n
    (λ k less. subst (IsStanding code k)
    (sym (get_or_append_left rows (row ∷ []) None k (omega (arith, told.0)))) (told.1 k less))
    (subst (IsStanding code n) (sym (get_or_push rows row None n told.0)) here) in
    subst (λ (xs : List (Option Standing)). AreStanding code xs (n + 1)) (sym is)
    (omega (arith, length_push rows row, told.0), all)

-- behind the code no instruction stands
behind : (code : List ℕ) (at : ℕ) → length code ≤ at → decoded_at code at ≡ None
behind code at past = ap decoded (drop_of_length-le code past)

-- all rows
pub all_rows : (code : List ℕ) (rows : List (Option Standing)) (n : ℕ)
    → AreStanding code rows n → length code ≤ n
    → (at : ℕ) → IsStanding code at (get_or rows at None)
all_rows code rows n told all at =
    elim (cases_lt at n) [
      | inl before ↦ told.1 at before
      | inr past ↦
          subst (IsStanding code at) (sym (get_or_past rows at None (omega (arith, told.0))))
          (λ _. behind code at (omega arith))
    ]
