-- Throws one by one, and classes that are not declared to be thrown.
use Rattle.std.proofs.Common.{◌≡◌, ℕ, zero, suc, ◌+◌, not, List, []}
use Rattle.std.proofs.Common.{◌∷◌, ◌++◌, refl, sym, ap, ◌∙◌, append_assoc}
use Rattle.std.proofs.Common.{arith}
use Rattle.std.specs.List.{range_with_len}
use Rattle.std.proofs.lemmas.List.Elements.{filter-append}
use Rattle.par_nodes.specs.par_program_laws.Declares.{Thrown}
use Rattle.par_nodes.specs.par_program_laws.Kinds as kind
use Rattle.par_check_laws.specs.Asked.{Check, Never}
use Rattle.par_check_laws.specs.Checks.{ask, leaving, others, undeclared_checks, is_thrown}
use Rattle.par_asked.specs.Others.{unless_thrown}

range_more : (a n : ℕ) → range_with_len a (n + 1) ≡ range_with_len a n ++ (a + n) ∷ []
range_more a zero = let same : a + 0 ≡ a = omega arith in rw same refl
range_more a (suc n) =
    let same : suc n + 1 ≡ suc (n + 1) = omega arith in
    let moved : a + 1 + n ≡ a + suc n = omega arith in
    ap (range_with_len a) same
    ∙ ap (λ ns. a ∷ ns)
    (range_more (a + 1) n ∙ ap (λ m. range_with_len (a + 1) n ++ m ∷ []) moved)

up_to : (n : ℕ) → range_with_len 0 (n + 1) ≡ range_with_len 0 n ++ n ∷ []
up_to n = let at : 0 + n ≡ n = omega arith in range_more 0 n
    ∙ ap (λ m. range_with_len 0 n ++ m ∷ []) at

-- one class more
others_more : (ts : List Thrown) (n : ℕ)
    → others ts (n + 1) ≡ others ts n ++ unless_thrown ts (n ∷ [])
others_more ts n = ap (unless_thrown ts) (up_to n)
    ∙ filter-append (λ class. not (is_thrown ts class)) (range_with_len 0 n) (n ∷ [])

undeclared_append : (at p : ℕ) (xs ys : List ℕ)
    → undeclared_checks at p (xs ++ ys) ≡ undeclared_checks at p xs ++ undeclared_checks at p ys
undeclared_append at p [] ys = refl
undeclared_append at p (x ∷ xs) ys = ap (λ cs. ask 501 at (leaving p (kind.Throw x)) Never ∷ cs)
    (undeclared_append at p xs ys)

-- what is asked of one class more
pub undeclared_more : (at p : ℕ) (ts : List Thrown) (n : ℕ) (old so new : List Check)
    → so ≡ old ++ undeclared_checks at p (others ts n)
    → new ≡ so ++ undeclared_checks at p (unless_thrown ts (n ∷ []))
    → new ≡ old ++ undeclared_checks at p (others ts (n + 1))
undeclared_more at p ts n old so new e h =
    h ∙ ap (λ cs. cs ++ undeclared_checks at p (unless_thrown ts (n ∷ []))) e
    ∙ append_assoc old (undeclared_checks at p (others ts n))
    (undeclared_checks at p (unless_thrown ts (n ∷ [])))
    ∙ ap (λ cs. old ++ cs)
    (sym (ap (undeclared_checks at p) (others_more ts n)
    ∙ undeclared_append at p (others ts n) (unless_thrown ts (n ∷ []))))
