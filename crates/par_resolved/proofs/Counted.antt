-- The numbers of ground locks are below their count.
use Rattle.std.proofs.Common.{◌≡◌, ℕ, ◌+◌, ◌<◌, ◌≤◌, List, [], ◌∷◌, All, length, drop, get_or}
use Rattle.std.proofs.Common.{sum_by, ap, ◌∙◌, arith}
use Rattle.std.specs.Borrow.{Bor}
use Rattle.std.proofs.lemmas.List.Elements.{All-nil, All-cons}
use Rattle.std.proofs.lemmas.List.Sums.{sum_by-cons}
use Rattle.par_tree.specs.declared.decl.LockDecl.{LockDecl}
use Rattle.par_resolved.specs.Numbers.{ground_count, firsts_from}
use Rattle.par_parts.specs.Gathered.{all_of}
use Rattle.par_resolved.proofs.Loops.{drop_more}

pub firsts_small : (n first most : ℕ) (locks : List LockDecl)
    → first + sum_by (ground_count n) locks ≤ most
    → All (λ f. f ≤ most) (firsts_from n first locks)
firsts_small n first most [] few = All-nil (λ f. f ≤ most)
firsts_small n first most (lock ∷ locks) few =
    let whole = sum_by-cons (ground_count n) lock locks in
    All-cons (λ f. f ≤ most) first (firsts_from n (first + ground_count n lock) locks)
    (omega (arith, few))
    (firsts_small n (first + ground_count n lock) most locks (omega (arith, few, whole)))

pub sum_more : (n : ℕ) (decls : List (Bor LockDecl)) (i : ℕ) (r : Bor LockDecl) → i < length decls
    → r ≡ get_or decls i r
    → sum_by (ground_count n) (all_of (drop i decls))
    ≡ ground_count n r.now + sum_by (ground_count n) (all_of (drop (i + 1) decls))
sum_more n decls i r inside is =
    ap (λ ds. sum_by (ground_count n) (all_of ds)) (drop_more decls i r inside is)
    ∙ sum_by-cons (ground_count n) r.now (all_of (drop (i + 1) decls))
