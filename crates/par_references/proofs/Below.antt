-- Places that are found are below a bound.
use Rattle.std.proofs.Common.{◌≡◌, ℕ, ◌+◌, ◌<◌, ◌≤◌, Bool, true, false, cond, List, [], ◌∷◌, ◌++◌}
use Rattle.std.proofs.Common.{length, Some, None, Option, refl, arith}
use Rattle.std.specs.Prelude.{IfSome}
use Rattle.std.proofs.lemmas.List.{length-append}
use Rattle.std.specs.List.{list_any, position}
use Rattle.par_index.proofs.Places.{position-within}
use Rattle.par_references.specs.Firsts.{repeated_after, first_repeated}
use Rattle.par_references.specs.Twice.{earlier}

-- a place that is found is below a bound
abbrev pub IsBelow : ℕ → Option ℕ → Type 0
IsBelow bound o = IfSome o (λ place. place < bound)

from-each : {A : Type 0} (o : Option A) (P : A → Type 0) → ((x : A) → o ≡ Some x → P x) → IfSome o P
from-each None P each = tt
from-each (Some x) P each = each x refl

pub cond-below : (bound place : ℕ) (b : Bool) (o : Option ℕ) → place < bound → IsBelow bound o
    → IsBelow bound (cond b (Some place) o)
cond-below bound place true o here later = here
cond-below bound place false o here later = later

repeated-below : {A : Type 0} (same : A → A → Bool) (bound : ℕ) (before xs : List A)
    → length before + length xs ≤ bound
    → IsBelow bound (repeated_after same before xs)
unfolding repeated_after
repeated-below same bound before [] few = tt
repeated-below same bound before (x ∷ xs) few =
    let more : length (before ++ x ∷ []) ≡ length before + 1 = length-append before (x ∷ []) in
    cond-below bound (length before) (list_any (same x) before)
    (repeated_after same (before ++ x ∷ []) xs) (omega arith)
    (repeated-below same bound (before ++ x ∷ []) xs (omega arith))

pub first-below : {A : Type 0} (same : A → A → Bool) (bound : ℕ) (xs : List A) → length xs ≤ bound
    → IsBelow bound (first_repeated same xs)
first-below same bound xs few = repeated-below same bound [] xs (omega arith)

pub place-below : {A : Type 0} (p : A → Bool) (bound : ℕ) (xs : List A) → length xs ≤ bound
    → IsBelow bound (position p xs)
place-below p bound xs few =
    from-each (position p xs) (λ place. place < bound)
    (λ n e. let within = position-within p xs n e in omega arith)

pub earlier-below : (bound : ℕ) (a b : Option ℕ) → IsBelow bound a → IsBelow bound b
    → IsBelow bound (earlier a b)
earlier-below bound None b here later = later
earlier-below bound (Some n) None here later = here
earlier-below bound (Some n) (Some m) here later = let n_below : n < bound = here in omega arith
