-- A set of texts.
use Rattle.std.specs.Prelude.{ℕ, List, Bool}
use Rattle.std.specs.Borrow.{Bor}
use Rattle.std.specs.Ordering.{nat_cmp}
use Rattle.std.specs.Cmp.Lexicographic.{slice_cmp}
use Rattle.std.specs.BTreeSet.{BTreeSet, contains_by}

-- whether the set has the text
abbrev pub has : BTreeSet (Bor (List ℕ)) → List ℕ → Bool
has seen text = contains_by (λ other. slice_cmp nat_cmp text other.now) seen
