-- Numbers of classes and members.
use Rattle.std.proofs.Common.{◌≡◌, ℕ, ◌<◌, List, Some, length}
use Rattle.par_index.proofs.Places.{position-within}
use Rattle.par_scope.specs.Names.{number_in}
use Rattle.std.specs.Str.{bytes_eq}

-- a number is one of a name in the list
pub number_within : (names : List (List ℕ)) (name : List ℕ) (k : ℕ) → number_in names name ≡ Some k
    → k < length names
number_within names name k is = position-within (bytes_eq name) names k is

pub ruleset numbers = (number_within)
