-- What follows where names differ.
use Rattle.std.specs.Prelude.{◌≡◌, ℕ, List, Some, slice_get}
use Rattle.par_program_laws.specs.TableNames.{AreApart}

-- a name stands at one place alone
abbrev pub NamesStandOnce : Type 0
NamesStandOnce =
    (names : List (List ℕ)) (i j : ℕ) (name : List ℕ) → AreApart names
    → slice_get names i ≡ Some name → slice_get names j ≡ Some name → i ≡ j
