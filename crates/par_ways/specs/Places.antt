-- Where a list of exits has one of a kind.
use Rattle.std.specs.Prelude.{◌≡◌, ℕ, zero, suc, false, true, List, [], ◌∷◌}
use Rattle.par_program_laws.specs.Kinds.{Kind, same}
use Rattle.par_pass_laws.specs.Exits.{Exit}

abbrev pub HasNoPlace : Kind → List Exit → Type 0
HasNoPlace k [] = Unit {0}
HasNoPlace k (x ∷ xs) = (same x.kind k ≡ false) × HasNoPlace k xs

-- the first exit of the kind stands at the place
abbrev pub IsPlace : Kind → List Exit → ℕ → Type 0
IsPlace k [] i = ⊥
IsPlace k (x ∷ xs) zero = same x.kind k ≡ true
IsPlace k (x ∷ xs) (suc i) = (same x.kind k ≡ false) × IsPlace k xs i
