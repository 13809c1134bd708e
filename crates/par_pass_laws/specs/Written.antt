-- What a list of events makes of a table of facts by points.
use Rattle.std.specs.Prelude.{ℕ, zero, suc, List, [], ◌∷◌, slice_index_or, slice_set}
use Rattle.par_except.specs.par_program_laws.Lattice.{numbers}
use Rattle.par_except.specs.par_program_laws.Ways.{MayFlow}
use Rattle.par_except.specs.par_program_laws.Facts.{Fact, Facts, blank}
use Rattle.par_pass_laws.specs.Pass.{HeadWays, Event, Row, Into}

abbrev pub blanks : ℕ → List (Fact numbers)
blanks zero = []
blanks (suc n) = blank numbers ∷ blanks n

-- each row is written at its point
abbrev pub written : List Event → List (Fact numbers) → List (Fact numbers)
written [] t = t
written (Row p f ∷ l) t = written l (slice_set t p f)
written (Into p o ∷ l) t = written l t

abbrev pub table : List (Fact numbers) → Facts numbers
table t p = slice_index_or t p (blank numbers)

-- no head is raised
abbrev pub AllFit : HeadWays → List Event → Type 0
AllFit h [] = Unit {0}
AllFit h (Row p f ∷ l) = AllFit h l
AllFit h (Into p o ∷ l) = MayFlow numbers o (h p) × AllFit h l
