-- Facts that hold what a pass finds, where no head is raised.
use Rattle.std.specs.Prelude.{◌≡◌, List, [], ◌∷◌}
use Rattle.par_except.specs.par_program_laws.Lattice.{numbers}
use Rattle.par_except.specs.par_program_laws.Ways.{MayFlow}
use Rattle.par_except.specs.par_program_laws.Facts.{Facts}
use Rattle.par_pass_laws.specs.Pass.{HeadWays, Event, Row, Into}

-- the fact of the point is the noted one, and the way flows into its head as it stands
abbrev pub Says : Facts numbers → HeadWays → Event → Type 0
Says b h (Row p f) = b p ≡ f
Says b h (Into p o) = MayFlow numbers o (h p)

abbrev pub AllSay : Facts numbers → HeadWays → List Event → Type 0
AllSay b h [] = Unit {0}
AllSay b h (x ∷ xs) = Says b h x × AllSay b h xs
