-- Assignments of ways and values to the points of a body.
use Rattle.std.specs.Prelude.{ℕ, Option, None}
use Rattle.par_program_laws.specs.Lattice.{Lattice}
use Rattle.par_program_laws.specs.Kinds.{Kind}
use Rattle.par_program_laws.specs.Ways.{Way}

module _ (P : Lattice) where
  -- the entering way of a point that is reached, the value of an expression, and the way of each
  -- completion that is possible
  pub record Fact : Type 0 where
    pub entry : Option (Way P)
    pub value : P.Policy
    pub exit : Kind → Option (Way P)

  -- that of a point that is not reached
  abbrev pub blank : Fact
  blank = record { entry = None; value = P.bottom; exit = λ k. None }

  abbrev pub Facts : Type 0
  Facts = ℕ → Fact
