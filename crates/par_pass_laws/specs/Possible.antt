-- Facts with exits for possible completions alone.
use Rattle.std.specs.Prelude.{◌≡◌, false, None}
use Rattle.par_except.specs.par_program_laws.Lattice.{Lattice}
use Rattle.par_except.specs.par_program_laws.Kinds.{Kind}
use Rattle.par_except.specs.par_program_laws.Facts.{Facts}
use Rattle.par_except.specs.par_program_laws.Rules.{Node, node, Rules, Done, Part, Test, Heads}
use Rattle.par_except.specs.par_program_laws.Rules.{Leaves}
use Rattle.par_except.specs.par_program_laws.Rules.{Worths, spot}
use Rattle.par_except.specs.par_program_laws.Rules.{can, WhereReached}

module _ (P : Lattice) (a : Facts P) where
  unfoldable mutual
    -- at the node, and at each part that is reached, a completion that is not possible has no exit
    pub HasPossibleExits : Node → Type 0
    HasPossibleExits (node p rules) =
        ((k : Kind) → can (node p rules) k ≡ false → (a p).exit k ≡ None) × HavePossibleExits rules

    pub HavePossibleExits : Rules → Type 0
    HavePossibleExits Done = Unit {0}
    HavePossibleExits (Part from absorber part more) =
        WhereReached P (a (spot part)).entry (HasPossibleExits part) × HavePossibleExits more
    HavePossibleExits (Test part more) =
        WhereReached P (a (spot part)).entry (HasPossibleExits part) × HavePossibleExits more
    HavePossibleExits (Heads from more) = HavePossibleExits more
    HavePossibleExits (Leaves from kind more) = HavePossibleExits more
    HavePossibleExits (Worths v more) = HavePossibleExits more
