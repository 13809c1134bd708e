-- The broken rules of a list, and of the bodies of a program.
use Rattle.std.specs.Prelude.{◌≡◌, ◌↔◌, Bool, not, IsTrue, Option, List, [], ◌∷◌, ◌++◌, length}
use Rattle.par_typed.specs.declared.table.Table.{Table}
use Rattle.par_refusals.specs.declared.refusal.Refusal.{Refusal}
use Rattle.par_refusals.specs.First.{when, broken, first_of}
use Rattle.par_typed.specs.Plain.{Body}
use Rattle.par_asked.specs.par_program_laws.Lattice.{numbers}
use Rattle.par_asked.specs.par_program_laws.Facts.{Facts}
use Rattle.par_asked.specs.par_check_laws.Asked.{Check}
use Rattle.par_asked.specs.par_check_laws.Checks.{checks}
use Rattle.par_asked.specs.par_check_laws.Verdict.{KeepsNumbered}
use Rattle.par_asked.specs.par_check_laws.Right.{AreRight, AreAllRight}

-- these are the broken rules of the list, each told at its place
unfoldable pub AreBroken : (Check → Type 0) → List Check → List Refusal → Type 0
AreBroken Keeps [] told = told ≡ []
AreBroken Keeps (c ∷ cs) told =
    (kept : Bool) × (IsTrue kept ↔ Keeps c)
    × ((rest : List Refusal) × AreBroken Keeps cs rest
    × (told ≡ when (not kept) (broken c.rule c.at) ++ rest))

-- and these are those of all bodies, each over its facts
unfoldable pub AreAllBroken : Table → List Body → List (Facts numbers) → List Refusal → Type 0
AreAllBroken table [] fs told = told ≡ []
AreAllBroken table (b ∷ bs) [] told = told ≡ []
AreAllBroken table (b ∷ bs) (f ∷ fs) told =
    (own : List Refusal) × AreBroken (KeepsNumbered table f) (checks table b) own
    × ((rest : List Refusal) × AreAllBroken table bs fs rest × (told ≡ own ++ rest))

-- the broken rules of a body, over some closed and least facts of it, are noted behind others
pub record HasTold (table : Table) (b : Body) (old new : Option Refusal) : Type 0 where
  pub facts : Facts numbers
  pub right : AreRight table b facts
  pub told : List Refusal
  pub are : AreBroken (KeepsNumbered table facts) (checks table b) told
  pub is : new ≡ first_of old told

-- and those of bodies
pub record HaveTold (table : Table) (bs : List Body) (old new : Option Refusal) : Type 0 where
  pub facts : List (Facts numbers)
  pub many : length facts ≡ length bs
  pub right : AreAllRight table bs facts
  pub told : List Refusal
  pub are : AreAllBroken table bs facts told
  pub is : new ≡ first_of old told
