-- What is kept of an accepted program.
use Rattle.std.specs.Prelude.{◌≡◌, ◌≤◌, ℕ, List, [], ◌∷◌, Contains, length}
use Rattle.par_pass_laws.specs.par_typed.declared.table.Table.{Table}
use Rattle.par_pass_laws.specs.par_typed.declared.program.Typed.{Typed}
use Rattle.par_pass_laws.specs.par_typed.Plain.{Body}
use Rattle.par_pass_laws.specs.par_typed.Shown.{bodies}
use Rattle.par_pass_laws.specs.par_program_laws.Lattice.{numbers}
use Rattle.par_pass_laws.specs.par_program_laws.Facts.{Facts}
use Rattle.par_check_laws.specs.Asked.{Check}
use Rattle.par_check_laws.specs.Checks.{checks}
use Rattle.par_check_laws.specs.Verdict.{KeepsNumbered}
use Rattle.par_check_laws.specs.Right.{AreAllRight}

-- the facts of each body keep all of its rules
abbrev pub AreAllKept : Table → List Body → List (Facts numbers) → Type 0
AreAllKept table [] fs = Unit {0}
AreAllKept table (b ∷ bs) [] = ⊥
AreAllKept table (b ∷ bs) (f ∷ fs) =
    ((c : Check) → Contains (checks table b) c → KeepsNumbered table f c) × AreAllKept table bs fs

-- how many bodies have numbers
abbrev pub MOST_BODIES : ℕ
MOST_BODIES = 65536

-- these are closed and least facts of the bodies, which have numbers, and they keep all rules
pub record IsAcceptedBy (typed : Typed) (fs : List (Facts numbers)) : Type 0 where
  pub few : length typed.bodies ≤ MOST_BODIES
  pub many : length fs ≡ length typed.bodies
  pub right : AreAllRight typed.table (bodies typed.bodies) fs
  pub kept : AreAllKept typed.table (bodies typed.bodies) fs
