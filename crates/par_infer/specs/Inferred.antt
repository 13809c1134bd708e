-- What is found for a program with inferred fields.
use Rattle.std.specs.Prelude.{◌≡◌, ℕ, false, IsTrue, List, Contains}
use Rattle.par_bits.specs.Sets.{Set}
use Rattle.par_typed.specs.declared.table.Table.{Table}
use Rattle.par_typed.specs.declared.program.Typed.{Typed}
use Rattle.par_refusals.specs.declared.refusal.Refusal.{Refusal}
use Rattle.par_refusals.specs.First.{broken}
use Rattle.par_typed.specs.Plain.{Body}
use Rattle.par_typed.specs.Shown.{bodies}
use Rattle.par_program_laws.specs.Lattice.{numbers}
use Rattle.par_program_laws.specs.Facts.{Facts}
use Rattle.par_program_laws.specs.Inferred.{inferred}
use Rattle.par_reached.specs.Reached.{AreLeastSets, set_at}
use Rattle.par_infer.specs.par_check_laws.Asked.{Check}
use Rattle.par_infer.specs.par_check_laws.Checks.{checks}
use Rattle.par_check.specs.par_check_laws.Right.{AreAllRight}
use Rattle.par_infer.specs.Bounds.{bounds}
use Rattle.par_infer.specs.Filling.{Filling, IsAccepted, IsFillingBelow, join_filling}
use Rattle.par_infer.specs.First.{IsFirstAlways}
use Rattle.par_infer.specs.declared.filling.FilledField.{FilledField}
use Rattle.par_infer.specs.declared.error.InferError.{InferError}
use Rattle.par_infer.specs.declared.error.InferError.TheVariants.{Broken, Memory}
use Rattle.par_infer.specs.Filled.{filled_in}

-- the joins of the sets are the least accepted filling, and none holds the number of an inferred
-- field
pub record AreLeastAccepted (table : Table) (bs : List Body) (σ : ℕ → Set) : Type 0 where
  pub accepted : IsAccepted table bs (join_filling table σ)
  pub least : (ψ : Filling) → IsAccepted table bs ψ
      → IsFillingBelow table (join_filling table σ) ψ
  pub known : (i n : ℕ) → IsTrue (inferred table i) → IsTrue (σ i n) → inferred table n ≡ false

-- these are the inferred fields with such sets, the least ones that meet the bounds over closed and
-- least facts of the bodies
pub record IsInferred (typed : Typed) (fields : List FilledField) : Type 0 where
  pub facts : List (Facts numbers)
  pub right : AreAllRight typed.table (bodies typed.bodies) facts
  pub sets : List ℕ
  pub least : AreLeastSets (inferred typed.table) (bounds typed.table (bodies typed.bodies) facts)
      (set_at sets)
  pub filled : fields ≡ filled_in sets 0 typed.table.classes
  pub accepted : AreLeastAccepted typed.table (bodies typed.bodies) (set_at sets)

-- some rule on a body, at its place
pub record IsAsked (table : Table) (bs : List Body) (r : Refusal) : Type 0 where
  pub body : Body
  pub there : Contains bs body
  pub check : Check
  pub asked : Contains (checks table body) check
  pub is : r ≡ broken check.rule check.at

-- no filling is accepted, and this is the first rule that fails with each filling that meets the
-- bounds over such facts
pub record IsBrokenFirst (typed : Typed) (r : Refusal) : Type 0 where
  pub facts : List (Facts numbers)
  pub right : AreAllRight typed.table (bodies typed.bodies) facts
  pub first : IsFirstAlways typed.table (bodies typed.bodies) facts r
  pub asked : IsAsked typed.table (bodies typed.bodies) r

abbrev pub IsRefused : Typed → InferError → Type 0
IsRefused typed (Broken r) = IsBrokenFirst typed r
IsRefused typed Memory = Unit {0}
