use Rattle.std.proofs.Common.{ℕ, ◌<◌, drop, length}
use Rattle.std.specs.Prelude.{IsTrue}
use Rattle.std.specs.List.{AllByRecursion}
use Rattle.par_program_laws.specs.Inferred.{inferred_in}
use Rattle.par_infer.specs.Bounds.{births_above}
use Rattle.par_infer.proofs.Asked.{Adds}
use Rattle.par_infer.specs.Births.{every}
use Rattle.par_infer.proofs.births.note_births.Given as goal

abbrev pub invariant-loop-class : goal.invariant-loop-class
invariant-loop-class l = record {
  adds : Adds every (births_above l.classes) (births_above (drop l.class-index l.classes))
      l.fn.sets l.sets;
  few : AllByRecursion (λ c. c.birth < 256) (drop l.class-index l.classes);
  inside : (n : ℕ) → IsTrue (inferred_in (drop l.class-index l.classes) n) → n < length l.sets;
}
