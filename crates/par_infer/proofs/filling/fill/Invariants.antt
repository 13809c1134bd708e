use Rattle.std.proofs.Common.{◌≡◌, ℕ, ◌<◌, ◌++◌, drop, length}
use Rattle.std.specs.Prelude.{IsTrue}
use Rattle.std.specs.List.{AllByRecursion}
use Rattle.par_program_laws.specs.Inferred.{inferred_in}
use Rattle.par_program_laws.specs.WellDeclared.{HasFewFields}
use Rattle.par_infer.specs.Filled.{filled_in}
use Rattle.par_infer.proofs.filling.fill.Given as goal

abbrev pub invariant-loop-place : goal.invariant-loop-place
invariant-loop-place l = record {
  filled : l.fields ++ filled_in l.sets l.place (drop l.place l.classes)
      ≡ filled_in l.sets 0 l.classes;
  few : AllByRecursion HasFewFields (drop l.place l.classes);
  inside : (n : ℕ) → IsTrue (inferred_in (drop l.place l.classes) n) → n < length l.sets;
}
