use Rattle.std.proofs.Common.{◌≡◌, ℕ, ◌<◌, ◌++◌, drop, length}
use Rattle.std.specs.Prelude.{IsTrue}
use Rattle.par_program_laws.specs.Inferred.{inferred_among}
use Rattle.par_infer.specs.Filled.{filled_among}
use Rattle.par_infer.proofs.filling.fill_fields.Given as goal

abbrev pub invariant-loop-place : goal.invariant-loop-place
invariant-loop-place l = record {
  filled : l.filled ++ filled_among l.sets l.class l.place (drop l.place l.fields)
      ≡ l.fn.filled ++ filled_among l.sets l.class 0 l.fields;
  inside : (n : ℕ) → IsTrue (inferred_among (drop l.place l.fields) n) → n < length l.sets;
}
