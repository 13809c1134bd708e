use Rattle.std.proofs.Common.{ℕ, ◌<◌, drop, length}
use Rattle.std.specs.Prelude.{IsTrue}
use Rattle.par_program_laws.specs.Inferred.{inferred_among}
use Rattle.par_infer.specs.Bounds.{born_above}
use Rattle.par_infer.proofs.Asked.{Adds}
use Rattle.par_infer.specs.Births.{every}
use Rattle.par_infer.proofs.births.note_fields.Given as goal

abbrev pub invariant-loop-field : goal.invariant-loop-field
invariant-loop-field l = record {
  adds : Adds every (born_above l.birth l.fields) (born_above l.birth (drop l.field-index l.fields))
      l.fn.sets l.sets;
  inside : (n : ℕ) → IsTrue (inferred_among (drop l.field-index l.fields) n) → n < length l.sets;
}
