use Rattle.std.proofs.Common.{ℕ, ◌<◌, ◌+◌, List, drop, length, subst}
use Rattle.std.specs.Prelude.{IsTrue}
use Rattle.par_bits.specs.Sets.{Set}
use Rattle.par_typed.specs.declared.table.FieldInfo.{FieldInfo}
use Rattle.par_asked.proofs.Left.{left_more}
use Rattle.par_program_laws.specs.Inferred.{inferred_among}
use Rattle.par_infer.specs.Bounds.{born_above}
use Rattle.par_infer.proofs.Asked.{Adds, adds_on}
use Rattle.par_infer.specs.Births.{born_once, every}
use Rattle.par_infer.proofs.Born.{field_inside, rest_inside, fields_left}
use Rattle.par_infer.proofs.births.note_fields.Goals as goal

pub note_field-requires-clause-inside : goal.note_field-requires-clause-inside
note_field-requires-clause-inside c =
    let i = c.loop-field.field-index in
    let fs = c.args.fields.now in
    let item = c.field-item.result in
    field_inside item (drop (i + 1) fs) (length c.loop-field.sets)
    (subst (λ (gs : List FieldInfo). (n : ℕ) → IsTrue (inferred_among gs n)
    → n < length c.loop-field.sets) (left_more fs i item c.loop-field-test.true c.field-item.is)
    c.loop-field.invariant.inside)

pub loop-field-preserved : goal.loop-field-preserved
loop-field-preserved c =
    let i = c.loop-field.field-index in
    let fs = c.args.fields.now in
    let item = c.field-item.result in
    let birth = c.args.birth in
    record {
      adds =
          adds_on every (born_above birth fs) (born_once birth item)
          (born_above birth (drop (i + 1) fs)) c.args.sets.now c.loop-field.sets
          c.note_field.new.sets
          (subst (λ (left : ℕ → Set). Adds every (born_above birth fs) left c.args.sets.now
          c.loop-field.sets) (fields_left birth fs i item c.loop-field-test.true c.field-item.is)
          c.loop-field.invariant.adds) c.note_field.ensures;
      inside =
          rest_inside item (drop (i + 1) fs) (length c.loop-field.sets)
          (length c.note_field.new.sets)
          (subst (λ (gs : List FieldInfo). (n : ℕ) → IsTrue (inferred_among gs n)
          → n < length c.loop-field.sets)
          (left_more fs i item c.loop-field-test.true c.field-item.is)
          c.loop-field.invariant.inside) c.note_field.ensures.size;
    }
