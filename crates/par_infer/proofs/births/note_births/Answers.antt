use Rattle.std.proofs.Common.{ℕ, ◌<◌, ◌+◌, List, drop, length, subst, sym}
use Rattle.std.specs.Prelude.{IsTrue}
use Rattle.std.specs.List.{AllByRecursion}
use Rattle.par_bits.specs.Sets.{Set}
use Rattle.par_typed.specs.declared.table.FieldInfo.{FieldInfo}
use Rattle.par_typed.specs.declared.table.ClassInfo.{ClassInfo}
use Rattle.par_asked.proofs.Left.{left_more}
use Rattle.par_program_laws.specs.Inferred.{inferred_among, inferred_in}
use Rattle.par_infer.specs.Bounds.{born_above, births_above}
use Rattle.par_infer.specs.Collected.{Gains}
use Rattle.par_infer.proofs.Asked.{Adds, adds_on}
use Rattle.par_infer.specs.Births.{every}
use Rattle.par_infer.proofs.Born.{class_inside, classes_inside, classes_left}
use Rattle.par_infer.proofs.births.note_births.Goals as goal

pub note_fields-requires-clause-inside : goal.note_fields-requires-clause-inside
note_fields-requires-clause-inside c =
    let i = c.loop-class.class-index in
    let cs = c.args.classes.now in
    let item = c.class-item.result in
    subst (λ (fs : List FieldInfo). (n : ℕ) → IsTrue (inferred_among fs n)
    → n < length c.loop-class.sets) (sym c.as_slice.ensures)
    (class_inside item (drop (i + 1) cs) (length c.loop-class.sets)
    (subst (λ (ds : List ClassInfo). (n : ℕ) → IsTrue (inferred_in ds n)
    → n < length c.loop-class.sets) (left_more cs i item c.loop-class-test.true c.class-item.is)
    c.loop-class.invariant.inside))

pub loop-class-preserved : goal.loop-class-preserved
loop-class-preserved c =
    let i = c.loop-class.class-index in
    let cs = c.args.classes.now in
    let item = c.class-item.result in
    let left = left_more cs i item c.loop-class-test.true c.class-item.is in
    record {
      adds =
          adds_on every (births_above cs) (born_above item.birth item.fields)
          (births_above (drop (i + 1) cs)) c.args.sets.now c.loop-class.sets
          c.note_fields.new.sets
          (subst (λ (left : ℕ → Set). Adds every (births_above cs) left c.args.sets.now
          c.loop-class.sets) (classes_left cs i item c.loop-class-test.true c.class-item.is)
          c.loop-class.invariant.adds)
          (subst (λ (fs : List FieldInfo). Gains every c.loop-class.sets c.note_fields.new.sets
          (born_above item.birth fs)) c.as_slice.ensures c.note_fields.ensures);
      few =
          (subst (λ (ds : List ClassInfo). AllByRecursion (λ c. c.birth < 256) ds) left
          c.loop-class.invariant.few).1;
      inside =
          classes_inside item (drop (i + 1) cs) (length c.loop-class.sets)
          (length c.note_fields.new.sets)
          (subst (λ (ds : List ClassInfo). (n : ℕ) → IsTrue (inferred_in ds n)
          → n < length c.loop-class.sets) left c.loop-class.invariant.inside)
          c.note_fields.ensures.size;
    }
