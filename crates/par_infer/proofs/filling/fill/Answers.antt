use Rattle.std.proofs.Common.{◌≡◌, ℕ, ◌<◌, ◌+◌, ◌++◌, List, drop, length, refl, subst, sym}
use Rattle.std.specs.Prelude.{IsTrue}
use Rattle.std.specs.List.{AllByRecursion}
use Rattle.par_typed.specs.declared.table.FieldInfo.{FieldInfo}
use Rattle.par_typed.specs.declared.table.ClassInfo.{ClassInfo}
use Rattle.par_asked.proofs.Left.{left_more}
use Rattle.par_program_laws.specs.Inferred.{inferred_among, inferred_in}
use Rattle.par_program_laws.specs.WellDeclared.{HasFewFields}
use Rattle.par_infer.specs.Filled.{filled_among, filled_in}
use Rattle.par_infer.proofs.Born.{class_inside, classes_inside}
use Rattle.par_infer.proofs.Filled.{fills_on}
use Rattle.par_infer.proofs.filling.fill.Goals as goal

pub fill_fields-requires-clause-inside : goal.fill_fields-requires-clause-inside
fill_fields-requires-clause-inside c =
    let i = c.loop-place.place in
    let cs = c.args.classes.now in
    let item = c.index-classes-place.result in
    subst (λ (fs : List FieldInfo). (n : ℕ) → IsTrue (inferred_among fs n)
    → n < length c.args.sets.now) (sym c.as_slice.ensures)
    (class_inside item (drop (i + 1) cs) (length c.args.sets.now)
    (subst (λ (ds : List ClassInfo). (n : ℕ) → IsTrue (inferred_in ds n)
    → n < length c.args.sets.now)
    (left_more cs i item c.loop-place-test.true c.index-classes-place.is)
    c.loop-place.invariant.inside))

pub loop-place-preserved : goal.loop-place-preserved
loop-place-preserved c =
    let i = c.loop-place.place in
    let cs = c.args.classes.now in
    let sets = c.args.sets.now in
    let item = c.index-classes-place.result in
    let left = left_more cs i item c.loop-place-test.true c.index-classes-place.is in
    let whole = filled_in sets 0 cs in
    record {
      filled =
          fills_on c.loop-place.fields c.fill_fields.new.filled whole
          (filled_among sets i 0 item.fields)
          (filled_in sets (i + 1) (drop (i + 1) cs))
          (subst (λ (ds : List ClassInfo).
          c.loop-place.fields ++ filled_in sets i ds ≡ whole) left
          c.loop-place.invariant.filled)
          (subst (λ (fs : List FieldInfo). c.fill_fields.new.filled
          ≡ c.loop-place.fields ++ filled_among sets i 0 fs) c.as_slice.ensures
          c.in_ok-fill_fields.ensures);
      few =
          (subst (λ (ds : List ClassInfo). AllByRecursion HasFewFields ds) left
          c.loop-place.invariant.few).1;
      inside =
          classes_inside item (drop (i + 1) cs) (length sets) (length sets)
          (subst (λ (ds : List ClassInfo). (n : ℕ) → IsTrue (inferred_in ds n)
          → n < length sets) left c.loop-place.invariant.inside) refl;
    }
