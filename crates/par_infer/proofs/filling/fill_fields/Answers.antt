use Rattle.std.proofs.Common.{◌≡◌, ℕ, ◌<◌, ◌+◌, ◌++◌, List, drop, length, refl, subst}
use Rattle.std.specs.Prelude.{IsTrue}
use Rattle.par_typed.specs.declared.table.FieldInfo.{FieldInfo}
use Rattle.par_asked.proofs.Left.{left_more}
use Rattle.par_program_laws.specs.Inferred.{inferred_among}
use Rattle.par_infer.specs.Filled.{filled_field, filled_among}
use Rattle.par_infer.proofs.Born.{field_inside, rest_inside}
use Rattle.par_infer.proofs.Filled.{fills_on}
use Rattle.par_infer.proofs.filling.fill_fields.Goals as goal

pub fill_field-requires : goal.fill_field-requires
fill_field-requires c =
    let i = c.loop-place.place in
    let fs = c.args.fields.now in
    let item = c.index-fields-place.result in
    field_inside item (drop (i + 1) fs) (length c.args.sets.now)
    (subst (λ (gs : List FieldInfo). (n : ℕ) → IsTrue (inferred_among gs n)
    → n < length c.args.sets.now)
    (left_more fs i item c.loop-place-test.true c.index-fields-place.is)
    c.loop-place.invariant.inside)

pub loop-place-preserved : goal.loop-place-preserved
loop-place-preserved c =
    let i = c.loop-place.place in
    let fs = c.args.fields.now in
    let sets = c.args.sets.now in
    let item = c.index-fields-place.result in
    let left = left_more fs i item c.loop-place-test.true c.index-fields-place.is in
    let whole = c.args.filled.now ++ filled_among sets c.args.class 0 fs in
    record {
      filled =
          fills_on c.loop-place.filled c.fill_field.new.filled whole
          (filled_field sets c.args.class i item)
          (filled_among sets c.args.class (i + 1) (drop (i + 1) fs))
          (subst (λ (gs : List FieldInfo).
          c.loop-place.filled ++ filled_among sets c.args.class i gs ≡ whole) left
          c.loop-place.invariant.filled) c.in_ok-fill_field.ensures;
      inside =
          rest_inside item (drop (i + 1) fs) (length sets) (length sets)
          (subst (λ (gs : List FieldInfo). (n : ℕ) → IsTrue (inferred_among gs n)
          → n < length sets) left c.loop-place.invariant.inside) refl;
    }
