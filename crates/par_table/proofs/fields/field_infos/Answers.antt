use Rattle.std.proofs.Common.{[], ◌∷◌, ◌++◌, ap, ◌∙◌, arith}
use Rattle.par_table.specs.Seen.{resolved_seen}
use Rattle.par_table.proofs.Loops.{field_made, fields_left}
use Rattle.par_table.proofs.fields.field_infos.Goals as goal

pub number_behind-next-requires : goal.number_behind-next-requires
number_behind-next-requires c = omega (arith, c.requires, c.loop-field.invariant.counted)

pub loop-field-preserved : goal.loop-field-preserved
loop-field-preserved c =
    let f = c.field-item.result in
    let more = c.in_ok-push.ensures.ok
    ∙ ap (λ x. c.loop-field.made ++ x ∷ []) c.in_ok-field_info.ensures in
    record {
      made =
          field_made (resolved_seen c.args.resolved.now) c.loop-field.next _ c.args.fields.now
          c.loop-field.field-index f c.loop-field.made _ _
          c.loop-field-test.true c.field-item.is more c.number_behind-next.ensures
          c.loop-field.invariant.made;
      counted =
          fields_left c.loop-field.next _ _ c.args.fields.now c.loop-field.field-index f
          c.loop-field-test.true c.field-item.is
          c.number_behind-next.ensures c.loop-field.invariant.counted;
    }
