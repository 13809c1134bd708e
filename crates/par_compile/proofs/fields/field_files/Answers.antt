use Rattle.std.proofs.Common.{map, sym, arith}
use Rattle.par_erase.specs.Shown.{field_info, table_of}
use Rattle.par_compile.proofs.Lists.{mapped}
use Rattle.par_compile.proofs.FieldFiles.{fields_grow, fields_more, fields_done}
use Rattle.par_compile.proofs.fields.field_files.Goals as goal

pub loop-field-preserved : goal.loop-field-preserved
loop-field-preserved c =
    let table = table_of c.args.plain.now in
    record {
      grown =
          fields_grow table (map field_info c.args.fields.now) (field_info c.field-item.result)
          c.args.pool.now c.loop-field.pool c.field_file.new.pool
          (mapped field_info c.args.fields.now c.loop-field.field-index c.field-item.result
          c.loop-field-test.true (sym c.field-item.is))
          c.loop-field.invariant.grown c.in_ok-file.ensures.grows;
      are =
          rw c.in_ok-push.ensures.ok
          (fields_more table field_info c.args.fields.now c.loop-field.field-index
          c.field-item.result c.loop-field.files c.in_ok-file.file c.loop-field.pool
          c.field_file.new.pool c.loop-field-test.true (sym c.field-item.is)
          c.in_ok-file.ensures.grows c.loop-field.invariant.are c.in_ok-file.ensures.is);
      few = omega (arith, c.loop-field.invariant.few, c.in_ok-file.ensures.few);
    }

pub returns-clause-are : goal.returns-clause-are
returns-clause-are c =
    fields_done (table_of c.args.plain.now) field_info c.args.fields.now c.loop-field.field-index
    c.loop-field.files c.loop-field.pool
    (omega (arith, c.loop-field-test.false, c.loop-field.auto.field-index-end))
    c.loop-field.invariant.are
