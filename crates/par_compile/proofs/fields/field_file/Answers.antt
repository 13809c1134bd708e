use Rattle.std.proofs.Common.{sym, subst, ◌∙◌}
use Rattle.par_pool.specs.Spelling.{IsText}
use Rattle.par_class.specs.declared.file.FieldFile.{FieldFile}
use Rattle.par_erase.specs.Shown.{field_info, table_of}
use Rattle.par_compile.proofs.Texts.{name_text, type_text}
use Rattle.par_compile.proofs.FieldFiles.{field_grows, field_is}
use Rattle.par_compile.proofs.fields.field_file.Goals as goal

pub returns-clause-grows : goal.returns-clause-grows
returns-clause-grows c =
    field_grows (table_of c.args.plain.now) (field_info c.args.field.now) c.bytes.result.now
    c.as_slice.result.now c.args.pool.now c.text.new.pool c.text-2.new.pool c.bytes.ensures.bytes
    (c.as_slice.ensures ∙ c.in_ok-kind.ensures) c.in_ok-name.ensures.grows
    c.in_ok-descriptor.ensures.grows

pub returns-clause-is : goal.returns-clause-is
returns-clause-is c =
    let file : FieldFile = record {
      access = c.member_access.result;
      name = c.in_ok-name.name;
      descriptor = c.in_ok-descriptor.descriptor;
      attributes = c.new.result;
    } in
    field_is (table_of c.args.plain.now) (field_info c.args.field.now) file c.bytes.result.now
    c.as_slice.result.now c.text.new.pool c.text-2.new.pool c.member_access.ensures c.new.ensures
    c.bytes.ensures.bytes (c.as_slice.ensures ∙ c.in_ok-kind.ensures) c.in_ok-name.ensures.named
    c.in_ok-descriptor.ensures.grows c.in_ok-descriptor.ensures.named

pub text-requires-clause-text : goal.text-requires-clause-text
text-requires-clause-text c =
    subst IsText (sym c.bytes.ensures.bytes)
    (name_text c.args.field.now.name c.bytes.ensures.spelled)

pub text-requires-2-clause-text : goal.text-requires-2-clause-text
text-requires-2-clause-text c =
    subst IsText (sym (c.as_slice.ensures ∙ c.in_ok-kind.ensures))
    (type_text c.args.plain.now c.requires.named c.args.field.now.ty)
