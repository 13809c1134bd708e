use Rattle.std.proofs.Common.{refl}
use Rattle.par_class.specs.declared.file.ClassFile.{ClassFile}
use Rattle.par_compile.proofs.class.class_file.Goals as goal

pub returns-in-Ok : goal.returns-in-Ok
returns-in-Ok c =
    let file : ClassFile = record {
      minor = 0;
      major = c.version.result;
      pool = c.finish.result;
      access = 49;
      this_class = c.in-Ok.parts.this_class;
      super_class = c.in-Ok.parts.super_class;
      fields = c.in-Ok.parts.fields;
      methods = c.put_parts.new.draft.methods;
      attributes = c.new-attributes.result;
    } in
    c.in-Ok.ensures file (record {
      minor = refl;
      major = c.version.ensures;
      access = refl;
      pool = c.finish.ensures.same;
      distinct = c.finish.ensures.distinct;
      spelled = c.finish.ensures.spelled;
      this_class = refl;
      super_class = refl;
      fields = refl;
      methods = refl;
      attributes = c.new-attributes.ensures;
    })
