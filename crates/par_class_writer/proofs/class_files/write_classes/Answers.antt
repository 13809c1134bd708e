use Rattle.std.proofs.Common.{◌<◌, ◌∙◌, length, arith, ap, sym, string_bytes}
use Rattle.par_loader.specs.Reads.{class_file}
use Rattle.par_compile.specs.declared.compiled.CompiledClass.{CompiledClass}
use Rattle.par_class_writer.specs.Written.{IsCutOff}
use Rattle.par_class_writer.proofs.Changes.{name_there, writes_on, cut_there, handed}
use Rattle.par_class_writer.proofs.class_files.write_classes.Goals as goal

-- the name at the place of a class is that of its file
pub write_class-requires : goal.write_class-requires
write_class-requires g c =
    let within : c.loop-place.place < length c.args.classes.now =
    omega (arith, c.loop-place-test.true) in
    record {
      named =
          c.as_str.ensures.value ∙ ap string_bytes c.index.ensures
          ∙ name_there c.in-Ok.names.items c.args.classes.now c.in-Ok.ensures
          c.loop-place.place within _ c.index-classes-place.result
          ∙ ap (λ (f : CompiledClass). class_file f.name) (sym c.index-classes-place.is);
    }

pub loop-place-preserved : goal.loop-place-preserved
loop-place-preserved g c =
    let within : c.loop-place.place < length c.args.classes.now =
    omega (arith, c.loop-place-test.true) in
    writes_on c.args.classes.now c.loop-place.place c.index-classes-place.result within
    c.index-classes-place.is c.requires.apart
    g.F.Folder.counts_faults_alone (g.F.Folder.files c.args.folder.now)
    (g.F.Folder.files c.loop-place.folder) (g.F.Folder.files c.write_class.new.folder)
    (g.F.Folder.counts c.args.folder.now) (g.F.Folder.counts c.loop-place.folder)
    (g.F.Folder.counts c.write_class.new.folder) c.loop-place.invariant
    c.write_class.ensures.none_falls c.in_ok-write_class.ensures.faults_stand
    c.in_ok-write_class.ensures.written

pub returns-in_err-write_class-clause-cut_off : goal.returns-in_err-write_class-clause-cut_off
returns-in_err-write_class-clause-cut_off g c =
    let within : c.loop-place.place < length c.args.classes.now =
    omega (arith, c.loop-place-test.true) in
    handed c.from_residual.result c.in_err-write_class.field-0.0
    (IsCutOff c.args.classes.now (g.F.Folder.files c.args.folder.now)
    (g.F.Folder.files c.write_class.new.folder) (g.F.Folder.counts c.args.folder.now)
    (g.F.Folder.counts c.write_class.new.folder))
    c.from_residual.ensures.1
    (cut_there c.args.classes.now c.loop-place.place c.index-classes-place.result within
    c.index-classes-place.is c.requires.apart
    g.F.Folder.counts_faults_alone (g.F.Folder.files c.args.folder.now)
    (g.F.Folder.files c.loop-place.folder) (g.F.Folder.files c.write_class.new.folder)
    (g.F.Folder.counts c.args.folder.now) (g.F.Folder.counts c.loop-place.folder)
    (g.F.Folder.counts c.write_class.new.folder) c.loop-place.invariant
    c.write_class.ensures.none_falls c.in_err-write_class.field-0.0
    c.in_err-write_class.ensures.unwritten)
