use Rattle.std.proofs.Common.{length, refl, sym, subst}
use Rattle.std.proofs.lemmas.Option.{slice_get_read}
use Rattle.std.specs.List.{AllZip}
use Rattle.par_class.specs.declared.file.ClassFile.{ClassFile}
use Rattle.par_single.specs.Members.{own_name}
use Rattle.par_frames.specs.Broken.{AreFrames}
use Rattle.par_given_frames.specs.Named.{AreNamed}
use Rattle.par_given_frames.proofs.Firsts.{zip_more}
use Rattle.par_framed_program.specs.Framed.{AreFramesOf}
use Rattle.par_framed_program.proofs.Looked.{framed_more, told, known_framed, unframed_here}
use Rattle.par_framed_program.proofs.frames.all_frames.Goals as goal

pub frames_of-requires-clause-named : goal.frames_of-requires-clause-named
frames_of-requires-clause-named c =
    subst (λ (f : ClassFile). AreNamed f.pool.entries) (sym c.index-files-place.is)
    (c.requires.named c.loop-place.place c.index-files-place.result c.loop-place-test.true)

pub returns-in-Err-Broken : goal.returns-in-Err-Broken
returns-in-Err-Broken c =
    let files = c.args.files.now in
    let place = c.loop-place.place in
    let file = c.index-files-place.result in
    told (AreFramesOf files) files (own_name file) 46 c.in-Err-Broken.method c.unframed.result
    (rw c.in-Err-Broken.field-0-is at c.unframed.ensures)
    (unframed_here files place file _ c.in-Err-Broken.method c.loop-place.invariant.before
    (slice_get_read files (length files) place file refl c.loop-place-test.true
    c.index-files-place.is)
    (rw c.in-Err-Broken.field-0-is at c.in-Err-Broken.ensures))

pub loop-place-preserved : goal.loop-place-preserved
loop-place-preserved c =
    let files = c.args.files.now in
    let place = c.loop-place.place in
    let file = c.index-files-place.result in
    record {
      before =
          framed_more files place file c.loop-place.invariant.before
          (slice_get_read files (length files) place file refl c.loop-place-test.true
          c.index-files-place.is)
          (known_framed file c.in-Ok.of_file c.in-Ok.ensures);
      frames =
          rw c.in_ok-push-in-Ok.ensures.ok
          (zip_more (λ f of_file. AllZip (AreFrames f) f.methods of_file) files
          c.loop-place.frames place file c.in-Ok.of_file c.loop-place-test.true
          c.index-files-place.is c.loop-place.invariant.frames c.in-Ok.ensures);
    }
