use Rattle.std.proofs.Common.{length, ap, ◌∙◌}
use Rattle.std.proofs.lemmas.Result.{IfOk-weaker}
use Rattle.std.specs.Option.{option_map}
use Rattle.par_single.specs.Descriptors.{kind_of}
use Rattle.par_frame_steps.specs.Marks.{names, frame_of}
use Rattle.par_frame_passes.specs.Tables.{table_of}
use Rattle.par_verify.proofs.Methods as method
use Rattle.par_verify.proofs.Telling.{frames-of, all-placed}
use Rattle.par_verify.proofs.Deciding.{judged-says}
use Rattle.par_verify.proofs.verifier.fits_from.Goals as goal

pub judge-fits-requires-clause-small : goal.judge-fits-requires-clause-small
judge-fits-requires-clause-small c =
    let site = c.args.site in
    method.short site.linked.now site.class c.args.file.now c.args.place c.args.method.now
    c.requires.there c.count.ensures.linked site.code.now c.requires.coded

pub judge-fits-requires-clause-many : goal.judge-fits-requires-clause-many
judge-fits-requires-clause-many c =
    ap length c.as_mut_slice.ensures.value ∙ c.in_ok-table.ensures.many

pub returns : goal.returns
returns c =
    let site = c.args.site in
    let files = site.linked.now in
    let m = c.args.method.now in
    let code = site.code.now in
    let file = c.args.file.now in
    IfOk-weaker c.judge-fits.result _ _
    (λ fits judged. λ all of.
    let frames = frames-of files all site.class c.args.place file m of c.requires.there in
    judged-says files all site.class c.args.place (names site.exceptions.now)
    (option_map kind_of site.gives) code (frame_of c.args.first.now)
    (table_of c.as_mut_slice.result.now) frames.0 fits c.requires.exceptions c.requires.gives
    (method.code files site.class file c.args.place m c.requires.there code c.requires.coded)
    c.requires.first frames.1 (all-placed file m code frames.0 frames.2 c.requires.coded)
    (ap table_of c.as_mut_slice.ensures.value
    ∙ c.in_ok-table.ensures.told frames.0 frames.2) judged)
    c.judge-fits.ensures
