use Rattle.std.proofs.Common.{length, refl, sym}
use Rattle.std.specs.Prelude.{Err}
use Rattle.std.proofs.lemmas.Option.{slice_get_read}
use Rattle.std.proofs.lemmas.Result.{err_from_is_err_and, MatchResult-at_ok, MatchResult-at_err}
use Rattle.par_frames.specs.declared.error.FrameError.{FrameError}
use Rattle.par_frames.specs.Broken.{AreFrames}
use Rattle.par_given_frames.specs.Answers.{FramesOf}
use Rattle.par_given_frames.proofs.Firsts.{framed_below, zip_more}
use Rattle.par_given_frames.proofs.Handed.{told}
use Rattle.par_given_frames.proofs.files.frames_of.Goals as goal

pub returns-in_err-of_method : goal.returns-in_err-of_method
returns-in_err-of_method c =
    let file = c.args.file.now in
    let place = c.loop-place.place in
    let m = c.index-methods-place.result in
    let less = rw c.as_slice-methods.ensures at c.loop-place-test.true in
    let is = rw c.as_slice-methods.ensures at c.index-methods-place.is in
    let p =
    err_from_is_err_and c.from_residual-in_err-of_method.result
    c.from_residual-in_err-of_method.ensures.1 in
    rw (p.1, p.2)
    (MatchResult-at_err (AreFrames file m) (λ (e : FrameError). FramesOf file (Err e))
    c.in_err-of_method.field-0.0 (sym c.in_err-of_method.ensures)
    (told file place m c.method_frames-read.result
    (framed_below file place c.loop-place.frames c.loop-place.invariant)
    (slice_get_read file.methods (length file.methods) place m refl less is)
    c.method_frames-read.ensures))

pub loop-place-preserved : goal.loop-place-preserved
loop-place-preserved c =
    let file = c.args.file.now in
    let place = c.loop-place.place in
    let m = c.index-methods-place.result in
    let less = rw c.as_slice-methods.ensures at c.loop-place-test.true in
    let is = rw c.as_slice-methods.ensures at c.index-methods-place.is in
    rw c.in_ok-push.ensures.ok
    (zip_more (AreFrames file) file.methods c.loop-place.frames place m c.in_ok-of_method.of_method
    less is c.loop-place.invariant
    (MatchResult-at_ok (AreFrames file m) (λ (e : FrameError). FramesOf file (Err e))
    c.in_ok-of_method.of_method (sym c.in_ok-of_method.ensures)
    (told file place m c.method_frames-read.result
    (framed_below file place c.loop-place.frames c.loop-place.invariant)
    (slice_get_read file.methods (length file.methods) place m refl less is)
    c.method_frames-read.ensures)))
