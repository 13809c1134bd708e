use Rattle.std.proofs.Common.{refl}
use Rattle.std.proofs.lemmas.Result.{err_from_is_err_and}
use Rattle.par_frame_forms.specs.Reading.{read_form, read_forms}
use Rattle.par_given_frames.proofs.Repeated.{Repeats, begins, goes_on, ends, is_done}
use Rattle.par_given_frames.proofs.form_reader.forms.Goals as goal

by : Repeats read_form read_forms
by = record { none = λ bytes. refl; more = λ n bytes. refl }

pub loop-init : goal.loop-init
loop-init c =
    rw c.new-forms.ensures (begins read_forms c.args.many c.args.bytes.now)

pub returns-in_err-f : goal.returns-in_err-f
returns-in_err-f c =
    let p = err_from_is_err_and c.from_residual.result c.from_residual.ensures.1 in
    rw (p.1, p.2)
    (ends read_form read_forms by c.loop.forms c.args.many c.loop.counter c.loop.rest.now
    (read_forms c.args.many c.args.bytes.now) c.in_err-f.field-0.0 c.loop-test.true
    c.in_err-f.ensures
    c.loop.invariant)

pub loop-preserved : goal.loop-preserved
loop-preserved c =
    rw c.in_ok-push.ensures.ok
    (goes_on read_form read_forms by c.loop.forms c.args.many c.loop.counter c.loop.rest.now
    (read_forms c.args.many c.args.bytes.now) c.in_ok-f.f c.in_ok-f.behind.now c.loop-test.true
    c.in_ok-f.ensures c.loop.invariant)

pub returns : goal.returns
returns c =
    is_done read_form read_forms by c.loop.forms c.args.many c.loop.counter c.loop.rest.now
    (read_forms c.args.many c.args.bytes.now) c.loop-test.false c.loop.invariant
