use Rattle.std.proofs.Common.{refl}
use Rattle.std.proofs.lemmas.Result.{err_from_is_err_and}
use Rattle.par_frame_forms.specs.Reading.{read_type, read_types}
use Rattle.par_given_frames.proofs.Repeated.{Repeats, begins, goes_on, ends, is_done}
use Rattle.par_given_frames.proofs.form_reader.place_types.Goals as goal

by : Repeats read_type read_types
by = record { none = λ bytes. refl; more = λ n bytes. refl }

pub loop-init : goal.loop-init
loop-init c =
    rw c.new-types.ensures (begins read_types c.args.many c.args.bytes.now)

pub returns-in_err-t : goal.returns-in_err-t
returns-in_err-t c =
    let p = err_from_is_err_and c.from_residual.result c.from_residual.ensures.1 in
    rw (p.1, p.2)
    (ends read_type read_types by c.loop.types c.args.many c.loop.counter c.loop.rest.now
    (read_types c.args.many c.args.bytes.now) c.in_err-t.field-0.0 c.loop-test.true
    c.in_err-t.ensures.read
    c.loop.invariant)

pub loop-preserved : goal.loop-preserved
loop-preserved c =
    rw c.in_ok-push.ensures.ok
    (goes_on read_type read_types by c.loop.types c.args.many c.loop.counter c.loop.rest.now
    (read_types c.args.many c.args.bytes.now) c.in_ok-t.t c.in_ok-t.behind.now c.loop-test.true
    c.in_ok-t.ensures.read c.loop.invariant)

pub returns : goal.returns
returns c =
    is_done read_type read_types by c.loop.types c.args.many c.loop.counter c.loop.rest.now
    (read_types c.args.many c.args.bytes.now) c.loop-test.false c.loop.invariant
