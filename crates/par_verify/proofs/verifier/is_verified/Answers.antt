use Rattle.std.proofs.Common.{◌≡◌, ap, ◌∙◌}
use Rattle.par_single.specs.Members.{own_name, text_at, is_static}
use Rattle.par_frame_steps.specs.Marks.{frame_of}
use Rattle.par_verify.specs.Calls.{call_of, call_said, given_in, frame_given}
use Rattle.par_verify.proofs.Calling.{some_calls, given-said}
use Rattle.par_verify.proofs.Methods as method
use Rattle.par_verify.proofs.verifier.is_verified.Goals as goal

pub call_at-call-requires : goal.call_at-call-requires
call_at-call-requires c =
    some_calls (own_name c.args.file.now) c.args.file.now.pool.entries c.args.calls.now
    c.requires.calls

pub fits_from-fits-requires-clause-gives : goal.fits_from-fits-requires-clause-gives
fits_from-fits-requires-clause-gives c =
    let m = c.args.method.now in
    let file = c.args.file.now in
    let called : call_of c.call_at-call.result.now
    ≡ call_said (own_name file) (text_at file.pool.entries m.descriptor) =
    c.call_at-call.ensures (own_name file) file.pool.entries c.requires.calls in
    ap (λ k. k.gives) called
    ∙ method.gives c.args.program.linked.now c.args.class file c.args.place m c.requires.there

pub fits_from-fits-requires-clause-listed : goal.fits_from-fits-requires-clause-listed
fits_from-fits-requires-clause-listed c =
    let m = c.args.method.now in
    let file = c.args.file.now in
    let text = text_at file.pool.entries m.descriptor in
    let called : call_of c.call_at-call.result.now ≡ call_said (own_name file) text =
    c.call_at-call.ensures (own_name file) file.pool.entries c.requires.calls in
    c.in_ok-first.ensures.listed
    ∙ ap (λ s. given_in s (call_of c.call_at-call.result.now)) c.is_static.ensures
    ∙ ap (given_in (is_static m.access)) called
    ∙ given-said (is_static m.access) (own_name file) text

pub fits_from-fits-requires-clause-first : goal.fits_from-fits-requires-clause-first
fits_from-fits-requires-clause-first c =
    let m = c.args.method.now in
    let code = c.args.code.now in
    let file = c.args.file.now in
    let text = text_at file.pool.entries m.descriptor in
    let called : call_of c.call_at-call.result.now ≡ call_said (own_name file) text =
    c.call_at-call.ensures (own_name file) file.pool.entries c.requires.calls in
    c.in_ok-first.ensures.frame
    ∙ ap (λ s. frame_given code.max_locals (given_in s (call_of c.call_at-call.result.now)))
    c.is_static.ensures
    ∙ ap (λ k. frame_given code.max_locals (given_in (is_static m.access) k)) called
    ∙ ap (frame_given code.max_locals) (given-said (is_static m.access) (own_name file) text)
    ∙ method.first c.args.program.linked.now c.args.class file c.args.place m c.requires.there code
    c.requires.coded
