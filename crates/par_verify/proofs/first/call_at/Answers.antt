use Rattle.std.proofs.Common.{length, get_or, refl, ap, ◌∙◌}
use Rattle.std.proofs.lemmas.Option.{slice_get_read, slice_get_past}
use Rattle.par_verify.proofs.Calling.{call_there, call_missing}
use Rattle.par_verify.proofs.first.call_at.Goals.{then-index-calls, else-index-calls}
use Rattle.par_verify.proofs.first.call_at.Goals as goal

pub returns : goal.returns
returns c = λ class pool are.
    let calls = c.args.calls.now in
    let at = c.args.descriptor in
    let call = c.index-calls-index.result in
    elim c.if-index-calls.branch [
      | then-index-calls w ↦
          call_there class pool calls at are call
          (slice_get_read calls (length calls) at call refl w.if-index-calls.true
          (c.index-calls-index.is ∙ ap (λ n. get_or calls n call) w.index-is))
      | else-index-calls w ↦
          call_missing class pool calls at are call
          (slice_get_past calls at w.if-index-calls.false)
          (call_there class pool calls 0 are call
          (slice_get_read calls (length calls) 0 call refl c.requires
          (c.index-calls-index.is ∙ ap (λ n. get_or calls n call) w.index-is)))
    ]
