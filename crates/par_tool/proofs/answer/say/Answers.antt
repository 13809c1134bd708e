use Rattle.std.proofs.Common.{◌∙◌}
use Rattle.std.proofs.lemmas.Bool.{false≢true}
use Rattle.par_tool.proofs.Saying.{put_fails, lacks_line}
use Rattle.par_tool.proofs.answer.say.Goals as goal

pub returns-in_default-clause-said : goal.returns-in_default-clause-said
returns-in_default-clause-said g c =
    lacks_line c.args.answer _ _ (λ fault. false≢true (c.in_default.ensures.firm fault))

pub returns-clause-said : goal.returns-clause-said
returns-clause-said g c =
    put_fails c.args.answer c.bytes.result.now _ _ _ _ (c.bytes.ensures ∙ c.in-Ok.ensures.line)
    c.in-Err.ensures.failed_counts c.in-Err.ensures.counted c.in-Err.ensures.failed
