use Rattle.std.proofs.Common.{◌∙◌, arith}
use Rattle.std.proofs.lemmas.List.{take_all}
use Rattle.par_rounds.proofs.notes.copied.Goals as goal

pub returns : goal.returns
returns c = c.loop-head.invariant ∙ take_all c.loop-head.head-index c.args.heads.now (omega arith)
