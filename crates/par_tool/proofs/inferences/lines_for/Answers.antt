use Rattle.par_tool.proofs.Inferred.{filled_as}
use Rattle.par_tool.proofs.inferences.lines_for.Goals as goal

pub filling_lines-requires : goal.filling_lines-requires
filling_lines-requires c = c.requires.ready.few_policies

pub returns-in-Ok-clause-filled : goal.returns-in-Ok-clause-filled
returns-in-Ok-clause-filled c =
    let lines = rw c.as_slice.ensures at c.in-Ok.ensures in
    filled_as c.args.source.now c.args.typed.now c.in_ok-filling.filling.fields _
    c.requires.typed c.requires.ready c.in_ok-filling.ensures.filled lines
