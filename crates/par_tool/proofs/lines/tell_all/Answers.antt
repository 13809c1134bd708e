use Rattle.par_tool.proofs.lines.tell_all.Goals as goal

pub returns-clause-said : goal.returns-clause-said
returns-clause-said g c = rw c.as_slice.ensures.value at c.tell_lines-status.ensures.said
