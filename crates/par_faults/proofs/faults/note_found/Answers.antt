use Rattle.std.proofs.Common.{sym, ◌∙◌}
use Rattle.par_refusals.proofs.First.{noted}
use Rattle.par_faults.proofs.Joined.{noted_first, noted_none}
use Rattle.par_faults.proofs.faults.note_found.Goals as goal

pub returns-in-None-clause-noted : goal.returns-in-None-clause-noted
returns-in-None-clause-noted c = λ faults is.
    noted_none c.args.findings.now faults (sym c.in-None.is ∙ is)

pub returns-in-Some-clause-noted : goal.returns-in-Some-clause-noted
returns-in-Some-clause-noted c = λ faults is.
    c.note.ensures ∙ noted c.args.findings.now c.in-Some.first
    ∙ noted_first c.args.findings.now faults c.in-Some.first (sym c.in-Some.is ∙ is)
