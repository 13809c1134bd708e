use Rattle.par_event_lines.proofs.Lines as lines
use Rattle.par_event_lines.proofs.laws.equal_lines_are_equal_events.Goals as goal

pub returns : goal.returns
returns c = lines.equal_lines_are_equal_events
