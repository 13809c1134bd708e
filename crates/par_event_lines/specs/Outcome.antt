-- How a run closes.
use Rattle.par_values.specs.Ran.{Outcome, Fine, BadCode}
use Rattle.par_event_lines.specs.declared.puts.Closing.{Closing}
use Rattle.par_event_lines.specs.declared.puts.Closing.TheVariants as closing

abbrev pub outcome : Closing → Outcome
outcome (closing.Ended ending) = Fine ending
outcome (closing.BadCode class method offset reason) = BadCode class method offset reason
