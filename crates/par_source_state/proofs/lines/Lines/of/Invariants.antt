use Rattle.std.proofs.Common.{◌≡◌, take}
use Rattle.par_source_state.specs.Lined.{named, names_shown}
use Rattle.par_source_state.proofs.lines.Lines.of.Given as goal

abbrev pub invariant-loop-line : goal.invariant-loop-line
invariant-loop-line l = names_shown l.names.items ≡ named (take l.line-index l.all)
