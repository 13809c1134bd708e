use Rattle.std.proofs.Common.{◌≡◌, drop}
use Rattle.par_bits.specs.Sets.{has}
use Rattle.par_pass_laws.specs.Exits.{contexts}
use Rattle.par_ways.specs.Seen.{seen_exits}
use Rattle.par_ways.proofs.exits.context_of.Given as goal

abbrev pub invariant-loop-exit : goal.invariant-loop-exit
invariant-loop-exit l =
    contexts (has l.context) (seen_exits (drop l.exit-index l.exits))
    ≡ contexts (has l.fn.first) (seen_exits l.exits)
