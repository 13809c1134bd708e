use Rattle.par_resolved.specs.Read.{AreRead}
use Rattle.par_resolved.specs.Seen.{known_seen}
use Rattle.par_resolved.proofs.known.Known.read_all.Given as goal

-- those so far come to what is kept of them
abbrev pub invariant-loop-expr : goal.invariant-loop-expr
invariant-loop-expr l = AreRead (known_seen l.self) l.read.items
