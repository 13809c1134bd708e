use Rattle.std.proofs.Common.{length}
use Rattle.par_typed.specs.Shown.{does}
use Rattle.par_program_laws.specs.Body.{sta}
use Rattle.par_program_laws.specs.Declares.{declares}
use Rattle.par_pass_laws.specs.par_except.Seen.{seen}
use Rattle.par_rounds.specs.Took.{total}
use Rattle.par_rounds.specs.Rounds.{AreAfter}
use Rattle.par_rounds.proofs.rounds.quiet.Given as goal

abbrev pub invariant-loop-heads : goal.invariant-loop-heads
invariant-loop-heads l =
    AreAfter (length l.way.env) l.points (sta (declares l.table) (does l.stmt)) (seen l.way)
    l.heads.items

abbrev pub decreases-loop-heads : goal.decreases-loop-heads
decreases-loop-heads l = total (length l.way.env) l.heads.items
