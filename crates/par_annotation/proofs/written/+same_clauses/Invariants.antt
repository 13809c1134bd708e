use Rattle.std.proofs.Common.{length}
use Rattle.par_annotation.proofs.written.+same_clauses.Given as goal

abbrev pub decreases-same_clauses : goal.decreases-same_clauses
decreases-same_clauses l = length l.one.now
