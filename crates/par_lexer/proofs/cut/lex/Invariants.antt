use Rattle.std.proofs.Common.{◌-◌, ◌≤◌, length}
use Rattle.par_lexer.specs.declared.cut.TheConstants.{LONGEST_SOURCE}
use Rattle.par_lexer.proofs.Progress.{SoFar}
use Rattle.par_lexer.proofs.cut.lex.Given as goal

-- the tokens so far stand before whatever is behind them
abbrev pub invariant-pieces : goal.invariant-pieces
invariant-pieces l = (length l.source ≤ LONGEST_SOURCE) × SoFar l.source l.at l.tokens

-- the bytes that are left
abbrev pub decreases-pieces : goal.decreases-pieces
decreases-pieces l = length l.source - l.at
