use Rattle.std.proofs.Common.{◌≡◌, length}
use Rattle.par_inputs.specs.Numbers.{numbers_of}
use Rattle.par_inputs.proofs.Words.{behind_these}
use Rattle.par_inputs.proofs.line.numbers_of.Given as goal

-- the numbers so far stand before those of the text that is left
abbrev pub invariant-words : goal.invariant-words
invariant-words l = numbers_of l.text ≡ behind_these l.numbers (numbers_of l.rest)

abbrev pub decreases-words : goal.decreases-words
decreases-words l = length l.rest
