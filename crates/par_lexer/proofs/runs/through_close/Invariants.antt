use Rattle.std.proofs.Common.{◌≡◌, ◌+◌, drop}
use Rattle.std.specs.Option.{option_map}
use Rattle.par_lexer.specs.Pieces.{through_close}
use Rattle.par_lexer.proofs.runs.through_close.Given as goal

-- no comment is closed in the bytes that are passed over
abbrev pub invariant-loop-at : goal.invariant-loop-at
invariant-loop-at l =
    through_close l.text ≡ option_map (λ n. l.at + n) (through_close (drop l.at l.text))
