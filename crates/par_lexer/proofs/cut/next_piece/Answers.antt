use Rattle.std.proofs.Common.{List, ℕ, IfOk, subst}
use Rattle.par_lexer.specs.Spans.{Reaches}
use Rattle.par_lexer.proofs.Reach.{made_reaches}
use Rattle.par_lexer.proofs.cut.next_piece.Goals as goal

pub returns-clause-reach : goal.returns-clause-reach
returns-clause-reach c =
    let Reach : List ℕ → Type 0 = λ bytes. IfOk c.piece_at.result (Reaches c.args.at bytes) in
    subst Reach c.split_at.ensures.back (made_reaches _ _ _ c.piece_at.ensures)
