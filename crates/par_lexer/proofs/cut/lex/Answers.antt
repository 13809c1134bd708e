use Rattle.std.proofs.Common.{◌≡◌, ◌+◌, List, drop, subst, sym, ◌∙◌}
use Rattle.par_lexer.specs.declared.token.Token.{Token}
use Rattle.par_lexer.specs.declared.piece.Piece.TheVariants as piece
use Rattle.par_lexer.specs.Pieces.{piece_at}
use Rattle.par_lexer.proofs.Progress.{SoFar, gap_passed, token_taken, all_taken, broken_at}
use Rattle.par_lexer.proofs.Laying.{laid}
use Rattle.par_lexer.proofs.Refusals.{refusal}
use Rattle.par_lexer.proofs.cut.lex.Goals as goal

pub returns-in-End-clause-ok : goal.returns-in-End-clause-ok
returns-in-End-clause-ok c =
    let stands : piece_at c.pieces.at (drop c.pieces.at c.args.source.now) ≡ piece.End =
    sym c.in_ok-next_piece.ensures.piece ∙ c.in-End.is in
    all_taken _ _ _ c.pieces.invariant.1 stands

pub returns-in-End-clause-laid : goal.returns-in-End-clause-laid
returns-in-End-clause-laid c = laid _ _ (returns-in-End-clause-ok c)

pub returns-in-Fault-clause-refused : goal.returns-in-Fault-clause-refused
returns-in-Fault-clause-refused c =
    let stands : piece_at c.pieces.at (drop c.pieces.at c.args.source.now)
    ≡ piece.Fault c.in-Fault.error = sym c.in_ok-next_piece.ensures.piece ∙ c.in-Fault.is in
    refusal _ _ c.pieces.invariant.0 (broken_at _ _ _ _ c.pieces.invariant.1 stands)

pub pieces-preserved-in-Gap : goal.pieces-preserved-in-Gap
pieces-preserved-in-Gap c =
    let stands : piece_at c.pieces.at (drop c.pieces.at c.args.source.now)
    ≡ piece.Gap c.in-Gap.length = sym c.in_ok-next_piece.ensures.piece ∙ c.in-Gap.is in
    (c.pieces.invariant.0, gap_passed _ _ _ _ c.pieces.invariant.1 stands)

pub pieces-preserved : goal.pieces-preserved
pieces-preserved c =
    let stands : piece_at c.pieces.at (drop c.pieces.at c.args.source.now)
    ≡ piece.Token c.in-Token.kind c.in-Token.length =
    sym c.in_ok-next_piece.ensures.piece ∙ c.in-Token.is in
    let Taken : List Token → Type 0 = SoFar c.args.source.now (c.pieces.at + c.in-Token.length) in (
      c.pieces.invariant.0,
      subst Taken (sym c.in_ok-push-in-Token.ensures.ok)
          (token_taken _ _ _ _ _ c.pieces.invariant.1 stands),
    )
