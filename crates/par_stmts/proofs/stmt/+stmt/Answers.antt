use Rattle.std.proofs.Common.{◌∙◌, ◌∷◌, [], sym, ap, arith, refl}
use Rattle.par_grammar.specs.Grammar as symbol
use Rattle.par_grammar.proofs.Run.{run}
use Rattle.par_policy_reader.specs.par_reader.Reads.{input}
use Rattle.par_policy_reader.proofs.par_reader.Alternatives.{opens, refuses, building, keeping}
use Rattle.par_policy_reader.proofs.par_reader.Alternatives.{again}
use Rattle.par_policy_reader.proofs.par_reader.Alternatives.{fails_again}
use Rattle.par_policy_reader.proofs.par_reader.Alternatives.{handed, continued}
use Rattle.par_tree.specs.Grammar as g
use Rattle.par_tree.specs.Shown.{all_do, all_catch}
use Rattle.par_tree.specs.Values.{paragon, stas, catches}
use Rattle.par_tree.proofs.Founded.{founded}
use Rattle.par_tree.proofs.Rules.{run_built, stmts_opens}
use Rattle.par_stmts.specs.Reads.{the_stmts, the_catches}
use Rattle.par_stmts.proofs.Built.{behind}
use Rattle.par_stmts.proofs.stmt.+stmt.Goals as goal

-- the bodies of the two loops
abbrev one_stmt : g.Symbols
one_stmt = symbol.name g.Stmt ∷ symbol.builds g.NextStmt ∷ []

abbrev one_catch : g.Symbols
one_catch = symbol.name g.Catch ∷ symbol.builds g.NextCatch ∷ []

pub block-returns-then-sees-clause-read : goal.block-returns-then-sees-clause-read
block-returns-then-sees-clause-read t c =
    opens paragon founded (rw (sym c.sees.ensures ∙ c.if-sees.true)) c.braced.ensures.read

pub block-returns-else-sees-clause-read : goal.block-returns-else-sees-clause-read
block-returns-else-sees-clause-read t c =
    refuses paragon founded (rw (sym c.sees.ensures ∙ c.if-sees.false))

pub stmts-more-init : goal.stmts-more-init
stmts-more-init t c = record {
  leads =
      λ s vs. stmts_opens s (input c.args.cursor.now) vs
      ∙ run_built (symbol.name g.MoreStmts ∷ s) (input c.args.cursor.now) vs g.NoStmts
      ∙ ap (λ found. run paragon founded (symbol.name g.MoreStmts ∷ s) (input c.args.cursor.now)
      (stas (all_do found) ∷ vs)) (sym c.new-found.ensures);
  shorter = omega arith;
}

pub stmts-returns-in_err-found-clause-read : goal.stmts-returns-in_err-found-clause-read
stmts-returns-in_err-found-clause-read t c =
    handed paragon founded (symbol.name g.MoreStmts ∷ []) (the_stmts c.more.found)
    (input c.more.cursor) c.from_residual.ensures.1 c.more.invariant.leads
    (fails_again paragon founded g.MoreStmts one_stmt (the_stmts c.more.found)
    (rw (sym c.sees.ensures ∙ c.more-test.true)) c.in_err-found.ensures.read)

pub stmts-more-preserved : goal.stmts-more-preserved
stmts-more-preserved t c = record {
  leads = λ s vs. c.more.invariant.leads s vs
      ∙ again paragon founded g.MoreStmts one_stmt (the_stmts c.more.found)
      (rw (sym c.sees.ensures ∙ c.more-test.true)) c.in_ok-found.ensures.read s vs;
  shorter = omega (arith, c.in_ok-found.ensures.shorter);
}

pub stmts-returns-clause-read : goal.stmts-returns-clause-read
stmts-returns-clause-read t c =
    continued paragon founded (symbol.name g.MoreStmts ∷ [])
    (the_stmts c.more.found) c.more.invariant.leads
    (opens paragon founded (rw (sym c.sees.ensures ∙ c.more-test.false))
    (keeping paragon founded (λ vs. refl)))

pub stmt-returns-then-sees-clause-read : goal.stmt-returns-then-sees-clause-read
stmt-returns-then-sees-clause-read t c =
    opens paragon founded (rw (sym c.sees.ensures ∙ c.if-sees.true)) c.block_stmt.ensures.read

pub stmt-returns-then-sees-2-clause-read : goal.stmt-returns-then-sees-2-clause-read
stmt-returns-then-sees-2-clause-read t c =
    opens paragon founded (rw (
      sym c.sees.ensures ∙ c.if-sees.false,
      sym c.sees-else-sees.ensures ∙ c.if-sees-2.true,
    )) c.if_stmt.ensures.read

pub stmt-returns-then-sees-3-clause-read : goal.stmt-returns-then-sees-3-clause-read
stmt-returns-then-sees-3-clause-read t c = opens paragon founded
    (rw (
      sym c.sees.ensures ∙ c.if-sees.false,
      sym c.sees-else-sees.ensures ∙ c.if-sees-2.false,
      sym c.sees-else-sees-2.ensures ∙ c.if-sees-3.true,
    ))
    c.while_stmt.ensures.read

pub stmt-returns-then-sees-4-clause-read : goal.stmt-returns-then-sees-4-clause-read
stmt-returns-then-sees-4-clause-read t c = opens paragon founded
    (rw (
      sym c.sees.ensures ∙ c.if-sees.false,
      sym c.sees-else-sees.ensures ∙ c.if-sees-2.false,
      sym c.sees-else-sees-2.ensures ∙ c.if-sees-3.false,
      sym c.sees-else-sees-3.ensures ∙ c.if-sees-4.true,
    ))
    c.try_stmt.ensures.read

pub stmt-returns-then-sees-5-clause-read : goal.stmt-returns-then-sees-5-clause-read
stmt-returns-then-sees-5-clause-read t c = opens paragon founded
    (rw (
      sym c.sees.ensures ∙ c.if-sees.false,
      sym c.sees-else-sees.ensures ∙ c.if-sees-2.false,
      sym c.sees-else-sees-2.ensures ∙ c.if-sees-3.false,
      sym c.sees-else-sees-3.ensures ∙ c.if-sees-4.false,
      sym c.sees-else-sees-4.ensures ∙ c.if-sees-5.true,
    ))
    c.when_stmt.ensures.read

pub stmt-simple-requires : goal.stmt-simple-requires
stmt-simple-requires t c = record {
  brace = sym c.sees.ensures ∙ c.if-sees.false;
  if_ = sym c.sees-else-sees.ensures ∙ c.if-sees-2.false;
  while_ = sym c.sees-else-sees-2.ensures ∙ c.if-sees-3.false;
  try_ = sym c.sees-else-sees-3.ensures ∙ c.if-sees-4.false;
  when_ = sym c.sees-else-sees-4.ensures ∙ c.if-sees-5.false;
}

pub if_stmt-returns-then-sees-clause-read : goal.if_stmt-returns-then-sees-clause-read
if_stmt-returns-then-sees-clause-read t c =
    opens paragon founded (rw (sym c.sees.ensures ∙ c.if-sees.true)) c.parts_of_if.ensures.read

pub if_stmt-returns-else-sees-clause-read : goal.if_stmt-returns-else-sees-clause-read
if_stmt-returns-else-sees-clause-read t c =
    refuses paragon founded (rw (sym c.sees.ensures ∙ c.if-sees.false))

pub else_part-returns-then-sees-clause-read : goal.else_part-returns-then-sees-clause-read
else_part-returns-then-sees-clause-read t c =
    opens paragon founded (rw (sym c.sees.ensures ∙ c.if-sees.true)) c.some_else.ensures.read

pub else_part-returns-else-sees-clause-read : goal.else_part-returns-else-sees-clause-read
else_part-returns-else-sees-clause-read t c =
    opens paragon founded (rw (sym c.sees.ensures ∙ c.if-sees.false))
    (building paragon founded g.NoElse (λ vs. refl))

pub other_stmt-returns-then-sees-clause-read : goal.other_stmt-returns-then-sees-clause-read
other_stmt-returns-then-sees-clause-read t c =
    opens paragon founded (rw (sym c.sees.ensures ∙ c.if-sees.true)) c.other_block.ensures.read

pub other_stmt-returns-then-sees-2-clause-read : goal.other_stmt-returns-then-sees-2-clause-read
other_stmt-returns-then-sees-2-clause-read t c =
    opens paragon founded (rw (
      sym c.sees.ensures ∙ c.if-sees.false,
      sym c.sees-else-sees.ensures ∙ c.if-sees-2.true,
    )) c.other_if.ensures.read

pub other_stmt-returns-else-sees-2-clause-read : goal.other_stmt-returns-else-sees-2-clause-read
other_stmt-returns-else-sees-2-clause-read t c = refuses paragon founded
    (rw (sym c.sees.ensures ∙ c.if-sees.false, sym c.sees-else-sees.ensures ∙ c.if-sees-2.false))

pub when_else-returns-then-sees-clause-read : goal.when_else-returns-then-sees-clause-read
when_else-returns-then-sees-clause-read t c =
    opens paragon founded (rw (sym c.sees.ensures ∙ c.if-sees.true)) c.some_when_else.ensures.read

pub when_else-returns-else-sees-clause-read : goal.when_else-returns-else-sees-clause-read
when_else-returns-else-sees-clause-read t c =
    opens paragon founded (rw (sym c.sees.ensures ∙ c.if-sees.false))
    (building paragon founded g.NoBlock (λ vs. refl))

pub else_block-returns-then-sees-clause-read : goal.else_block-returns-then-sees-clause-read
else_block-returns-then-sees-clause-read t c =
    opens paragon founded (rw (sym c.sees.ensures ∙ c.if-sees.true)) c.deeper_block.ensures.read

pub else_block-returns-else-sees-clause-read : goal.else_block-returns-else-sees-clause-read
else_block-returns-else-sees-clause-read t c =
    refuses paragon founded (rw (sym c.sees.ensures ∙ c.if-sees.false))

pub first_catch-returns-clause-read : goal.first_catch-returns-clause-read
first_catch-returns-clause-read t c =
    behind g.NoCatches one_catch (the_catches c.new-none.result)
    (λ vs. ap (λ found. catches (all_catch found) ∷ vs) (sym c.new-none.ensures))
    c.next_catch.ensures.read

pub more_catches-returns-in_err-found-clause-read
    : goal.more_catches-returns-in_err-found-clause-read
more_catches-returns-in_err-found-clause-read t c =
    handed paragon founded (symbol.name g.MoreCatches ∷ []) (the_catches c.more.found)
    (input c.more.cursor) c.from_residual.ensures.1 c.more.invariant.leads
    (fails_again paragon founded g.MoreCatches one_catch (the_catches c.more.found)
    (rw (sym c.sees.ensures ∙ c.more-test.true)) c.in_err-found.ensures.read)

pub more_catches-more-preserved : goal.more_catches-more-preserved
more_catches-more-preserved t c = record {
  leads = λ s vs. c.more.invariant.leads s vs
      ∙ again paragon founded g.MoreCatches one_catch (the_catches c.more.found)
      (rw (sym c.sees.ensures ∙ c.more-test.true)) c.in_ok-found.ensures.read s vs;
  shorter = omega (arith, c.in_ok-found.ensures.shorter);
}

pub more_catches-returns-clause-read : goal.more_catches-returns-clause-read
more_catches-returns-clause-read t c =
    continued paragon founded (symbol.name g.MoreCatches ∷ [])
    (the_catches c.more.found) c.more.invariant.leads
    (opens paragon founded (rw (sym c.sees.ensures ∙ c.more-test.false))
    (keeping paragon founded (λ vs. refl)))
