use Rattle.std.proofs.Common.{◌∙◌, sym, ap, arith, refl, ◌∷◌, []}
use Rattle.par_lexer.specs.declared.sign.TheConstants as signs
use Rattle.par_grammar.specs.declared.sort.Sort.TheVariants as sort
use Rattle.par_grammar.specs.Grammar as symbol
use Rattle.par_grammar.specs.Derivation.{next}
use Rattle.par_grammar.proofs.Run.{run}
use Rattle.par_reader.specs.Reads.{input}
use Rattle.par_reader.proofs.Alternatives.{opens, refuses, again, fails_again}
use Rattle.par_reader.proofs.Alternatives.{building, keeping}
use Rattle.par_reader.proofs.Alternatives.{handed, continued}
use Rattle.par_tree.specs.Grammar as g
use Rattle.par_tree.specs.Shown.{shown, all_shown}
use Rattle.par_tree.specs.Values.{paragon, tok, exp, exps}
use Rattle.par_tree.proofs.Founded.{founded}
use Rattle.par_tree.proofs.Rules.{run_built}
use Rattle.par_exprs.proofs.Made.{made}
use Rattle.par_exprs.proofs.Lines.{level_low, level_high, more_row, more_none, part}
use Rattle.par_exprs.proofs.expr.+expr.Goals as goal

-- A line of operators: its alternative is the next line and what follows, or that of what binds
-- most.
pub level-returns-then-line-lt-LINES-clause-read : goal.level-returns-then-line-lt-LINES-clause-read
level-returns-then-line-lt-LINES-clause-read t c =
    opens paragon founded (level_low c.args.line
    (next (input c.args.cursor.now)) c.if-line-lt-LINES.true) c.chain.ensures.read

pub level-returns-else-line-lt-LINES-clause-read : goal.level-returns-else-line-lt-LINES-clause-read
level-returns-else-line-lt-LINES-clause-read t c =
    opens paragon founded (level_high c.args.line
    (next (input c.args.cursor.now)) c.if-line-lt-LINES.false) c.unary.ensures.read

-- The operators of a line, as a loop: a row that fits chooses its alternative, and none chooses
-- nothing.
pub more-returns-in_err-left-in-Some-clause-read : goal.more-returns-in_err-left-in-Some-clause-read
more-returns-in_err-left-in-Some-clause-read t c =
    handed paragon founded (symbol.name (g.More c.args.line) ∷ []) (exp (shown c.more.left) ∷ [])
    (input c.more.cursor) c.from_residual.ensures.1 c.more.invariant.leads
    (fails_again paragon founded (g.More c.args.line)
    (part c.args.line (c.in-Some.sign, c.in-Some.op)) (exp (shown c.more.left) ∷ [])
    (more_row c.args.line (next (input c.more.cursor)) (c.in-Some.sign, c.in-Some.op)
    (rw (← c.peek.ensures) (sym c.operator.ensures ∙ c.in-Some.is)))
    c.in_err-left-in-Some.ensures.read)

pub more-more-preserved : goal.more-more-preserved
more-more-preserved t c =
    record {
      leads = λ s vs. c.more.invariant.leads s vs
          ∙ again paragon founded (g.More c.args.line)
          (part c.args.line (c.in-Some.sign, c.in-Some.op)) (exp (shown c.more.left) ∷ [])
          (more_row c.args.line (next (input c.more.cursor)) (c.in-Some.sign, c.in-Some.op)
          (rw (← c.peek.ensures) (sym c.operator.ensures ∙ c.in-Some.is)))
          c.in_ok-left-in-Some.ensures.read s vs;
      shorter = omega (arith, c.in_ok-left-in-Some.ensures.shorter);
    }

pub more-returns-in-None-clause-read : goal.more-returns-in-None-clause-read
more-returns-in-None-clause-read t c =
    continued paragon founded (symbol.name (g.More c.args.line) ∷ [])
    (exp (shown c.more.left) ∷ []) c.more.invariant.leads
    (opens paragon founded
    (more_none c.args.line (next (input c.more.cursor))
    (rw (← c.peek.ensures) (sym c.operator.ensures ∙ c.in-None.is)))
    (keeping paragon founded (λ vs. refl)))

-- A choice: what the tests saw chooses the alternative, and its reader is the reader of the name.
pub unary-returns-then-sees-clause-read : goal.unary-returns-then-sees-clause-read
unary-returns-then-sees-clause-read t c =
    opens paragon founded (rw (sym c.sees.ensures ∙ c.if-sees.true)) c.negation.ensures.read

pub unary-returns-then-sees-2-clause-read : goal.unary-returns-then-sees-2-clause-read
unary-returns-then-sees-2-clause-read t c =
    opens paragon founded (rw (
      sym c.sees.ensures ∙ c.if-sees.false,
      sym c.sees-else-sees.ensures ∙ c.if-sees-2.true,
    )) c.inversion.ensures.read

pub unary-returns-else-sees-2-clause-read : goal.unary-returns-else-sees-2-clause-read
unary-returns-else-sees-2-clause-read t c =
    opens paragon founded (rw (
      sym c.sees.ensures ∙ c.if-sees.false,
      sym c.sees-else-sees.ensures ∙ c.if-sees-2.false,
    )) c.postfix.ensures.read

-- A loop hands on the error of its body, goes on where its body has read, and ends at another
-- token.
pub tail-returns-in_err-of-clause-read : goal.tail-returns-in_err-of-clause-read
tail-returns-in_err-of-clause-read t c =
    handed paragon founded (symbol.name g.Tail ∷ []) (exp (shown c.more.of) ∷ [])
    (input c.more.cursor) c.from_residual.ensures.1 c.more.invariant.leads
    (fails_again paragon founded g.Tail
    (symbol.counts ∷ symbol.token (sort.Sign signs.DOT) ∷ symbol.kept sort.Name
    ∷ symbol.name g.Selected ∷ []) (exp (shown c.more.of) ∷ [])
    (rw (sym c.sees.ensures ∙ c.more-test.true)) c.in_err-of.ensures.read)

pub tail-more-preserved : goal.tail-more-preserved
tail-more-preserved t c =
    record {
      leads = λ s vs. c.more.invariant.leads s vs
          ∙ again paragon founded g.Tail
          (symbol.counts ∷ symbol.token (sort.Sign signs.DOT) ∷ symbol.kept sort.Name
          ∷ symbol.name g.Selected ∷ []) (exp (shown c.more.of) ∷ [])
          (rw (sym c.sees.ensures ∙ c.more-test.true)) c.in_ok-of.ensures.read s vs;
      shorter = omega (arith, c.in_ok-of.ensures.shorter);
    }

pub tail-returns-clause-read : goal.tail-returns-clause-read
tail-returns-clause-read t c =
    continued paragon founded (symbol.name g.Tail ∷ [])
    (exp (shown c.more.of) ∷ []) c.more.invariant.leads
    (opens paragon founded (rw (sym c.sees.ensures ∙ c.more-test.false))
    (keeping paragon founded (λ vs. refl)))

pub selected-returns-then-sees-clause-read : goal.selected-returns-then-sees-clause-read
selected-returns-then-sees-clause-read t c =
    opens paragon founded (rw (sym c.sees.ensures ∙ c.if-sees.true)) c.call_on.ensures.read

pub selected-returns-else-sees-clause-read : goal.selected-returns-else-sees-clause-read
selected-returns-else-sees-clause-read t c =
    opens paragon founded (rw (sym c.sees.ensures ∙ c.if-sees.false))
    (made g.Select (tok c.args.name.now ∷ exp (shown c.args.of) ∷ []) _ _ _ c.selected.ensures
    (λ vs. refl))

pub primary-returns-then-sees-clause-read : goal.primary-returns-then-sees-clause-read
primary-returns-then-sees-clause-read t c =
    opens paragon founded (rw (sym c.sees.ensures ∙ c.if-sees.true)) c.constant.ensures.read

pub primary-returns-then-sees-2-clause-read : goal.primary-returns-then-sees-2-clause-read
primary-returns-then-sees-2-clause-read t c =
    opens paragon founded (rw (
      sym c.sees.ensures ∙ c.if-sees.false,
      sym c.sees-else-sees.ensures ∙ c.if-sees-2.true,
    )) c.truth.ensures.read

pub primary-returns-then-sees-3-clause-read : goal.primary-returns-then-sees-3-clause-read
primary-returns-then-sees-3-clause-read t c =
    opens paragon founded
    (rw (
      sym c.sees.ensures ∙ c.if-sees.false,
      sym c.sees-else-sees.ensures ∙ c.if-sees-2.false,
      sym c.sees-else-sees-2.ensures ∙ c.if-sees-3.true,
    )) c.falsity.ensures.read

pub primary-returns-then-sees-4-clause-read : goal.primary-returns-then-sees-4-clause-read
primary-returns-then-sees-4-clause-read t c =
    opens paragon founded
    (rw (
      sym c.sees.ensures ∙ c.if-sees.false,
      sym c.sees-else-sees.ensures ∙ c.if-sees-2.false,
      sym c.sees-else-sees-2.ensures ∙ c.if-sees-3.false,
      sym c.sees-else-sees-3.ensures ∙ c.if-sees-4.true,
    )) c.null.ensures.read

pub primary-returns-then-sees-5-clause-read : goal.primary-returns-then-sees-5-clause-read
primary-returns-then-sees-5-clause-read t c =
    opens paragon founded
    (rw (
      sym c.sees.ensures ∙ c.if-sees.false,
      sym c.sees-else-sees.ensures ∙ c.if-sees-2.false,
      sym c.sees-else-sees-2.ensures ∙ c.if-sees-3.false,
      sym c.sees-else-sees-3.ensures ∙ c.if-sees-4.false,
      sym c.sees-else-sees-4.ensures ∙ c.if-sees-5.true,
    )) c.this.ensures.read

pub primary-returns-then-sees-6-clause-read : goal.primary-returns-then-sees-6-clause-read
primary-returns-then-sees-6-clause-read t c =
    opens paragon founded
    (rw (
      sym c.sees.ensures ∙ c.if-sees.false,
      sym c.sees-else-sees.ensures ∙ c.if-sees-2.false,
      sym c.sees-else-sees-2.ensures ∙ c.if-sees-3.false,
      sym c.sees-else-sees-3.ensures ∙ c.if-sees-4.false,
      sym c.sees-else-sees-4.ensures ∙ c.if-sees-5.false,
      sym c.sees-else-sees-5.ensures ∙ c.if-sees-6.true,
    )) c.creation.ensures.read

pub primary-returns-then-sees-7-clause-read : goal.primary-returns-then-sees-7-clause-read
primary-returns-then-sees-7-clause-read t c =
    opens paragon founded
    (rw (
      sym c.sees.ensures ∙ c.if-sees.false,
      sym c.sees-else-sees.ensures ∙ c.if-sees-2.false,
      sym c.sees-else-sees-2.ensures ∙ c.if-sees-3.false,
      sym c.sees-else-sees-3.ensures ∙ c.if-sees-4.false,
      sym c.sees-else-sees-4.ensures ∙ c.if-sees-5.false,
      sym c.sees-else-sees-5.ensures ∙ c.if-sees-6.false,
      sym c.sees-else-sees-6.ensures ∙ c.if-sees-7.true,
    )) c.named.ensures.read

pub primary-returns-then-sees-8-clause-read : goal.primary-returns-then-sees-8-clause-read
primary-returns-then-sees-8-clause-read t c =
    opens paragon founded
    (rw (
      sym c.sees.ensures ∙ c.if-sees.false,
      sym c.sees-else-sees.ensures ∙ c.if-sees-2.false,
      sym c.sees-else-sees-2.ensures ∙ c.if-sees-3.false,
      sym c.sees-else-sees-3.ensures ∙ c.if-sees-4.false,
      sym c.sees-else-sees-4.ensures ∙ c.if-sees-5.false,
      sym c.sees-else-sees-5.ensures ∙ c.if-sees-6.false,
      sym c.sees-else-sees-6.ensures ∙ c.if-sees-7.false,
      sym c.sees-else-sees-7.ensures ∙ c.if-sees-8.true,
    )) c.in_parens.ensures.read

pub primary-returns-else-sees-8-clause-read : goal.primary-returns-else-sees-8-clause-read
primary-returns-else-sees-8-clause-read t c =
    refuses paragon founded
    (rw (
      sym c.sees.ensures ∙ c.if-sees.false,
      sym c.sees-else-sees.ensures ∙ c.if-sees-2.false,
      sym c.sees-else-sees-2.ensures ∙ c.if-sees-3.false,
      sym c.sees-else-sees-3.ensures ∙ c.if-sees-4.false,
      sym c.sees-else-sees-4.ensures ∙ c.if-sees-5.false,
      sym c.sees-else-sees-5.ensures ∙ c.if-sees-6.false,
      sym c.sees-else-sees-6.ensures ∙ c.if-sees-7.false,
      sym c.sees-else-sees-7.ensures ∙ c.if-sees-8.false,
    ))

pub callee-returns-then-sees-clause-read : goal.callee-returns-then-sees-clause-read
callee-returns-then-sees-clause-read t c =
    opens paragon founded (rw (sym c.sees.ensures ∙ c.if-sees.true)) c.call.ensures.read

pub callee-returns-else-sees-clause-read : goal.callee-returns-else-sees-clause-read
callee-returns-else-sees-clause-read t c =
    opens paragon founded (rw (sym c.sees.ensures ∙ c.if-sees.false))
    (made g.Variable (tok c.args.name.now ∷ []) _ _ _ c.variable.ensures (λ vs. refl))

pub args-returns-then-sees-clause-read : goal.args-returns-then-sees-clause-read
args-returns-then-sees-clause-read t c =
    opens paragon founded (rw (sym c.sees.ensures ∙ c.if-sees.true)) c.args_in_parens.ensures.read

pub args-returns-else-sees-clause-read : goal.args-returns-else-sees-clause-read
args-returns-else-sees-clause-read t c =
    refuses paragon founded (rw (sym c.sees.ensures ∙ c.if-sees.false))

pub arg_list-returns-then-sees-clause-read : goal.arg_list-returns-then-sees-clause-read
arg_list-returns-then-sees-clause-read t c =
    opens paragon founded (rw (sym c.sees.ensures ∙ c.if-sees.true))
    (building paragon founded g.NoArgs
    (λ vs. ap (λ xs. exps (all_shown xs) ∷ vs) (sym c.new.ensures)))

pub arg_list-returns-else-sees-clause-read : goal.arg_list-returns-else-sees-clause-read
arg_list-returns-else-sees-clause-read t c =
    opens paragon founded (rw (sym c.sees.ensures ∙ c.if-sees.false)) c.some_args.ensures.read

pub more_args-returns-in_err-found-clause-read : goal.more_args-returns-in_err-found-clause-read
more_args-returns-in_err-found-clause-read t c =
    handed paragon founded (symbol.name g.MoreArgs ∷ []) (exps (all_shown c.more.found) ∷ [])
    (input c.more.cursor) c.from_residual.ensures.1 c.more.invariant.leads
    (fails_again paragon founded g.MoreArgs
    (symbol.token (sort.Sign signs.COMMA) ∷ symbol.name (g.Level 0) ∷ symbol.builds g.NextArg ∷ [])
    (exps (all_shown c.more.found) ∷ [])
    (rw (sym c.sees.ensures ∙ c.more-test.true)) c.in_err-found.ensures.read)

pub more_args-more-preserved : goal.more_args-more-preserved
more_args-more-preserved t c =
    record {
      leads = λ s vs. c.more.invariant.leads s vs
          ∙ again paragon founded g.MoreArgs
          (symbol.token (sort.Sign signs.COMMA) ∷ symbol.name (g.Level 0) ∷ symbol.builds g.NextArg
          ∷ []) (exps (all_shown c.more.found) ∷ [])
          (rw (sym c.sees.ensures ∙ c.more-test.true)) c.in_ok-found.ensures.read s vs;
      shorter = omega (arith, c.in_ok-found.ensures.shorter);
    }

pub more_args-returns-clause-read : goal.more_args-returns-clause-read
more_args-returns-clause-read t c =
    continued paragon founded (symbol.name g.MoreArgs ∷ [])
    (exps (all_shown c.more.found) ∷ []) c.more.invariant.leads
    (opens paragon founded (rw (sym c.sees.ensures ∙ c.more-test.false))
    (keeping paragon founded (λ vs. refl)))

-- The empty list that is built before the first argument is the list that it is put into.
pub first_arg-returns-clause-read : goal.first_arg-returns-clause-read
first_arg-returns-clause-read t c =
    continued paragon founded (symbol.name (g.Level 0) ∷ symbol.builds g.NextArg ∷ [])
    (exps (all_shown c.new-none.result) ∷ [])
    (λ s vs. run_built (symbol.name (g.Level 0) ∷ symbol.builds g.NextArg ∷ s)
    (input c.args.cursor.now) vs g.NoArgs
    ∙ ap (λ es. run paragon founded (symbol.name (g.Level 0) ∷ symbol.builds g.NextArg ∷ s)
    (input c.args.cursor.now) (exps (all_shown es) ∷ vs)) (sym c.new-none.ensures))
    c.arg.ensures.read
