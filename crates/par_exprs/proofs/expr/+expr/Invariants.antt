use Rattle.std.proofs.Common.{◌≤◌, length, ◌+◌, ◌-◌, ◌*◌, [], ◌∷◌}
use Rattle.par_grammar.specs.Grammar as symbol
use Rattle.par_reader.specs.Reads.{input}
use Rattle.par_reader.proofs.Alternatives.{Leads}
use Rattle.par_tree.specs.Grammar as g
use Rattle.par_tree.specs.Shown.{shown, all_shown}
use Rattle.par_tree.specs.Values.{paragon, exp, exps}
use Rattle.par_tree.proofs.Founded.{founded}
use Rattle.par_exprs.proofs.expr.+expr.Given as goal

-- Each token that is taken weighs more than the readers that are entered before one is.
abbrev pub decreases-expr : goal.decreases-expr
decreases-expr l = 32 * length l.cursor.now.left.now + 27

abbrev pub decreases-level : goal.decreases-level
decreases-level l = 32 * length l.cursor.now.left.now + (2 * (g.lines - l.line) + 6)

abbrev pub decreases-chain : goal.decreases-chain
decreases-chain l = 32 * length l.cursor.now.left.now + (2 * (g.lines - l.line) + 5)

abbrev pub decreases-more : goal.decreases-more
decreases-more l = 32 * length l.cursor.now.left.now + 2

abbrev pub decreases-operation : goal.decreases-operation
decreases-operation l = 32 * length l.cursor.now.left.now + 1

abbrev pub decreases-unary : goal.decreases-unary
decreases-unary l = 32 * length l.cursor.now.left.now + 5

abbrev pub decreases-negation : goal.decreases-negation
decreases-negation l = 32 * length l.cursor.now.left.now + 1

abbrev pub decreases-inversion : goal.decreases-inversion
decreases-inversion l = 32 * length l.cursor.now.left.now + 1

abbrev pub decreases-postfix : goal.decreases-postfix
decreases-postfix l = 32 * length l.cursor.now.left.now + 4

abbrev pub decreases-tail : goal.decreases-tail
decreases-tail l = 32 * length l.cursor.now.left.now + 4

abbrev pub decreases-member : goal.decreases-member
decreases-member l = 32 * length l.cursor.now.left.now + 3

abbrev pub decreases-selected : goal.decreases-selected
decreases-selected l = 32 * length l.cursor.now.left.now + 3

abbrev pub decreases-call_on : goal.decreases-call_on
decreases-call_on l = 32 * length l.cursor.now.left.now + 2

abbrev pub decreases-primary : goal.decreases-primary
decreases-primary l = 32 * length l.cursor.now.left.now + 3

abbrev pub decreases-named : goal.decreases-named
decreases-named l = 32 * length l.cursor.now.left.now + 2

abbrev pub decreases-callee : goal.decreases-callee
decreases-callee l = 32 * length l.cursor.now.left.now + 3

abbrev pub decreases-call : goal.decreases-call
decreases-call l = 32 * length l.cursor.now.left.now + 2

abbrev pub decreases-in_parens : goal.decreases-in_parens
decreases-in_parens l = 32 * length l.cursor.now.left.now + 2

abbrev pub decreases-args : goal.decreases-args
decreases-args l = 32 * length l.cursor.now.left.now + 1

abbrev pub decreases-args_in_parens : goal.decreases-args_in_parens
decreases-args_in_parens l = 32 * length l.cursor.now.left.now + 0

abbrev pub decreases-arg_list : goal.decreases-arg_list
decreases-arg_list l = 32 * length l.cursor.now.left.now + 31

abbrev pub decreases-some_args : goal.decreases-some_args
decreases-some_args l = 32 * length l.cursor.now.left.now + 30

abbrev pub decreases-first_arg : goal.decreases-first_arg
decreases-first_arg l = 32 * length l.cursor.now.left.now + 29

abbrev pub decreases-arg : goal.decreases-arg
decreases-arg l = 32 * length l.cursor.now.left.now + 28

abbrev pub decreases-more_args : goal.decreases-more_args
decreases-more_args l = 32 * length l.cursor.now.left.now + 2

abbrev pub decreases-next_arg : goal.decreases-next_arg
decreases-next_arg l = 32 * length l.cursor.now.left.now + 1

-- A loop: the derivation comes from its beginning to where it is.
abbrev pub invariant-more-more : goal.invariant-more-more
invariant-more-more l = record {
  leads : Leads paragon founded (symbol.name (g.More l.line) ∷ []) (exp (shown l.fn.left) ∷ [])
      (input l.fn.cursor) (symbol.name (g.More l.line) ∷ []) (exp (shown l.left) ∷ [])
      (input l.cursor);
  shorter : length l.cursor.left.now ≤ length l.fn.cursor.left.now;
}

abbrev pub decreases-more-more : goal.decreases-more-more
decreases-more-more l = length l.cursor.left.now

abbrev pub invariant-tail-more : goal.invariant-tail-more
invariant-tail-more l = record {
  leads : Leads paragon founded (symbol.name g.Tail ∷ []) (exp (shown l.fn.of) ∷ [])
      (input l.fn.cursor) (symbol.name g.Tail ∷ []) (exp (shown l.of) ∷ []) (input l.cursor);
  shorter : length l.cursor.left.now ≤ length l.fn.cursor.left.now;
}

abbrev pub decreases-tail-more : goal.decreases-tail-more
decreases-tail-more l = length l.cursor.left.now

abbrev pub invariant-more_args-more : goal.invariant-more_args-more
invariant-more_args-more l = record {
  leads : Leads paragon founded (symbol.name g.MoreArgs ∷ []) (exps (all_shown l.fn.found) ∷ [])
      (input l.fn.cursor) (symbol.name g.MoreArgs ∷ []) (exps (all_shown l.found) ∷ [])
      (input l.cursor);
  shorter : length l.cursor.left.now ≤ length l.fn.cursor.left.now;
}

abbrev pub decreases-more_args-more : goal.decreases-more_args-more
decreases-more_args-more l = length l.cursor.left.now
