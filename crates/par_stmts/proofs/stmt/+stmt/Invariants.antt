use Rattle.std.proofs.Common.{◌+◌, ◌*◌, ◌≤◌, ◌∷◌, [], length}
use Rattle.par_grammar.specs.Grammar as symbol
use Rattle.par_policy_reader.specs.par_reader.Reads.{input}
use Rattle.par_policy_reader.proofs.par_reader.Alternatives.{Leads}
use Rattle.par_tree.specs.Grammar as g
use Rattle.par_tree.specs.Values.{paragon}
use Rattle.par_tree.proofs.Founded.{founded}
use Rattle.par_stmts.specs.Reads.{the_stmts, the_catches}
use Rattle.par_stmts.proofs.stmt.+stmt.Given as goal

-- by the tokens that are left, and for as many of those by the way to the next token
abbrev pub decreases-block : goal.decreases-block
decreases-block l = 8 * length l.cursor.now.left.now + 1

abbrev pub decreases-braced : goal.decreases-braced
decreases-braced l = 8 * length l.cursor.now.left.now + 0

abbrev pub decreases-stmts : goal.decreases-stmts
decreases-stmts l = 8 * length l.cursor.now.left.now + 5

abbrev pub decreases-next_stmt : goal.decreases-next_stmt
decreases-next_stmt l = 8 * length l.cursor.now.left.now + 4

abbrev pub decreases-stmt : goal.decreases-stmt
decreases-stmt l = 8 * length l.cursor.now.left.now + 3

abbrev pub decreases-block_stmt : goal.decreases-block_stmt
decreases-block_stmt l = 8 * length l.cursor.now.left.now + 2

abbrev pub decreases-if_stmt : goal.decreases-if_stmt
decreases-if_stmt l = 8 * length l.cursor.now.left.now + 1

abbrev pub decreases-parts_of_if : goal.decreases-parts_of_if
decreases-parts_of_if l = 8 * length l.cursor.now.left.now + 0

abbrev pub decreases-else_part : goal.decreases-else_part
decreases-else_part l = 8 * length l.cursor.now.left.now + 1

abbrev pub decreases-some_else : goal.decreases-some_else
decreases-some_else l = 8 * length l.cursor.now.left.now + 0

abbrev pub decreases-other_stmt : goal.decreases-other_stmt
decreases-other_stmt l = 8 * length l.cursor.now.left.now + 4

abbrev pub decreases-other_block : goal.decreases-other_block
decreases-other_block l = 8 * length l.cursor.now.left.now + 3

abbrev pub decreases-other_if : goal.decreases-other_if
decreases-other_if l = 8 * length l.cursor.now.left.now + 2

abbrev pub decreases-deeper_block : goal.decreases-deeper_block
decreases-deeper_block l = 8 * length l.cursor.now.left.now + 2

abbrev pub decreases-while_stmt : goal.decreases-while_stmt
decreases-while_stmt l = 8 * length l.cursor.now.left.now + 0

abbrev pub decreases-when_stmt : goal.decreases-when_stmt
decreases-when_stmt l = 8 * length l.cursor.now.left.now + 0

abbrev pub decreases-when_else : goal.decreases-when_else
decreases-when_else l = 8 * length l.cursor.now.left.now + 1

abbrev pub decreases-some_when_else : goal.decreases-some_when_else
decreases-some_when_else l = 8 * length l.cursor.now.left.now + 0

abbrev pub decreases-else_block : goal.decreases-else_block
decreases-else_block l = 8 * length l.cursor.now.left.now + 3

abbrev pub decreases-try_stmt : goal.decreases-try_stmt
decreases-try_stmt l = 8 * length l.cursor.now.left.now + 0

abbrev pub decreases-catches : goal.decreases-catches
decreases-catches l = 8 * length l.cursor.now.left.now + 3

abbrev pub decreases-first_catch : goal.decreases-first_catch
decreases-first_catch l = 8 * length l.cursor.now.left.now + 2

abbrev pub decreases-next_catch : goal.decreases-next_catch
decreases-next_catch l = 8 * length l.cursor.now.left.now + 1

abbrev pub decreases-more_catches : goal.decreases-more_catches
decreases-more_catches l = 8 * length l.cursor.now.left.now + 2

abbrev pub decreases-catch : goal.decreases-catch
decreases-catch l = 8 * length l.cursor.now.left.now + 0

-- what is found so far, and the tokens that are left, lead on as all do
abbrev pub invariant-stmts-more : goal.invariant-stmts-more
invariant-stmts-more l = record {
  leads : Leads paragon founded (symbol.name g.Stmts ∷ []) [] (input l.fn.cursor)
      (symbol.name g.MoreStmts ∷ []) (the_stmts l.found) (input l.cursor);
  shorter : length l.cursor.left.now ≤ length l.fn.cursor.left.now;
}

abbrev pub decreases-stmts-more : goal.decreases-stmts-more
decreases-stmts-more l = length l.cursor.left.now

-- what is found so far, and the tokens that are left, lead on as all do
abbrev pub invariant-more_catches-more : goal.invariant-more_catches-more
invariant-more_catches-more l = record {
  leads : Leads paragon founded (symbol.name g.MoreCatches ∷ []) (the_catches l.fn.found)
      (input l.fn.cursor) (symbol.name g.MoreCatches ∷ []) (the_catches l.found) (input l.cursor);
  shorter : length l.cursor.left.now ≤ length l.fn.cursor.left.now;
}

abbrev pub decreases-more_catches-more : goal.decreases-more_catches-more
decreases-more_catches-more l = length l.cursor.left.now
