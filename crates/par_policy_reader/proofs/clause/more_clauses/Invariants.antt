use Rattle.std.proofs.Common.{◌≤◌, ◌∷◌, [], length}
use Rattle.par_grammar.specs.Grammar as symbol
use Rattle.par_reader.specs.Reads.{input}
use Rattle.par_reader.proofs.Alternatives.{Leads}
use Rattle.par_tree.specs.Grammar as g
use Rattle.par_tree.specs.Values.{paragon}
use Rattle.par_tree.proofs.Founded.{founded}
use Rattle.par_policy_reader.specs.Reads as reads
use Rattle.par_policy_reader.proofs.clause.more_clauses.Given as goal

-- what is found so far, and the tokens that are left, lead on as all do
abbrev pub invariant-more : goal.invariant-more
invariant-more l = record {
  leads : Leads paragon founded (symbol.name g.MoreClauses ∷ []) (reads.the_clauses l.fn.found)
      (input l.fn.cursor) (symbol.name g.MoreClauses ∷ []) (reads.the_clauses l.found)
      (input l.cursor);
  shorter : length l.cursor.left.now ≤ length l.fn.cursor.left.now;
}

abbrev pub decreases-more : goal.decreases-more
decreases-more l = length l.cursor.left.now
