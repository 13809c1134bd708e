use Rattle.std.proofs.Common.{◌≤◌, ◌∷◌, [], length}
use Rattle.par_grammar.specs.Grammar as symbol
use Rattle.par_stmts.specs.par_reader.Reads.{input}
use Rattle.par_stmts.proofs.par_reader.Alternatives.{Leads}
use Rattle.par_tree.specs.Grammar as g
use Rattle.par_tree.specs.Values.{paragon}
use Rattle.par_tree.proofs.Founded.{founded}
use Rattle.par_parser.specs.Reads as reads
use Rattle.par_parser.proofs.effect.more_effects.Given as goal

-- what is found so far, and the tokens that are left, lead on as all do
abbrev pub invariant-more : goal.invariant-more
invariant-more l = record {
  leads : Leads paragon founded (symbol.name g.MoreEffects ∷ []) (reads.the_effects l.fn.found)
      (input l.fn.cursor) (symbol.name g.MoreEffects ∷ []) (reads.the_effects l.found)
      (input l.cursor);
  shorter : length l.cursor.left.now ≤ length l.fn.cursor.left.now;
}

abbrev pub decreases-more : goal.decreases-more
decreases-more l = length l.cursor.left.now
