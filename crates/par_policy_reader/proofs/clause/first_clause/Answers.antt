use Rattle.std.proofs.Common.{◌∙◌, ◌∷◌, ◌++◌, [], ap, sym}
use Rattle.par_grammar.specs.Grammar as symbol
use Rattle.par_reader.specs.Reads.{input}
use Rattle.par_reader.proofs.Alternatives.{continued}
use Rattle.par_grammar.proofs.Run.{run, run_builds}
use Rattle.par_tree.specs.Grammar as g
use Rattle.par_tree.specs.Values as value
use Rattle.par_tree.specs.Values.{paragon}
use Rattle.par_tree.proofs.Founded.{founded}
use Rattle.par_policy_reader.proofs.clause.first_clause.Goals as goal

abbrev behind : g.Symbols
behind = symbol.name g.Clause ∷ symbol.builds g.NextClause ∷ []

pub returns-clause-read : goal.returns-clause-read
returns-clause-read c =
    let from = input c.args.cursor.now in
    continued paragon founded behind (value.clauses c.new-none.result ∷ [])
    (λ s vs. run_builds paragon founded (behind ++ s) from vs g.NoClauses
    ∙ ap (λ found. run paragon founded (behind ++ s) from (value.clauses found ∷ vs))
    (sym c.new-none.ensures))
    c.next_clause.ensures.read
