use Rattle.std.proofs.Common.{◌∙◌, ◌∷◌, ◌++◌, [], ap, sym}
use Rattle.par_grammar.specs.Grammar as symbol
use Rattle.par_stmts.specs.par_reader.Reads.{input}
use Rattle.par_stmts.proofs.par_reader.Alternatives.{continued}
use Rattle.par_grammar.proofs.Run.{run, run_builds}
use Rattle.par_tree.specs.Grammar as g
use Rattle.par_tree.specs.Values as value
use Rattle.par_tree.specs.Values.{paragon}
use Rattle.par_tree.proofs.Founded.{founded}
use Rattle.par_parser.proofs.method.first_param.Goals as goal

abbrev behind : g.Symbols
behind = symbol.name g.Param ∷ symbol.builds g.NextParam ∷ []

pub returns-clause-read : goal.returns-clause-read
returns-clause-read c =
    let from = input c.args.cursor.now in
    continued paragon founded behind (value.listed c.new-none.result ∷ [])
    (λ s vs. run_builds paragon founded (behind ++ s) from vs g.NoParams
    ∙ ap (λ found. run paragon founded (behind ++ s) from (value.listed found ∷ vs))
    (sym c.new-none.ensures))
    c.next_param.ensures.read
