use Rattle.std.proofs.Common.{◌∙◌, ◌∷◌, [], ap, refl, sym}
use Rattle.par_grammar.specs.Grammar as symbol
use Rattle.par_stmts.specs.par_reader.Reads.{input}
use Rattle.par_stmts.proofs.par_reader.Alternatives.{continued, opens}
use Rattle.par_grammar.proofs.Run.{run, run_builds}
use Rattle.par_tree.specs.Grammar as g
use Rattle.par_tree.specs.Values as value
use Rattle.par_tree.specs.Values.{paragon}
use Rattle.par_tree.specs.Shown as tree
use Rattle.par_tree.proofs.Founded.{founded}
use Rattle.par_parser.proofs.decl.decls.Goals as goal

pub returns : goal.returns
returns c =
    let from = input c.args.cursor.now in
    opens paragon founded {n = g.Decls} refl
    (continued paragon founded (symbol.name g.MoreDecls ∷ [])
    (value.source (tree.all_declared c.new-none.result) ∷ [])
    (λ s vs. run_builds paragon founded (symbol.name g.MoreDecls ∷ s) from vs g.NoDecls
    ∙ ap (λ found. run paragon founded (symbol.name g.MoreDecls ∷ s) from (value.source found ∷ vs))
    (sym (ap tree.all_declared c.new-none.ensures)))
    c.more_decls.ensures)
