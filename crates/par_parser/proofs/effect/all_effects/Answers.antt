use Rattle.std.proofs.Common.{◌∙◌, ◌∷◌, [], ap, refl, sym}
use Rattle.par_grammar.specs.Grammar as symbol
use Rattle.par_stmts.specs.par_reader.Reads.{input}
use Rattle.par_stmts.proofs.par_reader.Alternatives.{continued, opens}
use Rattle.par_grammar.proofs.Run.{run, run_builds}
use Rattle.par_tree.specs.Grammar as g
use Rattle.par_tree.specs.Values as value
use Rattle.par_tree.specs.Values.{paragon}
use Rattle.par_tree.proofs.Founded.{founded}
use Rattle.par_parser.specs.Reads as reads
use Rattle.par_parser.proofs.effect.all_effects.Goals as goal

pub returns-clause-read : goal.returns-clause-read
returns-clause-read c =
    let from = input c.args.cursor.now in
    opens paragon founded {n = g.Effects} refl
    (continued paragon founded (symbol.name g.MoreEffects ∷ [])
    (value.says (reads.effects_of c.no_effects-none.result) ∷ [])
    (λ s vs. run_builds paragon founded (symbol.name g.MoreEffects ∷ s) from vs g.NoEffects
    ∙ ap (λ found. run paragon founded (symbol.name g.MoreEffects ∷ s) from (value.says found ∷ vs))
    (sym c.no_effects-none.ensures))
    c.more_effects.ensures.read)
