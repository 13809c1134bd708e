use Rattle.std.proofs.Common.{◌∙◌, ◌∷◌, [], ap, refl, sym}
use Rattle.par_grammar.specs.Grammar as symbol
use Rattle.par_stmts.specs.par_reader.Reads.{input}
use Rattle.par_stmts.proofs.par_reader.Alternatives.{continued, opens}
use Rattle.par_grammar.proofs.Run.{run, run_builds}
use Rattle.par_tree.specs.Grammar as g
use Rattle.par_tree.specs.Values as value
use Rattle.par_tree.specs.Values.{paragon}
use Rattle.par_tree.proofs.Founded.{founded}
use Rattle.par_parser.specs.Reads as reads
use Rattle.par_parser.proofs.member.all_members.Goals as goal

pub returns-clause-read : goal.returns-clause-read
returns-clause-read c =
    let from = input c.args.cursor.now in
    opens paragon founded {n = g.Members} refl
    (continued paragon founded (symbol.name g.MoreMembers ∷ [])
    (value.members (reads.members_of c.no_members-none.result) ∷ [])
    (λ s vs. run_builds paragon founded (symbol.name g.MoreMembers ∷ s) from vs g.NoMembers
    ∙ ap (λ found. run paragon founded (symbol.name g.MoreMembers ∷ s) from
    (value.members found ∷ vs)) (sym c.no_members-none.ensures))
    c.more_members.ensures.read)
