use Rattle.std.proofs.Common.{◌∙◌, ◌∷◌, ◌++◌, [], None, sym}
use Rattle.par_grammar.specs.Grammar as symbol
use Rattle.par_stmts.specs.par_reader.Reads.{input}
use Rattle.par_stmts.proofs.par_reader.Alternatives.{continued, opens}
use Rattle.par_grammar.proofs.Run.{run_builds}
use Rattle.par_tree.specs.Grammar as g
use Rattle.par_tree.specs.Values as value
use Rattle.par_tree.specs.Values.{paragon}
use Rattle.par_tree.proofs.Founded.{founded}
use Rattle.par_parser.specs.Reads as reads
use Rattle.par_parser.proofs.member.member.Goals as goal

pub returns-then-sees-clause-read : goal.returns-then-sees-clause-read
returns-then-sees-clause-read c =
    opens paragon founded (rw (sym c.sees.ensures ∙ c.if-sees.true)) c.question_member.ensures.read

pub returns-else-sees-clause-read : goal.returns-else-sees-clause-read
returns-else-sees-clause-read c =
    opens paragon founded {ys = symbol.builds g.NoPolicy ∷ symbol.name g.PlainMember ∷ []}
    (rw (sym c.sees.ensures ∙ c.if-sees.false))
    (continued paragon founded (symbol.name g.PlainMember ∷ [])
    (value.may_whole None ∷ reads.the_members c.args.found.now)
    (λ s vs. run_builds paragon founded (symbol.name g.PlainMember ∷ s) (input c.args.cursor.now)
    (reads.the_members c.args.found.now ++ vs) g.NoPolicy)
    c.plain_member.ensures.read)
