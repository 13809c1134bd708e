use Rattle.std.proofs.Common.{◌∷◌, ◌++◌, [], Some}
use Rattle.par_grammar.specs.Grammar as symbol
use Rattle.par_stmts.specs.par_reader.Reads.{input}
use Rattle.par_stmts.proofs.par_reader.Alternatives.{continued}
use Rattle.par_grammar.proofs.Run.{run_builds}
use Rattle.par_tree.specs.Grammar as g
use Rattle.par_tree.specs.Values.{paragon}
use Rattle.par_tree.proofs.Founded.{founded}
use Rattle.par_parser.specs.Reads as reads
use Rattle.par_parser.proofs.member.typed_method.Goals as goal

pub returns-clause-read : goal.returns-clause-read
returns-clause-read c =
    continued paragon founded (symbol.name g.Method ∷ [])
    (reads.a_head c.args.name.now (Some c.args.ty) c.args.front
    ++ reads.the_members c.args.found.now)
    (λ s vs. run_builds paragon founded (symbol.name g.Method ∷ s) (input c.args.cursor.now)
    (reads.a_typed c.args.name.now c.args.ty c.args.front
    ++ reads.the_members c.args.found.now ++ vs)
    g.SomeResult)
    c.method.ensures.read
