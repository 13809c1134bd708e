use Rattle.std.proofs.Common.{◌∙◌, ◌∷◌, [], arith, refl, sym}
use Rattle.par_grammar.specs.Grammar as symbol
use Rattle.par_stmts.specs.par_reader.Reads.{input}
use Rattle.par_stmts.proofs.par_reader.Alternatives.{again, continued, fails_again, handed, keeping}
use Rattle.par_stmts.proofs.par_reader.Alternatives.{opens}
use Rattle.par_tree.specs.Grammar as g
use Rattle.par_tree.specs.Values.{paragon}
use Rattle.par_tree.proofs.Founded.{founded}
use Rattle.par_parser.specs.Reads as reads
use Rattle.par_parser.proofs.member.more_members.Goals as goal

abbrev part : g.Symbols
part = symbol.name g.Member ∷ []

pub returns-in_err-member-clause-read : goal.returns-in_err-member-clause-read
returns-in_err-member-clause-read c =
    handed paragon founded (symbol.name g.MoreMembers ∷ []) (reads.the_members c.more.found)
    (input c.more.cursor) c.from_residual.ensures.1 c.more.invariant.leads
    (fails_again paragon founded g.MoreMembers part (reads.the_members c.more.found)
    (rw (sym c.sees.ensures ∙ c.more-test.true)) c.in_err-member.ensures.read)

pub more-preserved : goal.more-preserved
more-preserved c = record {
  leads =
      λ s vs. c.more.invariant.leads s vs
      ∙ again paragon founded g.MoreMembers part (reads.the_members c.more.found)
      (rw (sym c.sees.ensures ∙ c.more-test.true)) c.in_ok-member.ensures.read s vs;
  shorter = omega (arith, c.in_ok-member.ensures.shorter);
}

pub returns-clause-read : goal.returns-clause-read
returns-clause-read c =
    continued paragon founded (symbol.name g.MoreMembers ∷ [])
    (reads.the_members c.more.found) c.more.invariant.leads
    (opens paragon founded (rw (sym c.sees.ensures ∙ c.more-test.false))
    (keeping paragon founded (λ vs. refl)))
