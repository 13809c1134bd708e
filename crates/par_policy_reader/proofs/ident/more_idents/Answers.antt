use Rattle.std.proofs.Common.{◌∙◌, ◌∷◌, [], arith, refl, sym}
use Rattle.par_grammar.specs.Grammar as symbol
use Rattle.par_grammar.specs.declared.sort.Sort.TheVariants as sort
use Rattle.par_lexer.specs.declared.sign.TheConstants as signs
use Rattle.par_reader.specs.Reads.{input}
use Rattle.par_reader.proofs.Alternatives.{again, continued, fails_again, handed}
use Rattle.par_reader.proofs.Alternatives.{keeping, opens}
use Rattle.par_tree.specs.Grammar as g
use Rattle.par_tree.specs.Values.{paragon}
use Rattle.par_tree.proofs.Founded.{founded}
use Rattle.par_policy_reader.specs.Reads as reads
use Rattle.par_policy_reader.proofs.ident.more_idents.Goals as goal

abbrev part : g.Symbols
part = symbol.token (sort.Sign signs.COMMA) ∷ symbol.kept sort.Name ∷ symbol.builds g.NextIdent ∷ []

pub returns-in_err-found-clause-read : goal.returns-in_err-found-clause-read
returns-in_err-found-clause-read c =
    handed paragon founded (symbol.name g.MoreIdents ∷ []) (reads.the_idents c.more.found)
    (input c.more.cursor) c.from_residual.ensures.1 c.more.invariant.leads
    (fails_again paragon founded g.MoreIdents part (reads.the_idents c.more.found)
    (rw (sym c.sees.ensures ∙ c.more-test.true)) c.in_err-found.ensures.read)

pub more-preserved : goal.more-preserved
more-preserved c = record {
  leads =
      λ s vs. c.more.invariant.leads s vs
      ∙ again paragon founded g.MoreIdents part (reads.the_idents c.more.found)
      (rw (sym c.sees.ensures ∙ c.more-test.true)) c.in_ok-found.ensures.read s vs;
  shorter = omega (arith, c.in_ok-found.ensures.shorter);
}

pub returns-clause-read : goal.returns-clause-read
returns-clause-read c =
    continued paragon founded (symbol.name g.MoreIdents ∷ [])
    (reads.the_idents c.more.found) c.more.invariant.leads
    (opens paragon founded (rw (sym c.sees.ensures ∙ c.more-test.false))
    (keeping paragon founded (λ vs. refl)))
