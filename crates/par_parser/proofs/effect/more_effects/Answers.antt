use Rattle.std.proofs.Common.{◌∙◌, ◌∷◌, [], arith, refl, sym}
use Rattle.par_grammar.specs.Grammar as symbol
use Rattle.par_stmts.specs.par_reader.Reads.{input}
use Rattle.par_stmts.proofs.par_reader.Alternatives.{again, continued, fails_again, handed, keeping}
use Rattle.par_stmts.proofs.par_reader.Alternatives.{opens}
use Rattle.par_grammar.specs.Derivation.{next}
use Rattle.par_tree.specs.Grammar as g
use Rattle.par_parser.specs.declared.effect.Mark.{Mark}
use Rattle.par_parser.specs.Marks as marks
use Rattle.par_parser.proofs.Effects.{no_more, one_more}
use Rattle.par_tree.specs.Values.{paragon}
use Rattle.par_tree.proofs.Founded.{founded}
use Rattle.par_parser.specs.Reads as reads
use Rattle.par_parser.proofs.effect.more_effects.Goals as goal

abbrev part : Mark → g.Symbols
part mark = marks.part mark

pub returns-in_err-effect-in-Some-clause-read : goal.returns-in_err-effect-in-Some-clause-read
returns-in_err-effect-in-Some-clause-read c =
    handed paragon founded (symbol.name g.MoreEffects ∷ []) (reads.the_effects c.more.found)
    (input c.more.cursor) c.from_residual.ensures.1 c.more.invariant.leads
    (fails_again paragon founded g.MoreEffects (part c.in-Some.mark)
    (reads.the_effects c.more.found)
    (one_more (next (input c.more.cursor)) c.in-Some.mark
    (rw (← c.peek.ensures) (sym c.mark_of.ensures ∙ c.in-Some.is)))
    c.in_err-effect-in-Some.ensures.read)

pub more-preserved : goal.more-preserved
more-preserved c = record {
  leads = λ s vs. c.more.invariant.leads s vs
      ∙ again paragon founded g.MoreEffects (part c.in-Some.mark) (reads.the_effects c.more.found)
      (one_more (next (input c.more.cursor)) c.in-Some.mark
      (rw (← c.peek.ensures) (sym c.mark_of.ensures ∙ c.in-Some.is)))
      c.in_ok-effect-in-Some.ensures.read s vs;
  shorter = omega (arith, c.in_ok-effect-in-Some.ensures.shorter);
}

pub returns-in-None-clause-read : goal.returns-in-None-clause-read
returns-in-None-clause-read c =
    continued paragon founded (symbol.name g.MoreEffects ∷ [])
    (reads.the_effects c.more.found) c.more.invariant.leads
    (opens paragon founded
    (no_more (next (input c.more.cursor))
    (rw (← c.peek.ensures) (sym c.mark_of.ensures ∙ c.in-None.is)))
    (keeping paragon founded (λ vs. refl)))
