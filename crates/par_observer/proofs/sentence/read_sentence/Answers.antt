use Rattle.std.proofs.Common.{refl, sym, subst}
use Rattle.par_grammar.specs.Derivation.{Syntax, TooDeep}
use Rattle.par_parser.specs.Sentence.{HasFault}
use Rattle.par_observer.specs.Judgements.{IsBrokenAs}
use Rattle.par_observer.proofs.Unread.{without_sentence}
use Rattle.par_observer.proofs.sentence.read_sentence.Goals as goal

pub returns-in-Syntax-clause-unread : goal.returns-in-Syntax-clause-unread
returns-in-Syntax-clause-unread c =
    let told = rw c.in-Syntax.is at c.in-Err.ensures.fault in
    let found : HasFault c.args.tokens.now (Syntax c.in-Syntax.before) = told (λ memory. cc) in
    subst (IsBrokenAs (λ tree f. ⊥) c.args.source.now) (sym c.broken.ensures)
    (without_sentence c.args.source.now c.args.tokens.now
    (Syntax c.in-Syntax.before) 10 c.position-at.result
    c.requires.cut found refl c.position-at.ensures.exact c.position-at.ensures.within)

pub returns-in-TooDeep-clause-unread : goal.returns-in-TooDeep-clause-unread
returns-in-TooDeep-clause-unread c =
    let told = rw c.in-TooDeep.is at c.in-Err.ensures.fault in
    let found : HasFault c.args.tokens.now (TooDeep c.in-TooDeep.before) = told (λ memory. cc) in
    subst (IsBrokenAs (λ tree f. ⊥) c.args.source.now) (sym c.broken-in-TooDeep.ensures)
    (without_sentence c.args.source.now c.args.tokens.now
    (TooDeep c.in-TooDeep.before) 11 c.position-at-in-TooDeep.result
    c.requires.cut found refl c.position-at-in-TooDeep.ensures.exact
    c.position-at-in-TooDeep.ensures.within)
