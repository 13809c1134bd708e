use Rattle.par_observer.proofs.Unread.{stopped}
use Rattle.par_observer.proofs.OfTree.{read_so}
use Rattle.par_observer.proofs.sentence.read_tree.Goals as goal

pub returns-clause-read : goal.returns-clause-read
returns-clause-read c =
    read_so c.args.source.now c.in_ok-tokens.tokens c.read_sentence.result
    c.in_ok-tokens.ensures.exact c.in_ok-tokens.ensures.laid
    (rw c.as_slice.ensures at c.read_sentence.ensures.sentence)
    (rw c.as_slice.ensures at c.read_sentence.ensures.size)

pub returns-in_err-tokens-clause-unread : goal.returns-in_err-tokens-clause-unread
returns-in_err-tokens-clause-unread c =
    stopped (λ tree f. ⊥) c.args.source.now c.from_residual.result c.in_err-tokens.field-0.0
    c.from_residual.ensures.1 c.in_err-tokens.ensures.unread
