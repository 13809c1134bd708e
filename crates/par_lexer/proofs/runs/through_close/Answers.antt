use Rattle.std.proofs.Common.{◌≡◌, false, drop, codes, arith}
use Rattle.par_lexer.specs.Pieces.{begins}
use Rattle.par_lexer.proofs.Comments.{searched_on}
use Rattle.par_lexer.proofs.runs.through_close.Goals as goal

pub loop-at-preserved : goal.loop-at-preserved
loop-at-preserved c =
    let rest_is : c.split_at.result.1.now ≡ drop c.loop-at.at c.args.text.now =
    c.split_at.ensures.back in
    let not_here : begins (codes "*/") (drop c.loop-at.at c.args.text.now) ≡ false =
    grind (arith, c.starts_with.ensures.value, c.if-starts_with.false, rest_is) in
    searched_on _ _ _ c.loop-at-test.true not_here c.loop-at.invariant
