use Rattle.std.proofs.Common.{◌<◌, not, sym, ap, ◌∙◌, length, drop, arith}
use Rattle.std.proofs.lemmas.Grind.{common_steps}
use Rattle.par_link.proofs.Stopping.{cut-some}
use Rattle.par_link.proofs.walk.is_cut.Goals as goal

-- an opcode stands there
pub returns-then-at-code : goal.returns-then-at-code
returns-then-at-code c =
    let some : 0 < length (drop c.args.at c.args.code.now) = grind (arith, common_steps) in
    ap not c.is_unlisted.ensures ∙ sym (cut-some (drop c.args.at c.args.code.now) some)
