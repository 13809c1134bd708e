use Rattle.std.proofs.Common.{◌≡◌, ◌+◌, ◌≤◌, ◌∙◌, ◌++◌, All, sum_by, ap, sym, subst, arith}
use Rattle.std.proofs.Common.{append-nil}
use Rattle.par_resolved.specs.declared.limits.TheConstants.{MOST_GROUND_LOCKS}
use Rattle.par_resolved.specs.Numbers.{ground_count, firsts_from}
use Rattle.par_parts.specs.Gathered.{all_of}
use Rattle.par_resolved.proofs.Loops.{none_left}
use Rattle.par_resolved.proofs.Counted.{firsts_small}
use Rattle.par_resolved.proofs.firsts.firsts.Goals as goal

pub returns-clause-small : goal.returns-clause-small
returns-clause-small c =
    let n = c.args.actors in
    let decls = c.args.decls.now in
    let items = c.loop-decl.found.items in
    let few : 0 + sum_by (ground_count n) (all_of decls) ≤ MOST_GROUND_LOCKS =
    omega (arith, c.requires) in
    let none = none_left decls c.loop-decl.decl-index c.loop-decl-test.false in
    let whole : items ≡ firsts_from n 0 (all_of decls) =
    sym (append-nil items) ∙ ap (λ ds. items ++ firsts_from n c.loop-decl.first (all_of ds))
    (sym none) ∙ c.loop-decl.invariant.value in
    subst (All (λ first. first ≤ MOST_GROUND_LOCKS)) (sym whole)
    (firsts_small n 0 MOST_GROUND_LOCKS (all_of decls) few)
