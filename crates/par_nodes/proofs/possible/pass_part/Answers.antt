use Rattle.std.proofs.Common.{◌≡◌, rules, arith, ◌-◌, get_or, ap, sym, ◌∙◌}
use Rattle.par_nodes.specs.Seen.{seen_absorber}
use Rattle.par_nodes.specs.Possible.{among, apart, either}
use Rattle.par_nodes.proofs.Completing.{none_left, pass_told}
use Rattle.par_nodes.proofs.possible.pass_part.Goals as goal

pub returns-then-left-eq0-clause-passed : goal.returns-then-left-eq0-clause-passed
returns-then-left-eq0-clause-passed c =
    λ f fs e. absurd (none_left c.args.parts.now c.args.left f fs (omega arith) e)

pub returns-clause-passed : goal.returns-clause-passed
returns-clause-passed c =
    let a = seen_absorber c.args.absorber.now in
    let js = c.index-parts-place.result in
    let q : js ≡ get_or c.enter.new.parts (c.args.left - 1) js = search rules in
    pass_told c.args.parts.now c.enter.new.parts c.args.left (c.args.left - 1) js a
    (among c.args.kinds.now) (among c.keep_part.new.self) c.args.comes (omega arith)
    (search rules) c.enter.ensures.kept c.enter.ensures.cut q
    (c.in_ok-keep_part.ensures
    ∙ ap (λ l. either (among c.args.kinds.now) (apart a (among l))) (sym q))
