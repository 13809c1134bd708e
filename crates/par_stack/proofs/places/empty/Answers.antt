use Rattle.std.proofs.Common.{◌≡◌, ℕ, List, Option, None, set, take, drop, replicate, ◌++◌, ◌-◌, ap}
use Rattle.std.proofs.Common.{◌∙◌, arith}
use Rattle.par_values.specs.declared.value.MVal.{MVal}
use Rattle.par_stack.proofs.Rows.{emptied_none, emptied_more}
use Rattle.par_stack.proofs.places.empty.Goals as goal

pub loop-place-init : goal.loop-place-init
loop-place-init c = emptied_none c.args.places.now.items c.args.from

pub loop-place-preserved : goal.loop-place-preserved
loop-place-preserved c =
    ap (λ (xs : List (Option MVal)). set xs c.loop-place.place None) c.loop-place.invariant
    ∙ emptied_more c.args.places.now.items c.args.from c.loop-place.place c.loop-place.auto.place
    (omega (arith, c.loop-place-test.true, c.requires.within))

pub returns : goal.returns
returns c =
    let over : c.loop-place.place ≡ c.args.to =
    omega (arith, c.loop-place-test.false, c.loop-place.auto.place-end c.requires.ordered) in
    let before : List (Option MVal) = c.args.places.now.items in
    c.loop-place.invariant
    ∙ ap (λ (n : ℕ). take c.args.from before ++ (replicate (n - c.args.from) None ++ drop n before))
    over
