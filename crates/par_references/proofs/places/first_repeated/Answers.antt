use Rattle.std.proofs.Common.{◌≡◌, ◌<◌, [], length, drop, Some, sym, ◌∙◌, arith}
use Rattle.std.proofs.lemmas.Grind.{common_steps}
use Rattle.std.specs.List.{position}
use Rattle.par_references.proofs.Repeated.{repeated-new, repeated-here, repeated-ended, place-is}
use Rattle.par_references.proofs.Repeated.{place-other}
use Rattle.par_references.proofs.places.first_repeated.Goals as goal

-- an item that stands first at another place is repeated
pub returns-then-ne : goal.returns-then-ne
returns-then-ne g c =
    let x = c.index-items-place.result in
    let i = c.loop-place.place in
    let xs = c.args.items.now in
    let within : i < length xs = omega arith in
    sym (repeated-here g.K.PartialEq.eq g.met.K.Eq.laws xs i x within c.index-items-place.is
    (λ first. place-other c.place.result i (sym c.ne.ensures ∙ c.if-ne.true)
    (c.place.ensures ∙ c.requires x ∙ first)))
    ∙ c.loop-place.invariant

pub loop-place-preserved : goal.loop-place-preserved
loop-place-preserved g c =
    let x = c.index-items-place.result in
    let i = c.loop-place.place in
    let xs = c.args.items.now in
    let within : i < length xs = omega arith in
    let first : position (g.K.PartialEq.eq x) xs ≡ Some i =
    sym (c.place.ensures ∙ c.requires x)
    ∙ place-is c.place.result i (sym c.ne.ensures ∙ c.if-ne.false) in
    repeated-new g.K.PartialEq.eq xs i x within c.index-items-place.is first
    ∙ c.loop-place.invariant

pub returns : goal.returns
returns g c =
    let i = c.loop-place.place in
    let xs = c.args.items.now in
    let none : drop i xs ≡ [] = grind (arith, common_steps) in
    sym (repeated-ended g.K.PartialEq.eq xs i none) ∙ c.loop-place.invariant
