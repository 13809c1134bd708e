use Rattle.std.proofs.Common.{◌&&◌, ◌||◌, ap, ◌∙◌, arith}
use Rattle.std.proofs.lemmas.List.{get_or_default}
use Rattle.par_bits.specs.Sets.{has}
use Rattle.par_reached.specs.Reached.{set_at}
use Rattle.par_reached.proofs.Halves.{half_ends, nothing}
use Rattle.par_reached.proofs.passes.go_through.Goals as goal

pub returns-clause-passed : goal.returns-clause-passed
returns-clause-passed c i n =
    let via = c.index-sets-over.result in
    half_ends
    (λ i n. set_at c.args.sets.now i n || (set_at c.args.sets.now i c.args.over && has via n))
    c.loop-place.place c.args.sets.now c.loop-place.sets c.loop-place.invariant
    (omega arith)
    (λ i n e. ap (λ y. has y n || (has y c.args.over && has via n)) e
    ∙ ap (λ b. b || (has 0 c.args.over && has via n)) (nothing n)
    ∙ ap (λ b. b && has via n) (nothing c.args.over)) i n
    ∙ ap (λ y. set_at c.args.sets.now i n || (set_at c.args.sets.now i c.args.over && has y n))
    (c.index-sets-over.is
    ∙ get_or_default c.args.sets.now c.args.over via 0 c.requires.inside)
