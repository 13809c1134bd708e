use Rattle.std.proofs.Common.{◌≡◌, ℕ, length, arith}
use Rattle.std.proofs.lemmas.List.{ext_get_or}
use Rattle.par_flow.specs.declared.kept.KeptWay.{KeptWay}
use Rattle.par_flow.proofs.same.are_same_throws.Goals as goal

none : ℕ × KeptWay
none = (0, record { context = 0; env = 0; locks = 0 })

pub returns : goal.returns
returns c = λ _.
    let many : length c.args.one.now ≡ length c.args.other.now = omega arith in
    ext_get_or none c.args.one.now c.args.other.now many
    (λ i inside. c.loop-place.invariant i none (omega arith))
