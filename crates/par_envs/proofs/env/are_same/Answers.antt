use Rattle.std.proofs.Common.{◌≡◌, ℕ, length, arith}
use Rattle.std.proofs.lemmas.List.{ext_get_or}
use Rattle.par_envs.specs.declared.env.Held.{Held}
use Rattle.par_envs.proofs.env.are_same.Goals as goal

none : Held
none = record { policy = 0; locals = 0 }

pub returns : goal.returns
returns c = λ _.
    let many : length c.args.one.now ≡ length c.args.other.now = omega arith in
    ext_get_or none c.args.one.now c.args.other.now many
    (λ i inside. c.loop-place.invariant i none (omega arith))
