use Rattle.std.proofs.Common.{ℕ, ◌<◌, subst, sym}
use Rattle.par_typed.specs.Shown.{body}
use Rattle.par_infer.proofs.Effects.{effects_own}
use Rattle.par_infer.proofs.bodies.note_bodies.Goals as goal

pub note_body-requires-clause-effects : goal.note_body-requires-clause-effects
note_body-requires-clause-effects g c check asked e p is =
    let b = body c.index-bodies-place.result in
    subst (λ (n : ℕ). n < 256) (sym (effects_own c.args.table.now b check e p asked is))
    (c.requires.effects b.class b.method)
