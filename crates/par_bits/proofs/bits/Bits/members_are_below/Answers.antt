use Rattle.std.proofs.Common.{◌<◌, ◌*◌, ◌^◌, length, subst}
use Rattle.par_bits.proofs.Sizes.{member_below, number_below}
use Rattle.par_bits.proofs.bits.Bits.members_are_below.Goals as goal

pub returns : goal.returns
returns g c n =
    let below = number_below c.self.inside.words c.self.invariant.2 in
    let bound =
    subst (λ k. c.args.self.now < 2 ^ (64 * k)) c.self.invariant.0
    (subst (λ v. v < 2 ^ (64 * length c.self.inside.words)) c.self.view_is below) in
    member_below c.args.self.now (64 * g.row.W) n bound
