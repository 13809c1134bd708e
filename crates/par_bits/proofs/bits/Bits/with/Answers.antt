use Rattle.std.proofs.Common.{◌<◌, ◌/◌, ◌∙◌, length, ap, arith}
use Rattle.std.proofs.lemmas.List.{length-set}
use Rattle.par_bits.specs.Sets.{has, adding}
use Rattle.par_bits.proofs.Members.{has_adding, all_marked}
use Rattle.par_bits.proofs.bits.Bits.with.Goals as goal

pub invariant_of-self : goal.invariant_of-self
invariant_of-self g c =
    let inside : c.args.i / 64 < length c.self.inside.words = omega arith in (
      length-set c.self.inside.words (c.args.i / 64) _ ∙ c.self.invariant.0,
      c.self.invariant.1,
      all_marked c.self.inside.words c.args.i c.self.invariant.2 inside,
    )

pub returns : goal.returns
returns g c =
    let inside : c.args.i / 64 < length c.self.inside.words = omega arith in
    has_adding c.self.inside.words c.args.i c.self.invariant.2 inside
    ∙ ap (λ kept. adding (has kept) c.args.i) c.self.view_is
