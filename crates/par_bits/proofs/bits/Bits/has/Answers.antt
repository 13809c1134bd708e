use Rattle.std.proofs.Common.{ap, sym, ◌∙◌}
use Rattle.std.specs.Prelude.{nat_eq}
use Rattle.std.proofs.lemmas.Nat.Bits.{shr_and_one}
use Rattle.par_bits.specs.Sets.{has}
use Rattle.par_bits.proofs.Members.{has_number}
use Rattle.par_bits.proofs.bits.Bits.has.Goals as goal

pub returns : goal.returns
returns g c =
    ap (λ b. nat_eq b 1) (shr_and_one _ _)
    ∙ sym (has_number c.self.inside.words c.self.invariant.2 c.args.i)
    ∙ ap (λ kept. has kept c.args.i) c.self.view_is
