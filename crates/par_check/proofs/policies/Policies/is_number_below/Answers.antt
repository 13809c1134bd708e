use Rattle.std.proofs.Common.{length, refl, ap, ◌∙◌, arith}
use Rattle.std.specs.Prelude.{slice_get}
use Rattle.par_typed.specs.declared.table.Table.{Table}
use Rattle.par_bits.specs.Sets.{adding}
use Rattle.par_asked.specs.par_program_laws.Lattice.{seen_by}
use Rattle.par_check.proofs.Joins.{asked_one, past_below}
use Rattle.par_check.proofs.policies.Policies.is_number_below.Goals as goal

pub returns-then-from-len-clause-below : goal.returns-then-from-len-clause-below
returns-then-from-len-clause-below c =
    let long = ap (λ (t : Table). length t.policies) c.self.view_is in
    let is = c.with.ensures ∙ ap (λ s. adding s c.args.one) c.empty.ensures in
    asked_one c.args.self.now.policies c.with.result c.args.one
    (seen_by (slice_get c.args.self.now.policies c.args.other)) c.is_below.result is
    (omega (arith, long)) c.is_below.ensures.below

pub returns-else-from-len-clause-below : goal.returns-else-from-len-clause-below
returns-else-from-len-clause-below c =
    let long = ap (λ (t : Table). length t.policies) c.self.view_is in (
      λ _. past_below c.args.self.now.policies c.args.one
          (seen_by (slice_get c.args.self.now.policies c.args.other)) (omega (arith, long)),
      λ _. refl,
    )
