use Rattle.std.proofs.Common.{ap}
use Rattle.par_asked.specs.Seen.{seen_condition}
use Rattle.par_infer.proofs.collect.compared.Goals as goal

pub with-requires : goal.with-requires
with-requires c = c.requires c.in-Effect.effect c.in-Effect.field-1
    (ap seen_condition c.in-Effect.is)
