use Rattle.std.proofs.Common.{◌∙◌}
use Rattle.par_tool.proofs.Verifying.{unverified_by, frames_there}
use Rattle.par_tool.proofs.verifications.verified.Goals as goal

pub verify_linked-requires : goal.verify_linked-requires
verify_linked-requires c = frames_there c.args.linked.now c.in_ok-framed.ensures

pub returns-in-Ok-clause-verified : goal.returns-in-Ok-clause-verified
returns-in-Ok-clause-verified c =
    let told = frames_there c.args.linked.now c.in_ok-framed.ensures in (
      c.from.ensures ∙ c.count.ensures.many,
      record { frames = told.0; of = told.1; verified = c.in-Ok.ensures told.0 told.1 },
    )

pub unverified-requires : goal.unverified-requires
unverified-requires c =
    let told = frames_there c.args.linked.now c.in_ok-framed.ensures in
    unverified_by c.args.linked.now told.0 _ told.1 (c.in-Err.ensures told.0 told.1)
