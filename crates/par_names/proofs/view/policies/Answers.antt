use Rattle.std.proofs.Common.{arith}
use Rattle.std.proofs.lemmas.Grind.{common_steps}
use Rattle.par_names.specs.Declarations.{policies_in}
use Rattle.par_names.proofs.Pushed.{one_more}
use Rattle.par_names.proofs.view.policies.Goals as goal

pub loop-decl-preserved : goal.loop-decl-preserved
loop-decl-preserved c =
    let ds = c.as_slice-decl-items.result.now in
    let more =
    one_more policies_in ds c.loop-decl.decl-index c.decl-item.result
    (omega arith) c.decl-item.is in
    grind (arith, common_steps, more)
