use Rattle.par_typing.proofs.Policies.{policies_shared}
use Rattle.par_typing.proofs.table_laws.policies_are_shared.Goals as goal

pub returns : goal.returns
returns c = policies_shared
