use Rattle.std.proofs.Common.{slice_get}
use Rattle.par_machine_calls.proofs.Beginning.{begins_there}
use Rattle.par_machine_calls.proofs.machine_places.machine.Goals as goal

pub start-requires : goal.start-requires
start-requires c = begins_there (slice_get c.args.linked 0) c.requires
