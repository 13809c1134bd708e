use Rattle.std.proofs.Common.{sym, subst}
use Rattle.par_base.specs.Names.{IsName}
use Rattle.par_erase.proofs.members.copy_name.Goals as goal

pub new-requires : goal.new-requires
new-requires c = subst IsName (sym c.bytes.ensures.bytes) c.bytes.ensures.spelled
