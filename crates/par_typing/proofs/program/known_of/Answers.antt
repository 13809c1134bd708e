use Rattle.par_tree.specs.Shown.{source}
use Rattle.par_typed_laws.proofs.par_faults.Within.{limits_kept}
use Rattle.par_typing.proofs.program.known_of.Goals as goal

pub known-requires : goal.known-requires
known-requires c = (limits_kept (source c.args.program.now) c.requires).few
