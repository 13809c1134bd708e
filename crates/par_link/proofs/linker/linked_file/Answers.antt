use Rattle.std.proofs.Common.{arith}
use Rattle.par_link.proofs.Indices.{fault-fits}
use Rattle.par_link.proofs.linker.linked_file.Goals as goal

pub overflow_cast-result-in-Some : goal.overflow_cast-result-in-Some
overflow_cast-result-in-Some c =
    omega (
      arith,
      fault-fits c.args.tables.now.files.now c.args.members.now.file.now c.in-Some.fault
          c.args.members.now.small c.in-Some.ensures,
    )
