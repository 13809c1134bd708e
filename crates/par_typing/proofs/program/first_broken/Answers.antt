use Rattle.std.proofs.Common.{sym, subst}
use Rattle.par_tree.specs.Shown.{source}
use Rattle.par_scope.specs.Names.{IsFewTable}
use Rattle.par_type_rules.specs.Program.{type_faults}
use Rattle.par_typing.proofs.First.{answers}
use Rattle.par_typed_laws.proofs.par_faults.Within.{limits_kept}
use Rattle.par_typing.proofs.Tables.{few_table}
use Rattle.par_typing.proofs.program.first_broken.Goals as goal

pub check_bodies-requires : goal.check_bodies-requires
check_bodies-requires c =
    subst IsFewTable (sym c.requires.tabled)
    (few_table (source c.args.program.now) (limits_kept (source c.args.program.now)
    c.requires.named))

pub returns : goal.returns
returns c =
    answers (type_faults c.args.table.now (source c.args.program.now)) _ c.check_bodies.ensures
