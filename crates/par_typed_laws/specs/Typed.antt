-- The typed bodies of a source, over its table.
use Rattle.std.specs.Prelude.{List}
use Rattle.par_program_laws.specs.par_tree.Plain.{Source}
use Rattle.par_program_laws.specs.par_typed.Plain.{Body}
use Rattle.par_faults.specs.par_resolved.Numbers.{lock_number}
use Rattle.par_faults.specs.par_resolved.Policies.{known}
use Rattle.par_faults.specs.par_resolved.Resolved.{resolved, expression_number, table_of}
use Rattle.par_type_rules.specs.TypedStmts.{Written}
use Rattle.par_type_rules.specs.TypedBodies.{typed_program}

-- the numbers of locks and policies that are written in bodies, as the table has them
abbrev pub written_in : Source → Written
written_in source = record {
  lock = lock_number (known source).numbers;
  policy = expression_number (resolved source);
}

abbrev pub bodies_of : Source → List Body
bodies_of source = typed_program (written_in source) (table_of source) source
