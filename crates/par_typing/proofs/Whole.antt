-- All that a table has, of whole sources.
use Rattle.par_typing.specs.TableLaws.{TablesAreWellDeclared}
use Rattle.par_typing.proofs.Names.{names_apart}
use Rattle.par_typing.proofs.Births.{births_below}
use Rattle.par_typing.proofs.Numbers.{inferred_of_fields}
use Rattle.par_typing.proofs.Policies.{policies_shared}

pub well_declared : TablesAreWellDeclared
well_declared source ordered none = record {
  names = names_apart source ordered none;
  births = births_below source none;
  inferred = inferred_of_fields source;
  policies = policies_shared source none;
}
