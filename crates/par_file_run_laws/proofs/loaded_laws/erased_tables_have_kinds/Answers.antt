use Rattle.par_file_run_laws.proofs.Erasure as erasure
use Rattle.par_file_run_laws.proofs.loaded_laws.erased_tables_have_kinds.Goals as goal

pub returns : goal.returns
returns c = erasure.erased_tables_have_kinds
