use Rattle.par_file_run_laws.proofs.Codes.{methods-are, methods-coded, main-there, others}
use Rattle.par_file_run_laws.proofs.Covered.{named}
use Rattle.par_file_run_laws.proofs.layout_laws.files_are_laid_out.Goals as goal

pub returns : goal.returns
returns c table bodies files known =
    record {
      methods = methods-are table bodies files known;
      code = methods-coded table bodies files known;
      named = named table bodies files known;
      main = main-there table bodies files known;
      others = others table bodies files known;
    }
