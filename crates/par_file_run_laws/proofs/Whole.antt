-- The loaded files of a well-typed program show its runs.
use Rattle.par_source_code_laws.proofs.Bodies.{bodies_are_erased}
use Rattle.par_source_code_laws.proofs.Compiled.{well_typed_programs_are_compiled}
use Rattle.par_source_code_laws.proofs.PlaceableBodies.{all_ready}
use Rattle.par_source_code_laws.proofs.Words.{words_are_texts}
use Rattle.par_file_run_laws.proofs.Codes.{inits, methods-are, methods-coded}
use Rattle.par_file_run_laws.proofs.Codes.{main-there, others}
use Rattle.par_file_run_laws.proofs.Covered.{named}
use Rattle.par_file_run_laws.proofs.Laid.{lays}
use Rattle.par_file_run_laws.proofs.Start.{begins}
use Rattle.par_file_run_laws.proofs.Placed.{code_is_placed}
use Rattle.par_file_run_laws.proofs.Begun.{begins_at_main}
use Rattle.par_file_run_laws.proofs.Erasure.{erased_tables_have_kinds}
use Rattle.par_file_run_laws.proofs.Given.{loaded_files_are_known}
use Rattle.par_placed_run_laws.proofs.Made.{laid}
use Rattle.par_placed_run_laws.proofs.Runs.{placed_runs}
use Rattle.par_code_laws.proofs.Whole.{labelled_code_shows}
use Rattle.par_code_laws.proofs.ErasedRuns.{plain_runs_show, plain_fronts_are_fronts}
use Rattle.par_file_run_laws.specs.Laws.{FilesShow, FilesShowWhole}
use Rattle.par_file_run_laws.proofs.Composed.{Parts, files_show_by, files_show_whole_by}

pub parts : Parts
parts = record {
  erased = bodies_are_erased;
  compiled = well_typed_programs_are_compiled;
  texts = words_are_texts;
  placeable = all_ready;
  kinds = erased_tables_have_kinds;
  known = loaded_files_are_known;
  names = lays;
  initializers = inits;
  laid_out = λ table bodies files is. record {
    methods = methods-are table bodies files is;
    code = methods-coded table bodies files is;
    named = named table bodies files is;
    main = main-there table bodies files is;
    others = others table bodies files is;
  };
  begin_alike = begins;
  placed = code_is_placed;
  main = begins_at_main;
  laid = laid;
  placed_runs = placed_runs;
  labelled_shows = labelled_code_shows;
  plain_shows = plain_runs_show;
  plain_fronts = plain_fronts_are_fronts;
}

pub files_show : FilesShow
files_show = files_show_by parts

pub files_show_whole : FilesShowWhole
files_show_whole = files_show_whole_by parts
