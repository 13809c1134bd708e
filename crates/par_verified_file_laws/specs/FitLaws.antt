-- Frames fit the methods of loaded class files.
use Rattle.std.specs.Prelude.{◌≡◌, ℕ, true, List, []}
use Rattle.std.specs.List.{AllByRecursion}
use Rattle.par_typed.specs.declared.table.Table.{Table}
use Rattle.par_typed.specs.Plain.{Body}
use Rattle.par_class.specs.declared.file.ClassFile.{ClassFile}
use Rattle.par_erase.specs.Erased.{erased_table, erased_bodies}
use Rattle.par_file_run_laws.specs.par_step_laws.Methods.{class_pool, method_code}
use Rattle.par_code_form.specs.Placed.{IsPlaced}
use Rattle.par_kinds.specs.declared.frame.PlacedFrame.{PlacedFrame}
use Rattle.par_kinds.specs.Fits.{Given, Fitting}
use Rattle.par_kinds.specs.Linked.{exception_names, act_at, caught_kind}
use Rattle.par_kinds.specs.Linked.{first_frame, coded_at}
use Rattle.par_placed_fit_laws.specs.par_compile_laws.Framed.{frames_of}
use Rattle.par_placed_fit_laws.specs.Laws.{IsGivenAt}
use Rattle.par_file_run_laws.specs.Code.{code_at}
use Rattle.par_file_run_laws.specs.Laws.{AreLoadedFor}

-- some frames fit a method, and these are a part of them
pub record MethodFits (files : List ClassFile) (class method : ℕ) (fs : List PlacedFrame)
    : Type 0 where
  pub given : Given
  pub fits : Fitting (exception_names files) (act_at files class method) (caught_kind files class)
      (method_code files class method) given (first_frame files class method)
  pub part : AllByRecursion (IsGivenAt given) fs

-- wherever the code stands as labelled code
abbrev pub LoadedMethodsFit : Type 0
LoadedMethodsFit =
    (t : Table) (all : List Body) (files : List ClassFile) → AreLoadedFor t all files
    → (class method : ℕ) → coded_at files class method ≡ true
    → (placed : IsPlaced (class_pool files class)
    (code_at (erased_table t) (erased_bodies t all) files class method)
    (record (method_code files class method) { attributes = [] }))
    → MethodFits files class method
    (frames_of (code_at (erased_table t) (erased_bodies t all) files class method) placed.indices)
