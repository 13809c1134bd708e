-- What holds of the loaded class files of a program, by the layout that they give it.
use Rattle.std.specs.Prelude.{◌≡◌, ℕ, List, [], Some, slice_get}
use Rattle.par_typed.specs.declared.ty.Ty.TheVariants as ty
use Rattle.par_typed.specs.declared.table.Table.{Table}
use Rattle.par_typed.specs.Plain.{Body}
use Rattle.par_class.specs.declared.file.ClassFile.{ClassFile}
use Rattle.par_values.specs.declared.inputs.ChannelInput.{ChannelInput}
use Rattle.par_run_laws.specs.Names.{main_of}
use Rattle.par_run_laws.specs.Source.{start}
use Rattle.par_match_laws.specs.par_step_laws.Methods.{class_pool, method_code}
use Rattle.par_match_laws.specs.par_step_laws.Run.{class_number}
use Rattle.par_match_laws.specs.par_step_laws.State.{main_place}
use Rattle.par_code_form.specs.Named.{class_word, words_of}
use Rattle.par_match_laws.specs.par_code_form.Placed.{IsPlaced}
use Rattle.par_match_laws.specs.Naming.{naming_of}
use Rattle.par_source_code_laws.specs.par_evaluation_laws.Laid.{Meth, HasMethod, given_types}
use Rattle.par_source_code_laws.specs.par_evaluation_laws.Agreement.{Lays, Fine}
use Rattle.par_source_code_laws.specs.par_evaluation_laws.Programs.{Inits}
use Rattle.par_source_code_laws.specs.Compiled.{IsLaidOut}
use Rattle.par_file_run_laws.specs.Layout.{layout_of}
use Rattle.par_file_run_laws.specs.Code.{code_at, labelled_of}
use Rattle.par_file_run_laws.specs.Parts.{Known, first_areas}

-- names and numbers are the same to the program and to its files
abbrev pub NamesAreLaidOut : Type 0
NamesAreLaidOut =
    (table : Table) (bodies : List Body) (files : List ClassFile) → Known table bodies files
    → Lays (naming_of files) (words_of table) (layout_of files table bodies) table

-- each class of which objects are made has its initializer
abbrev pub InitializersStand : Type 0
InitializersStand =
    (table : Table) (bodies : List Body) (files : List ClassFile) → Known table bodies files
    → Inits (labelled_of table bodies files) (layout_of files table bodies)

-- each method of a loaded class is one of the program and has its code, what it names is laid out
-- too, and no other code has handlers
abbrev pub FilesAreLaidOut : Type 0
FilesAreLaidOut =
    (table : Table) (bodies : List Body) (files : List ClassFile) → Known table bodies files
    → IsLaidOut (labelled_of table bodies files) (words_of table) (layout_of files table bodies)
    table bodies

-- what a machine begins with agrees with what the program begins with, on any inputs
abbrev pub StatesBeginAlike : Type 0
StatesBeginAlike =
    (table : Table) (bodies : List Body) (files : List ClassFile) → Known table bodies files
    → (lines : List ChannelInput)
    → Fine (naming_of files) (words_of table) (layout_of files table bodies) table (λ x. ty.Void) 0
    (λ c. 0) [] (start table lines) (first_areas files lines)

-- the code of each method stands in its file as its labelled code, whatever attributes it has
abbrev pub CodeIsPlaced : Type 0
CodeIsPlaced =
    (table : Table) (bodies : List Body) (files : List ClassFile) → Known table bodies files
    → (class method : ℕ)
    → IsPlaced (class_pool files class) (code_at table bodies files class method)
    (record (method_code files class method) { attributes = [] })

-- a run of the files begins with this method of the program, and with so many locals
pub record BeginsAtMain (table : Table) (bodies : List Body) (files : List ClassFile) (me : Meth)
    : Type 0 where
  pub class : class_number files (class_word table table.main) ≡ 0
  pub number : (layout_of files table bodies).number table.main ≡ 0
  pub method : main_place (slice_get files 0)
      ≡ Some ((layout_of files table bodies).method_at table.main (main_of table))
  pub locals : (code_at table bodies files 0
      ((layout_of files table bodies).method_at table.main (main_of table))).max_locals ≡ me.many

abbrev pub ProgramsBeginAtMain : Type 0
ProgramsBeginAtMain =
    (table : Table) (bodies : List Body) (files : List ClassFile) → Known table bodies files
    → (me : Meth) → HasMethod (layout_of files table bodies) table.main (main_of table) me
    → given_types table.main me ≡ [] → me.result ≡ ty.Void
    → BeginsAtMain table bodies files me
