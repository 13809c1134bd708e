-- Classes as they are told once.
use Rattle.std.specs.Prelude.{◌≡◌, ℕ, Bool, true, List, [], ◌∷◌, ◌++◌, length, map, take, Option}
use Rattle.std.specs.List.{filter}
use Rattle.par_class.specs.declared.file.ClassFile.{ClassFile}
use Rattle.par_values.specs.Areas.{Name, first_value}
use Rattle.par_step_laws.specs.par_link.Placed.{pool_texts}
use Rattle.par_step_laws.specs.Classes.{is_exception}
use Rattle.par_step_laws.specs.Fields.{class_statics, is_own, kind_of}
use Rattle.par_method_area.specs.declared.classes.ClassRow.{ClassRow}
use Rattle.par_actions.specs.par_lines.Lines.{Channel}
use Rattle.par_method_area.specs.Rows.{AreRows}
use Rattle.par_method_area.specs.Fields.{IsFieldRow}
use Rattle.par_method_area.specs.Signatures.{told, said_by}
use Rattle.par_method_area.specs.Methods.{IsMethodRow, line_in, line_row}

-- The row is that of the class of a file, where the classes have these names and so many static
-- fields stand before its own.
pub record IsFileRow (classes : List Name) (shared : ℕ) (file : ClassFile) (row : ClassRow) :
    Type 0 where
  pub fields : AreRows (IsFieldRow classes shared file) file.fields row.fields
  pub signatures : map told row.signatures ≡ map (said_by classes) (pool_texts file.pool.entries)
  pub methods : AreRows (IsMethodRow row.signatures file) file.methods row.methods
  pub first :
      row.first.items
      ≡ map (λ f. first_value (kind_of file.pool.entries f)) (filter is_own file.fields)

-- The same, of the file at a place among some files.
abbrev pub IsClassRow : List Name → List ClassFile → ℕ → ClassFile → ClassRow → Type 0
IsClassRow classes files class file row =
    IsFileRow classes (length (class_statics (take class files))) file row

-- the lines of the channels of the names of methods
abbrev pub lines_in : ClassRow → List (Option ℕ)
lines_in row = map line_in row.methods

abbrev pub file_lines : List Channel → ClassFile → List (Option ℕ)
file_lines channels file = map (line_row channels file) file.methods

-- those of each file, where the channels have lines in this order
abbrev pub line_rows : List ClassFile → List Channel → List (List (Option ℕ))
line_rows files channels = map (file_lines channels) files

-- of the class of each number whether it is one of exceptions
abbrev pub exception_flags : List ClassFile → List Bool
exception_flags files = map is_exception files ++ true ∷ true ∷ []
