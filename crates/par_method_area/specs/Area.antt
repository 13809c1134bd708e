-- What is told once of class files and input lines.
use Rattle.std.specs.Prelude.{◌≡◌, ℕ, Bool, List, map, Option}
use Rattle.par_class.specs.declared.file.ClassFile.{ClassFile}
use Rattle.par_values.specs.declared.value.MVal.{MVal}
use Rattle.par_step_laws.specs.par_link.Linked.{AreLinked}
use Rattle.par_step_laws.specs.Classes.{class_names}
use Rattle.par_step_laws.specs.Fields.{all_statics}
use Rattle.par_method_area.specs.declared.classes.ClassRow.{ClassRow}
use Rattle.par_actions.specs.par_lines.Lines.{Channel}
use Rattle.par_method_area.specs.Rows.{AreRows}
use Rattle.par_method_area.specs.Classes.{IsClassRow, lines_in, line_rows, exception_flags}

pub record Area : Type 0 where
  pub files : List ClassFile
  -- of each method of each file, the place of the line of the channel of its name
  pub lines : List (List (Option ℕ))

-- The channels have lines in this order.
abbrev pub KnowsLines : Area → List Channel → Type 0
KnowsLines area channels = area.lines ≡ line_rows area.files channels

abbrev pub area_of : List ClassFile → List ClassRow → Area
area_of files rows = record { files = files; lines = map lines_in rows }

-- what is known of the rows, the flags of exceptions and the values of static fields
pub record AreTold (files : List ClassFile) (told : List ClassRow) (flags : List Bool)
    (values : List MVal) : Type 0 where
  pub linked : AreLinked files
  pub rows : AreRows (IsClassRow (class_names files) files) files told
  pub exceptions : flags ≡ exception_flags files
  pub statics : values ≡ all_statics files
