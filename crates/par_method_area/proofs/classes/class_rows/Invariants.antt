use Rattle.std.proofs.Common.{◌≡◌, length, map, take}
use Rattle.par_step_laws.specs.Fields.{class_statics}
use Rattle.par_method_area.specs.Classes.{IsClassRow, lines_in, line_rows}
use Rattle.par_method_area.specs.Rows.{AreRows}
use Rattle.par_method_area.proofs.classes.class_rows.Given as goal

abbrev pub invariant-loop-file : goal.invariant-loop-file
invariant-loop-file l =
    (l.shared ≡ length (class_statics (take l.file-index l.files)))
    × AreRows (IsClassRow l.numbers l.files) (take l.file-index l.files) l.rows
    × (map lines_in l.rows ≡ line_rows (take l.file-index l.files) l.lines)
