use Rattle.std.proofs.Common.{◌≡◌, map, take}
use Rattle.par_method_area.specs.Methods.{IsMethodRow, line_in, line_row}
use Rattle.par_method_area.specs.Rows.{AreRows}
use Rattle.par_method_area.proofs.methods.method_rows.Given as goal

abbrev pub invariant-loop-method : goal.invariant-loop-method
invariant-loop-method l =
    AreRows (IsMethodRow l.signatures l.file) (take l.method-index l.file.methods) l.rows
    × (map line_in l.rows ≡ map (line_row l.lines l.file) (take l.method-index l.file.methods))
