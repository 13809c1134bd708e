use Rattle.std.proofs.Common.{◌≡◌, ◌+◌, take}
use Rattle.par_step_laws.specs.Fields.{is_shared, is_own, many_of}
use Rattle.par_method_area.specs.Fields.{IsFieldRow}
use Rattle.par_method_area.specs.Rows.{AreRows}
use Rattle.par_method_area.proofs.fields.field_rows.Given as goal

abbrev pub invariant-loop-field : goal.invariant-loop-field
invariant-loop-field l =
    (l.before.shared ≡ l.fn.shared + many_of is_shared l.file l.field-index)
    × (l.before.own ≡ many_of is_own l.file l.field-index)
    × AreRows (IsFieldRow l.numbers l.fn.shared l.file) (take l.field-index l.file.fields) l.rows
