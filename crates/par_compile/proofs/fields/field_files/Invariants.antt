use Rattle.std.proofs.Common.{◌+◌, ◌*◌, ◌≤◌, length, map, take}
use Rattle.std.specs.List.{AllZip}
use Rattle.par_erase.specs.Shown.{field_info, table_of}
use Rattle.par_compile_laws.specs.Files.{IsFieldOf}
use Rattle.par_compile.specs.Growing.{Stays, Grows, IsOfFields}
use Rattle.par_compile.proofs.fields.field_files.Given as goal

abbrev pub invariant-loop-field : goal.invariant-loop-field
invariant-loop-field l = record {
  grown : Grows (IsOfFields (table_of l.plain) (map field_info l.fields)) l.initial.pool l.pool;
  are : Stays l.pool (λ q. AllZip (IsFieldOf (table_of l.plain) q)
      (map field_info (take l.field-index l.fields)) l.files);
  few : length l.pool ≤ length l.initial.pool + 2 * l.field-index;
}
