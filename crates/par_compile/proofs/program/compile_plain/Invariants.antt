use Rattle.std.proofs.Common.{◌≡◌, ℕ, ◌+◌, length, map, Some}
use Rattle.std.specs.Prelude.{slice_get}
use Rattle.par_typed.specs.declared.table.ClassInfo.{ClassInfo}
use Rattle.par_erase.specs.Shown.{class_info, table_of, bodies_of}
use Rattle.par_compile_laws.specs.Files.{FIRST_DECLARED}
use Rattle.par_compile.specs.declared.compiled.CompiledClass.{CompiledClass}
use Rattle.par_compile.specs.Compiled.{IsCompiledClass}
use Rattle.par_compile.proofs.program.compile_plain.Given as goal

abbrev pub invariant-loop-class : goal.invariant-loop-class
invariant-loop-class l = record {
  many : length l.files ≡ l.class-index;
  each : (place : ℕ) (class : ClassInfo) (file : CompiledClass)
      → slice_get (map class_info l.classes) place ≡ Some class
      → slice_get l.files place ≡ Some file
      → IsCompiledClass (table_of l.plain) (bodies_of l.plain) (FIRST_DECLARED + place) class file;
}
