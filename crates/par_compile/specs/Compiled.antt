-- The class files of a program.
use Rattle.std.specs.Prelude.{◌≡◌, ℕ, ◌+◌, List, length, slice_get, Some}
use Rattle.par_typed.specs.declared.table.ClassInfo.{ClassInfo}
use Rattle.par_typed.specs.declared.table.Table.{Table}
use Rattle.par_typed.specs.Plain.{Body}
use Rattle.par_compile_laws.specs.Files.{FIRST_DECLARED, declared_classes, IsCompiled}
use Rattle.par_compile.specs.declared.compiled.CompiledClass.{CompiledClass}

-- the file of a class of this number, under the name of the class
pub record IsCompiledClass (table : Table) (bodies : List Body) (c : ℕ) (class : ClassInfo)
    (compiled : CompiledClass) : Type 0 where
  pub name : compiled.name ≡ class.name
  pub is : IsCompiled table bodies c class compiled.bytes

-- one file for each declared class, in the order of the source
pub record AreCompiled (table : Table) (bodies : List Body) (files : List CompiledClass)
    : Type 0 where
  pub many : length files ≡ length (declared_classes table)
  pub each : (place : ℕ) (class : ClassInfo) (file : CompiledClass)
      → slice_get (declared_classes table) place ≡ Some class → slice_get files place ≡ Some file
      → IsCompiledClass table bodies (FIRST_DECLARED + place) class file
