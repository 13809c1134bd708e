-- What of a program lets its loaded files be laid out, beside what lets them link.
use Rattle.std.specs.Prelude.{◌≡◌, ℕ, ◌<◌, ◌≤◌, true, List, [], length, Some, slice_get}
use Rattle.par_typed.specs.declared.table.ClassInfo.{ClassInfo}
use Rattle.par_typed.specs.declared.table.MethodInfo.{MethodInfo}
use Rattle.par_typed.specs.declared.table.Table.{Table}
use Rattle.par_typed.specs.Plain.{Body}
use Rattle.par_typed.specs.Members.{method_at}
use Rattle.par_program_laws.specs.Locals.{arrivals}
use Rattle.par_class.specs.declared.file.ClassFile.{ClassFile}
use Rattle.par_source_code_laws.specs.par_typed_laws.Signatures.{HasBuiltIns, AreSigned}
use Rattle.par_source_code_laws.specs.par_typed_laws.Tables.{IsInRange}
use Rattle.par_erase.specs.Erased.{erased_table}
use Rattle.par_link_laws.specs.par_compile_laws.Files.{FIRST_DECLARED}
use Rattle.par_link_laws.specs.Linkable.{IsLinkable}
use Rattle.par_link_laws.specs.Parts.{AreLoadedFiles}
use Rattle.par_file_run_laws.specs.Parts.{Known}

-- The two exceptions that every program has are exceptions, these have no members, and what a call
-- hands on is among the locals.
pub record HasKinds (table : Table) : Type 0 where
  pub exceptions : (c : ℕ) (class : ClassInfo) → c < FIRST_DECLARED
      → slice_get table.classes c ≡ Some class → class.exception ≡ true
  pub bare : (c : ℕ) (class : ClassInfo) → slice_get table.classes c ≡ Some class
      → class.exception ≡ true
      → (class.fields ≡ []) × (class.channels ≡ []) × (class.methods ≡ [])
  pub room : (c i : ℕ) (m : MethodInfo) → method_at table c i ≡ Some m
      → arrivals m ≤ length m.locals

-- loaded files of a program that links are such as are laid out
abbrev pub LoadedFilesAreKnown : Type 0
LoadedFilesAreKnown =
    (table : Table) (bodies : List Body) (files : List ClassFile) → IsLinkable table bodies
    → HasKinds table → AreLoadedFiles table bodies files → Known table bodies files

-- the erased table of a well-typed program has such classes
abbrev pub ErasedTablesHaveKinds : Type 0
ErasedTablesHaveKinds =
    (t : Table) → HasBuiltIns t → AreSigned t → IsInRange t → HasKinds (erased_table t)
