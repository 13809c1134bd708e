-- The file of a class, before anything is said of the numbers of classes.
use Rattle.std.specs.Prelude.{◌≡◌, ℕ, ◌<◌, ◌≤◌, ◌^◌, nat_lt, Bool, true, false, List, [], length}
use Rattle.std.specs.Prelude.{Option, Some, None, Result, Ok, Err, codes}
use Rattle.std.specs.List.{All, AllZip, list_any}
use Rattle.par_typed.specs.declared.table.ClassInfo.{ClassInfo}
use Rattle.par_typed.specs.declared.table.Table.{Table}
use Rattle.par_pool.specs.Entries.{IsUtf8At, IsClassAt, IsDistinct}
use Rattle.par_pool.specs.Spelling.{IsPool}
use Rattle.par_pool.specs.declared.reader.TheConstants.{LONGEST_CLASS}
use Rattle.par_class.specs.declared.file.Attribute.{Attribute}
use Rattle.par_class.specs.declared.file.CodeAttr.{CodeAttr}
use Rattle.par_class.specs.declared.file.MethodFile.{MethodFile}
use Rattle.par_class.specs.declared.file.ClassFile.{ClassFile}
use Rattle.par_class.specs.Spelling.{Spells}
use Rattle.par_compile_laws.specs.Members.{Member, CLASS_ACCESS, above}
use Rattle.par_compile_laws.specs.Constants.{IsConstant}
use Rattle.par_compile_laws.specs.Files.{IsFieldOf, version, written}
use Rattle.par_compile.specs.declared.class.Parts.{Parts}
use Rattle.par_compile.specs.declared.draft.Draft.{Draft}
use Rattle.par_compile.specs.Drafts.{IsPut}

-- the file of a class that has these methods, with their frames or without them
pub record IsOwnFile (frames : Bool) (table : Table) (class : ClassInfo) (ms : List Member)
    (file : ClassFile) : Type 0 where
  pub minor : file.minor ≡ 0
  pub major : file.major ≡ version frames
  pub distinct : IsDistinct file.pool.entries
  pub pool : IsPool file.pool.entries
  pub constants : All (IsConstant file.pool.entries table class ms) file.pool.entries
  pub code_named : (index : ℕ) × IsUtf8At file.pool.entries index (codes "Code")
  pub access : file.access ≡ CLASS_ACCESS
  pub this_class : IsClassAt file.pool.entries file.this_class class.name
  pub super_class : IsClassAt file.pool.entries file.super_class (above class.exception)
  pub few_fields : length class.fields < 2 ^ 16
  pub fields : AllZip (IsFieldOf table file.pool.entries) class.fields file.fields
  pub few_methods : length ms < 2 ^ 16
  pub methods : AllZip (IsPut frames file.pool.entries) ms file.methods
  pub attributes : file.attributes ≡ []

-- the file of these parts, with the pool and the methods of a draft
pub record IsMadeOf (frames : Bool) (parts : Parts) (draft : Draft) (file : ClassFile)
    : Type 0 where
  pub minor : file.minor ≡ 0
  pub major : file.major ≡ version frames
  pub access : file.access ≡ CLASS_ACCESS
  pub pool : file.pool.entries ≡ draft.pool
  pub distinct : IsDistinct file.pool.entries
  pub spelled : IsPool file.pool.entries
  pub this_class : file.this_class ≡ parts.this_class
  pub super_class : file.super_class ≡ parts.super_class
  pub fields : file.fields ≡ parts.fields
  pub methods : file.methods ≡ draft.methods
  pub attributes : file.attributes ≡ []

-- the bytes spell such a file, and are few enough to be read again
pub record IsShortFile (frames : Bool) (table : Table) (class : ClassInfo) (ms : List Member)
    (bytes : List ℕ) : Type 0 where
  pub file : ClassFile
  pub is : IsOwnFile frames table class ms file
  pub spells : Spells bytes file
  pub short : length bytes ≤ LONGEST_CLASS

-- such a file has too many bytes to be read again
pub record IsLongFile (frames : Bool) (table : Table) (class : ClassInfo) (ms : List Member)
    : Type 0 where
  pub file : ClassFile
  pub is : IsOwnFile frames table class ms file
  pub long : LONGEST_CLASS < length (written file)

-- the bytes of the file with frames, or where that is long of the one without
pub record IsOwnBytes (table : Table) (class : ClassInfo) (ms : List Member) (bytes : List ℕ)
    : Type 0 where
  pub frames : Bool
  pub is : IsShortFile frames table class ms bytes
  pub unframed : frames ≡ false → IsLongFile true table class ms

-- the file is too long to be read again, with frames and without them
pub record IsTooLong (table : Table) (class : ClassInfo) (ms : List Member) : Type 0 where
  pub framed : IsLongFile true table class ms
  pub unframed : IsLongFile false table class ms

-- the bytes of the file of a class, or none where it is too long
abbrev pub AreOwnBytes : Table → ClassInfo → List Member → Option (List ℕ) → Type 0
AreOwnBytes table class ms None = IsTooLong table class ms
AreOwnBytes table class ms (Some bytes) = IsOwnBytes table class ms bytes

-- what comes behind what is made with frames: what is made without them where that is nothing
abbrev pub Follows : {E : Type 0} → (Bool → Result (Option (List ℕ)) E → Type 0)
    → Result (Option (List ℕ)) E → Result (Option (List ℕ)) E → Type 0
Follows makes (Err e) result = result ≡ Err e
Follows makes (Ok None) result = makes false result
Follows makes (Ok (Some bytes)) result = result ≡ Ok (Some bytes)

-- what is made with frames, or where that is nothing what is made without them
pub record IsFirstMade {E : Type 0} (makes : Bool → Result (Option (List ℕ)) E → Type 0)
    (result : Result (Option (List ℕ)) E) : Type 0 where
  pub first : Result (Option (List ℕ)) E
  pub made : makes true first
  pub follows : Follows makes first result

-- ---- attributes that are longer than a class file may be

abbrev pub any_long : List Attribute → Bool
any_long attributes = list_any (λ a. nat_lt LONGEST_CLASS (length a.bytes)) attributes

-- whether code, if there is any, has one
abbrev pub has_long_attribute : Option CodeAttr → Bool
has_long_attribute None = false
has_long_attribute (Some attr) = any_long attr.attributes

-- whether the code of a method has one
abbrev pub has_long_code : List MethodFile → Bool
has_long_code methods = list_any (λ m. has_long_attribute m.code) methods
