-- The class files of a program without policies.
use Rattle.std.specs.Prelude.{◌≡◌, ℕ, ◌<◌, ◌≤◌, ◌⊎◌, Bool, true, false, if◌then◌else◌, List, []}
use Rattle.std.specs.Prelude.{length, Option, Some, None, codes, drop}
use Rattle.std.specs.List.{All, AllZip}
use Rattle.par_run_laws.specs.par_typed.declared.table.ClassInfo.{ClassInfo}
use Rattle.par_run_laws.specs.par_typed.declared.table.FieldInfo.{FieldInfo}
use Rattle.par_run_laws.specs.par_typed.declared.table.Table.{Table}
use Rattle.par_run_laws.specs.par_typed.Plain.{Body}
use Rattle.par_pool.specs.declared.reader.TheConstants.{LONGEST_CLASS}
use Rattle.par_pool.specs.declared.constant.Constant.{Constant}
use Rattle.par_pool.specs.Entries.{IsUtf8At, IsClassAt, IsDistinct}
use Rattle.par_code_form.specs.par_class.declared.file.CodeAttr.{CodeAttr}
use Rattle.par_code_form.specs.par_class.declared.file.FieldFile.{FieldFile}
use Rattle.par_code_form.specs.par_class.declared.file.MethodFile.{MethodFile}
use Rattle.par_code_form.specs.par_class.declared.file.ClassFile.{ClassFile}
use Rattle.par_code_form.specs.par_class.Spelling.{Spells, layout}
use Rattle.par_code_form.specs.par_class.Writing.{layout_of}
use Rattle.par_code_form.specs.declared.labelled.Labelled.{Labelled}
use Rattle.par_code_form.specs.Named.{descriptor}
use Rattle.par_code_form.specs.Placed.{IsPlaced}
use Rattle.par_compile_laws.specs.Framed.{IsPlacedWith}
use Rattle.par_compile_laws.specs.Members.{Member, CLASS_ACCESS, member_access, above, members}
use Rattle.par_compile_laws.specs.Constants.{IsConstant}

-- the number of the first declared class: the two exceptions that every program has come before it
abbrev pub FIRST_DECLARED : ℕ
FIRST_DECLARED = 2

abbrev pub declared_classes : Table → List ClassInfo
declared_classes table = drop FIRST_DECLARED table.classes

-- labelled code at offsets, whatever attributes it has
abbrev pub IsCode : List Constant → Option Labelled → Option CodeAttr → Type 0
IsCode pool None None = Unit {0}
IsCode pool None (Some attr) = ⊥
IsCode pool (Some code) None = ⊥
IsCode pool (Some code) (Some attr) = IsPlaced pool code (record attr { attributes = [] })

pub record IsFieldOf (table : Table) (pool : List Constant) (f : FieldInfo) (file : FieldFile)
    : Type 0 where
  pub access : file.access ≡ member_access f.is_static
  pub name : IsUtf8At pool file.name f.name
  pub descriptor_is : IsUtf8At pool file.descriptor (descriptor table f.ty)
  pub attributes : file.attributes ≡ []

pub record IsMethodOf (pool : List Constant) (m : Member) (file : MethodFile) : Type 0 where
  pub access : file.access ≡ m.access
  pub name : IsUtf8At pool file.name m.name
  pub descriptor_is : IsUtf8At pool file.descriptor m.descriptor
  pub code : IsCode pool m.code file.code
  pub attributes : file.attributes ≡ []

-- the file of a class of this number
pub record IsFileOf (table : Table) (bodies : List Body) (c : ℕ) (class : ClassInfo)
    (file : ClassFile) : Type 0 where
  pub minor : file.minor ≡ 0
  pub major : (file.major ≡ 51) ⊎ (file.major ≡ 49)
  -- no constant stands twice
  pub distinct : IsDistinct file.pool.entries
  pub constants : All (IsConstant file.pool.entries table class (members table bodies c class))
      file.pool.entries
  -- the name of the attribute that a method's code is
  pub code_named : (index : ℕ) × IsUtf8At file.pool.entries index (codes "Code")
  pub access : file.access ≡ CLASS_ACCESS
  pub this_class : IsClassAt file.pool.entries file.this_class class.name
  pub super_class : IsClassAt file.pool.entries file.super_class (above class.exception)
  pub fields : AllZip (IsFieldOf table file.pool.entries) class.fields file.fields
  pub methods : AllZip (IsMethodOf file.pool.entries) (members table bodies c class) file.methods
  pub attributes : file.attributes ≡ []

-- ---- files with frames and without them

-- labelled code at offsets, with its frames or without attributes
abbrev pub IsCodeWith : Bool → List Constant → Option Labelled → Option CodeAttr → Type 0
IsCodeWith frames pool None None = Unit {0}
IsCodeWith frames pool None (Some attr) = ⊥
IsCodeWith frames pool (Some code) None = ⊥
IsCodeWith frames pool (Some code) (Some attr) = IsPlacedWith frames pool code attr

abbrev pub HasCodeWith : Bool → List Constant → Member → MethodFile → Type 0
HasCodeWith frames pool m file = IsCodeWith frames pool m.code file.code

-- the version of files whose code has its frames, and of those whose code has no attributes
abbrev pub version : Bool → ℕ
version frames = if frames then 51 else 49

-- a file of these methods in one of the two versions
pub record IsVersioned (frames : Bool) (methods : List Member) (file : ClassFile) : Type 0 where
  pub major : file.major ≡ version frames
  pub code : AllZip (HasCodeWith frames file.pool.entries) methods file.methods

-- the bytes as which a file is written, whether or not they can be read again
abbrev pub written : ClassFile → List ℕ
written file = layout (layout_of file)

-- a file of the class with frames that has too many bytes to be read again
pub record HasLongFile (table : Table) (bodies : List Body) (c : ℕ) (class : ClassInfo)
    : Type 0 where
  pub file : ClassFile
  pub is : IsFileOf table bodies c class file
  pub versioned : IsVersioned true (members table bodies c class) file
  pub long : LONGEST_CLASS < length (written file)

-- The bytes spell a file of the class, and are few enough to be read again. It has frames, unless
-- the file with frames has too many bytes.
pub record IsCompiled (table : Table) (bodies : List Body) (c : ℕ) (class : ClassInfo)
    (bytes : List ℕ) : Type 0 where
  pub file : ClassFile
  pub is : IsFileOf table bodies c class file
  pub frames : Bool
  pub versioned : IsVersioned frames (members table bodies c class) file
  pub unframed : frames ≡ false → HasLongFile table bodies c class
  pub spells : Spells bytes file
  pub short : length bytes ≤ LONGEST_CLASS
