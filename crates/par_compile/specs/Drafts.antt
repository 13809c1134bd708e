-- How the methods of a file in the making grow.
use Rattle.std.specs.Prelude.{◌≡◌, ℕ, ◌<◌, ◌≤◌, ◌^◌, Bool, not, List, [], ◌∷◌, ◌++◌, length, Option}
use Rattle.std.specs.Prelude.{Some, None, is_some}
use Rattle.std.specs.List.{AllByRecursion, AllZip}
use Rattle.par_pool.specs.declared.reader.TheConstants.{LONGEST_CLASS}
use Rattle.par_pool.specs.declared.constant.Constant.{Constant}
use Rattle.par_pool.specs.Entries.{IsUtf8At}
use Rattle.par_class.specs.declared.file.Attribute.{Attribute}
use Rattle.par_class.specs.declared.file.CodeAttr.{CodeAttr}
use Rattle.par_class.specs.declared.file.MethodFile.{MethodFile}
use Rattle.par_class.specs.Spelling.{FitsCode, code, is_native}
use Rattle.par_values.specs.Areas.{Name}
use Rattle.par_compile_laws.specs.Members.{Member}
use Rattle.par_compile_laws.specs.Files.{IsMethodOf, HasCodeWith}
use Rattle.par_compile.specs.declared.draft.Draft.{Draft}
use Rattle.par_compile.specs.Growing.{Stays, Grows, IsEither, IsOfMembers}

-- none of these is longer than a class file may be
abbrev pub AreShort : List Attribute → Type 0
AreShort attributes = AllByRecursion (λ a. length a.bytes ≤ LONGEST_CLASS) attributes

-- no attribute of code, if there is any, is longer than that
abbrev pub HasShortCode : Option CodeAttr → Type 0
HasShortCode None = Unit {0}
HasShortCode (Some attr) = AreShort attr.attributes

-- code, if there is any, has a spelling over this pool where its attributes are short
abbrev pub CodeFits : List Constant → Option CodeAttr → Type 0
CodeFits pool None = Unit {0}
CodeFits pool (Some attr) = AreShort attr.attributes → FitsCode pool attr

-- and it is short enough for an attribute
abbrev pub IsShort : Option CodeAttr → Type 0
IsShort None = Unit {0}
IsShort (Some attr) = AreShort attr.attributes → length (code attr) < 2 ^ 32

-- a method that can be written, with its frames or without them
pub record IsPut (frames : Bool) (pool : List Constant) (m : Member) (file : MethodFile)
    : Type 0 where
  pub is : IsMethodOf pool m file
  pub with_ : HasCodeWith frames pool m file
  pub fits : CodeFits pool file.code
  pub short : IsShort file.code
  pub small : m.access < 2 ^ 16
  pub native : is_native m.access ≡ not (is_some file.code)

-- behind the methods stand these
pub record Puts (frames : Bool) (ms : List Member) (old new : Draft) : Type 0 where
  pub more : List MethodFile
  pub behind : new.methods ≡ old.methods ++ more
  pub grows : Grows (IsOfMembers ms) old.pool new.pool
  pub are : Stays new.pool (λ pool. AllZip (IsPut frames pool) ms more)

-- behind the methods stands one of this access, name, descriptor and code
pub record PutsMember (access : ℕ) (name descriptor : Name) (code : Option CodeAttr)
    (old new : Draft) : Type 0 where
  pub file : MethodFile
  pub behind : new.methods ≡ old.methods ++ file ∷ []
  pub grows : Grows (IsEither name descriptor) old.pool new.pool
  pub access_is : file.access ≡ access
  pub named : Stays new.pool (λ pool. IsUtf8At pool file.name name)
  pub described : Stays new.pool (λ pool. IsUtf8At pool file.descriptor descriptor)
  pub code_is : file.code ≡ code
  pub attributes : file.attributes ≡ []
