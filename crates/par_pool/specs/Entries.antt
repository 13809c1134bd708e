-- What an index of a constant pool names.
use Rattle.std.specs.Prelude.{◌≡◌, ℕ, zero, suc, List, Option, Some, None, slice_get}
use Rattle.par_pool.specs.declared.constant.Constant.{Constant}
use Rattle.par_pool.specs.declared.constant.Constant.TheVariants.{Utf8, Class, Field, Method}
use Rattle.par_pool.specs.declared.constant.Constant.TheVariants.{NameType}

-- the entry of an index; entries are counted from 1, and index 0 has none
abbrev pub entry_at : List Constant → ℕ → Option Constant
entry_at pool zero = None
entry_at pool (suc place) = slice_get pool place

-- the index has exactly this entry
abbrev pub IsAt : List Constant → ℕ → Constant → Type 0
IsAt pool index constant = entry_at pool index ≡ Some constant

-- the index names this text
abbrev pub IsUtf8At : List Constant → ℕ → List ℕ → Type 0
IsUtf8At pool index text = IsAt pool index (Utf8 text)

-- the index names the class of this name
pub record IsClassAt (pool : List Constant) (index : ℕ) (name : List ℕ) : Type 0 where
  pub text : ℕ
  pub entry : IsAt pool index (Class text)
  pub is_name : IsUtf8At pool text name

-- the index names a member's name and descriptor
pub record IsNameTypeAt (pool : List Constant) (index : ℕ) (name descriptor : List ℕ) : Type 0 where
  pub first : ℕ
  pub second : ℕ
  pub entry : IsAt pool index (NameType first second)
  pub is_name : IsUtf8At pool first name
  pub is_descriptor : IsUtf8At pool second descriptor

-- the index names a member of a class, by an entry of the given form
pub record IsMemberAt (form : ℕ → ℕ → Constant) (pool : List Constant) (index : ℕ)
    (class name descriptor : List ℕ) : Type 0 where
  pub owner : ℕ
  pub member : ℕ
  pub entry : IsAt pool index (form owner member)
  pub is_class : IsClassAt pool owner class
  pub is_member : IsNameTypeAt pool member name descriptor

-- the index names a field of a class
abbrev pub IsFieldAt : List Constant → ℕ → List ℕ → List ℕ → List ℕ → Type 0
IsFieldAt pool index class name descriptor = IsMemberAt Field pool index class name descriptor

-- the index names a method of a class
abbrev pub IsMethodAt : List Constant → ℕ → List ℕ → List ℕ → List ℕ → Type 0
IsMethodAt pool index class name descriptor = IsMemberAt Method pool index class name descriptor

-- no constant has two indices
abbrev pub IsDistinct : List Constant → Type 0
IsDistinct pool =
    (i j : ℕ) (constant : Constant) → IsAt pool i constant → IsAt pool j constant → i ≡ j
