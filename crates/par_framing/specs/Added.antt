-- What a pool gains by code with its frames.
use Rattle.std.specs.Prelude.{◌≡◌, ℕ, ◌<◌, ◌^◌, ◌⊎◌, Bool, if◌then◌else◌, List, ◌++◌, length, All}
use Rattle.std.specs.Prelude.{Contains}
use Rattle.std.specs.List.{AllByRecursion}
use Rattle.par_pool.specs.declared.constant.Constant.{Constant}
use Rattle.par_pool.specs.declared.constant.Constant.TheVariants.{Utf8}
use Rattle.par_pool.specs.Growth.{IsClassPart}
use Rattle.par_class.specs.declared.file.Attribute.{Attribute}
use Rattle.par_values.specs.Areas.{Name}
use Rattle.par_code_form.specs.declared.labelled.Labelled.{Labelled}
use Rattle.par_frames.specs.Room.{SPARE}
use Rattle.par_place.specs.Offsets.{HasOffsets, AreSmall}
use Rattle.par_compile_laws.specs.Framed.{TABLE, IsConstantWith}

-- the name of the attribute, or a part of one of these classes
abbrev pub IsTablePart : List Constant → List Name → Constant → Type 0
IsTablePart pool names c =
    (c ≡ Utf8 TABLE) ⊎ ((name : Name) × Contains names name × IsClassPart pool name c)

-- a pool grows by these alone
pub record AddsTable (old new : List Constant) (names : List Name) : Type 0 where
  pub more : List Constant
  pub behind : new ≡ old ++ more
  pub parts : All (IsTablePart new names) more

-- a pool grows by constants of the code, with its frames or without them, alone
pub record AddsConstants (frames : Bool) (old new : List Constant) (code : Labelled)
    : Type 0 where
  pub more : List Constant
  pub behind : new ≡ old ++ more
  pub parts : All (IsConstantWith frames new code) more

-- no attribute is longer than its length can say
abbrev pub AreSized : List Attribute → Type 0
AreSized attributes = AllByRecursion (λ a. length a.bytes < 2 ^ 32) attributes

-- how much more room is asked for where frames are written
abbrev pub spare_with : Bool → ℕ
spare_with frames = if frames then SPARE else 0

-- the labels of code have these offsets, by the indices of what its items name
pub record HasLabelOffsets (code : Labelled) (offsets : List ℕ) : Type 0 where
  pub indices : List ℕ
  pub paired : length code.items ≡ length indices
  pub labels : HasOffsets code.items indices offsets
  pub small : AreSmall offsets
