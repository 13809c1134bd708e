-- How the pool of a class's file grows.
use Rattle.std.specs.Prelude.{◌≡◌, ◌⊎◌, List, ◌++◌, Contains, Bool}
use Rattle.std.specs.List.{All}
use Rattle.par_typed.specs.declared.table.FieldInfo.{FieldInfo}
use Rattle.par_typed.specs.declared.table.Table.{Table}
use Rattle.par_pool.specs.declared.constant.Constant.{Constant}
use Rattle.par_pool.specs.declared.constant.Constant.TheVariants.{Utf8}
use Rattle.par_pool.specs.Growth.{IsClassPart}
use Rattle.par_values.specs.Areas.{Name}
use Rattle.par_code_form.specs.declared.labelled.Labelled.{Labelled}
use Rattle.par_code_form.specs.Code.{initializer}
use Rattle.par_code_form.specs.PoolNames.{IsPartOf}
use Rattle.par_compile_laws.specs.Members.{Member, above}
use Rattle.par_compile_laws.specs.Constants.{IsOfCode, IsOfField, IsOfMember}
use Rattle.par_framing.specs.par_compile_laws.Framed.{TABLE}

-- each index keeps its entry
pub record Extends (old new : List Constant) : Type 0 where
  pub more : List Constant
  pub behind : new ≡ old ++ more

-- it holds of each pool that extends this one
abbrev pub Stays : List Constant → (List Constant → Type 0) → Type 0
Stays pool P = (later : List Constant) → Extends pool later → P later

-- each index keeps its entry; those behind these are of the stated sort
pub record Grows (Is : List Constant → Constant → Type 0) (old new : List Constant) : Type 0 where
  pub more : List Constant
  pub behind : new ≡ old ++ more
  pub parts : Stays new (λ pool. All (Is pool) more)

-- ---- sorts of constants

-- this text
abbrev pub IsOneText : Name → List Constant → Constant → Type 0
IsOneText text pool c = c ≡ Utf8 text

-- one of two texts
abbrev pub IsEither : Name → Name → List Constant → Constant → Type 0
IsEither text other pool c = (c ≡ Utf8 text) ⊎ (c ≡ Utf8 other)

-- a class of this name, or its text
abbrev pub IsOneClass : Name → List Constant → Constant → Type 0
IsOneClass name pool c = IsClassPart pool name c

-- what the code of an initializer names, or a part of it
abbrev pub IsSuperCall : Bool → List Constant → Constant → Type 0
IsSuperCall exception pool c = IsPartOf pool (initializer (above exception)) c

-- the name of the attribute of frames, or what code names
abbrev pub IsOneCode : Labelled → List Constant → Constant → Type 0
IsOneCode code pool c = (c ≡ Utf8 TABLE) ⊎ IsOfCode pool code c

-- the name or the descriptor of a field
abbrev pub IsOneField : Table → FieldInfo → List Constant → Constant → Type 0
IsOneField table f pool c = IsOfField pool table f c

-- that of some of these fields
abbrev pub IsOfFields : Table → List FieldInfo → List Constant → Constant → Type 0
IsOfFields table fs pool c = (f : FieldInfo) × Contains fs f × IsOfField pool table f c

-- the name of the attribute of frames, or what some of these methods name
abbrev pub IsOfMembers : List Member → List Constant → Constant → Type 0
IsOfMembers ms pool c =
    (c ≡ Utf8 TABLE) ⊎ ((m : Member) × Contains ms m × IsOfMember pool m c)
