-- How a pool grows by an entry and its parts.
use Rattle.std.specs.Prelude.{◌≡◌, ℕ, ◌≤◌, List, ◌++◌, length, ◌⊎◌}
use Rattle.std.specs.List.{All}
use Rattle.par_pool.specs.declared.constant.Constant.{Constant}
use Rattle.par_pool.specs.declared.constant.Constant.TheVariants.{Utf8, Class, NameType}
use Rattle.par_pool.specs.Entries.{IsUtf8At, IsClassAt, IsNameTypeAt}

-- Each earlier index keeps its entry; behind these stand at most `few` more, each of the stated
-- sort.
pub record Adds (old new : List Constant) (few : ℕ) (IsPart : Constant → Type 0) : Type 0 where
  pub more : List Constant
  pub behind : new ≡ old ++ more
  pub number : length more ≤ few
  pub parts : All IsPart more

-- a part of the entry of a class: its text, or the entry itself
abbrev pub IsClassPart : List Constant → List ℕ → Constant → Type 0
IsClassPart pool name constant =
    (constant ≡ Utf8 name)
    ⊎ ((text : ℕ) × (constant ≡ Class text) × IsUtf8At pool text name)

-- a part of the entry of a name and a descriptor: one of the texts, or the entry itself
abbrev pub IsNameTypePart : List Constant → List ℕ → List ℕ → Constant → Type 0
IsNameTypePart pool name descriptor constant =
    (constant ≡ Utf8 name)
    ⊎ ((constant ≡ Utf8 descriptor)
    ⊎ ((first second : ℕ) × (constant ≡ NameType first second)
    × IsUtf8At pool first name × IsUtf8At pool second descriptor))

-- a part of what names a member: one of its class, or one of its name and descriptor
abbrev pub IsNamingPart : List Constant → List ℕ → List ℕ → List ℕ → Constant → Type 0
IsNamingPart pool class name descriptor constant =
    IsClassPart pool class constant ⊎ IsNameTypePart pool name descriptor constant

-- a part of the entry of a member: one of what names it, or the entry itself, of the given form
abbrev pub IsMemberPart :
    (ℕ → ℕ → Constant) → List Constant → List ℕ → List ℕ → List ℕ → Constant → Type 0
IsMemberPart form pool class name descriptor constant =
    IsNamingPart pool class name descriptor constant
    ⊎ ((owner member : ℕ) × (constant ≡ form owner member)
    × IsClassAt pool owner class × IsNameTypeAt pool member name descriptor)
