-- Where the entries of a pool in the making stand, as they are looked up by the bytes that spell
-- them.
use Rattle.std.specs.Prelude.{◌≡◌, ℕ, Bool, List, Option, Vec, position}
use Rattle.std.specs.Str.{bytes_eq}
use Rattle.std.specs.HashMap.{HashMap, get}
use Rattle.par_pool.specs.declared.constant.Constant.{Constant}
use Rattle.par_pool.specs.Spelling.{constant, IsMade}

-- the place of the first entry that these bytes spell
abbrev pub place_of : List Constant → List ℕ → Option ℕ
place_of entries bytes = position (λ entry. bytes_eq bytes (constant entry)) entries

abbrev pub same_bytes : {Z : Type 0} → Vec ℕ Z → Vec ℕ Z → Bool
same_bytes bytes other = bytes_eq bytes.items other.items

-- entries that make a pool, each of which is found by its bytes
pub record IsIndexed {S Z : Type 0} (entries : List Constant)
    (places : HashMap (Vec ℕ Z) ℕ S) : Type 0 where
  pub made : IsMade entries
  pub placed : (bytes : Vec ℕ Z) → get same_bytes places bytes ≡ place_of entries bytes.items
