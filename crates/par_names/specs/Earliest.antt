-- The least place at which each name stands.
use Rattle.std.specs.Prelude.{◌≡◌, ℕ, Bool, false, ◌||◌, ◌&&◌, nat_lt, List, Option, Some, None}
use Rattle.std.specs.Str.{bytes_eq}
use Rattle.std.specs.HashMap.{get_by}
use Rattle.par_tree.specs.declared.ident.Ident.{Ident}
use Rattle.par_names.specs.declared.doubles.Earliest.{Earliest}
use Rattle.par_names.specs.Declarations.{has_earlier}

-- there is a place, and it is below this one
unfoldable pub is_below : Option ℕ → ℕ → Bool
is_below None at = false
is_below (Some place) at = nat_lt place at

-- the least place of a name
abbrev pub place_of : Earliest → List ℕ → Option ℕ
place_of earliest name = get_by (λ key. bytes_eq name key.now) earliest.places

-- a name has a place below another exactly where one of these has
abbrev pub AreEarliest : List Ident → Earliest → Type 0
AreEarliest ids earliest = (name : List ℕ) (at : ℕ)
    → is_below (place_of earliest name) at ≡ has_earlier ids (record { name = name; at = at })

-- one more name with its place
abbrev pub IsNoted : Earliest → Ident → Earliest → Type 0
IsNoted before id after = (name : List ℕ) (at : ℕ) → is_below (place_of after name) at
    ≡ (is_below (place_of before name) at || (bytes_eq id.name name && nat_lt id.at at))
