-- Names that come and go, found by their first places.
use Rattle.std.specs.Prelude.{◌≡◌, ℕ, Bool, true, false, List, Option, Some, None, slice_get}
use Rattle.std.specs.List.{position}
use Rattle.std.specs.Str.{bytes_eq}
use Rattle.std.specs.HashMap.{get_by}
use Rattle.par_index.specs.Texts.{has, texts}
use Rattle.par_index.specs.declared.stack.NameStack.TheInside.{Inside}

-- A name that is there has its first place. What is kept of another name does not matter.
abbrev pub KeepsPlaces : Inside → Type 0
KeepsPlaces stack = (name : List ℕ) → has (texts stack.names.items) name ≡ true
    → get_by (λ key. bytes_eq name key.now) stack.firsts
    ≡ position (bytes_eq name) (texts stack.names.items)

abbrev pub when_same : Bool → ℕ → Option ℕ
when_same true place = Some place
when_same false place = None

abbrev pub standing_here : Option (List ℕ) → ℕ → List ℕ → Option ℕ
standing_here None place name = None
standing_here (Some other) place name = when_same (bytes_eq name other) place

-- this place, where the name stands there
abbrev pub standing : List (List ℕ) → ℕ → List ℕ → Option ℕ
standing names place name = standing_here (slice_get names place) place name
