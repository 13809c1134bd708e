-- The locals that are in scope.
use Rattle.std.specs.Prelude.{ℕ, ◌++◌, List, [], ◌∷◌, Bool, false, Option, Some, None, slice_get}
use Rattle.par_scope.specs.declared.locals.Slot.{Slot}
use Rattle.par_scope.specs.Names.{number_in}

-- parameters and locals by their declarations, each with its name
pub record Scope : Type 0 where
  pub names : List (List ℕ)
  pub slots : List Slot

abbrev pub no_locals : Scope
no_locals = record { names = []; slots = [] }

-- with one more local
abbrev pub declared : Scope → List ℕ → Slot → Scope
declared scope name slot = record {
  names = scope.names ++ name ∷ [];
  slots = scope.slots ++ slot ∷ [];
}

abbrev pub slot_at : List Slot → Option ℕ → Option Slot
slot_at slots None = None
slot_at slots (Some place) = slice_get slots place

-- the local that a name stands for, the first of that name
abbrev pub local_named : Scope → List ℕ → Option Slot
local_named scope name = slot_at scope.slots (number_in scope.names name)

-- whether what it stands for is a local that is never null
abbrev pub is_notnull : Option Slot → Bool
is_notnull None = false
is_notnull (Some slot) = slot.notnull
