-- Offsets of labels in a list by the labels' numbers.
use Rattle.std.specs.Prelude.{◌≡◌, ◌≢◌, ℕ, ◌≤◌, ◌<◌, List, length, Some, slice_get, All}
use Rattle.par_pool.specs.Spelling.{IsText}
use Rattle.par_code_form.specs.declared.item.Item.{Item}
use Rattle.par_code_form.specs.declared.item.Item.TheVariants.{Label, Jump}
use Rattle.par_code_form.specs.declared.labelled.Handler.{Handler}
use Rattle.par_code_form.specs.PoolNames.{full_name}
use Rattle.par_code_form.specs.Placed.{offset_of}
use Rattle.par_code_form.specs.Placeable.{StandsOnce, MOST_BYTES}

-- each label that stands once has its offset there
abbrev pub HasOffsets : List Item → List ℕ → List ℕ → Type 0
HasOffsets items indices offsets =
    (l : ℕ) → StandsOnce items l → slice_get offsets l ≡ Some (offset_of items indices l)

-- no offset is beyond the longest code
abbrev pub AreSmall : List ℕ → Type 0
AreSmall offsets = All (λ o. o ≤ MOST_BYTES) offsets

-- a label that is marked has this offset then, and each other number keeps its own
abbrev pub Marks : ℕ → Item → List ℕ → List ℕ → Type 0
Marks at (Label l) old new =
    (slice_get new l ≡ Some at)
    × ((k o : ℕ) → k ≢ l → slice_get old k ≡ Some o → slice_get new k ≡ Some o)
Marks at _ old new = new ≡ old

-- the label that an item branches to has an offset there
abbrev pub HasOffset : List ℕ → Item → Type 0
HasOffset offsets (Jump opcode l) = l < length offsets
HasOffset offsets _ = Unit {0}

-- the labels of a handler have offsets there, and a pool can have its class
pub record HasLabels (offsets : List ℕ) (h : Handler) : Type 0 where
  pub text : IsText (full_name h.class)
  pub from : h.from < length offsets
  pub to : h.to < length offsets
  pub goes : h.goes < length offsets
