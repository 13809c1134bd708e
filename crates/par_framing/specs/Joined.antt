-- Frames that are put one behind the other.
use Rattle.std.specs.Prelude.{ℕ, ◌<◌, ◌==◌, Bool, false, if◌then◌else◌, List, [], ◌∷◌, length}
use Rattle.par_code_form.specs.declared.labelled.LabelFrame.{LabelFrame}
use Rattle.par_kinds.specs.declared.frame.PlacedFrame.{PlacedFrame}

-- whether the last of a frame and more stands at an offset
abbrev pub last_at : PlacedFrame → List PlacedFrame → ℕ → Bool
last_at f [] at = f.offset == at
last_at f (g ∷ gs) at = last_at g gs at

abbrev pub ends_at : List PlacedFrame → ℕ → Bool
ends_at [] at = false
ends_at (f ∷ fs) at = last_at f fs at

-- puts a frame behind a frame and more, or in the place of the last where that has its offset
abbrev pub joined_behind : PlacedFrame → List PlacedFrame → PlacedFrame → List PlacedFrame
joined_behind f [] g = if f.offset == g.offset then g ∷ [] else f ∷ g ∷ []
joined_behind f (h ∷ hs) g = f ∷ joined_behind h hs g

abbrev pub joined : List PlacedFrame → PlacedFrame → List PlacedFrame
joined [] g = g ∷ []
joined (f ∷ fs) g = joined_behind f fs g

-- puts frames one after the other
abbrev pub added : List PlacedFrame → List PlacedFrame → List PlacedFrame
added fs [] = fs
added fs (g ∷ gs) = added (joined fs g) gs

-- the label of a frame has an offset
abbrev pub HasLabel : List ℕ → LabelFrame → Type 0
HasLabel offsets f = f.label < length offsets
