-- Where the first frame of each label stands.
use Rattle.std.specs.Prelude.{◌≡◌, ℕ, List, length, Option, None, slice_get, get_or}
use Rattle.par_code_form.specs.declared.item.Item.{Item}
use Rattle.par_code_form.specs.declared.item.Item.TheVariants.{Label}
use Rattle.par_code_form.specs.declared.labelled.LabelFrame.{LabelFrame}
use Rattle.par_compile_laws.specs.Framed.{frame_at}

-- By the number of a label stands the place, among all frames, of its first one in some frames;
-- a place behind all where it has none.
abbrev pub AreFirst : List LabelFrame → List LabelFrame → List ℕ → Type 0
AreFirst all frames places =
    (l : ℕ) → slice_get all (get_or places l (length all)) ≡ frame_at frames l

-- the first frame of an item
abbrev pub item_frame : List LabelFrame → Item → Option LabelFrame
item_frame frames (Label l) = frame_at frames l
item_frame frames _ = None
