-- Which labels of labelled code need frames, and that they have them.
use Rattle.std.specs.Prelude.{◌≡◌, ℕ, Bool, true, false, ◌||◌, List, [], ◌∷◌, is_some}
use Rattle.std.specs.List.{AllByRecursion}
use Rattle.par_code_form.specs.declared.item.Item.{Item}
use Rattle.par_code_form.specs.declared.item.Item.TheVariants.{Label, Op, Jump}
use Rattle.par_code_form.specs.declared.labelled.LabelFrame.{LabelFrame}
use Rattle.par_code_form.specs.declared.labelled.Labelled.{Labelled}
use Rattle.par_code_form.specs.Opcodes.{GOTO}
use Rattle.par_framing.specs.par_kinds.Acts.{Flow, Onward, Jumps, Branches, Nowhere}
use Rattle.par_framing.specs.par_frames.Needed.{flow_at}
use Rattle.par_framing.specs.par_compile_laws.Framed.{frame_at}

abbrev pub has_frame : List LabelFrame → ℕ → Bool
has_frame frames l = is_some (frame_at frames l)

-- Where these labels have frames.
module _ (has : ℕ → Bool) where
  -- a label with a frame stands before the first instruction of items, or they have none
  unfoldable pub lands : List Item → Bool
  lands [] = true
  lands (Label l ∷ items) = has l || lands items
  lands (item ∷ items) = false

  -- an instruction without a label goes on straight, or these items land
  abbrev pub MeetsFlow : List Item → Flow → Type 0
  MeetsFlow items Onward = Unit {0}
  MeetsFlow items (Jumps to) = ⊥
  MeetsFlow items (Branches to) = ⊥
  MeetsFlow items Nowhere = lands items ≡ true

  -- an item with these behind it: what it goes to has a frame, and where it never goes on straight
  -- the others land
  abbrev pub IsMet : List Item → Item → Type 0
  IsMet items (Jump opcode l) = (has l ≡ true) × (opcode ≡ GOTO → lands items ≡ true)
  IsMet items (Op i) = MeetsFlow items (flow_at i)
  IsMet items _ = Unit {0}

  unfoldable pub AreMet : List Item → Type 0
  AreMet [] = Unit {0}
  AreMet (item ∷ items) = IsMet items item × AreMet items

-- each label of the code that needs a frame has one
pub record HasNeededFrames (code : Labelled) : Type 0 where
  pub items : AreMet (has_frame code.frames) code.items
  pub handlers : AllByRecursion (λ h. has_frame code.frames h.goes ≡ true) code.handlers
