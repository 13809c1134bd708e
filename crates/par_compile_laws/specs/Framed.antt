-- The frames of labelled code in a class file (Java Virtual Machine Specification, Java SE 7,
-- section 4.7.4).
use Rattle.std.specs.Prelude.{◌≡◌, ℕ, ◌+◌, ◌==◌, ◌⊎◌, Bool, true, if◌then◌else◌, List, []}
use Rattle.std.specs.Prelude.{◌∷◌, ◌++◌, map, Option, Some, None, Contains, codes}
use Rattle.std.specs.List.{flat_map}
use Rattle.par_code_form.specs.par_pool.declared.constant.Constant.{Constant}
use Rattle.par_code_form.specs.par_pool.declared.constant.Constant.TheVariants.{Utf8}
use Rattle.par_code_form.specs.par_pool.Entries.{IsUtf8At}
use Rattle.par_code_form.specs.par_pool.Growth.{IsClassPart}
use Rattle.par_code_form.specs.par_class.declared.file.Attribute.{Attribute}
use Rattle.par_code_form.specs.par_class.declared.file.CodeAttr.{CodeAttr}
use Rattle.par_code_form.specs.par_values.Areas.{Name}
use Rattle.par_code_form.specs.declared.item.Item.{Item}
use Rattle.par_code_form.specs.declared.item.Item.TheVariants.{Label}
use Rattle.par_code_form.specs.declared.labelled.Slot.{Slot}
use Rattle.par_code_form.specs.declared.labelled.Slot.TheVariants as slot
use Rattle.par_code_form.specs.declared.labelled.LabelFrame.{LabelFrame}
use Rattle.par_code_form.specs.declared.labelled.Labelled.{Labelled}
use Rattle.par_frames.specs.par_kinds.declared.frame.VKind.{VKind}
use Rattle.par_frames.specs.par_kinds.declared.frame.VKind.TheVariants as kind
use Rattle.par_frames.specs.par_kinds.declared.frame.PlacedFrame.{PlacedFrame}
use Rattle.par_frames.specs.Names.{classes_of}
use Rattle.par_frames.specs.Attribute.{IsAttribute}
use Rattle.par_code_form.specs.PoolNames.{IsConstantOf, entry_count}
use Rattle.par_code_form.specs.Placed.{offset_of, IsPlaced}

-- the name of the attribute
abbrev pub TABLE : Name
TABLE = codes "StackMapTable"

-- the kind of what a slot holds
abbrev pub kind_of : Slot → VKind
kind_of slot.Unset = kind.Top
kind_of slot.Int = kind.Int
kind_of slot.Null = kind.Null
kind_of (slot.Class name) = kind.Object name

abbrev pub kinds_of : List Slot → List VKind
kinds_of slots = map kind_of slots

-- the frame at an offset
abbrev pub placed : ℕ → LabelFrame → PlacedFrame
placed at f = record {
  offset = at;
  frame = record { locals = kinds_of f.locals; stack = kinds_of f.stack };
}

-- the first frame of a label, where it has one
abbrev pub frame_at : List LabelFrame → ℕ → Option LabelFrame
frame_at [] l = None
frame_at (f ∷ fs) l = if f.label == l then Some f else frame_at fs l

abbrev pub placed_at : ℕ → Option LabelFrame → List PlacedFrame
placed_at at None = []
placed_at at (Some f) = placed at f ∷ []

-- the frame of an item, where labels stand at these offsets
abbrev pub frame_of : (ℕ → ℕ) → List LabelFrame → Item → List PlacedFrame
frame_of offset frames (Label l) = placed_at (offset l) (frame_at frames l)
frame_of offset frames _ = []

-- puts a frame before others: nothing where the first of these has its offset
abbrev pub before : PlacedFrame → List PlacedFrame → List PlacedFrame
before f [] = f ∷ []
before f (g ∷ gs) = if f.offset == g.offset then g ∷ gs else f ∷ g ∷ gs

-- of frames at one offset the last
abbrev pub last_ones : List PlacedFrame → List PlacedFrame
last_ones [] = []
last_ones (f ∷ fs) = before f (last_ones fs)

-- The frames of code whose labels stand at these offsets, in the order of the labels. Of labels
-- with nothing but labels between them only the last has one.
abbrev pub frames_with : (ℕ → ℕ) → Labelled → List PlacedFrame
frames_with offset code = last_ones (flat_map (frame_of offset code.frames) code.items)

abbrev pub frames_of : Labelled → List ℕ → List PlacedFrame
frames_of code indices = frames_with (offset_of code.items indices) code

-- ---- the attribute

-- the one attribute in which the frames of code stand
pub record IsTable (pool : List Constant) (code : Labelled) (fs : List PlacedFrame)
    (attributes : List Attribute) : Type 0 where
  pub table : Attribute
  pub alone : attributes ≡ table ∷ []
  pub named : IsUtf8At pool table.name TABLE
  pub bytes : IsAttribute pool (kinds_of code.start) fs table.bytes

-- no attribute where there is no frame
abbrev pub AreAttributes : List Constant → Labelled → List PlacedFrame → List Attribute → Type 0
AreAttributes pool code [] attributes = attributes ≡ []
AreAttributes pool code (f ∷ fs) attributes = IsTable pool code (f ∷ fs) attributes

-- Placed code, with its frames or without them.
pub record IsPlacedWith (frames : Bool) (pool : List Constant) (code : Labelled) (attr : CodeAttr)
    : Type 0 where
  pub placed_ : IsPlaced pool code (record attr { attributes = [] })
  pub attributes :
      AreAttributes pool code (if frames then frames_of code placed_.indices else [])
      attr.attributes

-- ---- what the pool needs

-- the classes that frames name
abbrev pub classes_in : LabelFrame → List Name
classes_in f = classes_of (kinds_of f.locals) ++ classes_of (kinds_of f.stack)

abbrev pub frame_classes : Labelled → List Name
frame_classes code = flat_map classes_in code.frames

-- the classes that are written where frames are, and how many further entries the code needs
abbrev pub classes_with : Bool → Labelled → List Name
classes_with frames code = if frames then frame_classes code else []

abbrev pub entries_with : Bool → Labelled → ℕ
entries_with frames code = entry_count code + (if frames then 1 else 0)

-- a constant that frames need: the name of the attribute, or a part of a class
abbrev pub IsFramePart : List Constant → Labelled → Constant → Type 0
IsFramePart pool code c =
    (c ≡ Utf8 TABLE)
    ⊎ ((name : Name) × Contains (frame_classes code) name × IsClassPart pool name c)

-- the code names it, or its frames need it
abbrev pub IsConstantWith : Bool → List Constant → Labelled → Constant → Type 0
IsConstantWith frames pool code c =
    IsConstantOf pool code c ⊎ ((frames ≡ true) × IsFramePart pool code c)
