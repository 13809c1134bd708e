-- What is told of a method's code, by its offsets, and what is found from that.
use Rattle.std.specs.Prelude.{◌≡◌, ℕ, ◌<◌, Bool, true, List, [], ◌∷◌, length, Option, Some, None}
use Rattle.std.specs.Prelude.{map, is_some, if◌then◌else◌}
use Rattle.std.specs.Option.{option_map}
use Rattle.par_kinds.specs.declared.frame.PlacedFrame.{PlacedFrame}
use Rattle.par_kinds.specs.declared.frame.MethodFrames.{MethodFrames}
use Rattle.par_verify_laws.specs.par_frames.Broken.{AreFrames}
use Rattle.par_instr.specs.declared.instr.Instr.{Instr}
use Rattle.par_class.specs.declared.file.Catch.{Catch}
use Rattle.par_class.specs.declared.file.CodeAttr.{CodeAttr}
use Rattle.par_class.specs.declared.file.MethodFile.{MethodFile}
use Rattle.par_class.specs.declared.file.ClassFile.{ClassFile}
use Rattle.par_values.specs.declared.kind.Kind.{Kind}
use Rattle.par_values.specs.Areas.{Name}
use Rattle.par_single.specs.Members.{own_name}
use Rattle.par_step_laws.specs.Classes.{is_exception}
use Rattle.par_kinds.specs.declared.frame.VKind.{VKind}
use Rattle.par_kinds.specs.Kinds.{KFrame, vkind}
use Rattle.par_kinds.specs.Acts.{Act}
use Rattle.par_kinds.specs.Linked.{padded}
use Rattle.par_kinds.specs.Fits.{Given}
use Rattle.par_kinds.specs.Told.{told}
use Rattle.par_verify_laws.specs.par_kinds.Passes.{Table, is_sized, start_table}
use Rattle.par_verify_laws.specs.par_kinds.Passes.{frames_as_told}
use Rattle.par_verify_laws.specs.Verified.{whole}

-- of code with so many locals
abbrev pub told_of : ℕ → List PlacedFrame → Given
told_of many frames at = option_map (whole many) (told frames at)

-- a table has the frames that a method tells
abbrev pub IsTold : ClassFile → MethodFile → CodeAttr → Table → Type 0
IsTold file m code table =
    (frames : MethodFrames) → AreFrames file m frames
    → table ≡ start_table (told_of code.max_locals frames.at) 0 code.code

-- a frame that is there has its places
abbrev pub is_right : CodeAttr → ℕ → Option KFrame → Bool
is_right code at None = true
is_right code at (Some k) = is_sized code at k

-- the frame of a call of code with so many locals, which is given these
abbrev pub frame_with : ℕ → List Kind → KFrame
frame_with many kinds = record { locals = padded many (map vkind kinds); stack = [] }

-- the name of the class of a file, if it is one of exceptions
abbrev pub named_in : ClassFile → List Name
named_in file = if is_exception file then own_name file ∷ [] else []

-- What is found of code that begins with a frame, where a table has what is told of each offset.
abbrev pub IsJudged : List Name → (Instr → Act) → (Catch → VKind) → CodeAttr → KFrame → Table
    → Bool → Type 0
IsJudged exc act handler_kind code first table found =
    (told : Given) → table ≡ start_table told 0 code.code
    → ((at : ℕ) (k : KFrame) → told at ≡ Some k → at < length code.code)
    → found ≡ is_some (frames_as_told exc act handler_kind code first told)
