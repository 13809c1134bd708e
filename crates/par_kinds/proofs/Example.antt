-- Frames that fit are found: a method of one return, and the row in which a local merges to Top.
use Rattle.std.proofs.Common.{◌≡◌, ℕ, true, List, [], ◌∷◌, Some, None, Option, refl}
use Rattle.par_instr.specs.declared.instr.Instr.{Instr}
use Rattle.par_instr.specs.Spelling.{opcode_row}
use Rattle.par_instr.specs.Decoding.{instruction}
use Rattle.par_step_laws.specs.par_class.declared.file.CodeAttr.{CodeAttr}
use Rattle.par_values.specs.Operations.{operation}
use Rattle.par_values.specs.declared.link.Link.TheVariants as link
use Rattle.par_step_laws.specs.par_link.entry.Named.TheVariants as named
use Rattle.par_step_laws.specs.par_single.Walk.{starts_after}
use Rattle.par_kinds.specs.declared.frame.VKind.TheVariants.{Top as ATop}
use Rattle.par_kinds.specs.declared.frame.VKind.TheVariants.{Base as ABase}
use Rattle.par_kinds.specs.Kinds.{KFrame, into, accepts, throwable, exceptional}
use Rattle.par_kinds.specs.Acts.{Act, left_by}
use Rattle.par_kinds.specs.Linked.{acted}
use Rattle.par_kinds.specs.Passes.{Table, least_frames, rounds, landed, frame_at, handled}

abbrev code_of : List ℕ → ℕ → ℕ → CodeAttr
code_of bytes stack locals =
    record { max_stack = stack; max_locals = locals; code = bytes; catches = []; attributes = [] }

abbrev plain : Instr → Act
plain i = acted [] None named.Nothing (operation (λ n. link.Other) i)

abbrev bare : KFrame
bare = record { locals = []; stack = [] }

alone : least_frames [] plain (λ c. ABase true) (code_of (177 ∷ []) 0 0) bare
    ≡ Some (Some bare ∷ [])
unfolding rounds landed frame_at handled left_by into accepts throwable exceptional opcode_row
    instruction starts_after
alone = refl

abbrev one : KFrame
one = record { locals = ATop ∷ []; stack = [] }

abbrev last_of : Option Table → Option KFrame
last_of None = None
last_of (Some t) = frame_at t 11

-- 04 99 00 08 01 4b a7 00 05 03 3b b1: at the return local 0 is Top
merges : last_of (least_frames [] plain (λ c. ABase true)
    (code_of (4 ∷ 153 ∷ 0 ∷ 8 ∷ 1 ∷ 75 ∷ 167 ∷ 0 ∷ 5 ∷ 3 ∷ 59 ∷ 177 ∷ []) 2 1) one) ≡ Some one
unfolding rounds landed frame_at handled left_by into accepts throwable exceptional opcode_row
    instruction starts_after
merges = refl

-- 04 04 04 b1 with max_stack 2: nothing fits
refused : least_frames [] plain (λ c. ABase true) (code_of (4 ∷ 4 ∷ 4 ∷ 177 ∷ []) 2 0) bare ≡ None
unfolding rounds landed frame_at handled left_by into accepts throwable exceptional opcode_row
    instruction starts_after
refused = refl
