-- At which offsets of code a frame is needed.
use Rattle.std.specs.Prelude.{◌≡◌, ℕ, ◌+◌, ℤ, pos, ◌+ℤ◌, ◌==◌, true, if◌then◌else◌, List, [], ◌∷◌}
use Rattle.std.specs.Prelude.{◌⊎◌, length, Some, Contains}
use Rattle.par_instr.specs.declared.instr.Instr.{Instr}
use Rattle.par_instr.specs.Decoding.{Decoded, decoded_at}
use Rattle.par_kinds.specs.par_class.declared.file.Catch.{Catch}
use Rattle.par_kinds.specs.par_class.declared.file.CodeAttr.{CodeAttr}
use Rattle.par_kinds.specs.par_values.declared.link.Link.TheVariants as link
use Rattle.par_kinds.specs.par_values.Operations.{operation}
use Rattle.par_kinds.specs.par_single.Walk.{starts_at}
use Rattle.par_kinds.specs.Acts.{Flow, Onward, Jumps, Branches, Nowhere}
use Rattle.par_kinds.specs.Linked.{flow_of}

-- where an instruction goes on
abbrev pub flow_at : Instr → Flow
flow_at i = flow_of (operation (λ n. link.Other) i)

-- an offset, but not the end of the code
abbrev pub unless_end : (len at : ℕ) → List ℤ
unless_end len at = if at == len then [] else pos at ∷ []

-- a branch needs one at its target, and what never goes on straight needs one behind it
abbrev pub needs : (len : ℕ) → Flow → (at size : ℕ) → List ℤ
needs len Onward at size = []
needs len (Branches to) at size = (pos at +ℤ to) ∷ []
needs len (Jumps to) at size = (pos at +ℤ to) ∷ unless_end len (at + size)
needs len Nowhere at size = unless_end len (at + size)

pub record IsNeededBy (code : List ℕ) (at : ℕ) (to : ℤ) : Type 0 where
  pub starts : starts_at code at ≡ true
  pub does : Decoded
  pub found : decoded_at code at ≡ Some does
  pub asked : Contains (needs (length code) (flow_at does.instr) at does.size) to

-- by an instruction of the walk, or by a handler, where it goes
abbrev pub IsNeeded : CodeAttr → ℤ → Type 0
IsNeeded code to =
    ((at : ℕ) × IsNeededBy code.code at to)
    ⊎ ((c : Catch) × Contains code.catches c × (to ≡ pos c.handler))
