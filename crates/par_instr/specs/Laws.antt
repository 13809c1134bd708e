-- What holds of all spellings.
use Rattle.std.specs.Prelude.{◌≡◌, ℕ, ◌+◌, ◌^◌, ◌<◌, ◌↔◌, List, [], ◌∷◌, ◌++◌, length, slice_range}
use Rattle.std.specs.Prelude.{Some, IsTrue}
use Rattle.std.specs.List.{All}
use Rattle.par_instr.specs.Decoding.{Decoded, decoded_at}
use Rattle.par_instr.specs.Spelling.{spelling, has_spelling, operand_bytes, NumbersFit, IsSpelled}
use Rattle.par_instr.specs.Spelling.{Stands}
use Rattle.par_instr.specs.declared.instr.Instr.{Instr}

-- an instruction has one spelling and no other
pub record HasOneSpelling (i : Instr) : Type 0 where
  pub bytes : List ℕ
  pub spelled : IsSpelled bytes i
  pub only : (others : List ℕ) → IsSpelled others i → others ≡ bytes

-- one that is in range and listed has one spelling
abbrev pub EachHasOneSpelling : Type 0
EachHasOneSpelling = (i : Instr) → NumbersFit i → IsTrue (has_spelling i) → HasOneSpelling i

-- any other has none
abbrev pub NoOtherHasOne : Type 0
NoOtherHasOne =
    (i : Instr) (bytes : List ℕ) → IsSpelled bytes i → NumbersFit i × IsTrue (has_spelling i)

-- a spelling is a listed opcode and all its operands
abbrev pub EachIsListed : Type 0
EachIsListed =
    (i : Instr) (op : ℕ) (operands : List ℕ)
    → IsSpelled (op ∷ operands) i → operand_bytes op ≡ Some (length operands)

-- where one spelling begins another, the two are the same and of the same instruction
abbrev pub NoneBeginsAnother : Type 0
NoneBeginsAnother =
    (i j : Instr) (bytes more : List ℕ)
    → IsSpelled bytes i → IsSpelled (bytes ++ more) j → (more ≡ []) × (i ≡ j)

-- what is read is written again as the same bytes
abbrev pub ReadIsWrittenAgain : Type 0
ReadIsWrittenAgain =
    (code : List ℕ) (at : ℕ) (i : Instr) (next : ℕ)
    → Stands code at i next → IsTrue (has_spelling i) × (spelling i ≡ slice_range code at next)

-- what is written stands there, whatever is before it and whatever follows
abbrev pub WrittenIsReadAgain : Type 0
WrittenIsReadAgain =
    (before after : List ℕ) (i : Instr)
    → NumbersFit i → IsTrue (has_spelling i)
    → Stands (before ++ spelling i ++ after) (length before) i (length before + length (spelling i))

-- at one place stands one instruction
abbrev pub OneStands : Type 0
OneStands =
    (code : List ℕ) (at : ℕ) (i j : Instr) (next end : ℕ)
    → Stands code at i next → Stands code at j end → (i ≡ j) × (next ≡ end)

-- each number is that of a byte
abbrev pub AreBytes : List ℕ → Type 0
AreBytes bytes = All (λ b. b < 2 ^ 8) bytes

-- an instruction is decoded exactly where it stands, and with so many bytes
abbrev pub DecodedStands : Type 0
DecodedStands =
    (code : List ℕ) (at : ℕ) (d : Decoded) → AreBytes code
    → (decoded_at code at ≡ Some d) ↔ Stands code at d.instr (at + d.size)
