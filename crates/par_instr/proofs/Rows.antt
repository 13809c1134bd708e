-- The rows of the instructions, and the opcodes that belong to them.
use Rattle.std.proofs.Common.{◌≡◌, ℕ, ◌+◌, ◌-◌, List, map, Some, IsTrue, arith, refl, ap, ◌∙◌}
use Rattle.par_instr.proofs.Forms.{blanked, blanked-opcodes, place-below, read-back}
use Rattle.par_instr.proofs.Listed.{found_between, found_is, Found}
use Rattle.par_instr.specs.Decoding.{read, whole, made, instruction}
use Rattle.par_instr.specs.Spelling.{Row, row, row_of, variants, numbers_of, place, operands}
use Rattle.par_instr.specs.Spelling.{opcode_row, NumbersFit, has_spelling}
use Rattle.par_instr.specs.declared.instr.Instr.{Instr}
use Rattle.par_instr.specs.declared.instr.Instr.TheVariants.{AconstNull}

-- an instruction is its variant with its numbers
pub whole-row : (i : Instr) → whole (row i).form ≡ i
whole-row AconstNull = refl
whole-row _ = refl

-- with other numbers it has the same first opcode and makes the same change
pub row-whole : (i : Instr) (k : ℕ) (bytes : List ℕ)
    → row (whole (read (row i).form k bytes))
    ≡ row_of (row i).first (read (row i).form k bytes) (row i).change
row-whole AconstNull k bytes = refl
row-whole _ k bytes = refl

-- its row with numbers of 0, which is that of its opcode
abbrev pub blank_row : Instr → Row
blank_row i = row_of (row i).first (blanked (row i).form) (row i).change

first_row : (i : Instr) → opcode_row (row i).first ≡ Some (blank_row i)
unfolding opcode_row
first_row AconstNull = refl
first_row _ = refl

pub own_row : (i : Instr) → IsTrue (has_spelling i)
    → opcode_row ((row i).first + place (numbers_of i)) ≡ Some (blank_row i)
unfolding opcode_row
own_row i has =
    let below = place-below (numbers_of i) has in
    let many = blanked-opcodes (row i).form in
    found_between 0 (map row variants) (row i).first ((row i).first + place (numbers_of i))
    (blank_row i)
    refl (first_row i) (omega arith) (omega (arith, below, many))

-- an instruction is made of its opcode and its operands
pub instruction-row : (i : Instr) → NumbersFit i → IsTrue (has_spelling i)
    → instruction ((row i).first + place (numbers_of i)) (operands (numbers_of i)) ≡ i
unfolding instruction
instruction-row i fit has =
    let op = (row i).first + place (numbers_of i) in
    let at : op - (row i).first ≡ place (numbers_of i) = omega arith in
    ap (made op (operands (numbers_of i))) (own_row i has)
    ∙ ap (λ (k : ℕ). whole (read (blanked (row i).form) k (operands (numbers_of i)))) at
    ∙ ap whole (read-back (row i).form fit has)
    ∙ whole-row i

-- a row that belongs to an opcode is found among those of the variants
pub row_found : (op : ℕ) (r : Row) → opcode_row op ≡ Some r → Found op r
unfolding opcode_row
row_found op r found = found_is variants op r found
