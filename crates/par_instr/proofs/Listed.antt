-- Each listed opcode belongs to one row.
use Rattle.std.proofs.Common.{◌≡◌, ℕ, ◌+◌, ◌<◌, ◌≤◌, Bool, true, false, nat_le, ◌&&◌, List, [], ◌∷◌}
use Rattle.std.proofs.Common.{map, Some, Option, IsTrue, arith, refl, if◌then◌else◌}
use Rattle.std.proofs.lemmas.Bool.Decides.{nat_tests}
use Rattle.par_instr.specs.Spelling.{Row, row, numbers, opcodes_of, has_opcode, find_opcode}
use Rattle.par_instr.specs.declared.instr.Instr.{Instr}

-- the number behind the last opcode of a row
abbrev pub behind : Row → ℕ
behind r = r.first + opcodes_of (numbers r.form)

-- the rows ascend from a number on, and no two of them overlap
abbrev pub ascends : ℕ → List Row → Bool
ascends k [] = true
ascends k (r ∷ rows) = nat_le k r.first && ascends (behind r) rows

-- what is found there is not below the number
found_above : (k : ℕ) (rows : List Row) (b : ℕ) (r : Row)
    → IsTrue (ascends k rows) → find_opcode rows b ≡ Some r → k ≤ b
found_above k [] b r up found = grind arith
found_above k (p ∷ rows) b r up found = grind (arith, nat_tests, found_above (behind p) rows b r)

-- a row's opcodes are those from one that it has to its last
pub found_between : (k : ℕ) (rows : List Row) (b c : ℕ) (r : Row)
    → IsTrue (ascends k rows) → find_opcode rows b ≡ Some r → b ≤ c → c < behind r
    → find_opcode rows c ≡ Some r
found_between k [] b c r up found below within = grind arith
found_between k (p ∷ rows) b c r up found below within =
    grind (arith, nat_tests, found_between (behind p) rows b c r, found_above (behind p) rows b r)

-- a row that is found is that of an instruction, and has the opcode
pub record Found (b : ℕ) (r : Row) : Type 0 where
  pub instr : Instr
  pub is : row instr ≡ r
  pub has : IsTrue (has_opcode r b)

found_here : (i : Instr) (b : ℕ) (r : Row) (later : Option Row) (here : Bool)
    → has_opcode (row i) b ≡ here
    → (later ≡ Some r → Found b r) → (if here then Some (row i) else later) ≡ Some r → Found b r
found_here i b r later true has other found =
    record { instr = i; is = cc found; has = grind (arith, has, found) }
found_here i b r later false has other found = other found

pub found_is : (is : List Instr) (b : ℕ) (r : Row) → find_opcode (map row is) b ≡ Some r → Found b r
found_is [] b r found = absurd (cc found)
found_is (i ∷ is) b r found =
    found_here i b r (find_opcode (map row is) b) (has_opcode (row i) b) refl
    (found_is is b r) found
