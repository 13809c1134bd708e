-- What the table of all bytes tells of an opcode.
use Rattle.std.proofs.Common.{◌≡◌, ℕ, zero, suc, ◌+◌, ◌-◌, ◌<◌, List, [], ◌∷◌, length, get_or, Some}
use Rattle.std.proofs.Common.{None, Option, IsTrue, arith, refl, sym, ap, ◌∙◌, subst}
use Rattle.std.proofs.lemmas.Bool.Decides.{nat_tests}
use Rattle.std.specs.List.{slice_index_or}
use Rattle.par_instr.proofs.Forms.{read-again, read-size, read-range, read-written, IsWritten}
use Rattle.par_instr.proofs.Listed.{Found}
use Rattle.par_instr.proofs.Rows.{row-whole, row_found}
use Rattle.par_instr.specs.Decoding.{read, whole, made, instruction, blank_of}
use Rattle.par_instr.specs.Laws.{AreBytes}
use Rattle.par_instr.specs.Spelling.{Row, row, numbers, numbers_of, opcodes_of, place, size}
use Rattle.par_instr.specs.Spelling.{operands, opcode_row, size_of, operand_bytes, has_spelling}
use Rattle.par_instr.specs.Spelling.{Fit, is_in_range, IsSpelled}
use Rattle.par_instr.specs.declared.instr.Instr.{Instr}

abbrev pub blank : ℕ → Option Instr
blank op = blank_of op (opcode_row op)

-- the entries of so many bytes, from one on
abbrev pub entries : ℕ → ℕ → List (Option Instr)
entries k zero = []
entries k (suc n) = blank k ∷ entries (suc k) n

entry : (n k op : ℕ) → op < n → get_or (entries k n) op None ≡ blank (k + op)
entry zero k op below = absurd (omega arith)
entry (suc n) k zero below = ap blank (omega arith)
entry (suc n) k (suc op) below = entry n (suc k) op (omega arith) ∙ ap blank (omega arith)

-- what stands in a table that is right
pub looked_up : (table : List (Option Instr)) (op : ℕ) → op < 256 → table ≡ entries 0 256
    → slice_index_or table op None ≡ blank op
looked_up table op below right =
    ap (λ (t : List (Option Instr)). slice_index_or t op None) right ∙ entry 256 0 op below
    ∙ ap blank (omega arith)

-- ---- the instruction with operands of 0

pub record IsBlank (op : ℕ) (i : Instr) : Type 0 where
  pub listed : operand_bytes op ≡ Some (size (numbers_of i))
  pub has : IsTrue (has_spelling i)
  pub filled : (bytes : List ℕ)
      → whole (read (row i).form (place (numbers_of i)) bytes) ≡ instruction op bytes

-- read from an opcode of a variant's row
blank_is : (op : ℕ) (j i : Instr) → opcode_row op ≡ Some (row j)
    → op - (row j).first < opcodes_of (numbers_of j)
    → whole (read (row j).form (op - (row j).first) (0 ∷ 0 ∷ [])) ≡ i → IsBlank op i
unfolding instruction
blank_is op j i found below is =
    let k = op - (row j).first in
    let zeros : List ℕ = 0 ∷ 0 ∷ [] in
    let f = read (row j).form k zeros in
    let same : row (whole f) ≡ row i = ap row is in
    let form : f ≡ (row i).form = ap (λ (r : Row). r.form) (sym (row-whole j k zeros) ∙ same) in
    let sizes : size (numbers f) ≡ size (numbers_of j) = read-size (row j).form k zeros in
    record {
      listed = ap size_of found ∙ ap Some (sym sizes ∙ ap (λ g. size (numbers g)) form);
      has =
          subst (λ g. IsTrue (is_in_range (numbers g))) form
          (read-range (row j).form k zeros below);
      filled = λ bytes.
          ap (λ g. whole (read g (place (numbers g)) bytes)) (sym form)
          ∙ ap whole (read-again (row j).form k zeros bytes)
          ∙ sym (ap (made op bytes) found);
    }

blank_by : (op : ℕ) (i : Instr) (r : Option Row) → opcode_row op ≡ r → blank_of op r ≡ Some i
    → IsBlank op i
blank_by op i None found is = absurd (cc is)
blank_by op i (Some r) found is =
    let there : Found op r = row_found op r found in
    let first : (row there.instr).first ≡ r.first = ap (λ (r : Row). r.first) there.is in
    let many : opcodes_of (numbers_of there.instr) ≡ opcodes_of (numbers r.form) =
    ap (λ (r : Row). opcodes_of (numbers r.form)) there.is in
    let inner : whole (read r.form (op - r.first) (0 ∷ 0 ∷ [])) ≡ i = cc is in
    let below : op - r.first < opcodes_of (numbers r.form) = grind (arith, nat_tests, there.has) in
    blank_is op there.instr i (found ∙ ap Some (sym there.is)) (omega (arith, first, many, below))
    (ap (λ (r : Row). whole (read r.form (op - r.first) (0 ∷ 0 ∷ []))) there.is ∙ inner)

pub blanks : (op : ℕ) (i : Instr) → blank op ≡ Some i → IsBlank op i
blanks op i is = blank_by op i (opcode_row op) refl is

none_by : (op : ℕ) (r : Option Row) → blank_of op r ≡ None → size_of r ≡ None
none_by op None is = refl
none_by op (Some r) is = absurd (cc is)

-- a byte without an entry is no opcode
pub none_listed : (op : ℕ) → blank op ≡ None → operand_bytes op ≡ None
none_listed op is = none_by op (opcode_row op) is

-- ---- the instruction with its operands

reads_row : (i : Instr) (op : ℕ) (bytes : List ℕ) → (row i).first + (op - (row i).first) ≡ op
    → op - (row i).first < opcodes_of (numbers_of i)
    → length bytes ≡ size (numbers_of i) → AreBytes bytes
    → IsSpelled (op ∷ bytes) (whole (read (row i).form (op - (row i).first) bytes))
reads_row i op bytes at below many are =
    let k = op - (row i).first in
    let f = read (row i).form k bytes in
    let rows : row (whole f) ≡ record { first = (row i).first; form = f; change = (row i).change } =
    row-whole i k bytes in
    let form : (row (whole f)).form ≡ f = ap (λ (r : Row). r.form) rows in
    let first : (row (whole f)).first ≡ (row i).first = ap (λ (r : Row). r.first) rows in
    let is : IsWritten (numbers f) k bytes = read-written (row i).form k bytes below many are in
    record {
      fit = subst (λ g. Fit (numbers g)) (sym form) is.fit;
      has = subst (λ g. IsTrue (is_in_range (numbers g))) (sym form) is.range;
      bytes_are =
          let opcode : op ≡ (row (whole f)).first + place (numbers (row (whole f)).form) =
          sym at ∙ ap (λ n. (row i).first + n) (sym is.place_is)
          ∙ ap (λ n. n + place (numbers f)) (sym first)
          ∙ ap (λ g. (row (whole f)).first + place (numbers g)) (sym form) in
          let rest : bytes ≡ operands (numbers (row (whole f)).form) =
          sym is.operands_are ∙ ap (λ g. operands (numbers g)) (sym form) in
          ap (λ n. n ∷ bytes) opcode ∙ ap
          (λ more. ((row (whole f)).first + place (numbers (row (whole f)).form)) ∷ more) rest;
    }

abbrev many_of : Option ℕ → ℕ
many_of None = 0
many_of (Some n) = n

reads_by : (op : ℕ) (bytes : List ℕ) (r : Option Row) → opcode_row op ≡ r
    → size_of r ≡ Some (length bytes) → AreBytes bytes
    → IsSpelled (op ∷ bytes) (made op bytes r)
reads_by op bytes None found many are = absurd (cc many)
reads_by op bytes (Some r) found many are =
    let there : Found op r = row_found op r found in
    let i = there.instr in
    let has : IsTrue (Rattle.par_instr.specs.Spelling.has_opcode (row i) op) =
    subst (λ (r : Row). IsTrue (Rattle.par_instr.specs.Spelling.has_opcode r op))
    (sym there.is) there.has in
    let sizes : length bytes ≡ size (numbers_of i) =
    ap (λ (n : Option ℕ). many_of n) (sym many)
    ∙ ap (λ (r : Row). size (numbers r.form)) (sym there.is) in
    let at : (row i).first + (op - (row i).first) ≡ op = grind (arith, nat_tests, has) in
    let below : op - (row i).first < opcodes_of (numbers_of i) = grind (arith, nat_tests, has) in
    subst (λ (r : Row). IsSpelled (op ∷ bytes) (whole (read r.form (op - r.first) bytes))) there.is
    (reads_row i op bytes at below sizes are)

-- a listed opcode and all its operands spell the instruction that is made of them
pub reads : (op : ℕ) (bytes : List ℕ) → operand_bytes op ≡ Some (length bytes) → AreBytes bytes
    → IsSpelled (op ∷ bytes) (instruction op bytes)
unfolding instruction
reads op bytes many are = reads_by op bytes (opcode_row op) refl many are

-- so do they spell the instruction with operands of 0 once it is filled
pub fills : (op : ℕ) (b i : Instr) (bytes : List ℕ) → blank op ≡ Some b
    → length bytes ≡ size (numbers_of b) → AreBytes bytes
    → i ≡ whole (read (row b).form (place (numbers_of b)) bytes) → IsSpelled (op ∷ bytes) i
fills op b i bytes is many are filled =
    let there : IsBlank op b = blanks op b is in
    subst (IsSpelled (op ∷ bytes)) (sym (filled ∙ there.filled bytes))
    (reads op bytes (there.listed ∙ ap Some (sym many)) are)
