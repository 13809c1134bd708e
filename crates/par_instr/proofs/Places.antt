-- Where in the code an instruction stands.
use Rattle.std.proofs.Common.{◌≡◌, ℕ, zero, suc, ◌+◌, ◌-◌, ◌≤◌, List, [], ◌∷◌, ◌++◌, length, take}
use Rattle.std.proofs.Common.{drop, Some, arith, inl, inr, sym, subst, ap, ◌∙◌}
use Rattle.std.proofs.lemmas.Grind.{common_steps}
use Rattle.std.proofs.lemmas.Bool.{cases_lt}
use Rattle.std.proofs.lemmas.List.{take_rest, length-take}
use Rattle.std.proofs.Math.Seq.{take-add}
use Rattle.std.specs.List.{slice_range}
use Rattle.par_instr.proofs.Spellings.{each_is_listed, none_begins_another}
use Rattle.par_instr.specs.Laws.{ReadIsWrittenAgain, WrittenIsReadAgain, OneStands}
use Rattle.par_instr.specs.Spelling.{operand_bytes, spelling, IsSpelled, Stands}
use Rattle.par_instr.specs.declared.instr.Instr.{Instr}

-- the bytes of an opcode and its operands, in the code
spelled_at : (code : List ℕ) (at n op : ℕ) (behind : List ℕ)
    → take (length code - at) (drop at code) ≡ op ∷ behind
    → slice_range code at (at + 1 + n) ≡ op ∷ slice_range behind 0 n
spelled_at code at n op behind rest = grind (arith, common_steps)

-- what is spelled by an opcode and the operands behind it stands there, up to behind these
pub stands : (code : List ℕ) (at n next op : ℕ) (behind operands : List ℕ) (i : Instr)
    → next ≡ at + 1 + n
    → at ≤ length code
    → take (length code - at) (drop at code) ≡ op ∷ behind
    → n ≤ length behind
    → operands ≡ slice_range behind 0 n
    → IsSpelled (op ∷ operands) i
    → Stands code at i next
stands code at n next op behind operands i ends within rest room are spelled = record {
  begins = omega arith;
  ends = grind (arith, common_steps, ap length rest);
  spelled =
      subst (λ (bytes : List ℕ). IsSpelled bytes i)
      (ap (λ (bytes : List ℕ). op ∷ bytes) are ∙ sym (spelled_at code at n op behind rest)
      ∙ ap (λ (end : ℕ). slice_range code at end) (sym ends))
      spelled;
}

-- a longer stretch begins with a shorter one
longer : (code : List ℕ) (at next end : ℕ) → at ≤ next → next ≤ end
    → slice_range code at end ≡ slice_range code at next ++ slice_range code next end
longer code at next end begins further =
    let sizes : end - at ≡ (next - at) + (end - next) = omega arith in
    let places : at + (next - at) ≡ next = omega arith in
    ap (λ (n : ℕ). take n (drop at code)) sizes
    ∙ take-add (next - at) (end - next) (drop at code)
    ∙ ap (λ (bytes : List ℕ). slice_range code at next ++ take (end - next) bytes)
    (grind (arith, common_steps, ap (λ (n : ℕ). drop n code) places))

-- what ends there ends at the same place
same_end : (code : List ℕ) (next end : ℕ) → next ≤ end → end ≤ length code
    → slice_range code next end ≡ [] → next ≡ end
same_end code next end further ends nothing = grind (arith, common_steps, ap length nothing)

one_stands_before : (code : List ℕ) (at : ℕ) (i j : Instr) (next end : ℕ) → next ≤ end
    → Stands code at i next → Stands code at j end → (i ≡ j) × (next ≡ end)
one_stands_before code at i j next end further s t =
    let together =
    none_begins_another i j (slice_range code at next) (slice_range code next end) s.spelled
    (subst (λ (bytes : List ℕ). IsSpelled bytes j)
    (longer code at next end s.begins further) t.spelled) in
    (together.1, same_end code next end further t.ends together.0)

pub read_again : ReadIsWrittenAgain
read_again code at i next s = (s.spelled.has, sym s.spelled.bytes_are)

pub written_again : WrittenIsReadAgain
written_again before after i fit has = record {
  begins = omega arith;
  ends = grind (arith, common_steps);
  spelled = record { fit = fit; has = has; bytes_are = between before (spelling i) after };
} where
  between : (before bytes after : List ℕ)
      → slice_range (before ++ bytes ++ after) (length before) (length before + length bytes)
      ≡ bytes
  between before bytes after = grind (arith, common_steps)

pub one_stands : OneStands
one_stands code at i j next end s t =
    elim (cases_lt next end) [
      | inl before ↦ one_stands_before code at i j next end (omega arith) s t
      | inr after ↦
          let same = one_stands_before code at j i end next after t s in
          (sym same.0, sym same.1)
    ]

-- what an opcode and the bytes behind it begin with, where an instruction stands there
pub record Begins (op : ℕ) (behind : List ℕ) : Type 0 where
  pub size : ℕ
  pub listed : operand_bytes op ≡ Some size
  pub room : size ≤ length behind

begins_with : (k op : ℕ) (behind : List ℕ) (i : Instr)
    → IsSpelled (take k (op ∷ behind)) i → Begins op behind
begins_with zero op behind i s = absurd (cc (s.bytes_are))
begins_with (suc n) op behind i s = record {
  size = length (take n behind);
  listed = each_is_listed i op (take n behind) s;
  room = omega (arith, length-take n behind);
}

pub begins : (code : List ℕ) (at op : ℕ) (behind : List ℕ) (i : Instr) (next : ℕ)
    → take (length code - at) (drop at code) ≡ op ∷ behind
    → Stands code at i next
    → Begins op behind
begins code at op behind i next rest s =
    begins_with (next - at) op behind i
    (subst (λ (bytes : List ℕ). IsSpelled (take (next - at) bytes) i)
    (sym (take_rest code at) ∙ rest) s.spelled)
