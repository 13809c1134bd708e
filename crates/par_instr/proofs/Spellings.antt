-- Spellings are listed, and no one begins another.
use Rattle.std.proofs.Common.{◌≡◌, ℕ, ◌+◌, List, [], ◌∷◌, ◌++◌, length, Some, Option, None, arith}
use Rattle.std.proofs.Common.{refl, sym, ap, ◌∙◌}
use Rattle.std.proofs.lemmas.Grind.{common_steps}
use Rattle.par_instr.proofs.Forms.{blanked-size}
use Rattle.par_instr.proofs.Rows.{own_row, instruction-row}
use Rattle.par_instr.specs.Decoding.{instruction}
use Rattle.par_instr.specs.Laws.{EachHasOneSpelling, NoOtherHasOne, EachIsListed, NoneBeginsAnother}
use Rattle.par_instr.specs.Spelling.{row, numbers_of, place, operands, operand_bytes, size_of}
use Rattle.par_instr.specs.Spelling.{spelling}
use Rattle.par_instr.specs.declared.instr.Instr.{Instr}

abbrev many : Option ℕ → ℕ
many None = 0
many (Some n) = n

pub each_is_listed : EachIsListed
each_is_listed i op bytes s =
    let same_opcode : op ≡ (row i).first + place (numbers_of i) = cc (s.bytes_are) in
    let same_operands : operands (numbers_of i) ≡ bytes = cc (s.bytes_are) in
    ap operand_bytes same_opcode
    ∙ ap size_of (own_row i s.has)
    ∙ ap Some (blanked-size (row i).form)
    ∙ ap (λ (bytes : List ℕ). Some (length bytes)) same_operands

-- what is spelled by an opcode and operands is made of them
pub spelled-made : (i : Instr) (op : ℕ) (bytes : List ℕ)
    → Rattle.par_instr.specs.Spelling.IsSpelled (op ∷ bytes) i → instruction op bytes ≡ i
spelled-made i op bytes s = cc (instruction-row i s.fit s.has, s.bytes_are)

-- a list that keeps its length with more behind it has nothing behind it
nothing_more : (xs more : List ℕ) (n : ℕ)
    → Some (length xs) ≡ Some (length (xs ++ more)) → more ≡ []
nothing_more xs more n same = grind (arith, common_steps, ap many same)

pub none_begins_another : NoneBeginsAnother
none_begins_another i j [] more s t = absurd (cc (s.bytes_are))
none_begins_another i j (op ∷ bytes) more s t =
    let sizes = sym (each_is_listed i op bytes s) ∙ each_is_listed j op (bytes ++ more) t in
    let nothing = nothing_more bytes more 0 sizes in
    let whole : bytes ++ more ≡ bytes = grind (arith, common_steps, nothing) in (
      nothing,
      sym (spelled-made i op bytes s) ∙ ap (instruction op) (sym whole)
          ∙ spelled-made j op (bytes ++ more) t,
    )

pub each_has_one : EachHasOneSpelling
each_has_one i fit has = record {
  bytes = spelling i;
  spelled = record { fit = fit; has = has; bytes_are = refl };
  only = λ others s. s.bytes_are;
}

pub no_other_has_one : NoOtherHasOne
no_other_has_one i bytes s = (s.fit, s.has)
