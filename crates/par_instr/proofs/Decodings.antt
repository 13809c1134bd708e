-- What is spelled is decoded.
use Rattle.std.proofs.Common.{◌≡◌, ℕ, ◌+◌, ◌-◌, ◌≤◌, List, [], ◌∷◌, ◌++◌, length, take, drop, Some}
use Rattle.std.proofs.Common.{None, Option, arith, refl, sym, ap, ◌∙◌}
use Rattle.std.proofs.lemmas.Bool.Decides.{nat_tests}
use Rattle.std.proofs.lemmas.Grind.{common_steps}
use Rattle.std.specs.List.{slice_range}
use Rattle.par_instr.proofs.Spellings.{each_is_listed, spelled-made}
use Rattle.par_instr.specs.Decoding.{instruction, Decoded, sized, decoded, decoded_at}
use Rattle.par_instr.specs.Spelling.{operand_bytes, IsSpelled, Stands}
use Rattle.par_instr.specs.declared.instr.Instr.{Instr}

-- operands that are all there are read
sized-whole : (op n : ℕ) (operands rest : List ℕ) (i : Instr) → n ≡ length operands
    → instruction op operands ≡ i
    → sized op (operands ++ rest) (Some n) ≡ Some (record { instr = i; size = 1 + n })
sized-whole op n operands rest i many same =
    let room : n ≤ length (operands ++ rest) = grind (arith, common_steps) in
    let whole : take n (operands ++ rest) ≡ operands = grind (arith, common_steps) in
    grind (arith, nat_tests, common_steps, ap (instruction op) whole)

decoded-row : (op : ℕ) (operands rest : List ℕ) (i : Instr)
    → operand_bytes op ≡ Some (length operands) → instruction op operands ≡ i
    → decoded (op ∷ (operands ++ rest)) ≡ Some (record { instr = i; size = 1 + length operands })
decoded-row op operands rest i listed same =
    ap (sized op (operands ++ rest)) listed
    ∙ sized-whole op (length operands) operands rest i refl same

-- bytes that begin with the spelling of an instruction are decoded to it
pub decoded-spelled : (bytes rest : List ℕ) (i : Instr) → IsSpelled bytes i
    → decoded (bytes ++ rest) ≡ Some (record { instr = i; size = length bytes })
decoded-spelled [] rest i s = absurd (cc (s.bytes_are))
decoded-spelled (op ∷ operands) rest i s =
    let same : instruction op operands ≡ i = spelled-made i op operands s in
    let size : 1 + length operands ≡ length (op ∷ operands) = omega arith in
    decoded-row op operands rest i (each_is_listed i op operands s) same
    ∙ ap (λ (n : ℕ). Some (record { instr = i; size = n })) size

-- an instruction that stands at an offset is decoded there
pub decoded_at-stands : (code : List ℕ) (at : ℕ) (i : Instr) (next : ℕ) → Stands code at i next
    → decoded_at code at ≡ Some (record { instr = i; size = next - at })
decoded_at-stands code at i next s =
    let parts : slice_range code at next ++ drop (next - at) (drop at code) ≡ drop at code =
    grind (arith, common_steps) in
    let many : length (slice_range code at next) ≡ next - at =
    grind (arith, common_steps, s.begins, s.ends) in
    ap decoded (sym parts) ∙ decoded-spelled (slice_range code at next)
    (drop (next - at) (drop at code)) i s.spelled
    ∙ ap (λ (n : ℕ). Some (record { instr = i; size = n })) many

-- An instruction that is decoded has a byte at least, and is all there.
pub record IsWithin (bytes : List ℕ) (d : Decoded) : Type 0 where
  pub some : 1 ≤ d.size
  pub all : d.size ≤ length bytes

sized-within : (op : ℕ) (bytes : List ℕ) (size : Option ℕ) (d : Decoded)
    → sized op bytes size ≡ Some d → IsWithin (op ∷ bytes) d
sized-within op bytes None d found = absurd (cc found)
sized-within op bytes (Some n) d found =
    record { some = grind (arith, nat_tests); all = grind (arith, nat_tests) }

pub decoded-within : (bytes : List ℕ) (d : Decoded) → decoded bytes ≡ Some d → IsWithin bytes d
decoded-within [] d found = absurd (cc found)
decoded-within (op ∷ bytes) d found = sized-within op bytes (operand_bytes op) d found
