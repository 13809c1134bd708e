-- What is decoded from bytes is spelled by them.
use Rattle.std.proofs.Common.{◌≡◌, ℕ, suc, ◌+◌, ◌-◌, ◌^◌, ◌<◌, Bool, true, false, if◌then◌else◌}
use Rattle.std.proofs.Common.{nat_le, List, [], ◌∷◌, length, take, drop, Some, None, Option, arith}
use Rattle.std.proofs.Common.{refl, sym, ap, ◌∙◌, subst}
use Rattle.std.proofs.lemmas.Bool.Decides.{nat_tests}
use Rattle.std.proofs.lemmas.Grind.{common_steps}
use Rattle.std.proofs.lemmas.List.Elements.{All-take, All-drop, All-tail}
use Rattle.std.specs.List.{slice_range}
use Rattle.par_instr.proofs.Blanks.{reads}
use Rattle.par_instr.proofs.Decodings.{IsWithin, decoded-within, decoded_at-stands}
use Rattle.par_instr.specs.Decoding.{instruction, Decoded, sized, decoded, decoded_at}
use Rattle.par_instr.specs.Laws.{AreBytes, DecodedStands}
use Rattle.par_instr.specs.Spelling.{operand_bytes, IsSpelled, Stands}

-- the bytes that an instruction is decoded from are its spelling
sized_reads : (op n : ℕ) (bytes : List ℕ) (d : Decoded) (room : Bool)
    → nat_le n (length bytes) ≡ room → operand_bytes op ≡ Some n → AreBytes bytes
    → (if room then Some (record { instr = instruction op (take n bytes); size = 1 + n }) else None)
    ≡ Some d
    → IsSpelled (take d.size (op ∷ bytes)) d.instr
sized_reads op n bytes d true room is are found =
    let within : length (take n bytes) ≡ n = grind (arith, nat_tests, common_steps, room) in
    let whole : Decoded = record { instr = instruction op (take n bytes); size = 1 + n } in
    let same : ◌≡◌ {A = Decoded} whole d = cc found in
    let read : IsSpelled (op ∷ take n bytes) (instruction op (take n bytes)) =
    reads op (take n bytes) (is ∙ ap Some (sym within)) (All-take (λ b. b < 2 ^ 8) n bytes are) in
    let one_more : suc n ≡ 1 + n = omega arith in
    let first : op ∷ take n bytes ≡ take (1 + n) (op ∷ bytes) =
    ap (λ k. take k (op ∷ bytes)) one_more in
    let spelled : IsSpelled (take whole.size (op ∷ bytes)) whole.instr =
    subst (λ (some : List ℕ). IsSpelled some whole.instr) first read in
    subst (λ (e : Decoded). IsSpelled (take e.size (op ∷ bytes)) e.instr) same spelled
sized_reads op n bytes d false room is are found = absurd (cc found)

operands_read : (op : ℕ) (bytes : List ℕ) (d : Decoded) (size : Option ℕ) → operand_bytes op ≡ size
    → AreBytes bytes
    → sized op bytes size ≡ Some d → IsSpelled (take d.size (op ∷ bytes)) d.instr
operands_read op bytes d None is are found = absurd (cc found)
operands_read op bytes d (Some n) is are found =
    sized_reads op n bytes d (nat_le n (length bytes)) refl is are found

decoded-spelled_by : (bytes : List ℕ) (d : Decoded) → AreBytes bytes → decoded bytes ≡ Some d
    → IsSpelled (take d.size bytes) d.instr
decoded-spelled_by [] d are found = absurd (cc found)
decoded-spelled_by (op ∷ bytes) d are found =
    operands_read op bytes d (operand_bytes op) refl (All-tail (λ b. b < 2 ^ 8) op bytes are) found

-- what is decoded at an offset stands there
decoded_at-standing : (code : List ℕ) (at : ℕ) (d : Decoded) → AreBytes code
    → decoded_at code at ≡ Some d → Stands code at d.instr (at + d.size)
decoded_at-standing code at d are found =
    let within : IsWithin (drop at code) d = decoded-within (drop at code) d found in
    let spelled : IsSpelled (take d.size (drop at code)) d.instr =
    decoded-spelled_by (drop at code) d (All-drop (λ b. b < 2 ^ 8) at code are) found in
    let same : take d.size (drop at code) ≡ slice_range code at (at + d.size) =
    ap (λ n. take n (drop at code)) (omega arith) in
    record {
      begins = omega arith;
      ends = grind (arith, common_steps, within.some, within.all);
      spelled = subst (λ (bytes : List ℕ). IsSpelled bytes d.instr) same spelled;
    }

-- and what stands there is decoded
standing-decoded_at : (code : List ℕ) (at : ℕ) (d : Decoded) → Stands code at d.instr (at + d.size)
    → decoded_at code at ≡ Some d
standing-decoded_at code at d stands =
    let size : at + d.size - at ≡ d.size = omega arith in
    decoded_at-stands code at d.instr (at + d.size) stands
    ∙ ap (λ (n : ℕ). Some (record { instr = d.instr; size = n })) size

pub decoded_stands : DecodedStands
decoded_stands code at d are = (decoded_at-standing code at d are, standing-decoded_at code at d)
