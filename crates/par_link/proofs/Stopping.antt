-- How the walk through code goes on behind an instruction, and where it stops.
use Rattle.std.proofs.Common.{◌≡◌, ℕ, zero, suc, ◌+◌, ◌-◌, ◌<◌, ◌≤◌, Bool, false, not}
use Rattle.std.proofs.Common.{is_none, is_some, get_or, List, [], ◌∷◌, length, drop, Option, Some}
use Rattle.std.proofs.Common.{None, refl, sym, ap, ◌∙◌, arith, inl, inr}
use Rattle.std.specs.Option.{option_or}
use Rattle.std.proofs.lemmas.Grind.{common_steps}
use Rattle.std.proofs.lemmas.Bool.Decides.{nat_tests}
use Rattle.std.proofs.lemmas.Bool.{cases_lt}
use Rattle.par_inputs.specs.par_instr.declared.instr.Instr.{Instr}
use Rattle.par_inputs.specs.par_instr.Decoding.{Decoded, sized, decoded, decoded_at}
use Rattle.par_inputs.specs.par_instr.Spelling.{operand_bytes, IsUnlisted}
use Rattle.par_single.specs.par_class.declared.file.MethodFile.{MethodFile}
use Rattle.par_link.specs.Stops.{passed, left_after, left, is_unlisted, is_cut, stop_in, first_stop}

-- operands are passed over
left_after-room : (bytes : List ℕ) (n : ℕ) → left_after bytes n ≡ left (drop n bytes)
unfolding left_after
left_after-room [] zero = refl
left_after-room [] (suc n) = refl
left_after-room (byte ∷ bytes) zero = refl
left_after-room (byte ∷ bytes) (suc n) = left_after-room bytes n

-- the walk goes on behind an instruction that is decoded, and stops where none is
abbrev pub walked : List ℕ → Option Decoded → List ℕ
walked code None = code
walked code (Some d) = left (drop d.size code)

left-sized : (op : ℕ) (bytes : List ℕ) (o : Option ℕ)
    → passed (op ∷ bytes) (left_after bytes) o ≡ walked (op ∷ bytes) (sized op bytes o)
left-sized op bytes None = refl
left-sized op bytes (Some n) =
    elim (cases_lt (length bytes) n) as
    (λ _. passed (op ∷ bytes) (left_after bytes) (Some n)
    ≡ walked (op ∷ bytes) (sized op bytes (Some n))) [
      | inl short ↦ grind (arith, nat_tests)
      | inr room ↦ grind (arith, nat_tests, common_steps, left_after-room bytes n)
    ]

left-decoded : (op : ℕ) (bytes : List ℕ)
    → left (op ∷ bytes) ≡ walked (op ∷ bytes) (decoded (op ∷ bytes))
unfolding left_after
left-decoded op bytes = left-sized op bytes (operand_bytes op)

left-walked : (code : List ℕ) → 0 < length code → left code ≡ walked code (decoded code)
left-walked [] some = absurd (omega arith)
left-walked (op ∷ bytes) some = left-decoded op bytes

-- ---- what a loop along the code knows

pub left-on : (code : List ℕ) (at next : ℕ) (i : Instr) → at < next → next ≤ length code
    → decoded_at code at ≡ Some (record { instr = i; size = next - at })
    → left (drop next code) ≡ left (drop at code)
left-on code at next i further within found =
    let same : drop (next - at) (drop at code) ≡ drop next code = grind (arith, common_steps) in
    let some : 0 < length (drop at code) = grind (arith, common_steps) in
    sym (left-walked (drop at code) some ∙ ap (walked (drop at code)) found ∙ ap left same)

pub left-stuck : (code : List ℕ) (at : ℕ) → at < length code → decoded_at code at ≡ None
    → left (drop at code) ≡ drop at code
left-stuck code at inside none =
    let some : 0 < length (drop at code) = grind (arith, common_steps) in
    left-walked (drop at code) some ∙ ap (walked (drop at code)) none

pub left-end : (code : List ℕ) (at : ℕ) → length code ≤ at → left (drop at code) ≡ drop at code
unfolding left_after
left-end code at ended =
    let nothing : drop at code ≡ [] = grind (arith, common_steps) in ap left nothing ∙ sym nothing

-- ---- what stands where it stops

-- no opcode that is not listed, where there would be an error of it
pub unlisted-not : (bytes : List ℕ) → ((op : ℕ) → IsUnlisted bytes op → ⊥)
    → is_unlisted bytes ≡ false
unlisted-not [] never = refl
unlisted-not (op ∷ bytes) never = in_case (operand_bytes op) refl where
  in_case : (o : Option ℕ) → operand_bytes op ≡ o → is_none o ≡ false
  in_case None e = absurd (never op (refl, e))
  in_case (Some n) e = refl

-- what is not unlisted is cut
pub cut-some : (bytes : List ℕ) → 0 < length bytes → is_cut bytes ≡ not (is_unlisted bytes)
cut-some [] some = absurd (omega arith)
cut-some (op ∷ bytes) some = in_case (operand_bytes op) where
  in_case : (o : Option ℕ) → is_some o ≡ not (is_none o)
  in_case None = refl
  in_case (Some n) = refl

-- ---- methods, one after the other

stop-none : (so : List ℕ → Bool) → first_stop so [] ≡ None
unfolding first_stop
stop-none so = refl

stop-more : (so : List ℕ → Bool) (m : MethodFile) (methods : List MethodFile)
    → first_stop so (m ∷ methods) ≡ option_or (stop_in so m) (first_stop so methods)
unfolding first_stop
stop-more so m methods = refl

-- the first method of what is left of the methods, before the others
pub stop-left : (so : List ℕ → Bool) (methods : List MethodFile) (i : ℕ) (m : MethodFile)
    → i < length methods → m ≡ get_or methods i m
    → first_stop so (drop i methods)
    ≡ option_or (stop_in so m) (first_stop so (drop (i + 1) methods))
stop-left so methods i m within is =
    let more : drop i methods ≡ m ∷ drop (i + 1) methods = grind (arith, common_steps) in
    ap (first_stop so) more ∙ stop-more so m (drop (i + 1) methods)

pub stop-found : (so : List ℕ → Bool) (methods : List MethodFile) (i : ℕ) (m : MethodFile) (at : ℕ)
    → i < length methods → m ≡ get_or methods i m
    → Some at ≡ stop_in so m → first_stop so (drop i methods) ≡ Some at
stop-found so methods i m at within is found =
    stop-left so methods i m within is
    ∙ ap (λ o. option_or o (first_stop so (drop (i + 1) methods))) (sym found)

pub stop-past : (so : List ℕ → Bool) (methods : List MethodFile) (i : ℕ) (m : MethodFile)
    → i < length methods → m ≡ get_or methods i m
    → None ≡ stop_in so m → first_stop so (drop (i + 1) methods) ≡ first_stop so (drop i methods)
stop-past so methods i m within is none =
    sym (stop-left so methods i m within is
    ∙ ap (λ o. option_or o (first_stop so (drop (i + 1) methods))) (sym none))

pub stop-ended : (so : List ℕ → Bool) (methods : List MethodFile) (i : ℕ) → length methods ≤ i
    → first_stop so (drop i methods) ≡ None
stop-ended so methods i ended =
    let nothing : drop i methods ≡ [] = grind (arith, common_steps) in
    ap (first_stop so) nothing ∙ stop-none so
