-- Instructions start within their code.
use Rattle.std.proofs.Common.{◌≡◌, ℕ, zero, suc, ◌<◌, ◌≤◌, ℤ, pos, negsuc, Bool, true, List, []}
use Rattle.std.proofs.Common.{◌∷◌, length, Option, Some, None, arith}
use Rattle.par_instr.specs.Spelling.{operand_bytes}
use Rattle.par_single.specs.Walk.{if_listed, starts_after, starts_at, stands_at}
use Rattle.par_method_area.specs.par_step_laws.Step.{offset}

listed : (test : ℕ → Bool) (operands : Option ℕ) → if_listed test operands ≡ true
    → (n : ℕ) × (test n ≡ true)
listed test None is = absurd (cc)
listed test (Some n) is = (n, is)

starts_within : (bytes : List ℕ) (at operands : ℕ) → starts_after bytes at operands ≡ true
    → at < length bytes
unfolding starts_after
starts_within [] at operands is = absurd (cc)
starts_within (op ∷ bytes) zero zero is = omega arith
starts_within (op ∷ bytes) zero (suc operands) is = absurd (cc)
starts_within (op ∷ bytes) (suc at) zero is =
    let h = listed (starts_after bytes at) (operand_bytes op) is in
    let within = starts_within bytes at h.0 h.1 in omega arith
starts_within (op ∷ bytes) (suc at) (suc operands) is = let within =
    starts_within bytes at operands is in omega arith

-- an instruction starts within its code
pub start_within : (code : List ℕ) (at : ℕ) → starts_at code at ≡ true → at < length code
start_within code at is = starts_within code at 0 is

-- and so does one at an offset that may be negative
pub stand_within : (code : List ℕ) (to : ℤ) → stands_at code to ≡ true → offset to ≤ length code
stand_within code (pos at) is = let within = start_within code at is in omega arith
stand_within code (negsuc n) is = absurd (cc)
