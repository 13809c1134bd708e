-- Where instructions start, as a walk through code finds it.
use Rattle.std.proofs.Common.{◌≡◌, ℕ, zero, suc, ◌+◌, ◌-◌, ◌<◌, ◌≤◌, Bool, true, false, List, []}
use Rattle.std.proofs.Common.{◌∷◌, length, drop, set, get_or, replicate, Option, Some, None, refl}
use Rattle.std.proofs.Common.{sym, ap, ◌∙◌, arith, inl, inr}
use Rattle.std.proofs.lemmas.Bool.{cases_lt}
use Rattle.std.proofs.lemmas.Bool.Decides.{nat_tests}
use Rattle.std.proofs.lemmas.Grind.{common_steps}
use Rattle.std.proofs.lemmas.List.{get_or-set_same, get_or-set_other}
use Rattle.par_instr.specs.Decoding.{Decoded, sized, decoded, decoded_at}
use Rattle.par_instr.specs.Spelling.{operand_bytes}
use Rattle.par_single.specs.Walk.{if_listed, starts_after, starts_at}

-- ---- within one instruction and behind it

-- nothing starts among operand bytes
inside : (bytes : List ℕ) (at n : ℕ) → at < n → starts_after bytes at n ≡ false
unfolding starts_after
inside [] at n less = refl
inside (byte ∷ bytes) at zero less = absurd (omega arith)
inside (byte ∷ bytes) zero (suc n) less = refl
inside (byte ∷ bytes) (suc at) (suc n) less = inside bytes at n (omega arith)

-- operand bytes are passed over
behind : (bytes : List ℕ) (n at : ℕ) → starts_after bytes (n + at) n ≡ starts_at (drop n bytes) at
unfolding starts_after
behind [] zero at = let same : 0 + at ≡ at = omega arith in ap (λ (i : ℕ). starts_after [] i 0) same
behind [] (suc n) at = refl
behind (byte ∷ bytes) zero at =
    let same : 0 + at ≡ at = omega arith in ap (λ (i : ℕ). starts_after (byte ∷ bytes) i 0) same
behind (byte ∷ bytes) (suc n) at =
    let same : suc n + at ≡ suc (n + at) = omega arith in
    ap (λ (i : ℕ). starts_after (byte ∷ bytes) i (suc n)) same ∙ behind bytes n at

-- nothing starts in no bytes
nowhere : (at n : ℕ) → starts_after [] at n ≡ false
unfolding starts_after
nowhere at n = refl

-- ---- at the head of some bytes

first : (bytes : List ℕ) → 0 < length bytes → starts_at bytes 0 ≡ true
unfolding starts_after
first [] some = absurd (omega arith)
first (op ∷ bytes) some = refl

second : (op : ℕ) (bytes : List ℕ) (at : ℕ) (o : Option ℕ) → operand_bytes op ≡ o
    → starts_at (op ∷ bytes) (suc at) ≡ if_listed (starts_after bytes at) o
unfolding starts_after
second op bytes at o is = ap (if_listed (starts_after bytes at)) is

sized-some : (op : ℕ) (bytes : List ℕ) (o : Option ℕ) (d : Decoded) → sized op bytes o ≡ Some d
    → (n : ℕ) × ((o ≡ Some n) × (d.size ≡ suc n))
sized-some op bytes None d found = absurd (cc found)
sized-some op bytes (Some n) d found = (n, (refl, grind (arith, nat_tests)))

sized-none : (op : ℕ) (bytes : List ℕ) (n : ℕ) → sized op bytes (Some n) ≡ None → length bytes < n
sized-none op bytes n none = grind (arith, nat_tests)

-- within an instruction no other starts
within : (bytes : List ℕ) (d : Decoded) (at : ℕ) → decoded bytes ≡ Some d → suc at < d.size
    → starts_at bytes (suc at) ≡ false
within [] d at found less = absurd (cc found)
within (op ∷ bytes) d at found less =
    let s = sized-some op bytes (operand_bytes op) d found in
    second op bytes at (Some s.0) s.1.0 ∙ inside bytes at s.0 (omega (arith, s.1.1))

-- what starts behind an instruction starts in what is left
past : (bytes : List ℕ) (d : Decoded) (at : ℕ) → decoded bytes ≡ Some d
    → starts_at bytes (d.size + at) ≡ starts_at (drop d.size bytes) at
past [] d at found = absurd (cc found)
past (op ∷ bytes) d at found =
    let s = sized-some op bytes (operand_bytes op) d found in
    let far : d.size + at ≡ suc (s.0 + at) = omega (arith, s.1.1) in
    let rest : drop s.0 bytes ≡ drop d.size (op ∷ bytes) =
    ap (λ (n : ℕ). drop n (op ∷ bytes)) (sym s.1.1) in
    ap (starts_at (op ∷ bytes)) far ∙ second op bytes (s.0 + at) (Some s.0) s.1.0
    ∙ behind bytes s.0 at ∙ ap (λ (code : List ℕ). starts_at code at) rest

-- where no instruction is decoded the walk ends
stuck_at : (op : ℕ) (bytes : List ℕ) (at : ℕ) (o : Option ℕ) → sized op bytes o ≡ None
    → if_listed (starts_after bytes at) o ≡ false
stuck_at op bytes at None none = refl
stuck_at op bytes at (Some n) none =
    let short = sized-none op bytes n none in
    elim (cases_lt at n) [
      | inl less ↦ inside bytes at n less
      | inr more ↦
          let far : at ≡ n + (at - n) = omega arith in
          let gone : drop n bytes ≡ [] = grind (arith, common_steps) in
          ap (λ (i : ℕ). starts_after bytes i n) far ∙ behind bytes n (at - n)
          ∙ ap (λ (code : List ℕ). starts_at code (at - n)) gone ∙ nowhere (at - n) 0
    ]

stuck : (bytes : List ℕ) (at : ℕ) → decoded bytes ≡ None → starts_at bytes (suc at) ≡ false
stuck [] at none = nowhere (suc at) 0
stuck (op ∷ bytes) at none =
    second op bytes at (operand_bytes op) refl ∙ stuck_at op bytes at (operand_bytes op) none

-- ---- what the walk has told so far

-- What is told of the offsets before one, where the walk stands, and of those behind.
pub record Told (code : List ℕ) (flags : List Bool) (at : ℕ) : Type 0 where
  pub within : at ≤ length code
  pub many : length flags ≡ length code
  pub before : (i : ℕ) → i < at → get_or flags i false ≡ starts_at code i
  pub unmarked : (i : ℕ) → at ≤ i → get_or flags i false ≡ false
  pub ahead : (i : ℕ) → starts_at code (at + i) ≡ starts_at (drop at code) i

module _ (code : List ℕ) (flags : List Bool) (at : ℕ) (t : Told code flags at) where
  -- an instruction starts where the walk stands
  here : at < length code → get_or (set flags at true) at false ≡ starts_at code at
  here some =
      let there : at < length flags = omega (arith, t.many) in
      let same : at ≡ at + 0 = omega arith in
      let left : 0 < length (drop at code) = grind (arith, common_steps) in
      get_or-set_same flags at true false there
      ∙ sym (ap (starts_at code) same ∙ t.ahead 0 ∙ first (drop at code) left)

  -- the other offsets are as they were
  other : (i : ℕ) → (i ≡ at → ⊥) → get_or (set flags at true) i false ≡ get_or flags i false
  other i apart = get_or-set_other flags at i true false apart

  up_to : at < length code → (i : ℕ) → i < suc at
      → get_or (set flags at true) i false ≡ starts_at code i
  up_to some i less =
      elim (cases_lt i at) [
        | inl before ↦ other i (λ same. omega (arith, same)) ∙ t.before i before
        | inr behind ↦
            let same : i ≡ at = omega arith in
            ap (λ (k : ℕ). get_or (set flags at true) k false) same ∙ here some
            ∙ sym (ap (starts_at code) same)
      ]

  pub told_on : (next : ℕ) (d : Decoded) → at < length code → at < next → next ≤ length code
      → decoded_at code at ≡ Some d → d.size ≡ next - at
      → Told code (set flags at true) next
  told_on next d some goes there found size = record {
    within = there;
    many = grind (arith, common_steps, t.many);
    before = λ i less. elim (cases_lt i (suc at)) [
      | inl before ↦ up_to some i before
      | inr behind ↦
          let far : i ≡ at + suc (i - suc at) = omega arith in
          other i (λ same. omega (arith, same)) ∙ t.unmarked i (omega arith)
          ∙ sym (ap (starts_at code) far ∙ t.ahead (suc (i - suc at))
          ∙ within (drop at code) d (i - suc at) found (omega (arith, size)))
    ];
    unmarked = λ i more. other i (λ same. omega (arith, same)) ∙ t.unmarked i (omega arith);
    ahead = λ i.
        let far : next + i ≡ at + (d.size + i) = omega (arith, size) in
        let rest : drop d.size (drop at code) ≡ drop next code =
        grind (arith, common_steps, size) in
        ap (starts_at code) far ∙ t.ahead (d.size + i) ∙ past (drop at code) d i found
        ∙ ap (λ (left : List ℕ). starts_at left i) rest;
  }

  pub told_stuck : at < length code → decoded_at code at ≡ None → (i : ℕ)
      → get_or (set flags at true) i false ≡ starts_at code i
  told_stuck some none i =
      elim (cases_lt i (suc at)) [
        | inl before ↦ up_to some i before
        | inr behind ↦
            let far : i ≡ at + suc (i - suc at) = omega arith in
            other i (λ same. omega (arith, same)) ∙ t.unmarked i (omega arith)
            ∙ sym (ap (starts_at code) far ∙ t.ahead (suc (i - suc at))
            ∙ stuck (drop at code) (i - suc at) none)
      ]

  pub told_all : length code ≤ at → (i : ℕ) → get_or flags i false ≡ starts_at code i
  told_all ended i =
      elim (cases_lt i at) [
        | inl before ↦ t.before i before
        | inr behind ↦
            let far : i ≡ at + (i - at) = omega arith in
            let gone : drop at code ≡ [] = grind (arith, common_steps) in
            t.unmarked i behind ∙ sym (ap (starts_at code) far ∙ t.ahead (i - at)
            ∙ ap (λ (left : List ℕ). starts_at left (i - at)) gone ∙ nowhere (i - at) 0)
      ]

-- nothing is told at first
none_marked : (n i : ℕ) → get_or (replicate n false) i false ≡ false
none_marked zero i = refl
none_marked (suc n) zero = refl
none_marked (suc n) (suc i) = none_marked n i

pub told_none : (code : List ℕ) (flags : List Bool) → flags ≡ replicate (length code) false
    → Told code flags 0
told_none code flags is = record {
  within = omega arith;
  many = ap length is ∙ grind (arith, common_steps);
  before = λ i less. absurd (omega arith);
  unmarked = λ i more. ap (λ (fs : List Bool). get_or fs i false) is ∙ none_marked (length code) i;
  ahead = λ i. let same : 0 + i ≡ i = omega arith in ap (starts_at code) same;
}
