-- Branches: a distance in items there, a distance in bytes here.
use Rattle.std.proofs.Common.{◌≡◌, ℕ, zero, suc, ◌+◌, ◌-◌, ◌<◌, ◌≤◌, Bool, true, false, List, None}
use Rattle.std.proofs.Common.{refl}
use Rattle.std.proofs.Common.{sym}
use Rattle.std.proofs.Common.{subst, ◌∙◌, arith, inl, inr}
use Rattle.std.specs.Prelude.{ℤ, pos, ◌+ℤ◌, ◌-ℤ◌, ◌==◌, nat_lt, nat_le, if◌then◌else◌, IsTrue, ◌⊎◌}
use Rattle.std.specs.Prelude.{◌&&◌, ◌||◌}
use Rattle.std.proofs.Math.IntN.{+ℤ_comm, -ℤ-+ℤ_cancel}
use Rattle.std.proofs.lemmas.Bool.{cases_lt, and_parts, or_cases, leb-true, eqb-true}
use Rattle.par_instr.specs.declared.instr.Instr.TheVariants.{If, IfIcmp, IfAcmpeq, IfAcmpne, Goto}
use Rattle.par_instr.specs.declared.instr.Instr.TheVariants.{Ifnull, Ifnonnull}
use Rattle.par_values.specs.declared.link.Link.{Link}
use Rattle.par_values.specs.Areas.{Name, Areas, operand, number_of, pop}
use Rattle.par_values.specs.Arithmetic.{compares}
use Rattle.par_values.specs.declared.value.MVal.TheVariants.{Null}
use Rattle.par_values.specs.Operations.{Operation, Jump, JumpIf, JumpIfBoth, JumpIfSame, JumpIfNull}
use Rattle.par_values.specs.Operations.{operation, takes, gives}
use Rattle.par_values.specs.Reasons.{Spot, misplaced, misnamed, disagrees, misused, misreturns}
use Rattle.par_values.specs.Reasons.{misgiven}
use Rattle.par_values.specs.Effects.{effect, jumps_if, comes, is_same}
use Rattle.par_step_laws.specs.Step.{called_on_object}
use Rattle.par_match_laws.specs.Engine.{Found, Program}
use Rattle.par_match_laws.specs.Labelled as matching
use Rattle.par_place.specs.par_code_form.Instructions as placed
use Rattle.par_placed_run_laws.specs.Relocated.{Places, Shifts, Kin}
use Rattle.par_placed_run_laws.proofs.Operations.{IsAsFar, TakesAll}

-- ---- the forms of branches

pub data Form : Type 0 where
  Always : Form
  Test : ℕ → Form
  Pair : ℕ → Form
  Same : Bool → Form
  OfNull : Bool → Form

abbrev pub operate : Form → ℤ → Operation
operate Always to = Jump to
operate (Test t) to = JumpIf t to
operate (Pair t) to = JumpIfBoth t to
operate (Same b) to = JumpIfSame b to
operate (OfNull b) to = JumpIfNull b to

abbrev pub form_of : ℕ → Form
form_of opcode =
    if opcode == 167 then Always
    else if opcode == 165 then Same true
    else if opcode == 166 then Same false
    else if opcode == 198 then OfNull true
    else if opcode == 199 then OfNull false
    else if nat_lt opcode 159 then Test (opcode - 153)
    else Pair (opcode - 159)

formed : (a b c d e f : Bool) (n k : ℕ) (to : ℤ)
    → (if a then Jump to else if b then JumpIfSame true to else if c then JumpIfSame false to
    else if d then JumpIfNull true to else if e then JumpIfNull false to
    else if f then JumpIf n to else JumpIfBoth k to)
    ≡ operate (if a then Always else if b then Same true else if c then Same false
    else if d then OfNull true else if e then OfNull false else if f then Test n else Pair k) to
formed true b c d e f n k to = refl
formed false true c d e f n k to = refl
formed false false true d e f n k to = refl
formed false false false true e f n k to = refl
formed false false false false true f n k to = refl
formed false false false false false true n k to = refl
formed false false false false false false n k to = refl

pub labelled_form : (opcode : ℕ) (to : ℤ) → matching.branch opcode to ≡ operate (form_of opcode) to
labelled_form opcode to =
    formed (opcode == 167) (opcode == 165) (opcode == 166) (opcode == 198) (opcode == 199)
    (nat_lt opcode 159) (opcode - 153) (opcode - 159) to

module _ (names : ℕ → Link) (to : ℤ) where
  abbrev IsFormed : ℕ → Type 0
  IsFormed opcode = operation names (placed.branch opcode to) ≡ operate (form_of opcode) to

  -- the opcodes from 153 to 159, and from 160 to 167
  from_153 : (k : ℕ) → k ≤ 6 → IsFormed (153 + k)
  from_153 zero h = refl
  from_153 (suc zero) h = refl
  from_153 (suc (suc zero)) h = refl
  from_153 (suc (suc (suc zero))) h = refl
  from_153 (suc (suc (suc (suc zero)))) h = refl
  from_153 (suc (suc (suc (suc (suc zero))))) h = refl
  from_153 (suc (suc (suc (suc (suc (suc zero)))))) h = refl
  from_153 (suc (suc (suc (suc (suc (suc (suc k))))))) h = absurd (omega (arith, h))

  from_160 : (k : ℕ) → k ≤ 7 → IsFormed (160 + k)
  from_160 zero h = refl
  from_160 (suc zero) h = refl
  from_160 (suc (suc zero)) h = refl
  from_160 (suc (suc (suc zero))) h = refl
  from_160 (suc (suc (suc (suc zero)))) h = refl
  from_160 (suc (suc (suc (suc (suc zero))))) h = refl
  from_160 (suc (suc (suc (suc (suc (suc zero)))))) h = refl
  from_160 (suc (suc (suc (suc (suc (suc (suc zero))))))) h = refl
  from_160 (suc (suc (suc (suc (suc (suc (suc (suc k)))))))) h = absurd (omega (arith, h))

  pub placed_form : (opcode : ℕ) → IsTrue (placed.is_branch opcode) → IsFormed opcode
  placed_form opcode h =
      pick (or_cases (nat_le 153 opcode && nat_le opcode 167) (opcode == 198 || opcode == 199) h)
    where
      null : ((opcode == 198) ≡ true) ⊎ ((opcode == 199) ≡ true) → IsFormed opcode
      null (inl e) = subst IsFormed (sym (eqb-true opcode 198 e)) refl
      null (inr e) = subst IsFormed (sym (eqb-true opcode 199 e)) refl

      far : (opcode < 160) ⊎ (160 ≤ opcode) → 153 ≤ opcode → opcode ≤ 167 → IsFormed opcode
      far (inl less) low high =
          let same : 153 + (opcode - 153) ≡ opcode = omega (arith, low) in
          subst IsFormed same (from_153 (opcode - 153) (omega (arith, low, less)))
      far (inr more) low high =
          let same : 160 + (opcode - 160) ≡ opcode = omega (arith, more) in
          subst IsFormed same (from_160 (opcode - 160) (omega (arith, more, high)))

      pick : ((nat_le 153 opcode && nat_le opcode 167) ≡ true)
          ⊎ ((opcode == 198 || opcode == 199) ≡ true) → IsFormed opcode
      pick (inl both) =
          let parts = and_parts (nat_le 153 opcode) (nat_le opcode 167) both in
          let low = leb-true 153 opcode parts.0 in
          let high = leb-true opcode 167 parts.1 in
          far (cases_lt opcode 160) low high
      pick (inr one) = null (or_cases (opcode == 198) (opcode == 199) one)

branched : (a b c d e f : Bool) (n k : ℕ) (to : ℤ)
    → called_on_object (if a then If n to else if b then IfIcmp k to else if c then IfAcmpeq to
    else if d then IfAcmpne to else if e then Goto to else if f then Ifnull to
    else Ifnonnull to) ≡ None
branched true b c d e f n k to = refl
branched false true c d e f n k to = refl
branched false false true d e f n k to = refl
branched false false false true e f n k to = refl
branched false false false false true f n k to = refl
branched false false false false false true n k to = refl
branched false false false false false false n k to = refl

-- a branch calls nothing
pub branch_calls_none : (opcode : ℕ) (to : ℤ) → called_on_object (placed.branch opcode to) ≡ None
branch_calls_none opcode to =
    branched (nat_lt opcode 159) (nat_lt opcode 165) (opcode == 165) (opcode == 166)
    (opcode == 167) (opcode == 198) (opcode - 153) (opcode - 159) to

-- ---- one branch at both places

takes_form : (f : Form) (d z : ℤ) → takes (operate f z) ≡ takes (operate f d)
takes_form Always d z = refl
takes_form (Test t) d z = refl
takes_form (Pair t) d z = refl
takes_form (Same b) d z = refl
takes_form (OfNull b) d z = refl

gives_form : (f : Form) (d z : ℤ) → gives (operate f z) ≡ gives (operate f d)
gives_form Always d z = refl
gives_form (Test t) d z = refl
gives_form (Pair t) d z = refl
gives_form (Same b) d z = refl
gives_form (OfNull b) d z = refl

-- no reason of its own stands against a branch
pub record IsFree (o : Operation) : Type 0 where
  pub placed : (names : List Name) (a : Areas) → misplaced names o a ≡ false
  pub named : misnamed o ≡ false
  pub agrees : disagrees o ≡ false
  pub used : (es : List ℕ) (a : Areas) → misused es o a ≡ false
  pub comes : (s : Spot) → misreturns s o ≡ false
  pub stays : (names : List Name) (s : Spot) (a : Areas) → misgiven names s o a ≡ false

free_form : (f : Form) (d : ℤ) → IsFree (operate f d)
free_form Always d = record {
  placed = λ names a. refl;
  named = refl;
  agrees = refl;
  used = λ es a. refl;
  comes = λ s. refl;
  stays = λ names s a. refl;
}
free_form (Test t) d = record {
  placed = λ names a. refl;
  named = refl;
  agrees = refl;
  used = λ es a. refl;
  comes = λ s. refl;
  stays = λ names s a. refl;
}
free_form (Pair t) d = record {
  placed = λ names a. refl;
  named = refl;
  agrees = refl;
  used = λ es a. refl;
  comes = λ s. refl;
  stays = λ names s a. refl;
}
free_form (Same b) d = record {
  placed = λ names a. refl;
  named = refl;
  agrees = refl;
  used = λ es a. refl;
  comes = λ s. refl;
  stays = λ names s a. refl;
}
free_form (OfNull b) d = record {
  placed = λ names a. refl;
  named = refl;
  agrees = refl;
  used = λ es a. refl;
  comes = λ s. refl;
  stays = λ names s a. refl;
}

-- from a place to another and back
pub distance_there : (from to : ℕ) → pos from +ℤ (pos to -ℤ pos from) ≡ pos to
distance_there from to =
    +ℤ_comm (pos from) (pos to -ℤ pos from) ∙ -ℤ-+ℤ_cancel (pos to) (pos from)

module _ (p : Program) (places : Places) (c m q : ℕ) where
  -- both go to one place
  pub record Meets (d z : ℤ) : Type 0 where
    pub at : ℕ
    pub there : pos q +ℤ d ≡ pos at
    pub here : pos (places.off c m q) +ℤ z ≡ pos (places.off c m at)

  if_shifts : (b : Bool) (d z : ℤ) (a : Areas) → Meets d z
      → Shifts p places c m q (jumps_if b d a) (jumps_if b z a)
  if_shifts true d z a h = (z, h.at, refl, h.there, h.here)
  if_shifts false d z a h = refl

  shifts_form : (f : Form) (d z : ℤ) (a : Areas) → Meets d z
      → Shifts p places c m q (effect p.names (operate f d) a) (effect p.names (operate f z) a)
  unfolding effect
  shifts_form Always d z a h = (z, h.at, refl, h.there, h.here)
  shifts_form (Test t) d z a h =
      if_shifts (compares t (number_of (operand 0 a)) (pos 0)) d z (pop 1 a) h
  shifts_form (Pair t) d z a h =
      if_shifts (compares t (number_of (operand 1 a)) (number_of (operand 0 a))) d z (pop 2 a) h
  shifts_form (Same b) d z a h =
      if_shifts (comes b (is_same (operand 1 a) (operand 0 a))) d z (pop 2 a) h
  shifts_form (OfNull b) d z a h =
      if_shifts (comes b (is_same (operand 0 a) Null)) d z (pop 1 a) h

  formed_kin : (f : Form) (d z : ℤ) (far there : ℕ) (wants asks : Bool)
      → IsAsFar p places c m q (record { op = operate f d; size = there; wants_exception = wants })
      (record { op = operate f z; size = far; wants_exception = asks })
      → TakesAll p places c m q
      (record { op = operate f d; size = there; wants_exception = wants })
      (record { op = operate f z; size = far; wants_exception = asks }) → Meets d z
      → Kin p places c m q (record { op = operate f d; size = there; wants_exception = wants })
      (record { op = operate f z; size = far; wants_exception = asks })
  formed_kin f d z far there wants asks as_far all h =
      let x = free_form f d in
      let y = free_form f z in
      record {
        size = as_far;
        wants = all;
        takes_same = takes_form f d z;
        gives_same = gives_form f d z;
        placed = λ a. y.placed p.names a ∙ sym (x.placed p.names a);
        named = y.named ∙ sym x.named;
        agrees = y.agrees ∙ sym x.agrees;
        used = λ a. y.used p.exceptions a ∙ sym (x.used p.exceptions a);
        comes = λ s t g r. y.comes s ∙ sym (x.comes t);
        stays = λ s t a g r. y.stays p.names s a ∙ sym (x.stays p.names t a);
        effect_same = λ a. shifts_form f d z a h;
      }

  -- one branch at both places
  pub kin_branch : (f : Form) (d z : ℤ) (x y : Found) → x.op ≡ operate f d → y.op ≡ operate f z
      → IsAsFar p places c m q x y → TakesAll p places c m q x y → Meets d z
      → Kin p places c m q x y
  kin_branch f d z x y x-is y-is far all h =
      subst (λ (o : Operation). Kin p places c m q x (record y { op = o })) (sym y-is)
      (subst (λ (o : Operation). Kin p places c m q (record x { op = o })
      (record y { op = operate f z })) (sym x-is)
      (formed_kin f d z y.size x.size x.wants_exception y.wants_exception far all h))
