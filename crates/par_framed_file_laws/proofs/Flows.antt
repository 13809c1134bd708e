-- What the instructions of items need.
use Rattle.std.proofs.Common.{◌≡◌, ℕ, ◌-◌, Bool, true, false, List, Some, refl, sym, subst}
use Rattle.std.specs.Prelude.{ℤ, pos, ◌-ℤ◌, nat_lt, nat_le, ◌==◌, if◌then◌else◌}
use Rattle.std.proofs.lemmas.Bool.{eqb-true}
use Rattle.par_instr.specs.declared.instr.Instr.{Instr}
use Rattle.par_instr.specs.declared.instr.Instr.TheVariants.{Iconst, Bipush, Sipush, Ldc, LdcW, If}
use Rattle.par_instr.specs.declared.instr.Instr.TheVariants.{IfIcmp, IfAcmpeq, IfAcmpne, Goto}
use Rattle.par_instr.specs.declared.instr.Instr.TheVariants.{Getstatic, Putstatic, Getfield}
use Rattle.par_instr.specs.declared.instr.Instr.TheVariants.{Putfield, Invokevirtual}
use Rattle.par_instr.specs.declared.instr.Instr.TheVariants.{Invokespecial, Invokestatic}
use Rattle.par_instr.specs.declared.instr.Instr.TheVariants.{Ifnull, Ifnonnull}
use Rattle.par_instr.specs.Spelling.{is_constant}
use Rattle.par_code_form.specs.declared.item.Item.{Item}
use Rattle.par_code_form.specs.declared.item.Item.TheVariants.{Label, Op, Const, Jump, Member}
use Rattle.par_code_form.specs.declared.item.Item.TheVariants.{ClassOp, LockOp}
use Rattle.par_code_form.specs.Opcodes.{IFEQ, IF_ICMPEQ, IF_ACMPEQ, IF_ACMPNE, GOTO, GETSTATIC}
use Rattle.par_code_form.specs.Opcodes.{PUTSTATIC, GETFIELD, PUTFIELD, INVOKEVIRTUAL}
use Rattle.par_code_form.specs.Opcodes.{INVOKESPECIAL}
use Rattle.par_code_form.specs.Instructions.{IFNULL, within, push, branch, on_member, instruction}
use Rattle.par_code_form.specs.Placed.{distance}
use Rattle.par_framing.specs.par_kinds.Acts.{Flow, Onward, Jumps, Branches, Nowhere}
use Rattle.par_framing.specs.par_frames.Needed.{flow_at}
use Rattle.par_framed_file_laws.specs.Met.{lands, MeetsFlow, IsMet}

-- ---- how instructions go on

pushes : (v : ℤ) (index : ℕ) → flow_at (push v index) ≡ Onward
pushes v index =
    by (is_constant v) (within 128 v) (within 32768 v) (nat_le index 255)
  where
    by : (a b c d : Bool) → flow_at (if a then Iconst v else if b then Bipush v
        else if c then Sipush v else if d then Ldc index else LdcW index) ≡ Onward
    by true b c d = refl
    by false true c d = refl
    by false false true d = refl
    by false false false true = refl
    by false false false false = refl

names : (opcode index : ℕ) → flow_at (on_member opcode index) ≡ Onward
names opcode index =
    by (opcode == GETSTATIC) (opcode == PUTSTATIC) (opcode == GETFIELD) (opcode == PUTFIELD)
    (opcode == INVOKEVIRTUAL) (opcode == INVOKESPECIAL)
  where
    by : (a b c d e f : Bool) → flow_at (if a then Getstatic index else if b then Putstatic index
        else if c then Getfield index else if d then Putfield index
        else if e then Invokevirtual index else if f then Invokespecial index
        else Invokestatic index) ≡ Onward
    by true b c d e f = refl
    by false true c d e f = refl
    by false false true d e f = refl
    by false false false true e f = refl
    by false false false false true f = refl
    by false false false false false true = refl
    by false false false false false false = refl

-- what holds of a jump and of a branch holds of each branch
branches : (P : Flow → Type 0) (opcode : ℕ) (to : ℤ) → P (Branches to)
    → (opcode ≡ GOTO → P (Jumps to)) → P (flow_at (branch opcode to))
branches P opcode to other always =
    by (nat_lt opcode IF_ICMPEQ) (nat_lt opcode IF_ACMPEQ) (opcode == IF_ACMPEQ)
    (opcode == IF_ACMPNE) (opcode == GOTO) (opcode == IFNULL)
    (λ e. always (eqb-true opcode GOTO e))
  where
    by : (a b c d e f : Bool) → (e ≡ true → P (Jumps to))
        → P (flow_at (if a then If (opcode - IFEQ) to
        else if b then IfIcmp (opcode - IF_ICMPEQ) to else if c then IfAcmpeq to
        else if d then IfAcmpne to else if e then Goto to else if f then Ifnull to
        else Ifnonnull to))
    by true b c d e f jumps = other
    by false true c d e f jumps = other
    by false false true d e f jumps = other
    by false false false true e f jumps = other
    by false false false false true f jumps = jumps refl
    by false false false false false true jumps = other
    by false false false false false false jumps = other

-- ---- what they need

module _ (has : ℕ → Bool) (offset : ℕ → ℕ) (at : ℕ) (rest : List Item) where
  -- a distance to a label with a frame
  pub record IsToFrame (to : ℤ) : Type 0 where
    pub label : ℕ
    pub framed : has label ≡ true
    pub is : to ≡ pos (offset label) -ℤ pos at

  -- a branch goes to a frame, and behind what never goes on straight the rest lands
  abbrev pub Meets : Flow → Type 0
  Meets Onward = Unit {0}
  Meets (Jumps to) = IsToFrame to × (lands has rest ≡ true)
  Meets (Branches to) = IsToFrame to
  Meets Nowhere = lands has rest ≡ true

  op_meets : (f : Flow) → MeetsFlow has rest f → Meets f
  op_meets Onward h = tt
  op_meets (Jumps to) h = absurd h
  op_meets (Branches to) h = absurd h
  op_meets Nowhere h = h

  jump_meets : (opcode l : ℕ) (to : ℤ) → to ≡ pos (offset l) -ℤ pos at
      → IsMet has rest (Jump opcode l) → Meets (flow_at (branch opcode to))
  jump_meets opcode l to is h =
      let there : IsToFrame to = record { label = l; framed = h.0; is = is } in
      branches Meets opcode to there (λ same. (there, h.1 same))

  onward : (i : Instr) → flow_at i ≡ Onward → Meets (flow_at i)
  onward i is = subst Meets (sym is) tt

  same_instr : (i j : Instr) → Some i ≡ Some j → Meets (flow_at i) → Meets (flow_at j)
  same_instr i j e h =
      let same : i ≡ j = cc e in subst (λ (k : Instr). Meets (flow_at k)) same h

  -- an item's needs are those of its instruction
  pub item_meets : (x : Item) (n : ℕ) (i : Instr)
      → instruction n (distance offset at x) x ≡ Some i → IsMet has rest x → Meets (flow_at i)
  item_meets (Label l) n i e h = absurd (cc e)
  item_meets (Op j) n i e h = same_instr j i e (op_meets (flow_at j) h)
  item_meets (Const v) n i e h = same_instr (push v n) i e (onward (push v n) (pushes v n))
  item_meets (Jump o l) n i e h = same_instr _ i e (jump_meets o l _ refl h)
  item_meets (Member o c m d) n i e h =
      same_instr (on_member o n) i e (onward (on_member o n) (names o n))
  item_meets (ClassOp o c) n i e h = same_instr _ i e tt
  item_meets (LockOp o l) n i e h =
      same_instr (on_member o n) i e (onward (on_member o n) (names o n))
