-- What holds of all instructions: how much longer the operand list gets.
use Rattle.std.specs.Prelude.{◌≡◌, ℕ, ◌+◌, Bool, true, false, ℤ, pos, neg_ℤ, ◌+ℤ◌, ◌-ℤ◌, ◌↔◌, List}
use Rattle.std.specs.Prelude.{length, Some, None, IsTrue}
use Rattle.par_instr.specs.declared.instr.Instr.{Instr}
use Rattle.par_instr.specs.declared.instr.Instr.TheVariants.{Ireturn, Areturn, Return, Getstatic}
use Rattle.par_instr.specs.declared.instr.Instr.TheVariants.{Putstatic, Getfield, Putfield}
use Rattle.par_instr.specs.declared.instr.Instr.TheVariants.{Invokevirtual, Invokespecial}
use Rattle.par_instr.specs.declared.instr.Instr.TheVariants.{Invokestatic, Athrow}
use Rattle.par_instr.specs.Spelling as stack
use Rattle.par_values.specs.declared.link.Link.{Link}
use Rattle.par_values.specs.Areas.{Name, Areas}
use Rattle.par_values.specs.Operations.{Operation, InvokeStatic, InvokeSpecial, InvokeVirtual}
use Rattle.par_values.specs.Operations.{operation, takes, gives}
use Rattle.par_values.specs.Effects.{Effect, Goes, Happens, Jumps, effect}
use Rattle.par_values.specs.Reasons.{lacks, misnamed}

-- a fact about the areas with which the frame goes on, where it does
abbrev pub Onward : (Areas → Type 0) → Effect → Type 0
Onward P (Goes a) = P a
Onward P (Happens event a) = P a
Onward P (Jumps to a) = P a
Onward P _ = Unit {0}

-- what a call gives is there once its method has returned
abbrev pub is_call : Operation → Bool
is_call (InvokeStatic m) = true
is_call (InvokeSpecial m) = true
is_call (InvokeVirtual m) = true
is_call _ = false

-- An operation that is no call takes as many operands as it says, and gives as many.
abbrev pub TakesAndGives : Type 0
TakesAndGives =
    (classes : List Name) (o : Operation) (a : Areas)
    → is_call o ≡ false → misnamed o ≡ false → lacks o a ≡ false
    → Onward (λ after. length after.operands + length (takes o) ≡ length a.operands + gives o)
    (effect classes o a)

-- the instructions on fields and the invokes
abbrev pub names_member : Instr → Bool
names_member (Getstatic n) = true
names_member (Putstatic n) = true
names_member (Getfield n) = true
names_member (Putfield n) = true
names_member (Invokevirtual n) = true
names_member (Invokespecial n) = true
names_member (Invokestatic n) = true
names_member _ = false

-- of these alone no change is told
abbrev pub NoneOfMembers : Type 0
NoneOfMembers = (i : Instr) → (stack.effect i ≡ None) ↔ IsTrue (names_member i)

-- of each other one it is what the operation gives less what it takes
abbrev pub ChangeIsGivenLessTaken : Type 0
ChangeIsGivenLessTaken =
    (names : ℕ → Link) (i : Instr) (change : ℤ) → stack.effect i ≡ Some change
    → change ≡ pos (gives (operation names i)) -ℤ pos (length (takes (operation names i)))

-- so the operand list is longer by it where the frame goes on
abbrev pub ChangeIsMade : Type 0
ChangeIsMade =
    (classes : List Name) (names : ℕ → Link) (i : Instr) (change : ℤ) (a : Areas)
    → stack.effect i ≡ Some change
    → misnamed (operation names i) ≡ false → lacks (operation names i) a ≡ false
    → Onward (λ after. pos (length after.operands) ≡ pos (length a.operands) +ℤ change)
    (effect classes (operation names i) a)

-- athrow and the returns
abbrev pub leaves : Instr → Bool
leaves Ireturn = true
leaves Areturn = true
leaves Return = true
leaves Athrow = true
leaves _ = false

-- of these it is minus what they take
abbrev pub LeavingTakes : Type 0
LeavingTakes =
    (names : ℕ → Link) (i : Instr) → leaves i ≡ true
    → stack.effect i ≡ Some (neg_ℤ (pos (length (takes (operation names i)))))
