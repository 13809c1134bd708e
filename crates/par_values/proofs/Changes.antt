-- How much longer the operand list gets.
use Rattle.std.proofs.Common.{◌≡◌, ℕ, ◌+◌, Bool, true, false, ℤ, pos, ◌+ℤ◌, ◌-ℤ◌, ◌∷◌, length, drop}
use Rattle.std.proofs.Common.{Some, arith, refl, if◌then◌else◌}
use Rattle.std.proofs.lemmas.Bool.Decides.{nat_tests}
use Rattle.std.proofs.lemmas.Grind.{common_steps}
use Rattle.std.proofs.lemmas.Int.{ints}
use Rattle.par_instr.specs.declared.instr.Instr.{Instr}
use Rattle.par_instr.specs.declared.instr.Instr.TheVariants.{AconstNull, Ldc, LdcW, New, Getstatic}
use Rattle.par_instr.specs.declared.instr.Instr.TheVariants.{Putstatic, Getfield, Putfield}
use Rattle.par_instr.specs.declared.instr.Instr.TheVariants.{Invokevirtual, Invokespecial}
use Rattle.par_instr.specs.declared.instr.Instr.TheVariants.{Invokestatic}
use Rattle.par_instr.specs.declared.instr.Instr.TheVariants as instr
use Rattle.par_instr.specs.Spelling as stack
use Rattle.par_values.specs.declared.value.MVal.{MVal}
use Rattle.par_values.specs.declared.value.MVal.TheVariants.{Int, Null, Ref}
use Rattle.par_values.specs.declared.link.Link.{Link}
use Rattle.par_values.specs.declared.link.Link.TheVariants as link
use Rattle.par_values.specs.declared.link.FieldLink.{FieldLink}
use Rattle.par_values.specs.Areas.{Name, Areas, operand, number_of}
use Rattle.par_values.specs.Arithmetic.{divides_by_zero, compares}
use Rattle.par_values.specs.Operations.{Push, PushNull, Load, Store, Discard, Copy, Combine, Negate}
use Rattle.par_values.specs.Operations.{Increase, Jump, JumpIf, JumpIfBoth, JumpIfSame, JumpIfNull}
use Rattle.par_values.specs.Operations.{GetStatic, PutStatic, GetField, PutField, InvokeStatic}
use Rattle.par_values.specs.Operations.{InvokeSpecial, InvokeVirtual, Create, Throw, Leave}
use Rattle.par_values.specs.Operations.{LeaveWith, Misnamed, constant, of_class, operation, takes}
use Rattle.par_values.specs.Operations.{gives}
use Rattle.par_values.specs.Effects.{Effect, Goes, Happens, Jumps, Throws, effect, jumps_if}
use Rattle.par_values.specs.Effects.{field_read, field_written, created, thrown, comes, is_same}
use Rattle.par_values.specs.Laws.{Onward, is_call, TakesAndGives, NoneOfMembers}
use Rattle.par_values.specs.Laws.{ChangeIsGivenLessTaken, ChangeIsMade, LeavingTakes}

-- ---- what each operation takes and gives

-- the operand list is as long as it was, less so many, and with so many
abbrev Moves : Areas → (taken given : ℕ) → Areas → Type 0
Moves a taken given after = length after.operands + taken ≡ length a.operands + given

jumps_either : (P : Areas → Type 0) (test : Bool) (to : ℤ) (a : Areas) → P a
    → Onward P (jumps_if test to a)
jumps_either P true to a holds = holds
jumps_either P false to a holds = holds

goes_unless : (P : Areas → Type 0) (fails : Bool) (class : Name) (a : Areas) → P a
    → Onward P (if fails then Throws class else Goes a)
goes_unless P true class a holds = tt
goes_unless P false class a holds = holds

field_either : (P : Areas → Type 0) (v : MVal) (f : FieldLink) (a : Areas)
    → ((w : MVal) → P (record a { operands = w ∷ drop 1 a.operands })) → Onward P (field_read v f a)
field_either P Null f a holds = tt
field_either P (Int n) f a holds = tt
field_either P (Ref c n) f a holds = holds _

takes_gives : TakesAndGives
unfolding effect
takes_gives classes (Push v) a call named has = grind (arith, common_steps)
takes_gives classes PushNull a call named has = grind (arith, common_steps)
takes_gives classes (Load x kind) a call named has = grind (arith, common_steps)
takes_gives classes (Store x kind) a call named has = grind (arith, nat_tests, common_steps)
takes_gives classes Discard a call named has = grind (arith, nat_tests, common_steps)
takes_gives classes Copy a call named has = grind (arith, nat_tests, common_steps)
takes_gives classes (Combine operator) a call named has =
    goes_unless (Moves a 2 1) (divides_by_zero operator (number_of (operand 0 a))) _ _
    (grind (arith, nat_tests, common_steps))
takes_gives classes Negate a call named has = grind (arith, nat_tests, common_steps)
takes_gives classes (Increase x by) a call named has = refl
takes_gives classes (Jump to) a call named has = refl
takes_gives classes (JumpIf test to) a call named has =
    jumps_either (Moves a 1 0) (compares test (number_of (operand 0 a)) (pos 0)) to _
    (grind (arith, nat_tests, common_steps))
takes_gives classes (JumpIfBoth test to) a call named has =
    jumps_either (Moves a 2 0) (compares test (number_of (operand 1 a)) (number_of (operand 0 a)))
    to _ (grind (arith, nat_tests, common_steps))
takes_gives classes (JumpIfSame same to) a call named has =
    jumps_either (Moves a 2 0) (comes same (is_same (operand 1 a) (operand 0 a))) to _
    (grind (arith, nat_tests, common_steps))
takes_gives classes (JumpIfNull null to) a call named has =
    jumps_either (Moves a 1 0) (comes null (is_same (operand 0 a) Null)) to _
    (grind (arith, nat_tests, common_steps))
takes_gives classes (GetStatic f) a call named has = grind (arith, common_steps)
takes_gives classes (PutStatic f) a call named has = grind (arith, nat_tests, common_steps)
takes_gives classes (GetField f) a call named has =
    field_either (Moves a 1 1) (operand 0 a) f a (λ w. grind (arith, nat_tests, common_steps))
takes_gives classes (PutField f) a call named has = put_either (operand 1 a) where
  put_either : (v : MVal) → Onward (Moves a 2 0) (field_written classes v f (operand 0 a) a)
  put_either Null = tt
  put_either (Int n) = tt
  put_either (Ref c n) = grind (arith, nat_tests, common_steps)
takes_gives classes (InvokeStatic m) a call named has = absurd (cc call)
takes_gives classes (InvokeSpecial m) a call named has = absurd (cc call)
takes_gives classes (InvokeVirtual m) a call named has = absurd (cc call)
takes_gives classes (Create c) a call named has = either c.is_exception where
  either : (quiet : Bool) → Onward (Moves a 0 1) (created (record c { is_exception = quiet }) a)
  either true = grind (arith, common_steps)
  either false = grind (arith, common_steps)
takes_gives classes Throw a call named has = either (operand 0 a) where
  either : (v : MVal) → Onward (Moves a 1 0) (thrown v)
  either Null = tt
  either (Int n) = tt
  either (Ref c n) = tt
takes_gives classes Leave a call named has = tt
takes_gives classes (LeaveWith kind) a call named has = tt
takes_gives classes (Misnamed kinds n) a call named has = absurd (cc named)

pub takes_and_gives : TakesAndGives
takes_and_gives = takes_gives

-- ---- what is told of each instruction

abbrev told : ℕ → ℕ → ℤ
told given taken = pos given -ℤ pos taken

constant_told : (l : Link) (change : ℤ) → Some (pos 1) ≡ Some change
    → change ≡ told (gives (constant l)) (length (takes (constant l)))
constant_told (link.Number v) change is = cc is
constant_told (link.Field f) change is = cc is
constant_told (link.Method m) change is = cc is
constant_told (link.Class c) change is = cc is
constant_told link.Other change is = cc is

class_told : (l : Link) (change : ℤ) → Some (pos 1) ≡ Some change
    → change ≡ told (gives (of_class l)) (length (takes (of_class l)))
class_told (link.Number v) change is = cc is
class_told (link.Field f) change is = cc is
class_told (link.Method m) change is = cc is
class_told (link.Class c) change is = cc is
class_told link.Other change is = cc is

pub change_is_given_less_taken : ChangeIsGivenLessTaken
change_is_given_less_taken names (Ldc n) change is = constant_told (names n) change is
change_is_given_less_taken names (LdcW n) change is = constant_told (names n) change is
change_is_given_less_taken names (New n) change is = class_told (names n) change is
change_is_given_less_taken names (Getstatic n) change is = absurd (cc is)
change_is_given_less_taken names (Putstatic n) change is = absurd (cc is)
change_is_given_less_taken names (Getfield n) change is = absurd (cc is)
change_is_given_less_taken names (Putfield n) change is = absurd (cc is)
change_is_given_less_taken names (Invokevirtual n) change is = absurd (cc is)
change_is_given_less_taken names (Invokespecial n) change is = absurd (cc is)
change_is_given_less_taken names (Invokestatic n) change is = absurd (cc is)
change_is_given_less_taken names _ change is = cc is

constant_no_call : (l : Link) → is_call (constant l) ≡ false
constant_no_call (link.Number v) = refl
constant_no_call (link.Field f) = refl
constant_no_call (link.Method m) = refl
constant_no_call (link.Class c) = refl
constant_no_call link.Other = refl

class_no_call : (l : Link) → is_call (of_class l) ≡ false
class_no_call (link.Number v) = refl
class_no_call (link.Field f) = refl
class_no_call (link.Method m) = refl
class_no_call (link.Class c) = refl
class_no_call link.Other = refl

no_call : (names : ℕ → Link) (i : Instr) (change : ℤ) → stack.effect i ≡ Some change
    → is_call (operation names i) ≡ false
no_call names (Ldc n) change is = constant_no_call (names n)
no_call names (LdcW n) change is = constant_no_call (names n)
no_call names (New n) change is = class_no_call (names n)
no_call names (Getstatic n) change is = absurd (cc is)
no_call names (Putstatic n) change is = absurd (cc is)
no_call names (Getfield n) change is = absurd (cc is)
no_call names (Putfield n) change is = absurd (cc is)
no_call names (Invokevirtual n) change is = absurd (cc is)
no_call names (Invokespecial n) change is = absurd (cc is)
no_call names (Invokestatic n) change is = absurd (cc is)
no_call names _ change is = refl

onward-map : (P Q : Areas → Type 0) (e : Effect) → ((a : Areas) → P a → Q a) → Onward P e
    → Onward Q e
onward-map P Q (Goes a) each holds = each a holds
onward-map P Q (Happens event a) each holds = each a holds
onward-map P Q (Jumps to a) each holds = each a holds
onward-map P Q _ each holds = tt

longer : (after before taken given : ℕ) (change : ℤ) → change ≡ pos given -ℤ pos taken
    → after + taken ≡ before + given
    → pos after ≡ pos before +ℤ change
longer after before taken given change is moves = omega (arith, ints)

pub change_is_made : ChangeIsMade
change_is_made classes names i change a is named has =
    onward-map (Moves a (length (takes (operation names i))) (gives (operation names i)))
    (λ after. pos (length after.operands) ≡ pos (length a.operands) +ℤ change)
    (effect classes (operation names i) a)
    (λ after moves. longer (length after.operands) (length a.operands)
    (length (takes (operation names i))) (gives (operation names i)) change
    (change_is_given_less_taken names i change is) moves)
    (takes_gives classes (operation names i) a (no_call names i change is) named has)

pub none_of_members : NoneOfMembers
none_of_members AconstNull = ((λ is. absurd (cc is)), (λ is. absurd (cc is)))
none_of_members (Getstatic n) = ((λ is. refl), (λ is. refl))
none_of_members (Putstatic n) = ((λ is. refl), (λ is. refl))
none_of_members (Getfield n) = ((λ is. refl), (λ is. refl))
none_of_members (Putfield n) = ((λ is. refl), (λ is. refl))
none_of_members (Invokevirtual n) = ((λ is. refl), (λ is. refl))
none_of_members (Invokespecial n) = ((λ is. refl), (λ is. refl))
none_of_members (Invokestatic n) = ((λ is. refl), (λ is. refl))
none_of_members _ = ((λ is. absurd (cc is)), (λ is. absurd (cc is)))

pub leaving_takes : LeavingTakes
leaving_takes names instr.Ireturn is = refl
leaving_takes names instr.Areturn is = refl
leaving_takes names instr.Return is = refl
leaving_takes names instr.Athrow is = refl
leaving_takes names _ is = absurd (cc is)
