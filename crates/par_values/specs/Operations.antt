-- What an instruction is to do, with what its index names in place of the index.
use Rattle.std.specs.Prelude.{ℕ, ℤ, Bool, true, false, if◌then◌else◌, List, [], ◌∷◌, ◌++◌, reverse}
use Rattle.par_instr.specs.declared.instr.Instr.{Instr}
use Rattle.par_instr.specs.declared.instr.Instr.TheVariants.{AconstNull, Iconst, Bipush, Sipush}
use Rattle.par_instr.specs.declared.instr.Instr.TheVariants.{Ldc, LdcW, Iload, Aload, IloadShort}
use Rattle.par_instr.specs.declared.instr.Instr.TheVariants.{AloadShort, Istore, Astore}
use Rattle.par_instr.specs.declared.instr.Instr.TheVariants.{IstoreShort, AstoreShort, Pop, Dup}
use Rattle.par_instr.specs.declared.instr.Instr.TheVariants.{Iadd, Isub, Imul, Idiv, Irem, Ineg}
use Rattle.par_instr.specs.declared.instr.Instr.TheVariants.{Ishl, Ishr, Iushr, Iand, Ior, Ixor}
use Rattle.par_instr.specs.declared.instr.Instr.TheVariants.{Iinc, If, IfIcmp, IfAcmpeq, IfAcmpne}
use Rattle.par_instr.specs.declared.instr.Instr.TheVariants.{Ireturn, Areturn, Getstatic, Putstatic}
use Rattle.par_instr.specs.declared.instr.Instr.TheVariants.{Getfield, Putfield, Invokevirtual}
use Rattle.par_instr.specs.declared.instr.Instr.TheVariants.{Invokespecial, Invokestatic, New}
use Rattle.par_instr.specs.declared.instr.Instr.TheVariants.{Athrow, Ifnull, Ifnonnull}
use Rattle.par_instr.specs.declared.instr.Instr.TheVariants as instr
use Rattle.par_values.specs.declared.kind.Kind.{Kind}
use Rattle.par_values.specs.declared.kind.Kind.TheVariants.{Number, Object, AnyObject, Anything}
use Rattle.par_values.specs.declared.link.ClassLink.{ClassLink}
use Rattle.par_values.specs.declared.link.FieldLink.{FieldLink}
use Rattle.par_values.specs.declared.link.MethodLink.{MethodLink}
use Rattle.par_values.specs.declared.link.Link.{Link}
use Rattle.par_values.specs.declared.link.Link.TheVariants as link
use Rattle.par_values.specs.Arithmetic.{Operator, Plus, Minus, Times, Quotient, Remainder}
use Rattle.par_values.specs.Arithmetic.{ShiftLeft, ShiftRight, ShiftRightUnsigned, And, Or, Xor}

pub data Operation : Type 0 where
  -- pushes a number
  Push : ℤ → Operation
  PushNull : Operation
  -- pushes a local of this kind
  Load : ℕ → Kind → Operation
  -- pops a value of this kind into a local
  Store : ℕ → Kind → Operation
  -- pops a value
  Discard : Operation
  -- pushes the value that was pushed last once more
  Copy : Operation
  -- pops two numbers and pushes what the operator makes of them
  Combine : Operator → Operation
  -- pops a number and pushes its negative
  Negate : Operation
  -- adds a number to a local
  Increase : ℕ → ℤ → Operation
  -- goes on at this distance
  Jump : ℤ → Operation
  -- pops a number, and goes on at this distance where it compares so with 0
  JumpIf : (test : ℕ) → ℤ → Operation
  -- pops two numbers, and goes on there where they compare so
  JumpIfBoth : (test : ℕ) → ℤ → Operation
  -- pops two references, and goes on there where they are the same, or where they are not
  JumpIfSame : Bool → ℤ → Operation
  -- pops a reference, and goes on there where it is null, or where it is not
  JumpIfNull : Bool → ℤ → Operation
  GetStatic : FieldLink → Operation
  PutStatic : FieldLink → Operation
  GetField : FieldLink → Operation
  PutField : FieldLink → Operation
  InvokeStatic : MethodLink → Operation
  InvokeSpecial : MethodLink → Operation
  InvokeVirtual : MethodLink → Operation
  -- makes an object of a class
  Create : ClassLink → Operation
  -- throws an object
  Throw : Operation
  -- leaves a method without a result
  Leave : Operation
  -- leaves it with a result of this kind
  LeaveWith : Kind → Operation
  -- an index of a wrong kind; operands of these kinds are taken, and so many pushed, whatever the
  -- index names
  Misnamed : (takes : List Kind) → (gives : ℕ) → Operation

abbrev pub constant : Link → Operation
constant (link.Number v) = Push v
constant _ = Misnamed [] 1

-- the operation of a field instruction
abbrev pub of_field : (FieldLink → Operation) → Operation → Link → Operation
of_field form other (link.Field f) = form f
of_field form other _ = other

-- the operation of an invoke
abbrev pub of_method : (MethodLink → Operation) → Operation → Link → Operation
of_method form other (link.Method m) = form m
of_method form other _ = other

abbrev pub of_class : Link → Operation
of_class (link.Class c) = Create c
of_class _ = Misnamed [] 1

-- what an instruction is to do, where each index names what it does
abbrev pub operation : (ℕ → Link) → Instr → Operation
operation names AconstNull = PushNull
operation names (Iconst v) = Push v
operation names (Bipush v) = Push v
operation names (Sipush v) = Push v
operation names (Ldc n) = constant (names n)
operation names (LdcW n) = constant (names n)
operation names (Iload x) = Load x Number
operation names (Aload x) = Load x AnyObject
operation names (IloadShort x) = Load x Number
operation names (AloadShort x) = Load x AnyObject
operation names (Istore x) = Store x Number
operation names (Astore x) = Store x AnyObject
operation names (IstoreShort x) = Store x Number
operation names (AstoreShort x) = Store x AnyObject
operation names Pop = Discard
operation names Dup = Copy
operation names Iadd = Combine Plus
operation names Isub = Combine Minus
operation names Imul = Combine Times
operation names Idiv = Combine Quotient
operation names Irem = Combine Remainder
operation names Ineg = Negate
operation names Ishl = Combine ShiftLeft
operation names Ishr = Combine ShiftRight
operation names Iushr = Combine ShiftRightUnsigned
operation names Iand = Combine And
operation names Ior = Combine Or
operation names Ixor = Combine Xor
operation names (Iinc x by) = Increase x by
operation names (If test to) = JumpIf test to
operation names (IfIcmp test to) = JumpIfBoth test to
operation names (IfAcmpeq to) = JumpIfSame true to
operation names (IfAcmpne to) = JumpIfSame false to
operation names (instr.Goto to) = Jump to
operation names Ireturn = LeaveWith Number
operation names Areturn = LeaveWith AnyObject
operation names instr.Return = Leave
operation names (Getstatic n) = of_field GetStatic (Misnamed [] 1) (names n)
operation names (Putstatic n) = of_field PutStatic (Misnamed (Anything ∷ []) 0) (names n)
operation names (Getfield n) = of_field GetField (Misnamed (AnyObject ∷ []) 1) (names n)
operation names (Putfield n) = of_field PutField (Misnamed (Anything ∷ AnyObject ∷ []) 0) (names n)
operation names (Invokevirtual n) = of_method InvokeVirtual (Misnamed (Anything ∷ []) 0) (names n)
operation names (Invokespecial n) = of_method InvokeSpecial (Misnamed (Anything ∷ []) 0) (names n)
operation names (Invokestatic n) = of_method InvokeStatic (Misnamed [] 0) (names n)
operation names (New n) = of_class (names n)
operation names Athrow = Throw
operation names (Ifnull to) = JumpIfNull true to
operation names (Ifnonnull to) = JumpIfNull false to

-- the kinds of the operands that it takes, the last pushed first
abbrev pub takes : Operation → List Kind
takes (Push v) = []
takes PushNull = []
takes (Load x kind) = []
takes (Store x kind) = kind ∷ []
takes Discard = Anything ∷ []
takes Copy = Anything ∷ []
takes (Combine operator) = Number ∷ Number ∷ []
takes Negate = Number ∷ []
takes (Increase x by) = []
takes (Jump to) = []
takes (JumpIf test to) = Number ∷ []
takes (JumpIfBoth test to) = Number ∷ Number ∷ []
takes (JumpIfSame same to) = AnyObject ∷ AnyObject ∷ []
takes (JumpIfNull null to) = AnyObject ∷ []
takes (GetStatic f) = []
takes (PutStatic f) = f.kind ∷ []
takes (GetField f) = Object f.class ∷ []
takes (PutField f) = f.kind ∷ Object f.class ∷ []
takes (InvokeStatic m) = reverse m.takes
takes (InvokeSpecial m) = reverse m.takes ++ m.receiver ∷ []
takes (InvokeVirtual m) = reverse m.takes ++ m.receiver ∷ []
takes (Create c) = []
takes Throw = AnyObject ∷ []
takes Leave = []
takes (LeaveWith kind) = kind ∷ []
takes (Misnamed kinds n) = kinds

-- how many operands it pushes
abbrev pub gives : Operation → ℕ
gives (Push v) = 1
gives PushNull = 1
gives (Load x kind) = 1
gives (Store x kind) = 0
gives Discard = 0
gives Copy = 2
gives (Combine operator) = 1
gives Negate = 1
gives (Increase x by) = 0
gives (Jump to) = 0
gives (JumpIf test to) = 0
gives (JumpIfBoth test to) = 0
gives (JumpIfSame same to) = 0
gives (JumpIfNull null to) = 0
gives (GetStatic f) = 1
gives (PutStatic f) = 0
gives (GetField f) = 1
gives (PutField f) = 0
gives (InvokeStatic m) = if m.gives then 1 else 0
gives (InvokeSpecial m) = if m.gives then 1 else 0
gives (InvokeVirtual m) = if m.gives then 1 else 0
gives (Create c) = 1
gives Throw = 0
gives Leave = 0
gives (LeaveWith kind) = 0
gives (Misnamed kinds n) = n
