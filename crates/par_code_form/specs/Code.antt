-- The labelled code of typed bodies. Each code is followed by what is given as the last argument;
-- where nothing goes on there is no code.
use Rattle.std.specs.Prelude.{ℕ, ◌+◌, nat_le, pos, Bool, true, false}
use Rattle.std.specs.Prelude.{if◌then◌else◌, List, [], ◌∷◌}
use Rattle.std.specs.Prelude.{codes}
use Rattle.par_completes.specs.par_lexer.declared.operator.BinOp.{BinOp}
use Rattle.par_completes.specs.par_lexer.declared.operator.BinOp.TheVariants as bin
use Rattle.par_values.specs.par_instr.declared.instr.Instr.{Instr}
use Rattle.par_values.specs.par_instr.declared.instr.Instr.TheVariants.{AconstNull, Iload, Aload}
use Rattle.par_values.specs.par_instr.declared.instr.Instr.TheVariants.{IloadShort}
use Rattle.par_values.specs.par_instr.declared.instr.Instr.TheVariants.{AloadShort, Istore, Astore}
use Rattle.par_values.specs.par_instr.declared.instr.Instr.TheVariants.{Pop, Dup}
use Rattle.par_values.specs.par_instr.declared.instr.Instr.TheVariants.{IstoreShort, AstoreShort}
use Rattle.par_values.specs.par_instr.declared.instr.Instr.TheVariants.{Iadd, Isub}
use Rattle.par_values.specs.par_instr.declared.instr.Instr.TheVariants.{Imul, Idiv, Irem, Ineg}
use Rattle.par_values.specs.par_instr.declared.instr.Instr.TheVariants.{Ishl, Ishr}
use Rattle.par_values.specs.par_instr.declared.instr.Instr.TheVariants.{Iushr, Iand, Ior, Ixor}
use Rattle.par_values.specs.par_instr.declared.instr.Instr.TheVariants.{Ireturn}
use Rattle.par_values.specs.par_instr.declared.instr.Instr.TheVariants.{Areturn, Athrow}
use Rattle.par_values.specs.par_instr.declared.instr.Instr.TheVariants as instr
use Rattle.par_completes.specs.par_typed.declared.ty.Ty.{Ty}
use Rattle.par_completes.specs.par_typed.declared.ty.Ty.TheVariants as ty
use Rattle.par_completes.specs.par_typed.Plain.{mark, TExp, Int, Boolean, Null, This, New, Local}
use Rattle.par_completes.specs.par_typed.Plain.{Static}
use Rattle.par_completes.specs.par_typed.Plain.{Field, Input, Output, Call, Neg, Not, Binary}
use Rattle.par_completes.specs.par_typed.Plain.{MayTExp, Absent, Present, TExps, NoExps, More}
use Rattle.par_completes.specs.par_typed.Plain.{TSta, Block, If, While, Try, Return, Break}
use Rattle.par_completes.specs.par_typed.Plain.{Continue, Throw, Open}
use Rattle.par_completes.specs.par_typed.Plain.{Close, SetLocal, SetStatic, SetField, Eval, When}
use Rattle.par_completes.specs.par_typed.Plain.{MayTSta, NoElse, Otherwise, TStas, End, Then}
use Rattle.par_completes.specs.par_typed.Plain.{TCatches, NoCatch}
use Rattle.par_completes.specs.par_typed.Plain.{Catch}
use Rattle.par_values.specs.Areas.{Name}
use Rattle.par_values.specs.Arithmetic.{Operator}
use Rattle.par_values.specs.Arithmetic as arithmetic
use Rattle.par_code_form.specs.Items.{Item, Label, Op, Const, Jump, Member, ClassOp, LockOp}
use Rattle.par_code_form.specs.Items.{Handler}
use Rattle.par_code_form.specs.Opcodes.{IFEQ, IFNE, IF_ICMPEQ, IF_ACMPEQ, IF_ACMPNE, GOTO}
use Rattle.par_code_form.specs.Opcodes.{GETSTATIC, PUTSTATIC, GETFIELD, PUTFIELD, NEW}
use Rattle.par_code_form.specs.Opcodes.{INVOKEVIRTUAL, INVOKESPECIAL, INVOKESTATIC}
use Rattle.par_completes.specs.Typed.{completes, is_true}

-- what numbers are called in class files
pub record Words : Type 0 where
  pub class : ℕ → Name
  pub field : ℕ → ℕ → Name
  pub field_type : ℕ → ℕ → Name
  pub channel : ℕ → ℕ → Name
  pub method : ℕ → ℕ → Name
  pub method_type : ℕ → ℕ → Name

-- whether a value of a type is a number of a machine
abbrev pub is_number : Ty → Bool
is_number ty.Int = true
is_number ty.Boolean = true
is_number (ty.Class c) = false
is_number ty.Null = false
is_number ty.Void = false

abbrev pub is_void : Ty → Bool
is_void ty.Int = false
is_void ty.Boolean = false
is_void (ty.Class c) = false
is_void ty.Null = false
is_void ty.Void = true

abbrev pub load : Ty → ℕ → Item
load t x =
    if is_number t then (if nat_le x 3 then Op (IloadShort x) else Op (Iload x))
    else (if nat_le x 3 then Op (AloadShort x) else Op (Aload x))

abbrev pub store : Ty → ℕ → Item
store t x =
    if is_number t then (if nat_le x 3 then Op (IstoreShort x) else Op (Istore x))
    else (if nat_le x 3 then Op (AstoreShort x) else Op (Astore x))

-- how an operator is made
pub data Shape : Type 0 where
  Calculates : Operator → Instr → Shape
  -- the test of two numbers, and whether two references are to be the same
  Compares : ℕ → Shape
  Sames : Bool → Shape
  -- the opcode of the branch that passes the second part by
  Decides : ℕ → Shape

abbrev pub shape : BinOp → Bool → Shape
shape bin.Or numbers = Decides IFNE
shape bin.And numbers = Decides IFEQ
shape bin.BitOr numbers = Calculates arithmetic.Or Ior
shape bin.BitXor numbers = Calculates arithmetic.Xor Ixor
shape bin.BitAnd numbers = Calculates arithmetic.And Iand
shape bin.Eq numbers = if numbers then Compares 0 else Sames true
shape bin.Ne numbers = if numbers then Compares 1 else Sames false
shape bin.Lt numbers = Compares 2
shape bin.Le numbers = Compares 5
shape bin.Gt numbers = Compares 4
shape bin.Ge numbers = Compares 3
shape bin.Shl numbers = Calculates arithmetic.ShiftLeft Ishl
shape bin.Shr numbers = Calculates arithmetic.ShiftRight Ishr
shape bin.Ushr numbers = Calculates arithmetic.ShiftRightUnsigned Iushr
shape bin.Add numbers = Calculates arithmetic.Plus Iadd
shape bin.Sub numbers = Calculates arithmetic.Minus Isub
shape bin.Mul numbers = Calculates arithmetic.Times Imul
shape bin.Div numbers = Calculates arithmetic.Quotient Idiv
shape bin.Rem numbers = Calculates arithmetic.Remainder Irem

abbrev pub shape_of : BinOp → TExp → Shape
shape_of op a = shape op (is_number (mark a).ty)

abbrev pub shape_labels : Shape → ℕ
shape_labels (Calculates o i) = 0
shape_labels (Compares t) = 2
shape_labels (Sames b) = 2
shape_labels (Decides o) = 1

-- 1 where a branch is taken, else 0
abbrev pub test_code : ℕ → ℕ → List Item → List Item
test_code opcode n k =
    Jump opcode n ∷ Const (pos 0) ∷ Jump GOTO (n + 1) ∷ Label n ∷ Const (pos 1) ∷ Label (n + 1) ∷ k

abbrev pub same_opcode : Bool → ℕ
same_opcode true = IF_ACMPEQ
same_opcode false = IF_ACMPNE

-- what makes a value of two
abbrev pub shape_code : Shape → ℕ → List Item → List Item
shape_code (Calculates o i) n k = Op i ∷ k
shape_code (Compares t) n k = test_code (IF_ICMPEQ + t) n k
shape_code (Sames b) n k = test_code (same_opcode b) n k
shape_code (Decides o) n k = Label n ∷ k

-- what stands between the two parts
abbrev pub between : Shape → ℕ → List Item → List Item
between (Calculates o i) n k = k
between (Compares t) n k = k
between (Sames b) n k = k
between (Decides o) n k = Op Dup ∷ Jump o n ∷ Op Pop ∷ k

-- the labels that an expression uses, from n on
unfoldable mutual
  pub expr_labels : TExp → ℕ → ℕ
  expr_labels (Int v m) n = n
  expr_labels (Boolean b m) n = n
  expr_labels (Null m) n = n
  expr_labels (This m) n = n
  expr_labels (New c m) n = n
  expr_labels (Local x m) n = n
  expr_labels (Static c f m) n = n
  expr_labels (Field e c f m) n = expr_labels e n
  expr_labels (Input c k m) n = n
  expr_labels (Output c k e m) n = expr_labels e n
  expr_labels (Call c k o es m) n = args_labels es (may_labels o n)
  expr_labels (Neg e m) n = expr_labels e n
  expr_labels (Not e m) n = expr_labels e (n + 2)
  expr_labels (Binary op a b m) n =
      expr_labels b (expr_labels a (n + shape_labels (shape_of op a)))

  pub may_labels : MayTExp → ℕ → ℕ
  may_labels Absent n = n
  may_labels (Present e) n = expr_labels e n

  pub args_labels : TExps → ℕ → ℕ
  args_labels NoExps n = n
  args_labels (More e es) n = args_labels es (expr_labels e n)

abbrev pub invoke : MayTExp → ℕ
invoke Absent = INVOKESTATIC
invoke (Present e) = INVOKEVIRTUAL

-- the initializers of classes
abbrev pub initializer : Name → Item
initializer class = Member INVOKESPECIAL class (codes "<init>") (codes "()V")

-- a new object of a class, whose initializer has run
abbrev pub made : Name → List Item → List Item
made class k = ClassOp NEW class ∷ Op Dup ∷ initializer class ∷ k

module _ (w : Words) where
  unfoldable mutual
    pub expr_code : TExp → ℕ → List Item → List Item
    expr_code (Int v m) n k = Const v ∷ k
    expr_code (Boolean true m) n k = Const (pos 1) ∷ k
    expr_code (Boolean false m) n k = Const (pos 0) ∷ k
    expr_code (Null m) n k = Op AconstNull ∷ k
    expr_code (This m) n k = Op (AloadShort 0) ∷ k
    expr_code (New c m) n k = made (w.class c) k
    expr_code (Local x m) n k = load m.ty x ∷ k
    expr_code (Static c f m) n k =
        Member GETSTATIC (w.class c) (w.field c f) (w.field_type c f) ∷ k
    expr_code (Field e c f m) n k =
        expr_code e n (Member GETFIELD (w.class c) (w.field c f) (w.field_type c f) ∷ k)
    expr_code (Input c i m) n k =
        Member INVOKESTATIC (w.class c) (w.channel c i) (codes "()I") ∷ k
    expr_code (Output c i e m) n k =
        expr_code e n (Member INVOKESTATIC (w.class c) (w.channel c i) (codes "(I)V") ∷ k)
    expr_code (Call c i o es m) n k =
        may_code o n (args_code es (may_labels o n)
        (Member (invoke o) (w.class c) (w.method c i) (w.method_type c i) ∷ k))
    expr_code (Neg e m) n k = expr_code e n (Op Ineg ∷ k)
    expr_code (Not e m) n k = expr_code e (n + 2) (test_code IFEQ n k)
    expr_code (Binary op a b m) n k =
        let s = shape_of op a in
        let l = n + shape_labels s in
        expr_code a l (between s n (expr_code b (expr_labels a l) (shape_code s n k)))

    pub may_code : MayTExp → ℕ → List Item → List Item
    may_code Absent n k = k
    may_code (Present e) n k = expr_code e n k

    pub args_code : TExps → ℕ → List Item → List Item
    args_code NoExps n k = k
    args_code (More e es) n k = expr_code e n (args_code es (expr_labels e n) k)

-- the labels that a statement uses, from n on
unfoldable mutual
  pub labels : TSta → ℕ → ℕ
  labels (Block ss at p) n = all_labels ss n
  labels (If e s o at p) n = else_labels o (labels s (expr_labels e (n + 2)))
  labels (While e s at p) n = labels s (expr_labels e (n + 2))
  labels (Try s cs at p) n = catch_labels cs (labels s (n + 3))
  labels (Return o at p) n = may_labels o n
  labels (Break at p) n = n
  labels (Continue at p) n = n
  labels (Throw c at p) n = n
  labels (Open l at p) n = n
  labels (Close l at p) n = n
  labels (SetLocal x q e at p) n = expr_labels e n
  labels (SetStatic c f e at p) n = expr_labels e n
  labels (SetField o c f e at p) n = expr_labels e (expr_labels o n)
  labels (Eval e at p) n = expr_labels e n
  labels (When l s o at p) n = else_labels o (labels s (n + 2))

  pub else_labels : MayTSta → ℕ → ℕ
  else_labels NoElse n = n
  else_labels (Otherwise s) n = labels s n

  pub all_labels : TStas → ℕ → ℕ
  all_labels End n = n
  all_labels (Then s ss) n = all_labels ss (labels s n)

  -- a label for each catch and those inside
  pub catch_labels : TCatches → ℕ → ℕ
  catch_labels NoCatch n = n
  catch_labels (Catch c s cs) n = catch_labels cs (labels s (n + 1))

-- where break and continue go
pub record Loop : Type 0 where
  pub out : ℕ
  pub again : ℕ

abbrev pub give_back : Ty → Item
give_back t = if is_number t then Op Ireturn else Op Areturn

abbrev pub dropped : Ty → List Item → List Item
dropped t k = if is_void t then k else Op Pop ∷ k

-- a jump where control comes to it
abbrev pub goes_on : Bool → ℕ → List Item → List Item
goes_on true l k = Jump GOTO l ∷ k
goes_on false l k = k

module _ (w : Words) where
  -- the test of a loop, which leaves it for the label; none where it is the literal `true`
  abbrev pub loop_test : Bool → TExp → ℕ → ℕ → List Item → List Item
  loop_test true e n out k = k
  loop_test false e n out k = expr_code w e n (Jump IFEQ out ∷ k)

  unfoldable mutual
    pub code : TSta → Loop → ℕ → List Item → List Item
    code (Block ss at p) l n k = all_code ss l n k
    code (If e s o at p) l n k =
        let i = expr_labels e (n + 2) in
        expr_code w e (n + 2) (Jump IFEQ n ∷ code s l i (goes_on (completes s) (n + 1) (Label n
        ∷ else_code o l (labels s i) (Label (n + 1) ∷ k))))
    code (While e s at p) l n k =
        Label n ∷ loop_test (is_true e) e (n + 2) (n + 1)
        (code s (record { out = n + 1; again = n }) (expr_labels e (n + 2))
        (goes_on (completes s) n (Label (n + 1) ∷ k)))
    code (Try s cs at p) l n k =
        Label n ∷ code s l (n + 3) (goes_on (completes s) (n + 2) (Label (n + 1)
        ∷ catch_code cs l (n + 2) (labels s (n + 3)) (Label (n + 2) ∷ k)))
    code (Return Absent at p) l n k = Op instr.Return ∷ k
    code (Return (Present e) at p) l n k = expr_code w e n (give_back (mark e).ty ∷ k)
    code (Break at p) l n k = Jump GOTO l.out ∷ k
    code (Continue at p) l n k = Jump GOTO l.again ∷ k
    code (Throw c at p) l n k = made (w.class c) (Op Athrow ∷ k)
    code (Open i at p) l n k = Const (pos 1) ∷ LockOp PUTSTATIC i ∷ k
    code (Close i at p) l n k = Const (pos 0) ∷ LockOp PUTSTATIC i ∷ k
    code (SetLocal x q e at p) l n k = expr_code w e n (store (mark e).ty x ∷ k)
    code (SetStatic c f e at p) l n k =
        expr_code w e n (Member PUTSTATIC (w.class c) (w.field c f) (w.field_type c f) ∷ k)
    code (SetField o c f e at p) l n k =
        expr_code w o n (expr_code w e (expr_labels o n)
        (Member PUTFIELD (w.class c) (w.field c f) (w.field_type c f) ∷ k))
    code (Eval e at p) l n k = expr_code w e n (dropped (mark e).ty k)
    code (When i s o at p) l n k =
        LockOp GETSTATIC i ∷ Jump IFEQ n ∷ code s l (n + 2) (goes_on (completes s) (n + 1) (Label n
        ∷ else_code o l (labels s (n + 2)) (Label (n + 1) ∷ k)))

    pub else_code : MayTSta → Loop → ℕ → List Item → List Item
    else_code NoElse l n k = k
    else_code (Otherwise s) l n k = code s l n k

    pub all_code : TStas → Loop → ℕ → List Item → List Item
    all_code End l n k = k
    all_code (Then s ss) l n k = code s l n (all_code ss l (labels s n) k)

    -- each catch begins at its label, throws the exception away, and goes to the end
    pub catch_code : TCatches → Loop → ℕ → ℕ → List Item → List Item
    catch_code NoCatch l end n k = k
    catch_code (Catch c s cs) l end n k =
        Label n ∷ Op Pop ∷ code s l (n + 1) (goes_on (completes s) end
        (catch_code cs l end (labels s (n + 1)) k))

  -- handlers of inner ones first
  unfoldable mutual
    pub handlers : TSta → ℕ → List Handler → List Handler
    handlers (Block ss at p) n k = all_handlers ss n k
    handlers (If e s o at p) n k =
        handlers s (expr_labels e (n + 2))
        (else_handlers o (labels s (expr_labels e (n + 2))) k)
    handlers (While e s at p) n k = handlers s (expr_labels e (n + 2)) k
    handlers (Try s cs at p) n k =
        handlers s (n + 3) (catch_handlers cs n (labels s (n + 3)) k)
    handlers (Return o at p) n k = k
    handlers (Break at p) n k = k
    handlers (Continue at p) n k = k
    handlers (Throw c at p) n k = k
    handlers (Open l at p) n k = k
    handlers (Close l at p) n k = k
    handlers (SetLocal x q e at p) n k = k
    handlers (SetStatic c f e at p) n k = k
    handlers (SetField o c f e at p) n k = k
    handlers (Eval e at p) n k = k
    handlers (When l s o at p) n k = handlers s (n + 2) (else_handlers o (labels s (n + 2)) k)

    pub else_handlers : MayTSta → ℕ → List Handler → List Handler
    else_handlers NoElse n k = k
    else_handlers (Otherwise s) n k = handlers s n k

    pub all_handlers : TStas → ℕ → List Handler → List Handler
    all_handlers End n k = k
    all_handlers (Then s ss) n k = handlers s n (all_handlers ss (labels s n) k)

    -- of a try that begins at this label, whose block and the jump behind it end before the next
    pub catch_handlers : TCatches → ℕ → ℕ → List Handler → List Handler
    catch_handlers NoCatch from n k = k
    catch_handlers (Catch c s cs) from n k =
        record { from = from; to = from + 1; goes = n; class = w.class c }
        ∷ handlers s (n + 1) (catch_handlers cs from (labels s (n + 1)) k)

-- behind a body that control can leave at its end
abbrev pub ending : Bool → List Item
ending true = Op instr.Return ∷ []
ending false = []

-- outside of loops
abbrev pub no_loop : Loop
no_loop = record { out = 0; again = 0 }

-- the items of a body, and its handlers
abbrev pub body_code : Words → TSta → List Item
body_code w s = code w s no_loop 0 (ending (completes s))

abbrev pub body_handlers : Words → TSta → List Handler
body_handlers w s = handlers w s 0 []

-- the code of an initializer, which calls that of the class above
abbrev pub initializer_code : Name → List Item
initializer_code above = Op (AloadShort 0) ∷ initializer above ∷ Op instr.Return ∷ []
