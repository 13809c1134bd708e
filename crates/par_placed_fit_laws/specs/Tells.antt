-- What the code of typed bodies relies on: what its items take and leave.
use Rattle.std.specs.Prelude.{◌≡◌, ℕ, ◌+◌, ◌<◌, ◌⊎◌, ℤ, pos, Bool, true, false, List, []}
use Rattle.std.specs.Prelude.{if◌then◌else◌}
use Rattle.std.specs.Prelude.{◌∷◌, ◌++◌, map, reverse, codes}
use Rattle.par_typed.specs.par_lexer.declared.operator.BinOp.{BinOp}
use Rattle.par_instr.specs.declared.instr.Instr.{Instr}
use Rattle.par_instr.specs.declared.instr.Instr.TheVariants.{AconstNull, AloadShort, Pop, Dup}
use Rattle.par_instr.specs.declared.instr.Instr.TheVariants.{Ineg, Athrow}
use Rattle.par_instr.specs.declared.instr.Instr.TheVariants as instr
use Rattle.par_typed.specs.declared.ty.Ty.{Ty}
use Rattle.par_typed.specs.declared.ty.Ty.TheVariants as ty
use Rattle.par_values.specs.declared.kind.Kind.{Kind}
use Rattle.par_values.specs.declared.kind.Kind.TheVariants as kind
use Rattle.par_values.specs.Areas.{Name}
use Rattle.par_values.specs.Arithmetic.{Operator}
use Rattle.par_code_form.specs.declared.item.Item.{Item}
use Rattle.par_code_form.specs.declared.item.Item.TheVariants.{Op, Const, Jump, Member}
use Rattle.par_code_form.specs.declared.item.Item.TheVariants.{ClassOp, LockOp}
use Rattle.par_code_form.specs.Opcodes.{IFEQ, IF_ICMPEQ, GOTO}
use Rattle.par_code_form.specs.Opcodes.{GETSTATIC, PUTSTATIC, GETFIELD, PUTFIELD, NEW}
use Rattle.par_code_form.specs.Opcodes.{INVOKEVIRTUAL, INVOKESTATIC}
use Rattle.par_code_form.specs.Code.{Words, is_number, is_void, load, store, give_back, initializer}
use Rattle.par_code_form.specs.Code.{Calculates, Decides, shape, same_opcode}
use Rattle.par_compile_laws.specs.par_kinds.declared.frame.VKind.{VKind}
use Rattle.par_compile_laws.specs.par_kinds.declared.frame.VKind.TheVariants.{Int as AnInt}
use Rattle.par_compile_laws.specs.par_kinds.declared.frame.VKind.TheVariants.{Null as ANull}
use Rattle.par_compile_laws.specs.par_kinds.declared.frame.VKind.TheVariants.{Object as AnObject}
use Rattle.par_compile_laws.specs.par_kinds.Kinds.{is_in}
use Rattle.par_compile_laws.specs.par_kinds.Acts.{Act, Also, Leaves, Flow, Gives, Loads, Copies}
use Rattle.par_compile_laws.specs.par_kinds.Acts.{Stores, Throwable}
use Rattle.par_compile_laws.specs.par_kinds.Acts.{Result, Local, InRange, Onward, Jumps, Branches}
use Rattle.par_compile_laws.specs.par_kinds.Acts.{Nowhere}
use Rattle.par_compile_laws.specs.par_kinds.Acts as also
use Rattle.par_evaluation_laws.specs.Laid.{Layout, Meth, HasMethod, HasStatic, HasOwn, IsMade}
use Rattle.par_evaluation_laws.specs.Laid.{IsThrown}
use Rattle.par_evaluation_laws.specs.par_program_laws.Types.{IsValue}
use Rattle.par_evaluation_laws.specs.Laid.{IsInput, IsOutput, IsLock, kind_of}
use Rattle.par_placed_fit_laws.specs.Signs as signs

abbrev pub acting : List Kind → Also → Leaves → Flow → Act
acting takes asks leaves flow =
    record { wrong = false; takes = takes; also = asks; leaves = leaves; flow = flow }

-- takes these, leaves those and goes on
abbrev pub giving : List Kind → List VKind → Act
giving takes gives = acting takes also.Nothing (Gives gives) Onward

-- the kind that an instruction asks of a value of a type
abbrev pub asked : Ty → Kind
asked t = if is_number t then kind.Number else kind.AnyObject

-- what a result of a type leaves
abbrev pub results : Words → Ty → List VKind
results w t = if is_void t then [] else signs.kind w t ∷ []

-- of a method that gives that, where the exceptions have these names
pub record Tells (exc : List Name) (act : Item → Act) (w : Words) (lay : Layout) (result : Ty)
    : Type 0 where
  pub const : (v : ℤ) → act (Const v) ≡ giving [] (AnInt ∷ [])
  pub null : act (Op AconstNull) ≡ giving [] (ANull ∷ [])
  pub this : act (Op (AloadShort 0)) ≡ acting [] (Local 0 kind.AnyObject) (Loads 0) Onward
  pub load_ : (t : Ty) (x : ℕ) → act (load t x) ≡ acting [] (Local x (asked t)) (Loads x) Onward
  pub store_ : (t : Ty) (x : ℕ)
      → act (store t x) ≡ acting (asked t ∷ []) (InRange x) (Stores x) Onward
  pub pop : act (Op Pop) ≡ giving (kind.Anything ∷ []) []
  pub dup : act (Op Dup) ≡ acting (kind.Anything ∷ []) also.Nothing Copies Onward
  pub neg : act (Op Ineg) ≡ giving (kind.Number ∷ []) (AnInt ∷ [])
  pub calculate : (op : BinOp) (numbers : Bool) (o : Operator) (i : Instr)
      → shape op numbers ≡ Calculates o i
      → act (Op i) ≡ giving (kind.Number ∷ kind.Number ∷ []) (AnInt ∷ [])
  pub throws : act (Op Athrow)
      ≡ acting (kind.AnyObject ∷ []) Throwable (Gives []) Nowhere
  pub goes : (l : ℕ) → act (Jump GOTO l) ≡ acting [] also.Nothing (Gives []) (Jumps (pos 0))
  pub ifeq : (l : ℕ)
      → act (Jump IFEQ l) ≡ acting (kind.Number ∷ []) also.Nothing (Gives []) (Branches (pos 0))
  pub decides : (op : BinOp) (numbers : Bool) (o l : ℕ) → shape op numbers ≡ Decides o
      → act (Jump o l) ≡ acting (kind.Number ∷ []) also.Nothing (Gives []) (Branches (pos 0))
  pub compares : (t l : ℕ) → t < 6
      → act (Jump (IF_ICMPEQ + t) l)
      ≡ acting (kind.Number ∷ kind.Number ∷ []) also.Nothing (Gives []) (Branches (pos 0))
  pub sames : (b : Bool) (l : ℕ)
      → act (Jump (same_opcode b) l)
      ≡ acting (kind.AnyObject ∷ kind.AnyObject ∷ []) also.Nothing (Gives []) (Branches (pos 0))
  -- returns
  pub leave : result ≡ ty.Void
      → act (Op instr.Return) ≡ acting [] also.Nothing (Gives []) Nowhere
  pub leave_with : (t : Ty) → (result ≡ ty.Void → ⊥) → is_number t ≡ is_number result
      → act (give_back t)
      ≡ acting (asked t ∷ []) (Result (kind_of w result)) (Gives []) Nowhere
  -- members
  pub made : (c : ℕ) → IsMade lay c ⊎ IsThrown lay c
      → act (ClassOp NEW (w.class c)) ≡ giving [] (AnObject (w.class c) ∷ [])
  pub init : (c : ℕ) → IsMade lay c ⊎ IsThrown lay c
      → act (initializer (w.class c)) ≡ giving (kind.Object (w.class c) ∷ []) []
  pub static_read : (c f : ℕ) (u : Ty) → HasStatic lay c f u
      → act (Member GETSTATIC (w.class c) (w.field c f) (w.field_type c f))
      ≡ giving [] (signs.kind w u ∷ [])
  pub static_written : (c f : ℕ) (u : Ty) → HasStatic lay c f u
      → act (Member PUTSTATIC (w.class c) (w.field c f) (w.field_type c f))
      ≡ giving (kind_of w u ∷ []) []
  pub own_read : (c f : ℕ) (u : Ty) → HasOwn lay c f u
      → act (Member GETFIELD (w.class c) (w.field c f) (w.field_type c f))
      ≡ giving (kind.Object (w.class c) ∷ []) (signs.kind w u ∷ [])
  pub own_written : (c f : ℕ) (u : Ty) → HasOwn lay c f u
      → act (Member PUTFIELD (w.class c) (w.field c f) (w.field_type c f))
      ≡ giving (kind_of w u ∷ kind.Object (w.class c) ∷ []) []
  pub input : (c k : ℕ) → IsInput lay c k
      → act (Member INVOKESTATIC (w.class c) (w.channel c k) (codes "()I"))
      ≡ giving [] (AnInt ∷ [])
  pub output : (c k : ℕ) → IsOutput lay c k
      → act (Member INVOKESTATIC (w.class c) (w.channel c k) (codes "(I)V"))
      ≡ giving (kind.Number ∷ []) []
  pub static_call : (c i : ℕ) (me : Meth) → HasMethod lay c i me → me.static ≡ true
      → act (Member INVOKESTATIC (w.class c) (w.method c i) (w.method_type c i))
      ≡ giving (reverse (map (kind_of w) me.takes)) (results w me.result)
  pub own_call : (c i : ℕ) (me : Meth) → HasMethod lay c i me → me.static ≡ false
      → act (Member INVOKEVIRTUAL (w.class c) (w.method c i) (w.method_type c i))
      ≡ giving (reverse (map (kind_of w) me.takes) ++ kind.Object (w.class c) ∷ [])
      (results w me.result)
  pub lock_read : (l : ℕ) → IsLock lay l
      → act (LockOp GETSTATIC l) ≡ giving [] (AnInt ∷ [])
  pub lock_written : (l : ℕ) → IsLock lay l
      → act (LockOp PUTSTATIC l) ≡ giving (kind.Number ∷ []) []
  pub thrown : (c : ℕ) → IsThrown lay c → is_in exc (w.class c) ≡ true
  -- what members hold
  pub static_declared : (c f : ℕ) (u : Ty) → HasStatic lay c f u → IsValue u
  pub own_declared : (c f : ℕ) (u : Ty) → HasOwn lay c f u → IsValue u
