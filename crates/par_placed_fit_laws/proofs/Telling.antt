-- Items take and leave what typed code relies on.
use Rattle.std.proofs.Common.{◌≡◌, ℕ, zero, suc, ◌+◌, ◌<◌, ◌||◌, Bool, true, false, not}
use Rattle.std.proofs.Common.{Option, Some, None, List, [], ◌∷◌, ◌++◌, map, reverse, refl, sym, ap}
use Rattle.std.proofs.Common.{subst, ◌∙◌, arith, codes, inl, inr}
use Rattle.std.specs.Prelude.{pos, ◌==◌, nat_le, ◌⊎◌, if◌then◌else◌}
use Rattle.std.specs.List.{list_any}
use Rattle.std.specs.Str.{bytes_eq}
use Rattle.std.proofs.lemmas.Bool.{eqb-true}
use Rattle.std.proofs.lemmas.Slice.Eq.{bytes_eq-Decides}
use Rattle.par_typed.specs.par_lexer.declared.operator.BinOp.{BinOp}
use Rattle.par_typed.specs.par_lexer.declared.operator.BinOp.TheVariants as bin
use Rattle.par_instr.specs.declared.instr.Instr.{Instr}
use Rattle.par_instr.specs.declared.instr.Instr.TheVariants.{Iload, Aload, IloadShort, AloadShort}
use Rattle.par_instr.specs.declared.instr.Instr.TheVariants.{Istore, Astore, IstoreShort}
use Rattle.par_instr.specs.declared.instr.Instr.TheVariants.{AstoreShort, Iadd, Isub, Imul, Idiv}
use Rattle.par_instr.specs.declared.instr.Instr.TheVariants.{Irem, Ishl, Ishr, Iushr, Iand, Ior}
use Rattle.par_instr.specs.declared.instr.Instr.TheVariants.{Ixor, Ireturn, Areturn}
use Rattle.par_instr.specs.declared.instr.Instr.TheVariants as instr
use Rattle.par_typed.specs.declared.ty.Ty.{Ty}
use Rattle.par_typed.specs.declared.ty.Ty.TheVariants as ty
use Rattle.par_typed.specs.declared.table.Table.{Table}
use Rattle.par_class.specs.declared.file.ClassFile.{ClassFile}
use Rattle.par_values.specs.declared.kind.Kind.{Kind}
use Rattle.par_values.specs.declared.kind.Kind.TheVariants as kind
use Rattle.par_values.specs.declared.link.Link.{Link}
use Rattle.par_values.specs.Areas.{Name}
use Rattle.par_values.specs.Areas as areas
use Rattle.par_values.specs.Arithmetic.{Operator}
use Rattle.par_values.specs.Operations.{GetStatic, PutStatic, GetField, PutField}
use Rattle.par_values.specs.Operations.{InvokeStatic, InvokeSpecial, InvokeVirtual, Misnamed}
use Rattle.par_values.specs.Operations.{of_field, of_method, of_class, Leave}
use Rattle.par_link.specs.entry.Builtin.TheVariants as builtin
use Rattle.par_link.specs.entry.Named.{Named}
use Rattle.par_link.specs.entry.Named.TheVariants as named
use Rattle.par_link.specs.Named.{method_declared}
use Rattle.par_kinds.specs.par_step_laws.Classes.{class_names, exceptions}
use Rattle.par_evaluation_laws.specs.par_match_laws.Files.{is_of_exceptions}
use Rattle.par_code_form.specs.declared.item.Item.{Item}
use Rattle.par_code_form.specs.declared.item.Item.TheVariants.{Op, Jump, Member, ClassOp, LockOp}
use Rattle.par_code_form.specs.Opcodes.{IF_ICMPEQ, GETSTATIC, PUTSTATIC, GETFIELD, PUTFIELD, NEW}
use Rattle.par_code_form.specs.Opcodes.{INVOKEVIRTUAL, INVOKESTATIC}
use Rattle.par_code_form.specs.Code.{Words, Calculates, Compares, Sames, Decides, shape}
use Rattle.par_code_form.specs.Code.{same_opcode}
use Rattle.par_code_form.specs.Code.{is_number, initializer}
use Rattle.par_evaluation_laws.specs.par_match_laws.Naming.{naming_of, member}
use Rattle.par_evaluation_laws.specs.Laid.{Layout, Meth, HasMethod, HasStatic}
use Rattle.par_evaluation_laws.specs.Laid.{HasOwn}
use Rattle.par_evaluation_laws.specs.Laid.{IsMade, IsThrown}
use Rattle.par_evaluation_laws.specs.Laid.{IsInput, IsOutput, IsLock, kind_of}
use Rattle.par_evaluation_laws.specs.Agreement.{Lays, init_target}
use Rattle.par_evaluation_laws.specs.Programs.{given_kind}
use Rattle.par_kinds.specs.declared.frame.VKind.{VKind}
use Rattle.par_kinds.specs.declared.frame.VKind.TheVariants.{Int as AnInt}
use Rattle.par_kinds.specs.declared.frame.VKind.TheVariants.{Object as AnObject}
use Rattle.par_kinds.specs.Kinds.{is_in, vkind}
use Rattle.par_kinds.specs.Acts.{Act, Also, Gives, Loads, Stores, Result, Local}
use Rattle.par_kinds.specs.Acts.{InRange, Onward}
use Rattle.par_kinds.specs.Acts.{Branches, Nowhere}
use Rattle.par_kinds.specs.Acts as also
use Rattle.par_kinds.specs.Linked.{acted, also_received, kinds_given, result_of}
use Rattle.par_kinds.specs.Linked.{results_of}
use Rattle.par_kinds.specs.Linked.{exception_names}
use Rattle.par_placed_fit_laws.specs.Signs as signs
use Rattle.par_placed_fit_laws.specs.Tells.{acting, giving, results}
use Rattle.par_evaluation_laws.specs.par_program_laws.Types.{IsValue}
use Rattle.par_placed_fit_laws.specs.Acts.{item_act}
use Rattle.par_placed_fit_laws.specs.ItemLaws.{AreDescribed, NamedItemsTell}

-- ---- kinds

declared_kind : (w : Words) (t : Ty) → IsValue t → vkind (kind_of w t) ≡ signs.kind w t
declared_kind w ty.Int h = refl
declared_kind w ty.Boolean h = refl
declared_kind w (ty.Class c) h = refl
declared_kind w ty.Null h = absurd h
declared_kind w ty.Void h = absurd h

result_kinds : (w : Words) (t : Ty) → (t ≡ ty.Null → ⊥)
    → kinds_given (given_kind w t) ≡ results w t
result_kinds w ty.Int h = refl
result_kinds w ty.Boolean h = refl
result_kinds w (ty.Class c) h = refl
result_kinds w ty.Null h = absurd (h refl)
result_kinds w ty.Void h = refl

-- an initializer of any but all exceptions takes any object
plainly : (n : Named) → is_of_exceptions n ≡ false → also_received n ≡ also.Nothing
plainly (named.Class c) h = refl
plainly (named.Builtin b) h = refl
plainly (named.Field d) h = refl
plainly (named.Method d) h = refl
plainly (named.Lock n) h = refl
plainly (named.Initializer builtin.Object) h = refl
plainly (named.Initializer builtin.Exception) h = absurd (cc h)
plainly (named.Initializer builtin.ArithmeticException) h = refl
plainly (named.Initializer builtin.NullPointerException) h = refl
plainly (named.Initializer builtin.Locks) h = refl
plainly named.Nothing h = refl

module _ (files : List ClassFile) (gives : Option Kind) where
  abbrev act : Item → Act
  act = item_act files gives

  -- ---- locals

  loads : (b c : Bool) (x : ℕ)
      → act (if b then (if c then Op (IloadShort x) else Op (Iload x))
      else (if c then Op (AloadShort x) else Op (Aload x)))
      ≡ acting [] (Local x (if b then kind.Number else kind.AnyObject)) (Loads x) Onward
  loads true true x = refl
  loads true false x = refl
  loads false true x = refl
  loads false false x = refl

  stores : (b c : Bool) (x : ℕ)
      → act (if b then (if c then Op (IstoreShort x) else Op (Istore x))
      else (if c then Op (AstoreShort x) else Op (Astore x)))
      ≡ acting ((if b then kind.Number else kind.AnyObject) ∷ []) (InRange x) (Stores x) Onward
  stores true true x = refl
  stores true false x = refl
  stores false true x = refl
  stores false false x = refl

  -- ---- operators

  abbrev IsBinary : Instr → Type 0
  IsBinary i = act (Op i) ≡ giving (kind.Number ∷ kind.Number ∷ []) (AnInt ∷ [])

  same_instr : (o p : Operator) (i j : Instr) → Calculates o i ≡ Calculates p j → i ≡ j
  same_instr o p i j e = cc e

  binary : (o p : Operator) (i j : Instr) → Calculates o i ≡ Calculates p j → IsBinary i
      → IsBinary j
  binary o p i j e h = subst IsBinary (same_instr o p i j e) h

  equal : (numbers : Bool) (n : ℕ) (b : Bool) (o : Operator) (i : Instr)
      → (if numbers then Compares n
      else Sames b) ≡ Calculates o i → ⊥
  equal true n b o i e = cc e
  equal false n b o i e = cc e

  calculates : (op : BinOp) (numbers : Bool) (o : Operator) (i : Instr)
      → shape op numbers ≡ Calculates o i → IsBinary i
  calculates bin.Or numbers o i e = absurd (cc e)
  calculates bin.And numbers o i e = absurd (cc e)
  calculates bin.BitOr numbers o i e = binary _ o Ior i e refl
  calculates bin.BitXor numbers o i e = binary _ o Ixor i e refl
  calculates bin.BitAnd numbers o i e = binary _ o Iand i e refl
  calculates bin.Eq numbers o i e = absurd (equal numbers 0 true o i e)
  calculates bin.Ne numbers o i e = absurd (equal numbers 1 false o i e)
  calculates bin.Lt numbers o i e = absurd (cc e)
  calculates bin.Le numbers o i e = absurd (cc e)
  calculates bin.Gt numbers o i e = absurd (cc e)
  calculates bin.Ge numbers o i e = absurd (cc e)
  calculates bin.Shl numbers o i e = binary _ o Ishl i e refl
  calculates bin.Shr numbers o i e = binary _ o Ishr i e refl
  calculates bin.Ushr numbers o i e = binary _ o Iushr i e refl
  calculates bin.Add numbers o i e = binary _ o Iadd i e refl
  calculates bin.Sub numbers o i e = binary _ o Isub i e refl
  calculates bin.Mul numbers o i e = binary _ o Imul i e refl
  calculates bin.Div numbers o i e = binary _ o Idiv i e refl
  calculates bin.Rem numbers o i e = binary _ o Irem i e refl

  abbrev IsTest : ℕ → ℕ → Type 0
  IsTest l o =
      act (Jump o l)
      ≡ acting (kind.Number ∷ []) also.Nothing (Gives []) (Branches (pos 0))

  same_opcode_ : (n o : ℕ) → Decides n ≡ Decides o → n ≡ o
  same_opcode_ n o e = cc e

  no_decision : (numbers : Bool) (n : ℕ) (b : Bool) (o : ℕ)
      → (if numbers then Compares n
      else Sames b) ≡ Decides o → ⊥
  no_decision true n b o e = cc e
  no_decision false n b o e = cc e

  decides : (op : BinOp) (numbers : Bool) (o l : ℕ) → shape op numbers ≡ Decides o → IsTest l o
  decides bin.Or numbers o l e = subst (IsTest l) (same_opcode_ 154 o e) refl
  decides bin.And numbers o l e = subst (IsTest l) (same_opcode_ 153 o e) refl
  decides bin.BitOr numbers o l e = absurd (cc e)
  decides bin.BitXor numbers o l e = absurd (cc e)
  decides bin.BitAnd numbers o l e = absurd (cc e)
  decides bin.Eq numbers o l e = absurd (no_decision numbers 0 true o e)
  decides bin.Ne numbers o l e = absurd (no_decision numbers 1 false o e)
  decides bin.Lt numbers o l e = absurd (cc e)
  decides bin.Le numbers o l e = absurd (cc e)
  decides bin.Gt numbers o l e = absurd (cc e)
  decides bin.Ge numbers o l e = absurd (cc e)
  decides bin.Shl numbers o l e = absurd (cc e)
  decides bin.Shr numbers o l e = absurd (cc e)
  decides bin.Ushr numbers o l e = absurd (cc e)
  decides bin.Add numbers o l e = absurd (cc e)
  decides bin.Sub numbers o l e = absurd (cc e)
  decides bin.Mul numbers o l e = absurd (cc e)
  decides bin.Div numbers o l e = absurd (cc e)
  decides bin.Rem numbers o l e = absurd (cc e)

  compares : (t l : ℕ) → t < 6
      → act (Jump (IF_ICMPEQ + t) l)
      ≡ acting (kind.Number ∷ kind.Number ∷ []) also.Nothing (Gives []) (Branches (pos 0))
  compares zero l h = refl
  compares (suc zero) l h = refl
  compares (suc (suc zero)) l h = refl
  compares (suc (suc (suc zero))) l h = refl
  compares (suc (suc (suc (suc zero)))) l h = refl
  compares (suc (suc (suc (suc (suc zero))))) l h = refl
  compares (suc (suc (suc (suc (suc (suc t)))))) l h = absurd (omega (arith, h))

  sames : (b : Bool) (l : ℕ)
      → act (Jump (same_opcode b) l)
      ≡ acting (kind.AnyObject ∷ kind.AnyObject ∷ []) also.Nothing (Gives []) (Branches (pos 0))
  sames true l = refl
  sames false l = refl

-- ---- returns

-- with nothing
leaves : (files : List ClassFile) (gives : Option Kind) → gives ≡ None
    → item_act files gives (Op instr.Return) ≡ acting [] also.Nothing (Gives []) Nowhere
leaves files gives none = ap (λ (g : Option Kind). acted files g named.Nothing Leave) none

leaves_with : (files : List ClassFile) (w : Words) (r : Ty) → (r ≡ ty.Void → ⊥)
    → item_act files (given_kind w r) (if is_number r then Op Ireturn else Op Areturn)
    ≡ acting ((if is_number r then kind.Number else kind.AnyObject) ∷ []) (Result (kind_of w r))
    (Gives []) Nowhere
leaves_with files w ty.Int h = refl
leaves_with files w ty.Boolean h = refl
leaves_with files w (ty.Class c) h = refl
leaves_with files w ty.Null h = refl
leaves_with files w ty.Void h = absurd (h refl)

-- ---- names

-- a number among others has its name among theirs
among : (names : ℕ → Name) (n : ℕ) (name : Name) → names n ≡ name → (xs : List ℕ)
    → list_any (λ d. d == n) xs ≡ true → list_any (bytes_eq name) (map names xs) ≡ true
among names n name is [] h = absurd (cc h)
among names n name is (x ∷ xs) h = in_case (x == n) refl h (among names n name is xs)
  where
    in_case : (b : Bool) → (x == n) ≡ b → (b || list_any (λ d. d == n) xs) ≡ true
        → (list_any (λ d. d == n) xs ≡ true → list_any (bytes_eq name) (map names xs) ≡ true)
        → (bytes_eq name (names x) || list_any (bytes_eq name) (map names xs)) ≡ true
    in_case true same e later =
        let here : name ≡ names x = sym is ∙ ap names (sym (eqb-true x n same)) in
        ap (λ (b : Bool). b || list_any (bytes_eq name) (map names xs))
        ((bytes_eq-Decides name (names x)).1 here)
    in_case false same e later =
        either (bytes_eq name (names x)) (list_any (bytes_eq name) (map names xs)) (later e)
      where
        either : (a b : Bool) → b ≡ true → (a || b) ≡ true
        either true b h = refl
        either false b h = h

module _ (files : List ClassFile) (w : Words) (lay : Layout) (table : Table)
    (lays : Lays (naming_of files) w lay table) (held : AreDescribed files w lay)
    (gives : Option Kind) where
  -- a new object
  made : (c : ℕ) → IsMade lay c ⊎ IsThrown lay c
      → item_act files gives (ClassOp NEW (w.class c)) ≡ giving [] (AnObject (w.class c) ∷ [])
  made c (inl h) =
      ap (λ (l : Link). acted files gives named.Nothing (of_class l)) (lays.made_link c h).1
  made c (inr h) =
      ap (λ (l : Link). acted files gives named.Nothing (of_class l)) (lays.thrown_link c h)

  nothing_left : (c : ℕ) → IsMade lay c ⊎ IsThrown lay c → (o : Option ℕ) → lay.init_at c ≡ o
      → results_of files (init_target (lay.number c) o) ≡ []
  nothing_left c h None is = refl
  nothing_left c h (Some at) is = ap kinds_given (held.nothing c at h is)

  init : (c : ℕ) → IsMade lay c ⊎ IsThrown lay c
      → item_act files gives (initializer (w.class c))
      ≡ giving (kind.Object (w.class c) ∷ []) []
  init c h =
      let method = method_declared files (member (w.class c) (codes "<init>") (codes "()V")) in
      ap (λ (l : Link). acted files gives method
      (of_method InvokeSpecial (Misnamed (kind.Anything ∷ []) 0) l)) (lays.init_link c h)
      ∙ ap (λ (a : Also). acting (kind.Object (w.class c) ∷ []) a
      (Gives (results_of files (init_target (lay.number c) (lay.init_at c)))) Onward)
      (plainly method (lays.init_plain c h))
      ∙ ap (λ (ks : List VKind). giving (kind.Object (w.class c) ∷ []) ks)
      (nothing_left c h (lay.init_at c) refl)

  -- ---- fields

  static_read : (c f : ℕ) (u : Ty) → HasStatic lay c f u
      → item_act files gives (Member GETSTATIC (w.class c) (w.field c f) (w.field_type c f))
      ≡ giving [] (signs.kind w u ∷ [])
  static_read c f u h =
      ap (λ (l : Link). acted files gives named.Nothing (of_field GetStatic (Misnamed [] 1) l))
      (lays.static_link c f u h)
      ∙ ap (λ (k : VKind). giving [] (k ∷ [])) (declared_kind w u (held.static_declared c f u h))

  static_written : (c f : ℕ) (u : Ty) → HasStatic lay c f u
      → item_act files gives (Member PUTSTATIC (w.class c) (w.field c f) (w.field_type c f))
      ≡ giving (kind_of w u ∷ []) []
  static_written c f u h =
      ap (λ (l : Link). acted files gives named.Nothing
      (of_field PutStatic (Misnamed (kind.Anything ∷ []) 0) l)) (lays.static_link c f u h)

  own_read : (c f : ℕ) (u : Ty) → HasOwn lay c f u
      → item_act files gives (Member GETFIELD (w.class c) (w.field c f) (w.field_type c f))
      ≡ giving (kind.Object (w.class c) ∷ []) (signs.kind w u ∷ [])
  own_read c f u h =
      ap (λ (l : Link). acted files gives named.Nothing
      (of_field GetField (Misnamed (kind.AnyObject ∷ []) 1) l)) (lays.own_link c f u h)
      ∙ ap (λ (k : VKind). giving (kind.Object (w.class c) ∷ []) (k ∷ []))
      (declared_kind w u (held.own_declared c f u h))

  own_written : (c f : ℕ) (u : Ty) → HasOwn lay c f u
      → item_act files gives (Member PUTFIELD (w.class c) (w.field c f) (w.field_type c f))
      ≡ giving (kind_of w u ∷ kind.Object (w.class c) ∷ []) []
  own_written c f u h =
      ap (λ (l : Link). acted files gives named.Nothing
      (of_field PutField (Misnamed (kind.Anything ∷ kind.AnyObject ∷ []) 0) l))
      (lays.own_link c f u h)

  -- ---- channels and locks

  input : (c k : ℕ) → IsInput lay c k
      → item_act files gives (Member INVOKESTATIC (w.class c) (w.channel c k) (codes "()I"))
      ≡ giving [] (AnInt ∷ [])
  input c k h =
      ap (λ (l : Link). acted files gives named.Nothing
      (of_method InvokeStatic (Misnamed [] 0) l)) (lays.in_link c k h)

  output : (c k : ℕ) → IsOutput lay c k
      → item_act files gives (Member INVOKESTATIC (w.class c) (w.channel c k) (codes "(I)V"))
      ≡ giving (kind.Number ∷ []) []
  output c k h =
      ap (λ (l : Link). acted files gives named.Nothing
      (of_method InvokeStatic (Misnamed [] 0) l)) (lays.out_link c k h)

  lock_read : (l : ℕ) → IsLock lay l
      → item_act files gives (LockOp GETSTATIC l) ≡ giving [] (AnInt ∷ [])
  lock_read l h =
      ap (λ (k : Link). acted files gives named.Nothing (of_field GetStatic (Misnamed [] 1) k))
      (lays.lock_link l h).1

  lock_written : (l : ℕ) → IsLock lay l
      → item_act files gives (LockOp PUTSTATIC l) ≡ giving (kind.Number ∷ []) []
  lock_written l h =
      ap (λ (k : Link). acted files gives named.Nothing
      (of_field PutStatic (Misnamed (kind.Anything ∷ []) 0) k)) (lays.lock_link l h).1

  -- ---- methods

  -- what a method leaves
  left_by_call : (c i : ℕ) (me : Meth) → HasMethod lay c i me
      → kinds_given (result_of files (lay.number c) (lay.method_at c i)) ≡ results w me.result
  left_by_call c i me h =
      ap kinds_given (held.given c i me h) ∙ result_kinds w me.result (held.result c i me h)

  -- a call of a static method or another one, as its link says
  abbrev called_with : Bool → Also → List Kind → List VKind → Act
  called_with wrong asks takes leaves = record {
    wrong = false || wrong || false;
    takes = takes;
    also = asks;
    leaves = Gives leaves;
    flow = Onward;
  }

  static_call : (c i : ℕ) (me : Meth) → HasMethod lay c i me → me.static ≡ true
      → item_act files gives
      (Member INVOKESTATIC (w.class c) (w.method c i) (w.method_type c i))
      ≡ giving (reverse (map (kind_of w) me.takes)) (results w me.result)
  static_call c i me h is =
      let takes = reverse (map (kind_of w) me.takes) in
      ap (λ (l : Link). acted files gives named.Nothing
      (of_method InvokeStatic (Misnamed [] 0) l)) (lays.method_link c i me h)
      ∙ ap (λ (b : Bool). called_with (not b) also.Nothing takes
      (kinds_given (result_of files (lay.number c) (lay.method_at c i)))) is
      ∙ ap (λ (ks : List VKind). giving takes ks) (left_by_call c i me h)

  own_call : (c i : ℕ) (me : Meth) → HasMethod lay c i me → me.static ≡ false
      → item_act files gives
      (Member INVOKEVIRTUAL (w.class c) (w.method c i) (w.method_type c i))
      ≡ giving (reverse (map (kind_of w) me.takes) ++ kind.Object (w.class c) ∷ [])
      (results w me.result)
  own_call c i me h is =
      let takes = reverse (map (kind_of w) me.takes) ++ kind.Object (w.class c) ∷ [] in
      let method = method_declared files (member (w.class c) (w.method c i) (w.method_type c i)) in
      let leaves_ = kinds_given (result_of files (lay.number c) (lay.method_at c i)) in
      ap (λ (l : Link). acted files gives method
      (of_method InvokeVirtual (Misnamed (kind.Anything ∷ []) 0) l)) (lays.method_link c i me h)
      ∙ ap (λ (b : Bool). called_with b (also_received method) takes leaves_) is
      ∙ ap (λ (a : Also). called_with false a takes leaves_)
      (plainly method (lays.method_plain c i me h))
      ∙ ap (λ (ks : List VKind). giving takes ks) (left_by_call c i me h)

  thrown : (c : ℕ) → IsThrown lay c → is_in (exception_names files) (w.class c) ≡ true
  thrown c h =
      among (areas.class_named (class_names files)) (lay.number c) (w.class c)
      (lays.thrown_named c h) (exceptions files) (lays.thrown_is c 0 h)

pub named_items_tell : NamedItemsTell
named_items_tell files w lay table lays held result =
    let gives = given_kind w result in
    record {
      const = λ v. refl;
      null = refl;
      this = refl;
      load_ = λ t x. loads files gives (is_number t) (nat_le x 3) x;
      store_ = λ t x. stores files gives (is_number t) (nat_le x 3) x;
      pop = refl;
      dup = refl;
      neg = refl;
      calculate = calculates files gives;
      throws = refl;
      goes = λ l. refl;
      ifeq = λ l. refl;
      decides = decides files gives;
      compares = compares files gives;
      sames = sames files gives;
      leave = λ is. leaves files gives (ap (given_kind w) is);
      leave_with = λ t some same.
          ap (λ (b : Bool). item_act files gives (if b then Op Ireturn else Op Areturn)) same
          ∙ leaves_with files w result some
          ∙ ap (λ (b : Bool). acting ((if b then kind.Number else kind.AnyObject) ∷ [])
          (Result (kind_of w result)) (Gives []) Nowhere) (sym same);
      made = made files w lay table lays held gives;
      init = init files w lay table lays held gives;
      static_read = static_read files w lay table lays held gives;
      static_written = static_written files w lay table lays held gives;
      own_read = own_read files w lay table lays held gives;
      own_written = own_written files w lay table lays held gives;
      input = input files w lay table lays held gives;
      output = output files w lay table lays held gives;
      static_call = static_call files w lay table lays held gives;
      own_call = own_call files w lay table lays held gives;
      lock_read = lock_read files w lay table lays held gives;
      lock_written = lock_written files w lay table lays held gives;
      thrown = thrown files w lay table lays held gives;
      static_declared = held.static_declared;
      own_declared = held.own_declared;
    }
