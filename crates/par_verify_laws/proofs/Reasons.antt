-- No reason stands against an operation whose act fits.
use Rattle.std.proofs.Common.{◌≡◌, ℕ, ℤ, pos, ◌+ℤ◌, suc, ◌+◌, ◌-◌, ◌≤◌, Bool, true, false, not}
use Rattle.std.proofs.Common.{◌&&◌, ◌||◌, cond, List, [], ◌∷◌, ◌++◌, length, drop, replicate, Some}
use Rattle.std.proofs.Common.{None, Option, refl, sym, ap, subst, ◌∙◌, arith, is_none, is_some}
use Rattle.std.proofs.Common.{length-append, length-drop, codes}
use Rattle.std.proofs.lemmas.Bool.{le-ltb, lt-ltb}
use Rattle.std.proofs.lemmas.List.{length-map, length-replicate}
use Rattle.par_instr.specs.declared.instr.Instr.{Instr}
use Rattle.par_instr.specs.declared.instr.Instr.TheVariants as instr
use Rattle.par_class.specs.declared.file.CodeAttr.{CodeAttr}
use Rattle.par_class.specs.declared.file.ClassFile.{ClassFile}
use Rattle.par_values.specs.declared.value.MVal.{MVal}
use Rattle.par_values.specs.declared.kind.Kind.{Kind}
use Rattle.par_values.specs.declared.kind.Kind.TheVariants.{Number, Object, AnyObject, Anything}
use Rattle.par_values.specs.declared.link.Link.{Link}
use Rattle.par_values.specs.declared.link.Link.TheVariants as link
use Rattle.par_values.specs.declared.link.MethodLink.{MethodLink}
use Rattle.par_values.specs.declared.link.Target.{Target}
use Rattle.par_values.specs.declared.link.Target.TheVariants as target
use Rattle.par_values.specs.Areas.{Areas, Name, operand, local_at, fits, class_named}
use Rattle.par_values.specs.Operations.{Operation, Push, PushNull, Load, Store, Discard, Copy}
use Rattle.par_values.specs.Operations.{Combine, Negate, Increase, Jump, JumpIf, JumpIfBoth}
use Rattle.par_values.specs.Operations.{JumpIfSame, JumpIfNull, GetStatic, PutStatic, GetField}
use Rattle.par_values.specs.Operations.{PutField, InvokeStatic, InvokeSpecial, InvokeVirtual}
use Rattle.par_values.specs.Operations.{Create, Throw, Leave, LeaveWith, Misnamed, takes, gives}
use Rattle.par_values.specs.Operations.{operation, of_field, of_method, of_class, constant}
use Rattle.par_values.specs.Effects.{Effect, Goes, Happens, Calls, Throws, ThrowsObject, Returns}
use Rattle.par_values.specs.Effects.{ReturnsWith, effect}
use Rattle.par_values.specs.Effects as to
use Rattle.par_values.specs.Reasons.{Spot, reason, reasons, least_from, misnamed, disagrees, lacks}
use Rattle.par_values.specs.Reasons.{unfit, misgiven, exceeds, misplaced, falls, misreturns}
use Rattle.par_values.specs.Reasons.{misused, throws, unfit_result, holds, is_crowded}
use Rattle.std.specs.Str.{bytes_eq}
use Rattle.par_values.specs.declared.run.Event.{Event}
use Rattle.par_values.specs.declared.run.Event.TheVariants as event
use Rattle.par_kinds.specs.par_link.entry.Builtin.TheVariants as builtin
use Rattle.par_kinds.specs.par_link.entry.Named.{Named}
use Rattle.par_kinds.specs.par_link.entry.Named.TheVariants as named
use Rattle.par_kinds.specs.par_link.Linked.{named_at}
use Rattle.par_single.specs.Links.{kind_or_any}
use Rattle.par_single.specs.Walk.{stands_at}
use Rattle.par_kinds.specs.par_step_laws.Classes.{class_names, exceptions}
use Rattle.par_kinds.specs.par_step_laws.Methods.{method_code}
use Rattle.par_kinds.specs.par_step_laws.Links.{link_at}
use Rattle.par_kinds.specs.par_step_laws.Step.{is_misreceived, is_no_exception, called_on_object}
use Rattle.par_kinds.specs.par_step_laws.Step.{next_of}
use Rattle.par_kinds.specs.par_step_laws.Step.{without_locks}
use Rattle.par_kinds.specs.declared.frame.VKind.{VKind}
use Rattle.par_kinds.specs.declared.frame.VKind.TheVariants.{Top as ATop, Int as AnInt}
use Rattle.par_kinds.specs.declared.frame.VKind.TheVariants.{Null as ANull, Object as AnObject}
use Rattle.par_kinds.specs.Kinds.{KFrame, vkind, Each, Both, kind_at, accepts, Into}
use Rattle.par_kinds.specs.Acts.{Act, ActFits, Flow, Onward, Jumps, Branches, Nowhere, left_by}
use Rattle.par_kinds.specs.Acts.{next_offsets, AlsoFits}
use Rattle.par_kinds.specs.Fits.{FitsAt, GoesTo}
use Rattle.par_kinds.specs.Linked.{AllGiven, AllFit, acted, act_at, exception_names, results_of}
use Rattle.par_kinds.specs.Linked.{named_by, result_of, coded_at, first_frame, kinds_given, left}
use Rattle.par_kinds.specs.Linked.{flow_of, misgives, arguments_of, given_to, static_at, taken_by}
use Rattle.par_kinds.specs.Linked.{caught_kind, also_received}
use Rattle.par_verify_laws.specs.States.{Good, Holds, HeapFits}
use Rattle.par_verify_laws.specs.Right.{AreRight, LinkRight, TargetRight}
use Rattle.par_kinds.proofs.Lists.{both-length}
use Rattle.par_verify_laws.proofs.Values.{fits-accepted, thrown-throwable, exceptional-thrown}
use Rattle.par_verify_laws.proofs.Places.{operand-good, local-holds, all-fit, front-length}
use Rattle.par_verify_laws.proofs.Effects.{OpRight, EffectFits, Behind, Towards, neither, truly}
use Rattle.par_verify_laws.proofs.Effects.{OrderRight, static-order, own-order, effect-fits}

-- none of some reasons applies
none-of : (n : ℕ) (bs : List Bool) → Each (λ b. b ≡ false) bs → least_from n bs ≡ None
none-of n [] each = refl
none-of n (true ∷ bs) each = absurd (cc each.0)
none-of n (false ∷ bs) each = none-of (suc n) bs each.1

-- ---- what an instruction names is right

field-right : (files : List ClassFile) (l : Link) → LinkRight files l
    → OpRight files (of_field GetStatic (Misnamed [] 1) l)
    × OpRight files (of_field PutStatic (Misnamed (Anything ∷ []) 0) l)
    × OpRight files (of_field GetField (Misnamed (AnyObject ∷ []) 1) l)
    × OpRight files (of_field PutField (Misnamed (Anything ∷ AnyObject ∷ []) 0) l)
field-right files (link.Field f) known = (known, known, known, known)
field-right files l known = (tt, tt, tt, tt)

method-right : (files : List ClassFile) (l : Link) → LinkRight files l
    → OpRight files (of_method InvokeVirtual (Misnamed (Anything ∷ []) 0) l)
    × OpRight files (of_method InvokeSpecial (Misnamed (Anything ∷ []) 0) l)
    × OpRight files (of_method InvokeStatic (Misnamed [] 0) l)
method-right files (link.Method m) known = (known, known, known)
method-right files l known = (tt, tt, tt)

class-right : (files : List ClassFile) (l : Link) → LinkRight files l → OpRight files (of_class l)
class-right files (link.Class c) known = known
class-right files l known = tt

constant-right : (files : List ClassFile) (l : Link) → OpRight files (constant l)
constant-right files (link.Number n) = tt
constant-right files l = tt

module _ (files : List ClassFile) (right : AreRight files) (class : ℕ) where
  pub op-right : (i : Instr) → OpRight files (operation (link_at files class) i)
  unfolding accepts
  op-right (instr.Ldc n) = constant-right files (link_at files class n)
  op-right (instr.LdcW n) = constant-right files (link_at files class n)
  op-right (instr.Iload x) = refl
  op-right (instr.Aload x) = refl
  op-right (instr.IloadShort x) = refl
  op-right (instr.AloadShort x) = refl
  op-right (instr.Getstatic n) =
      (field-right files (link_at files class n) (right.links class n)).0
  op-right (instr.Putstatic n) =
      (field-right files (link_at files class n) (right.links class n)).1
  op-right (instr.Getfield n) =
      (field-right files (link_at files class n) (right.links class n)).2
  op-right (instr.Putfield n) =
      (field-right files (link_at files class n) (right.links class n)).3
  op-right (instr.Invokevirtual n) =
      (method-right files (link_at files class n) (right.links class n)).0
  op-right (instr.Invokespecial n) =
      (method-right files (link_at files class n) (right.links class n)).1
  op-right (instr.Invokestatic n) =
      (method-right files (link_at files class n) (right.links class n)).2
  op-right (instr.New n) = class-right files (link_at files class n) (right.links class n)
  op-right i = tt

  -- ---- the receiver of the initializer of all exceptions

  module _ (given : Option Kind) (a : Areas) (k : KFrame)
      (heap : HeapFits files a.statics a.objects)
      (operands : Both (Good files a.objects) k.stack a.operands) where
    received : (n : Named) → AlsoFits (exception_names files) (also_received n) k
        → is_no_exception (exceptions files) n (operand 0 a) ≡ false
    received (named.Initializer builtin.Exception) also =
        let good = operand-good files right a.objects k.stack a.operands 0 operands in
        let can = exceptional-thrown files right (kind_at k.stack 0) also in
        ap not (thrown-throwable files right (kind_at k.stack 0) (operand 0 a) a.objects heap.many
        can good.has good.live)
    received n also = refl

    virtual-received : (n : Named) (l : Link)
        → ActFits (exception_names files)
        (acted files given n (of_method InvokeVirtual (Misnamed (Anything ∷ []) 0) l)) k
        → is_no_exception (exceptions files) n (operand 0 a) ≡ false
    virtual-received n (link.Method m) fits = received n fits.also
    virtual-received n l fits = absurd (cc fits.right)

    special-received : (n : Named) (l : Link)
        → ActFits (exception_names files)
        (acted files given n (of_method InvokeSpecial (Misnamed (Anything ∷ []) 0) l)) k
        → is_no_exception (exceptions files) n (operand 0 a) ≡ false
    special-received n (link.Method m) fits = received n fits.also
    special-received n l fits = absurd (cc fits.right)

    pub not-misreceived : (i : Instr)
        → ActFits (exception_names files)
        (acted files given (named_by files class (called_on_object i))
        (operation (link_at files class) i)) k
        → is_misreceived files class (called_on_object i) a ≡ false
    not-misreceived (instr.Invokevirtual n) fits =
        virtual-received (named_at files class n) (link_at files class n) fits
    not-misreceived (instr.Invokespecial n) fits =
        special-received (named_at files class n) (link_at files class n) fits
    not-misreceived i fits = refl

-- ---- numbers of operands

results-many : (files : List ClassFile) (m : MethodLink) (t : Target) → TargetRight files m t
    → length (results_of files t) ≡ cond m.gives 1 0
results-many files m (target.Input class name) known = ap (λ b. cond b 1 0) (sym known)
results-many files m (target.Output class name) known = ap (λ b. cond b 1 0) (sym known)
results-many files m target.Nothing known = ap (λ b. cond b 1 0) (sym known)
results-many files m (target.Code class method locals) known =
    in_case (result_of files class method) ∙ ap (λ b. cond b 1 0) (sym known.gives)
  where
    in_case : (g : Option Kind) → length (kinds_given g) ≡ cond (is_some g) 1 0
    in_case None = refl
    in_case (Some kind) = refl

given-many : (ks : List VKind) (n many : ℕ) (k : KFrame) → length ks ≡ many
    → length (ks ++ drop n k.stack) ≡ length k.stack - n + many
given-many ks n many k same =
    let whole = length-append ks (drop n k.stack) in
    let rest = length-drop n k.stack in
    omega (arith, whole, rest, same)

module _ (files : List ClassFile) (k : KFrame) where
  -- so many operands are left
  stack-many : (o : Operation) → misnamed o ≡ false → OpRight files o
      → length (left_by (left files o) (length (takes o)) k).stack
      ≡ length k.stack - length (takes o) + gives o
  unfolding left_by
  stack-many (Push v) named known = given-many (AnInt ∷ []) 0 1 k refl
  stack-many PushNull named known = given-many (ANull ∷ []) 0 1 k refl
  stack-many (Load x kind) named known = given-many (kind_at k.locals x ∷ []) 0 1 k refl
  stack-many (Store x kind) named known = given-many [] 1 0 k refl
  stack-many Discard named known = given-many [] 1 0 k refl
  stack-many Copy named known = given-many (kind_at k.stack 0 ∷ kind_at k.stack 0 ∷ []) 1 2 k refl
  stack-many (Combine operator) named known = given-many (AnInt ∷ []) 2 1 k refl
  stack-many Negate named known = given-many (AnInt ∷ []) 1 1 k refl
  stack-many (GetStatic f) named known = given-many (vkind f.kind ∷ []) 0 1 k refl
  stack-many (GetField f) named known = given-many (vkind f.kind ∷ []) 1 1 k refl
  stack-many (InvokeStatic m) named known =
      given-many (results_of files m.target) (length (takes (InvokeStatic m))) _ k
      (results-many files m m.target known)
  stack-many (InvokeSpecial m) named known =
      given-many (results_of files m.target) (length (takes (InvokeSpecial m))) _ k
      (results-many files m m.target known)
  stack-many (InvokeVirtual m) named known =
      given-many (results_of files m.target) (length (takes (InvokeVirtual m))) _ k
      (results-many files m m.target known)
  stack-many (Create c) named known = given-many (AnObject c.name ∷ []) 0 1 k refl
  stack-many (Increase x by) named known = given-many [] 0 0 k refl
  stack-many (Jump d) named known = given-many [] 0 0 k refl
  stack-many (JumpIf t d) named known = given-many [] 1 0 k refl
  stack-many (JumpIfBoth t d) named known = given-many [] 2 0 k refl
  stack-many (JumpIfSame t d) named known = given-many [] 2 0 k refl
  stack-many (JumpIfNull t d) named known = given-many [] 1 0 k refl
  stack-many (PutStatic f) named known = given-many [] 1 0 k refl
  stack-many (PutField f) named known = given-many [] 2 0 k refl
  stack-many Throw named known = given-many [] 1 0 k refl
  stack-many Leave named known = given-many [] 0 0 k refl
  stack-many (LeaveWith kind) named known = given-many [] 1 0 k refl
  stack-many (Misnamed n j) named known = absurd (cc named)

nowhere-gives : (o : Operation) → flow_of o ≡ Nowhere → gives o ≡ 0
nowhere-gives Throw e = refl
nowhere-gives Leave e = refl
nowhere-gives (LeaveWith kind) e = refl
nowhere-gives (Jump d) e = absurd (cc e)
nowhere-gives (JumpIf t d) e = absurd (cc e)
nowhere-gives (JumpIfBoth t d) e = absurd (cc e)
nowhere-gives (JumpIfSame t d) e = absurd (cc e)
nowhere-gives (JumpIfNull t d) e = absurd (cc e)
nowhere-gives o e = absurd (cc e)

into-many : (exc : List Name) (ks ls : List VKind) → Both (Into exc) ks ls → length ks ≡ length ls
into-many exc ks ls both = both-length (Into exc) ks ls both

-- ---- the reasons

and-not : (b : Bool) → (b && false) ≡ false
and-not true = refl
and-not false = refl

nor : (b c : Bool) → b ≡ false → c ≡ false → (b || c) ≡ false
nor false c e d = d
nor true c e d = absurd (cc e)

nand : (b c : Bool) → b ≡ false → (b && c) ≡ false
nand false c e = refl
nand true c e = absurd (cc e)

unfit-result-not : (names : List Name) (kind r : Kind) (v : MVal) → fits names r v ≡ true
    → unfit_result names kind r v ≡ false
unfit-result-not names AnyObject (Object name) v fit = ap not fit
unfit-result-not names kind r v fit = refl

next-locked : (b : Bool) (e : Event) (after : Areas) (at size : ℕ)
    → next_of (cond b (Goes after) (Happens e after)) at size ≡ pos (at + size)
next-locked true e after at size = refl
next-locked false e after at size = refl

pub next-locks : (e : Effect) (at size : ℕ) → next_of (without_locks e) at size ≡ next_of e at size
next-locks (Goes after) at size = refl
next-locks (Happens (event.Set class name v) after) at size =
    next-locked (bytes_eq class (codes "paragon/Locks")) (event.Set class name v) after at size
next-locks (Happens e after) at size = refl
next-locks (to.Jumps d after) at size = refl
next-locks (Calls class method locals args after) at size = refl
next-locks (Throws name) at size = refl
next-locks (ThrowsObject v) at size = refl
next-locks Returns at size = refl
next-locks (ReturnsWith v) at size = refl

module _ (files : List ClassFile) (given : AllGiven) (right : AreRight files)
    (fit : AllFit files given) (class method at : ℕ) (coded : coded_at files class method ≡ true)
    (a : Areas) (k : KFrame) (has : given class method at ≡ Some k)
    (heap : HeapFits files a.statics a.objects)
    (locals : Both (Holds files a.objects) k.locals a.locals)
    (operands : Both (Good files a.objects) k.stack a.operands) where
  abbrev pub code : CodeAttr
  code = method_code files class method

  abbrev pub result : Option Kind
  result = result_of files class method

  abbrev pub Here : Type 0
  Here =
      FitsAt (exception_names files) (act_at files class method) (caught_kind files class) code
      (given class method) at k

  pub here : Here
  here = (fit class method coded).each at k has

  abbrev pub i : Instr
  i = here.does.instr

  abbrev pub act : Act
  act = act_at files class method i

  abbrev pub GoesOn : ℤ → Type 0
  GoesOn to =
      GoesTo (exception_names files) (act_at files class method) (caught_kind files class) code
      (given class method) (left_by act.leaves (length act.takes) k) to

  same-operands : length k.stack ≡ length a.operands
  same-operands = both-length (Good files a.objects) k.stack a.operands operands

  -- where it goes on an instruction stands, and there is room
  goes-stands : (to : ℤ) → GoesOn to → stands_at code.code to ≡ true
  goes-stands to g =
      subst (λ (z : ℤ). stands_at code.code z ≡ true) (sym g.is)
      ((fit class method coded).each g.at g.frame g.has).starts

  goes-room : (to : ℤ) → GoesOn to
      → length (left_by act.leaves (length act.takes) k).stack ≤ code.max_stack
  goes-room to g =
      let there = (fit class method coded).each g.at g.frame g.has in
      let same = into-many (exception_names files) (left_by act.leaves (length act.takes) k).stack
      g.frame.stack g.fits.stack in
      omega (arith, there.room, same)

  -- an operation behind which, or to which, the frame goes on
  pub goes-behind : (f : Flow) → Behind f → Each GoesOn (next_offsets f at here.does.size)
      → GoesOn (pos (at + here.does.size))
  goes-behind Onward b each = each.0
  goes-behind (Branches d) b each = each.0
  goes-behind (Jumps d) b each = absurd b
  goes-behind Nowhere b each = absurd b

  pub goes-to : (f : Flow) (d : ℤ) → Towards d f → Each GoesOn (next_offsets f at here.does.size)
      → GoesOn (pos at +ℤ d)
  goes-to (Jumps t) d b each = subst (λ (z : ℤ). GoesOn (pos at +ℤ z)) b each.0
  goes-to (Branches t) d b each = subst (λ (z : ℤ). GoesOn (pos at +ℤ z)) b each.1.0
  goes-to Onward d b each = absurd b
  goes-to Nowhere d b each = absurd b

  abbrev pub o : Operation
  o = operation (link_at files class) i

  known : OpRight files o
  known = op-right files right class i

  right-not : ((misnamed o || disagrees o) ≡ false) × (misgives result o ≡ false)
  right-not = neither (misnamed o || disagrees o) (misgives result o) here.fits.right

  misnamed-not : misnamed o ≡ false
  misnamed-not = (neither (misnamed o) (disagrees o) right-not.0).0

  disagrees-not : disagrees o ≡ false
  disagrees-not = (neither (misnamed o) (disagrees o) right-not.0).1

  lacks-not : lacks o a ≡ false
  lacks-not =
      le-ltb (length a.operands) (length (takes o))
      (omega (arith, front-length (takes o) k.stack here.fits.takes, same-operands))

  unfit-not : unfit (class_names files) o a ≡ false
  unfit-not =
      ap not (all-fit files right a.objects (takes o) k.stack a.operands here.fits.takes operands)

  room-left : (f : Flow) → flow_of o ≡ f → Each GoesOn (next_offsets f at here.does.size)
      → length k.stack - length (takes o) + gives o ≤ code.max_stack
  room-left Onward e each =
      omega (arith, goes-room _ each.0, stack-many files k o misnamed-not known)
  room-left (Jumps d) e each =
      omega (arith, goes-room _ each.0, stack-many files k o misnamed-not known)
  room-left (Branches d) e each =
      omega (arith, goes-room _ each.0, stack-many files k o misnamed-not known)
  room-left Nowhere e each = omega (arith, nowhere-gives o e, here.room)

  exceeds-not : exceeds code.max_stack o a ≡ false
  exceeds-not =
      le-ltb code.max_stack (length a.operands - length (takes o) + gives o)
      (subst (λ (n : ℕ). n - length (takes o) + gives o ≤ code.max_stack) same-operands
      (room-left (flow_of o) refl here.goes))

  abbrev pub spot_of : (stands lost roomless : Bool) → Spot
  spot_of stands lost roomless = record {
    room = code.max_stack;
    stands = stands;
    gives_nothing = is_none result;
    result = kind_or_any result;
    exceptions = exceptions files;
    is_lost = lost;
    is_roomless = roomless;
  }

  number-top : accepts Number ATop ≡ false
  unfolding accepts
  number-top = refl

  -- a result is of the method's kind
  misgiven-not : (p : Operation) (n : Named) (stands lost roomless : Bool)
      → ActFits (exception_names files) (acted files result n p) k
      → misgiven (class_names files) (spot_of stands lost roomless) p a ≡ false
  misgiven-not (LeaveWith kind) n stands lost roomless fine =
      let good = operand-good files right a.objects k.stack a.operands 0 operands in
      let fit : fits (class_names files) (kind_or_any result) (operand 0 a) ≡ true =
      fits-accepted files right (kind_or_any result) (kind_at k.stack 0) (operand 0 a) fine.also
      good.has in
      ap (λ b. not (is_none result) && b)
      (unfit-result-not (class_names files) kind (kind_or_any result) (operand 0 a) fit)
      ∙ and-not (not (is_none result))
  misgiven-not p n stands lost roomless fits = refl

  misreturns-not : (p : Operation) (stands lost roomless : Bool) → misgives result p ≡ false
      → misreturns (spot_of stands lost roomless) p ≡ false
  misreturns-not Leave stands lost roomless e = e
  misreturns-not (LeaveWith kind) stands lost roomless e = e
  misreturns-not p stands lost roomless e = refl

  misused-not : (p : Operation) (n : Named)
      → ActFits (exception_names files) (acted files result n p) k → misgives result p ≡ false
      → misused (exceptions files) p a ≡ false
  misused-not Throw n fits e =
      let good = operand-good files right a.objects k.stack a.operands 0 operands in
      ap not (thrown-throwable files right (kind_at k.stack 0) (operand 0 a) a.objects heap.many
      fits.also good.has good.live)
  misused-not (Create c) n fits e = e
  misused-not p n fits e = refl

  -- ---- locals

  held : (kind : Kind) (l : VKind) (v : Option MVal) → accepts kind ATop ≡ false
      → accepts kind l ≡ true → Holds files a.objects l v → holds (class_names files) kind v ≡ true
  held kind l (Some v) top fit h = fits-accepted files right kind l v fit h.has
  held kind ATop None top fit h =
      let both : false ≡ true = sym top ∙ fit in absurd (cc both)
  held kind l None top fit h = absurd h

  crowded-not : (t : Target) (order : List Kind) (n : ℕ) → n ≡ length order
      → OrderRight files right result a k heap locals operands order t → is_crowded t n ≡ false
  crowded-not (target.Input c name) order n is known = refl
  crowded-not (target.Output c name) order n is known = refl
  crowded-not target.Nothing order n is known = refl
  crowded-not (target.Code c p many) order n is known =
      let callee = fit c p known.0 in
      let first = callee.each 0 (first_frame files c p) callee.begins in
      let args = arguments_of files c p in
      let max = (method_code files c p).max_locals in
      let whole = length-append args (replicate (max - length args) ATop) in
      let rest : length (replicate (max - length args) ATop) ≡ max - length args =
      length-replicate (max - length args) ATop in
      let same : length args ≡ length order =
      length-map (given_to (static_at files c p) (class_named (class_names files) c)
      (taken_by files c p)) vkind
      ∙ ap length (sym known.2) in
      le-ltb many n (omega (arith, first.locals, whole, rest, same, known.1, is))

  misplaced-not : (p : Operation) (n : Named) → OpRight files p
      → ActFits (exception_names files) (acted files result n p) k → disagrees p ≡ false
      → misplaced (class_names files) p a ≡ false
  misplaced-not (Load x kind) n known fits e =
      ap not (held kind (kind_at k.locals x) (local_at x a) known fits.also
      (local-holds files right a.objects k.locals a.locals x locals))
  misplaced-not (Store x kind) n known fits e =
      let same = both-length (Holds files a.objects) k.locals a.locals locals in
      ap not (lt-ltb x (length a.locals) (omega (arith, fits.also, same)))
  misplaced-not (Increase x by) n known fits e =
      ap not (held Number (kind_at k.locals x) (local_at x a) number-top fits.also
      (local-holds files right a.objects k.locals a.locals x locals))
  misplaced-not (InvokeStatic m) n known fits e =
      crowded-not m.target m.takes (length m.takes) refl
      (static-order files right result a k heap locals operands m m.target (truly m.is_static e)
      known)
  misplaced-not (InvokeSpecial m) n known fits e =
      crowded-not m.target (m.receiver ∷ m.takes) (length m.takes + 1) (omega arith)
      (own-order files right result a k heap locals operands m m.target e known)
  misplaced-not (InvokeVirtual m) n known fits e =
      crowded-not m.target (m.receiver ∷ m.takes) (length m.takes + 1) (omega arith)
      (own-order files right result a k heap locals operands m m.target e known)
  misplaced-not p n known fits e = refl

  -- ---- where it goes on

  abbrev pub done : Effect
  done = effect (class_names files) o a

  pub done-fits : EffectFits files a.objects result act k done
  done-fits =
      effect-fits files right result a k heap locals operands o
      (named_by files class (called_on_object i)) known here.fits

  falls-not : (e : Effect) (lost : Bool) → EffectFits files a.objects result act k e
      → lost ≡ false
      → falls (stands_at code.code (next_of e at here.does.size)) lost e ≡ false
  falls-not (Goes after) lost fits kept =
      ap not (goes-stands _ (goes-behind act.flow fits.0 here.goes))
  falls-not (Happens e after) lost fits kept =
      ap not (goes-stands _ (goes-behind act.flow fits.0 here.goes))
  falls-not (to.Jumps d after) lost fits kept =
      ap not (goes-stands _ (goes-to act.flow d fits.0 here.goes))
  falls-not (Calls c p many args after) lost fits kept =
      ap not (goes-stands _ (goes-behind act.flow (subst Behind (sym fits.flow) tt) here.goes))
  falls-not (Throws name) lost fits kept = kept
  falls-not (ThrowsObject v) lost fits kept = kept
  falls-not Returns lost fits kept = refl
  falls-not (ReturnsWith v) lost fits kept = refl

  pub reason-none : (lost roomless : Bool) → lost ≡ false → roomless ≡ false
      → reason (class_names files)
      (spot_of (stands_at code.code (next_of (without_locks done) at here.does.size)) lost roomless)
      o a ≡ None
  unfolding reason
  reason-none lost roomless kept none =
      let n = named_by files class (called_on_object i) in
      let stands = stands_at code.code (next_of (without_locks done) at here.does.size) in
      none-of 1 (reasons (class_names files) (spot_of stands lost roomless) o a) (
        lacks-not,
        (
          nor (misgiven (class_names files) (spot_of stands lost roomless) o a)
              (unfit (class_names files) o a)
              (misgiven-not o n stands lost roomless here.fits) unfit-not,
          (
            nor (roomless && throws done) (exceeds code.max_stack o a)
                (nand roomless (throws done) none)
                exceeds-not,
            (
              misplaced-not o n known here.fits disagrees-not,
              (
                subst (λ (z : ℤ). falls (stands_at code.code z) lost done ≡ false)
                    (sym (next-locks done at here.does.size)) (falls-not done lost done-fits kept),
                (
                  misnamed-not,
                  (
                    disagrees-not,
                    (
                      misreturns-not o stands lost roomless right-not.1,
                      (
                        misused-not o n here.fits right-not.1,
                        tt,
                      ),
                    ),
                  ),
                ),
              ),
            ),
          ),
        ),
      )
