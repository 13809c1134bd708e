-- The code of a body names what the program has.
use Rattle.std.proofs.Common.{◌≡◌, ℕ, ◌+◌, Bool, true, false, cond, nat_le, List, [], ◌∷◌, Option}
use Rattle.std.proofs.Common.{Some, None, slice_get, refl, sym, ap}
use Rattle.std.specs.List.{AllByRecursion}
use Rattle.par_typed.specs.declared.ty.Ty.{Ty}
use Rattle.par_typed.specs.declared.table.ChannelInfo.{ChannelInfo}
use Rattle.par_typed.specs.declared.table.ClassInfo.{ClassInfo}
use Rattle.par_typed.specs.declared.table.FieldInfo.{FieldInfo}
use Rattle.par_typed.specs.declared.table.MethodInfo.{MethodInfo}
use Rattle.par_typed.specs.declared.table.Table.{Table}
use Rattle.par_typed.specs.Plain.{mark, TExp, Int, Boolean, Null, This, New, Local, Static, Field}
use Rattle.par_typed.specs.Plain.{Input, Output, Call, Neg, Not, Binary}
use Rattle.par_typed.specs.Plain.{MayTExp, Absent, Present, TExps, NoExps, More}
use Rattle.par_typed.specs.Plain.{TSta, Block, If, While, Try, Return, Break, Continue, Throw, Open}
use Rattle.par_typed.specs.Plain.{Close, SetLocal, SetStatic, SetField, Eval, When}
use Rattle.par_typed.specs.Plain.{MayTSta, NoElse, Otherwise, TStas, End, Then, TCatches, NoCatch}
use Rattle.par_typed.specs.Plain.{Catch}
use Rattle.par_completes.specs.Typed.{completes, is_true}
use Rattle.par_typed.specs.Members.{IsClass, fields_in, channels_in, methods_in}
use Rattle.par_instr.specs.declared.instr.Instr.TheVariants.{IloadShort, Iload, AloadShort, Aload}
use Rattle.par_instr.specs.declared.instr.Instr.TheVariants.{IstoreShort, Istore, AstoreShort}
use Rattle.par_instr.specs.declared.instr.Instr.TheVariants.{Astore, Ireturn, Areturn}
use Rattle.par_instr.specs.declared.instr.Instr.TheVariants as instr
use Rattle.par_compile_laws.specs.par_code_form.declared.item.Item.{Item}
use Rattle.par_compile_laws.specs.par_code_form.declared.item.Item.TheVariants.{Label, Op, Jump}
use Rattle.par_compile_laws.specs.par_code_form.declared.item.Item.TheVariants.{Member}
use Rattle.par_compile_laws.specs.par_code_form.declared.labelled.Handler.{Handler}
use Rattle.par_compile_laws.specs.par_code_form.Code.{Words, is_number, is_void, load, store}
use Rattle.par_compile_laws.specs.par_code_form.Code.{Shape}
use Rattle.par_compile_laws.specs.par_code_form.Code.{Calculates}
use Rattle.par_compile_laws.specs.par_code_form.Code.{Compares, Sames, Decides, shape_of}
use Rattle.par_compile_laws.specs.par_code_form.Code.{shape_labels}
use Rattle.par_compile_laws.specs.par_code_form.Code.{shape_code}
use Rattle.par_compile_laws.specs.par_code_form.Code.{between, expr_labels, may_labels, invoke}
use Rattle.par_compile_laws.specs.par_code_form.Code.{made}
use Rattle.par_compile_laws.specs.par_code_form.Code.{expr_code, may_code, args_code, labels}
use Rattle.par_compile_laws.specs.par_code_form.Code.{Loop, give_back, dropped, goes_on}
use Rattle.par_compile_laws.specs.par_code_form.Code.{loop_test, code, else_code, all_code}
use Rattle.par_compile_laws.specs.par_code_form.Code.{catch_code}
use Rattle.par_compile_laws.specs.par_code_form.Code.{handlers}
use Rattle.par_compile_laws.specs.par_code_form.Code.{else_handlers, all_handlers}
use Rattle.par_compile_laws.specs.par_code_form.Code.{catch_handlers}
use Rattle.par_compile_laws.specs.par_code_form.Code.{ending, no_loop}
use Rattle.par_compile_laws.specs.par_code_form.Code.{body_code, body_handlers}
use Rattle.par_compile_laws.specs.par_code_form.Opcodes.{IFEQ, PUTSTATIC, PUTFIELD}
use Rattle.par_compile_laws.specs.par_code_form.Named.{of_class, of_field, of_channel, of_method}
use Rattle.par_compile_laws.specs.par_code_form.Named.{descriptor, method_descriptor, words_of}
use Rattle.par_link_laws.specs.Bodies.{IsField, IsChannel, IsMethod, ExpLinks, MayExpLinks}
use Rattle.par_link_laws.specs.Bodies.{ExpsLink, StaLinks, ElseLinks, StasLink, CatchesLink}
use Rattle.par_link_laws.specs.Linkable.{IsClassWord, IsFieldWord, IsCalleeWord, channelled}
use Rattle.par_link_laws.specs.Linkable.{called, NamesThere, channel_descriptor}
use Rattle.par_link_laws.specs.Linkable as words

module _ (table : Table) where
  abbrev w : Words
  w = words_of table

  -- ---- what numbers are called

  pub class-word : (c : ℕ) → IsClass table c → IsClassWord table (w.class c)
  class-word c there = record { number = c; there = there; is = refl }

  field-word : (c f : ℕ) → IsField table c f
      → IsFieldWord table (w.class c) (w.field c f) (w.field_type c f)
  field-word c f has = record {
    number = c;
    field = f;
    info = has.0;
    there = has.1;
    is_class = refl;
    is_name = name (slice_get table.classes c) has.1;
    is_type = type (slice_get table.classes c) has.1;
  } where
    name : (o : Option ClassInfo) → slice_get (fields_in o) f ≡ Some has.0
        → of_class o (λ class. of_field (slice_get class.fields f) (λ field. field.name))
        ≡ (has.0).name
    name None at = absurd (cc at)
    name (Some class) at =
        ap (λ (o : Option FieldInfo). of_field o (λ (field : FieldInfo). field.name)) at

    type : (o : Option ClassInfo) → slice_get (fields_in o) f ≡ Some has.0
        → of_class o
        (λ class. of_field (slice_get class.fields f) (λ field. descriptor table field.ty))
        ≡ descriptor table (has.0).ty
    type None at = absurd (cc at)
    type (Some class) at =
        ap (λ (o : Option FieldInfo). of_field o (λ (field : FieldInfo). descriptor table field.ty))
        at

  channel-word : (is_input : Bool) (c k : ℕ) → IsChannel table is_input c k
      → IsCalleeWord table (w.class c) (w.channel c k) (channel_descriptor is_input)
  channel-word is_input c k has = channelled (record {
    number = c;
    channel = k;
    info = has.0;
    there = has.1;
    is_class = refl;
    is_name = name (slice_get table.classes c) has.1;
    is_type = ap channel_descriptor (sym has.2);
  }) where
    name : (o : Option ClassInfo) → slice_get (channels_in o) k ≡ Some has.0
        → of_class o
        (λ class. of_channel (slice_get class.channels k) (λ channel. channel.name))
        ≡ (has.0).name
    name None at = absurd (cc at)
    name (Some class) at =
        ap (λ (o : Option ChannelInfo). of_channel o (λ (channel : ChannelInfo). channel.name)) at

  method-word : (c i : ℕ) → IsMethod table c i
      → IsCalleeWord table (w.class c) (w.method c i) (w.method_type c i)
  method-word c i has = called (record {
    number = c;
    method = i;
    info = has.0;
    there = has.1;
    is_class = refl;
    is_name = name (slice_get table.classes c) has.1;
    is_type = type (slice_get table.classes c) has.1;
  }) where
    name : (o : Option ClassInfo) → slice_get (methods_in o) i ≡ Some has.0
        → of_class o (λ class. of_method (slice_get class.methods i) (λ method. method.name))
        ≡ (has.0).name
    name None at = absurd (cc at)
    name (Some class) at =
        ap (λ (o : Option MethodInfo). of_method o (λ (method : MethodInfo). method.name)) at

    type : (o : Option ClassInfo) → slice_get (methods_in o) i ≡ Some has.0
        → of_class o (λ class. of_method (slice_get class.methods i) (method_descriptor table))
        ≡ method_descriptor table has.0
    type None at = absurd (cc at)
    type (Some class) at =
        ap (λ (o : Option MethodInfo). of_method o (method_descriptor table)) at

  -- ---- items

  abbrev All : List Item → Type 0
  All items = AllByRecursion (NamesThere table) items

  load-there : (t : Ty) (x : ℕ) → NamesThere table (load t x)
  load-there t x = both (is_number t) (nat_le x 3) where
    both : (a b : Bool) → NamesThere table
        (cond a (cond b (Op (IloadShort x)) (Op (Iload x))) (cond b (Op (AloadShort x))
        (Op (Aload x))))
    both true true = tt
    both true false = tt
    both false true = tt
    both false false = tt

  store-there : (t : Ty) (x : ℕ) → NamesThere table (store t x)
  store-there t x = both (is_number t) (nat_le x 3) where
    both : (a b : Bool) → NamesThere table
        (cond a (cond b (Op (IstoreShort x)) (Op (Istore x))) (cond b (Op (AstoreShort x))
        (Op (Astore x))))
    both true true = tt
    both true false = tt
    both false true = tt
    both false false = tt

  give-there : (t : Ty) → NamesThere table (give_back t)
  give-there t = by (is_number t) where
    by : (b : Bool) → NamesThere table (cond b (Op Ireturn) (Op Areturn))
    by true = tt
    by false = tt

  drop-there : (t : Ty) (k : List Item) → All k → All (dropped t k)
  drop-there t k h = by (is_void t) where
    by : (b : Bool) → All (cond b k (Op instr.Pop ∷ k))
    by true = h
    by false = (tt, h)

  goes-there : (b : Bool) (l : ℕ) (k : List Item) → All k → All (goes_on b l k)
  goes-there true l k h = (tt, h)
  goes-there false l k h = h

  shape-there : (s : Shape) (n : ℕ) (k : List Item) → All k → All (shape_code s n k)
  shape-there (Calculates o i) n k h = (tt, h)
  shape-there (Compares t) n k h = (tt, (tt, (tt, (tt, (tt, (tt, h))))))
  shape-there (Sames b) n k h = (tt, (tt, (tt, (tt, (tt, (tt, h))))))
  shape-there (Decides o) n k h = (tt, h)

  between-there : (s : Shape) (n : ℕ) (k : List Item) → All k → All (between s n k)
  between-there (Calculates o i) n k h = h
  between-there (Compares t) n k h = h
  between-there (Sames b) n k h = h
  between-there (Decides o) n k h = (tt, (tt, (tt, h)))

  made-there : (c : ℕ) (k : List Item) → IsClass table c → All k → All (made (w.class c) k)
  made-there c k there h = (
    class-word c there,
    (
      tt,
      (
        words.made (record { is_class = class-word c there; is_name = refl; is_type = refl }),
        h,
      ),
    ),
  )

  invoke-there : (o : MayTExp) (c i : ℕ) → IsMethod table c i
      → NamesThere table (Member (invoke o) (w.class c) (w.method c i) (w.method_type c i))
  invoke-there Absent c i has = method-word c i has
  invoke-there (Present e) c i has = method-word c i has

  mutual
    unfolding expr_code ExpLinks

    exp-there : (e : TExp) (n : ℕ) (k : List Item) → ExpLinks table e → All k
        → All (expr_code w e n k)
    exp-there (Int v m) n k h after = (tt, after)
    exp-there (Boolean true m) n k h after = (tt, after)
    exp-there (Boolean false m) n k h after = (tt, after)
    exp-there (Null m) n k h after = (tt, after)
    exp-there (This m) n k h after = (tt, after)
    exp-there (New c m) n k h after = made-there c k h.1 after
    exp-there (Local x m) n k h after = (load-there m.ty x, after)
    exp-there (Static c f m) n k h after = (field-word c f h.1, after)
    exp-there (Field e c f m) n k h after =
        exp-there e n _ h.2 (field-word c f h.1, after)
    exp-there (Input c i m) n k h after = (channel-word true c i h.1, after)
    exp-there (Output c i e m) n k h after =
        exp-there e n _ h.2 (channel-word false c i h.1, after)
    exp-there (Call c i o es m) n k h after =
        may-there o n _ h.2
        (args-there es (may_labels o n) _ h.3 (invoke-there o c i h.1, after))
    exp-there (Neg e m) n k h after = exp-there e n _ h.1 (tt, after)
    exp-there (Not e m) n k h after =
        exp-there e (n + 2) _ h.1 (tt, (tt, (tt, (tt, (tt, (tt, after))))))
    exp-there (Binary op a b m) n k h after =
        let s : Shape = shape_of op a in
        let l : ℕ = n + shape_labels s in
        let last : List Item = shape_code s n k in
        let second : List Item = expr_code w b (expr_labels a l) last in
        exp-there a l (between s n second) h.1
        (between-there s n second
        (exp-there b (expr_labels a l) last h.2 (shape-there s n k after)))

    may-there : (o : MayTExp) (n : ℕ) (k : List Item) → MayExpLinks table o → All k
        → All (may_code w o n k)
    may-there Absent n k h after = after
    may-there (Present e) n k h after = exp-there e n k h after

    args-there : (es : TExps) (n : ℕ) (k : List Item) → ExpsLink table es → All k
        → All (args_code w es n k)
    args-there NoExps n k h after = after
    args-there (More e es) n k h after =
        exp-there e n (args_code w es (expr_labels e n) k) h.0
        (args-there es (expr_labels e n) k h.1 after)

  test-there : (b : Bool) (e : TExp) (n out : ℕ) (k : List Item) → ExpLinks table e → All k
      → All (loop_test w b e n out k)
  test-there true e n out k h after = after
  test-there false e n out k h after = exp-there e n (Jump IFEQ out ∷ k) h (tt, after)

  mutual
    unfolding code StaLinks ExpLinks

    sta-there : (s : TSta) (l : Loop) (n : ℕ) (k : List Item) → StaLinks table s → All k
        → All (code w s l n k)
    sta-there (Block ss at p) l n k h after = all-there ss l n k h after
    sta-there (If e s o at p) l n k h after =
        let i : ℕ = expr_labels e (n + 2) in
        let last : List Item = Label (n + 1) ∷ k in
        let other : List Item = Label n ∷ else_code w o l (labels s i) last in
        let first : List Item = code w s l i (goes_on (completes s) (n + 1) other) in
        let else_is : All other = (tt, else-there o l (labels s i) last h.2 (tt, after)) in
        let is : All first =
        sta-there s l i (goes_on (completes s) (n + 1) other) h.1
        (goes-there (completes s) (n + 1) other else_is) in
        exp-there e (n + 2) (Jump IFEQ n ∷ first) h.0 (tt, is)
    sta-there (While e s at p) l n k h after =
        let i : ℕ = expr_labels e (n + 2) in
        let inside : Loop = record { out = n + 1; again = n } in
        let last : List Item = Label (n + 1) ∷ k in
        let body : List Item = code w s inside i (goes_on (completes s) n last) in
        let is : All body =
        sta-there s inside i (goes_on (completes s) n last) h.1
        (goes-there (completes s) n last (tt, after)) in
        (tt, test-there (is_true e) e (n + 2) (n + 1) body h.0 is)
    sta-there (Try s cs at p) l n k h after =
        let last : List Item = Label (n + 2) ∷ k in
        let caught : List Item =
        Label (n + 1) ∷ catch_code w cs l (n + 2) (labels s (n + 3)) last in
        let catches_are : All caught =
        (tt, catch-there cs l (n + 2) (labels s (n + 3)) last h.1 (tt, after)) in (
          tt,
          sta-there s l (n + 3) (goes_on (completes s) (n + 2) caught) h.0
              (goes-there (completes s) (n + 2) caught catches_are),
        )
    sta-there (Return Absent at p) l n k h after = (tt, after)
    sta-there (Return (Present e) at p) l n k h after =
        exp-there e n (give_back (mark e).ty ∷ k) h (give-there (mark e).ty, after)
    sta-there (Break at p) l n k h after = (tt, after)
    sta-there (Continue at p) l n k h after = (tt, after)
    sta-there (Throw c at p) l n k h after = made-there c (Op instr.Athrow ∷ k) h (tt, after)
    sta-there (Open i at p) l n k h after = (tt, (h, after))
    sta-there (Close i at p) l n k h after = (tt, (h, after))
    sta-there (SetLocal x q e at p) l n k h after =
        exp-there e n (store (mark e).ty x ∷ k) h (store-there (mark e).ty x, after)
    sta-there (SetStatic c f e at p) l n k h after =
        exp-there e n
        (Member PUTSTATIC (w.class c) (w.field c f) (w.field_type c f) ∷ k) h.1
        (field-word c f h.0, after)
    sta-there (SetField o c f e at p) l n k h after =
        let put : List Item =
        Member PUTFIELD (w.class c) (w.field c f) (w.field_type c f) ∷ k in
        let put_is : All put = (field-word c f h.0, after) in
        exp-there o n (expr_code w e (expr_labels o n) put) h.1
        (exp-there e (expr_labels o n) put h.2 put_is)
    sta-there (Eval e at p) l n k h after =
        exp-there e n (dropped (mark e).ty k) h (drop-there (mark e).ty k after)
    sta-there (When i s o at p) l n k h after =
        let last : List Item = Label (n + 1) ∷ k in
        let other : List Item = Label n ∷ else_code w o l (labels s (n + 2)) last in
        let else_is : All other =
        (tt, else-there o l (labels s (n + 2)) last h.2 (tt, after)) in (
          h.0,
          (
            tt,
            sta-there s l (n + 2) (goes_on (completes s) (n + 1) other) h.1
                (goes-there (completes s) (n + 1) other else_is),
          ),
        )

    else-there : (o : MayTSta) (l : Loop) (n : ℕ) (k : List Item) → ElseLinks table o → All k
        → All (else_code w o l n k)
    else-there NoElse l n k h after = after
    else-there (Otherwise s) l n k h after = sta-there s l n k h after

    all-there : (ss : TStas) (l : Loop) (n : ℕ) (k : List Item) → StasLink table ss → All k
        → All (all_code w ss l n k)
    all-there End l n k h after = after
    all-there (Then s ss) l n k h after =
        sta-there s l n (all_code w ss l (labels s n) k) h.0
        (all-there ss l (labels s n) k h.1 after)

    catch-there : (cs : TCatches) (l : Loop) (end n : ℕ) (k : List Item) → CatchesLink table cs
        → All k → All (catch_code w cs l end n k)
    catch-there NoCatch l end n k h after = after
    catch-there (Catch c s cs) l end n k h after =
        let rest : List Item = catch_code w cs l end (labels s (n + 1)) k in (
          tt,
          (
            tt,
            sta-there s l (n + 1) (goes_on (completes s) end rest) h.1
                (goes-there (completes s) end rest
                (catch-there cs l end (labels s (n + 1)) k h.2 after)),
          ),
        )

  ending-there : (b : Bool) → All (ending b)
  ending-there true = (tt, tt)
  ending-there false = tt

  pub items-there : (s : TSta) → StaLinks table s → All (body_code w s)
  items-there s h = sta-there s no_loop 0 (ending (completes s)) h (ending-there (completes s))

  -- ---- handlers

  abbrev Caught : List Handler → Type 0
  Caught hs = AllByRecursion (λ h. IsClassWord table h.class) hs

  mutual
    unfolding handlers StaLinks

    sta-caught : (s : TSta) (n : ℕ) (k : List Handler) → StaLinks table s → Caught k
        → Caught (handlers w s n k)
    sta-caught (Block ss at p) n k h after = all-caught ss n k h after
    sta-caught (If e s o at p) n k h after =
        sta-caught s (expr_labels e (n + 2)) _ h.1
        (else-caught o (labels s (expr_labels e (n + 2))) k h.2 after)
    sta-caught (While e s at p) n k h after = sta-caught s (expr_labels e (n + 2)) k h.1 after
    sta-caught (Try s cs at p) n k h after =
        sta-caught s (n + 3) _ h.0 (catch-caught cs n (labels s (n + 3)) k h.1 after)
    sta-caught (Return o at p) n k h after = after
    sta-caught (Break at p) n k h after = after
    sta-caught (Continue at p) n k h after = after
    sta-caught (Throw c at p) n k h after = after
    sta-caught (Open i at p) n k h after = after
    sta-caught (Close i at p) n k h after = after
    sta-caught (SetLocal x q e at p) n k h after = after
    sta-caught (SetStatic c f e at p) n k h after = after
    sta-caught (SetField o c f e at p) n k h after = after
    sta-caught (Eval e at p) n k h after = after
    sta-caught (When i s o at p) n k h after =
        sta-caught s (n + 2) _ h.1 (else-caught o (labels s (n + 2)) k h.2 after)

    else-caught : (o : MayTSta) (n : ℕ) (k : List Handler) → ElseLinks table o → Caught k
        → Caught (else_handlers w o n k)
    else-caught NoElse n k h after = after
    else-caught (Otherwise s) n k h after = sta-caught s n k h after

    all-caught : (ss : TStas) (n : ℕ) (k : List Handler) → StasLink table ss → Caught k
        → Caught (all_handlers w ss n k)
    all-caught End n k h after = after
    all-caught (Then s ss) n k h after =
        sta-caught s n _ h.0 (all-caught ss (labels s n) k h.1 after)

    catch-caught : (cs : TCatches) (from n : ℕ) (k : List Handler) → CatchesLink table cs
        → Caught k → Caught (catch_handlers w cs from n k)
    catch-caught NoCatch from n k h after = after
    catch-caught (Catch c s cs) from n k h after = (
      class-word c h.0,
      sta-caught s (n + 1) _ h.1
          (catch-caught cs from (labels s (n + 1)) k h.2 after),
    )

  pub handlers-there : (s : TSta) → StaLinks table s → Caught (body_handlers w s)
  handlers-there s h = sta-caught s 0 [] h tt
