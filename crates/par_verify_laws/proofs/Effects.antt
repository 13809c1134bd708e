-- What an operation leaves is of the kinds that its act leaves.
use Rattle.std.proofs.Common.{◌≡◌, ℕ, ℤ, zero, suc, ◌+◌, ◌<◌, Bool, true, false, not, ◌||◌, List}
use Rattle.std.proofs.Common.{[], ◌∷◌, ◌++◌, map, length, take, drop, reverse, Some, None, Option}
use Rattle.std.proofs.Common.{refl, sym, ap, subst, ◌∙◌, arith, is_none, cond}
use Rattle.std.specs.List.{slice_get}
use Rattle.std.proofs.lemmas.List.{length-reverse}
use mathlib.Core.List.{reverse-cons}
use Rattle.par_class.specs.declared.file.ClassFile.{ClassFile}
use Rattle.par_values.specs.declared.value.MVal.{MVal}
use Rattle.par_values.specs.declared.value.MVal.TheVariants.{Int, Null, Ref}
use Rattle.par_values.specs.declared.kind.Kind.{Kind}
use Rattle.par_values.specs.declared.kind.Kind.TheVariants.{Number, Object, Anything}
use Rattle.par_values.specs.declared.link.ClassLink.{ClassLink}
use Rattle.par_values.specs.declared.link.FieldLink.{FieldLink}
use Rattle.par_values.specs.declared.link.MethodLink.{MethodLink}
use Rattle.par_values.specs.declared.link.Target.{Target}
use Rattle.par_values.specs.declared.link.Target.TheVariants as target
use Rattle.par_values.specs.Areas.{Areas, Objects, class_named, value_or_null, operand, local_at}
use Rattle.par_values.specs.Areas.{pop, Name, push, set_field, with_object, first_locals}
use Rattle.par_values.specs.Areas.{first_value, next_number, fits, field_at}
use Rattle.par_values.specs.Operations.{Operation, Push, PushNull, Load, Store, Discard, Copy}
use Rattle.par_values.specs.Operations.{Combine, Negate, Increase, Jump, JumpIf, JumpIfBoth}
use Rattle.par_values.specs.Operations.{JumpIfSame, JumpIfNull, GetStatic, PutStatic, GetField}
use Rattle.par_values.specs.Operations.{PutField, InvokeStatic, InvokeSpecial, InvokeVirtual}
use Rattle.par_values.specs.Operations.{Create, Throw, Leave, LeaveWith, Misnamed}
use Rattle.par_values.specs.Effects.{Effect, Goes, Happens, Calls, Throws, ThrowsObject, Returns}
use Rattle.par_values.specs.Effects.{ReturnsWith, effect, called, called_on, arguments, jumps_if}
use Rattle.par_values.specs.Effects.{combines, field_read, field_written, thrown, created, is_same}
use Rattle.par_values.specs.Effects.{comes}
use Rattle.par_values.specs.Effects as to
use Rattle.par_values.specs.Reasons.{is_of, is_result}
use Rattle.par_values.specs.declared.run.Event.{Event}
use Rattle.par_kinds.proofs.par_link.Passing.{same_text}
use Rattle.std.proofs.lemmas.Slice.Eq.{bytes_eq-Decides}
use Rattle.par_kinds.specs.par_link.entry.Named.{Named}
use Rattle.par_single.specs.Links.{kind_or_any}
use Rattle.par_kinds.specs.par_step_laws.Classes.{class_names, exceptions}
use Rattle.par_kinds.specs.par_step_laws.Methods.{method_code}
use Rattle.par_kinds.specs.declared.frame.VKind.{VKind}
use Rattle.par_kinds.specs.declared.frame.VKind.TheVariants.{Top as ATop, Int as AnInt}
use Rattle.par_kinds.specs.declared.frame.VKind.TheVariants.{Null as ANull, Object as AnObject}
use Rattle.par_kinds.specs.declared.frame.VKind.TheVariants.{Base as ABase}
use Rattle.par_kinds.specs.Kinds.{KFrame, vkind, Both, kind_at, accepts, Front}
use Rattle.par_kinds.specs.Acts.{Act, ActFits, Flow, Onward, Jumps, Branches, left_by, Gives, Also}
use Rattle.par_kinds.specs.Acts.{Accepts}
use Rattle.par_kinds.specs.Linked.{acted, also_asked, exception_names, results_of, kinds_given}
use Rattle.par_kinds.specs.Linked.{result_of, coded_at, first_frame, given_to, taken_by, static_at}
use Rattle.par_kinds.specs.Linked.{arguments_of}
use Rattle.par_verify_laws.specs.States.{Has, Live, Good, Holds, HeapFits, Keeps, class_kinds}
use Rattle.par_verify_laws.specs.Right.{AreRight, FieldRight, TargetRight, ClassRight, OwnField}
use Rattle.par_kinds.proofs.Lists.{both-drop, both-put, both-set, both-length}
use Rattle.par_verify_laws.proofs.Values.{int-good, null-good, fits-has, fits-accepted, has-fits}
use Rattle.par_verify_laws.proofs.Values.{thrown-throwable, live_class}
use Rattle.par_verify_laws.proofs.Heap.{Grows, grows-not, goods-grow, held-grow, static-put}
use Rattle.par_verify_laws.proofs.Heap.{static-got}
use Rattle.par_verify_laws.proofs.Heap.{field-got, field-put, field-grows, birth-grows, birth-fits}
use Rattle.par_verify_laws.proofs.Heap.{birth-live, first-fields}
use Rattle.par_verify_laws.proofs.Places.{operand-good, local-holds, held-good, one-taken}
use Rattle.par_verify_laws.proofs.Places.{kept-good}
use Rattle.par_verify_laws.proofs.Places.{entered-holds, arguments-keep}

pub truly : (b : Bool) → not b ≡ false → b ≡ true
truly true e = refl
truly false e = absurd (cc e)

pub neither : (a b : Bool) → (a || b) ≡ false → (a ≡ false) × (b ≡ false)
neither false b e = (refl, e)
neither true b e = absurd (cc e)

-- what is known of what an operation names
abbrev pub OpRight : List ClassFile → Operation → Type 0
OpRight files (Load x kind) = accepts kind ATop ≡ false
OpRight files (GetStatic f) = FieldRight files f
OpRight files (PutStatic f) = FieldRight files f
OpRight files (GetField f) = FieldRight files f
OpRight files (PutField f) = FieldRight files f
OpRight files (InvokeStatic m) = TargetRight files m m.target
OpRight files (InvokeSpecial m) = TargetRight files m m.target
OpRight files (InvokeVirtual m) = TargetRight files m m.target
OpRight files (Create c) = c.is_made ≡ true → ClassRight files c
OpRight files o = Unit {0}

-- areas are of the kinds of a frame, and no object is lost
pub record After (files : List ClassFile) (before : Objects) (k : KFrame) (a : Areas) : Type 0 where
  pub grows : Grows before a.objects
  pub heap : HeapFits files a.statics a.objects
  pub locals : Both (Holds files a.objects) k.locals a.locals
  pub operands : Both (Good files a.objects) k.stack a.operands

abbrev pub Behind : Flow → Type 0
Behind Onward = Unit {0}
Behind (Branches to) = Unit {0}
Behind f = ⊥

abbrev pub Towards : ℤ → Flow → Type 0
Towards to (Jumps t) = t ≡ to
Towards to (Branches t) = t ≡ to
Towards to f = ⊥

abbrev pub without : ℕ → KFrame → KFrame
without n k = record { locals = k.locals; stack = drop n k.stack }

pub record Called (files : List ClassFile) (before : Objects) (act : Act) (k : KFrame)
    (class method locals : ℕ) (args : List MVal) (a : Areas) : Type 0 where
  pub coded : coded_at files class method ≡ true
  pub left : After files before (without (length act.takes) k) a
  pub entered :
      Both (Holds files a.objects) (first_frame files class method).locals
      (first_locals locals args)
  pub leaves : act.leaves ≡ Gives (kinds_given (result_of files class method))
  pub flow : act.flow ≡ Onward

pub record Given (files : List ClassFile) (objects : Objects) (gives : Option Kind) (v : MVal)
    : Type 0 where
  pub kind : Kind
  pub is : gives ≡ Some kind
  pub good : Good files objects (vkind kind) v

abbrev pub after_act : Act → KFrame → KFrame
after_act act k = left_by act.leaves (length act.takes) k

abbrev pub EffectFits : List ClassFile → Objects → Option Kind → Act → KFrame → Effect → Type 0
EffectFits files before gives act k (Goes a) =
    Behind act.flow × After files before (after_act act k) a
EffectFits files before gives act k (Happens e a) =
    Behind act.flow × After files before (after_act act k) a
EffectFits files before gives act k (to.Jumps to a) =
    Towards to act.flow × After files before (after_act act k) a
EffectFits files before gives act k (Calls class method locals args a) =
    Called files before act k class method locals args a
EffectFits files before gives act k (Throws name) = Unit {0}
EffectFits files before gives act k (ThrowsObject v) =
    Live before v × (is_of (exceptions files) v ≡ true)
EffectFits files before gives act k Returns = gives ≡ None
EffectFits files before gives act k (ReturnsWith v) = Given files before gives v

module _ (files : List ClassFile) (right : AreRight files) (gives : Option Kind) (a : Areas)
    (k : KFrame) (heap : HeapFits files a.statics a.objects)
    (locals : Both (Holds files a.objects) k.locals a.locals)
    (operands : Both (Good files a.objects) k.stack a.operands) where
  abbrev Fine : Act → Effect → Type 0
  Fine act e = EffectFits files a.objects gives act k e

  -- operands are taken and others are pushed
  pushed : (n : ℕ) (ks : List VKind) (vs : List MVal)
      → Both (Good files a.objects) (ks ++ drop n k.stack) (vs ++ drop n a.operands)
      → After files a.objects (record { locals = k.locals; stack = ks ++ drop n k.stack })
      (record a { operands = vs ++ drop n a.operands })
  pushed n ks vs both =
      record { grows = grows-not a.objects; heap = heap; locals = locals; operands = both }

  dropped : (n : ℕ) → Both (Good files a.objects) (drop n k.stack) (drop n a.operands)
  dropped n = both-drop (Good files a.objects) n k.stack a.operands operands

  popped : (n : ℕ) → After files a.objects (without n k) (pop n a)
  popped n = pushed n [] [] (dropped n)

  one : (n : ℕ) (kind : VKind) (v : MVal) → Good files a.objects kind v
      → After files a.objects (record { locals = k.locals; stack = kind ∷ drop n k.stack })
      (record a { operands = v ∷ drop n a.operands })
  one n kind v good = pushed n (kind ∷ []) (v ∷ []) (good, dropped n)

  taking : (n : ℕ) → Good files a.objects (kind_at k.stack n) (operand n a)
  taking n = operand-good files right a.objects k.stack a.operands n operands

  behind-fits : (act : Act) (f : KFrame) (after : Areas) → act.flow ≡ Onward
      → after_act act k ≡ f → After files a.objects f after
      → Behind act.flow × After files a.objects (after_act act k) after
  behind-fits act f after flow same h = (
    subst Behind (sym flow) tt,
    subst (λ (k : KFrame). After files a.objects k after) (sym same) h,
  )

  -- the operand that is copied stands there
  first-kept : (ks : List VKind) (vs : List MVal) → Front Accepts (Anything ∷ []) ks
      → Both (Good files a.objects) ks vs
      → Both (Good files a.objects) (kind_at ks 0 ∷ drop 1 ks) vs
  first-kept [] vs front both = absurd front
  first-kept (x ∷ ks) [] front both = absurd both
  first-kept (x ∷ ks) (v ∷ vs) front both = both

  number-at : (ks : List VKind) (x : ℕ) → accepts Number (kind_at ks x) ≡ true
      → slice_get ks x ≡ Some AnInt
  unfolding accepts
  number-at [] x e = absurd (cc e)
  number-at (AnInt ∷ ks) zero e = refl
  number-at (ATop ∷ ks) zero e = absurd (cc e)
  number-at (ANull ∷ ks) zero e = absurd (cc e)
  number-at (AnObject n ∷ ks) zero e = absurd (cc e)
  number-at (ABase b ∷ ks) zero e = absurd (cc e)
  number-at (other ∷ ks) (suc x) e = number-at ks x e

  jumps-fit : (act : Act) (n : ℕ) (b : Bool) (d : ℤ) → act.flow ≡ Branches d
      → after_act act k ≡ without n k → Fine act (jumps_if b d (pop n a))
  jumps-fit act n true d flow same = (
    subst (λ f. Towards d f) (sym flow) refl,
    subst (λ (k : KFrame). After files a.objects k (pop n a)) (sym same) (popped n),
  )
  jumps-fit act n false d flow same = (
    subst Behind (sym flow) tt,
    subst (λ (k : KFrame). After files a.objects k (pop n a)) (sym same) (popped n),
  )

  -- the class of an object by its name
  class-is : (c i : ℕ) (f : FieldLink) (own : OwnField files f) → Live a.objects (Ref c i)
      → fits (class_names files) (Object f.class) (Ref c i) ≡ true
      → slice_get (class_kinds files c) f.place ≡ Some f.kind
  class-is c i f own live fit =
      let name = same_text (class_named (class_names files) c) f.class fit ∙ sym own.named in
      let in_range : c < length (class_names files) =
      omega (arith, live_class a.objects c i live, heap.many) in
      let same : c ≡ own.class = right.differ c own.class in_range own.in_range name in
      subst (λ (n : ℕ). slice_get (class_kinds files n) f.place ≡ Some f.kind) (sym same) own.kind

  got-fits : (v : MVal) (f : FieldLink) (act : Act) → OwnField files f
      → Good files a.objects (AnObject f.class) v
      → act.flow ≡ Onward
      → after_act act k ≡ record { locals = k.locals; stack = vkind f.kind ∷ drop 1 k.stack }
      → Fine act (field_read v f a)
  got-fits Null f act own good flow same = tt
  got-fits (Int v) f act own good flow same = tt
  got-fits (Ref c i) f act own good flow same =
      behind-fits act (record { locals = k.locals; stack = vkind f.kind ∷ drop 1 k.stack })
      (push (field_at c i f.place a) (pop 1 a)) flow same
      (one 1 (vkind f.kind) (field_at c i f.place a)
      (field-got files right a heap c i f.place f.kind good.live
      (class-is c i f own good.live (fits-has files right (Object f.class) (Ref c i) good.has))))

  put-fits : (v w : MVal) (f : FieldLink) (act : Act) → OwnField files f
      → Good files a.objects (AnObject f.class) v → Good files a.objects (vkind f.kind) w
      → act.flow ≡ Onward → after_act act k ≡ without 2 k
      → Fine act (field_written (class_names files) v f w a)
  put-fits Null w f act own good value flow same = tt
  put-fits (Int v) w f act own good value flow same = tt
  put-fits (Ref c i) w f act own good value flow same =
      let is = class-is c i f own good.live
      (fits-has files right (Object f.class) (Ref c i) good.has) in
      let grows = field-grows files right a heap c i f.place w in
      let after = (set_field c i f.place w a).objects in
      behind-fits act (without 2 k) (set_field c i f.place w (pop 2 a)) flow same
      (record {
        grows = grows;
        heap = field-put files right a heap c i f.place f.kind w good.live is value;
        locals = held-grow files a.objects after grows k.locals a.locals locals;
        operands = goods-grow files a.objects after grows (drop 2 k.stack) (drop 2 a.operands)
            (dropped 2);
      })

  thrown-fits : (v : MVal) (act : Act) → Live a.objects v → is_of (exceptions files) v ≡ true
      → Fine act (thrown v)
  thrown-fits Null act live is = tt
  thrown-fits (Int v) act live is = tt
  thrown-fits (Ref c i) act live is = (live, is)

  none-of : (g : Option Kind) → not (is_none g) ≡ false → g ≡ None
  none-of None e = refl
  none-of (Some kind) e = absurd (cc e)

  given-of : (g : Option Kind) (kind : Kind) (k0 : VKind) (v : MVal)
      → (is_none g || not (is_result kind (kind_or_any g))) ≡ false
      → accepts (kind_or_any g) k0 ≡ true → Good files a.objects k0 v
      → Given files a.objects g v
  given-of None kind k0 v e fit good = absurd (cc e)
  given-of (Some r) kind k0 v e fit good = record {
    kind = r;
    is = refl;
    good = record {
      has = has-fits files right r v (fits-accepted files right r k0 v fit good.has);
      live = good.live;
    };
  }

  -- ---- calls

  -- what is given to a method with code is what it takes
  abbrev pub OrderRight : List Kind → Target → Type 0
  OrderRight order (target.Code class method locals) =
      (coded_at files class method ≡ true)
      × (locals ≡ (method_code files class method).max_locals)
      × (order ≡ given_to (static_at files class method)
      (class_named (class_names files) class) (taken_by files class method))
  OrderRight order t = Unit {0}

  module _ (wrong : Bool) (kinds : List Kind) (also : Also) (order : List Kind) (n : ℕ)
      (turned : kinds ≡ reverse order) (many : length order ≡ n)
      (front : Front Accepts kinds k.stack) where
    abbrev calls : Target → Act
    calls t = record {
      wrong = wrong;
      takes = kinds;
      also = also;
      leaves = Gives (results_of files t);
      flow = Onward;
    }

    same-many : length kinds ≡ n
    same-many = ap length turned ∙ length-reverse order ∙ many

    called-fits : (t : Target) → OrderRight order t → Fine (calls t) (called n t a)
    unfolding left_by
    called-fits (target.Input class name) known = (
      tt,
      record {
        grows = grows-not a.objects;
        heap = heap;
        locals = locals;
        operands = (
          int-good files right _ a.objects,
          subst (λ (j : ℕ). Both (Good files a.objects) (drop j k.stack) (drop n a.operands))
              (sym same-many) (dropped n),
        );
      },
    )
    called-fits (target.Output class name) known = (
      tt,
      subst (λ (j : ℕ). After files a.objects (without j k) (pop n a)) (sym same-many) (popped n),
    )
    called-fits target.Nothing known = (
      tt,
      subst (λ (j : ℕ). After files a.objects (without j k) (pop n a)) (sym same-many) (popped n),
    )
    called-fits (target.Code class method many_locals) known =
        let kept : Both (Keeps files a.objects) order (arguments n a) =
        subst (λ (j : ℕ). Both (Keeps files a.objects) order (reverse (take j a.operands))) many
        (arguments-keep files right a.objects order kinds k.stack a.operands turned front
        operands) in
        let goods = kept-good files right a.objects order (arguments n a) kept in
        let whole : Both (Good files a.objects) (arguments_of files class method) (arguments n a) =
        subst (λ (o : List Kind). Both (Good files a.objects) (map vkind o) (arguments n a))
        known.2 goods in
        let same = both-length (Good files a.objects) (arguments_of files class method)
        (arguments n a) whole in
        record {
          coded = known.0;
          left = subst (λ (j : ℕ). After files a.objects (without j k) (pop n a)) (sym same-many)
              (popped n);
          entered = subst
              (λ (l : ℕ). Both (Holds files a.objects) (first_frame files class method).locals
              (first_locals l (arguments n a)))
              (sym known.1)
              (entered-holds files right a.objects (method_code files class method).max_locals
              (arguments_of files class method) (arguments n a) same whole);
          leaves = refl;
          flow = refl;
        }

    called_on-fits : (v : MVal) (t : Target) (m : ℕ) → n ≡ m + 1 → OrderRight order t
        → Fine (calls t) (called_on v m t a)
    called_on-fits Null t m is known = tt
    called_on-fits (Int v) t m is known =
        subst (λ (j : ℕ). Fine (calls t) (called j t a)) is (called-fits t known)
    called_on-fits (Ref c i) t m is known =
        subst (λ (j : ℕ). Fine (calls t) (called j t a)) is (called-fits t known)

  pub static-order : (m : MethodLink) (t : Target) → m.is_static ≡ true → TargetRight files m t
      → OrderRight m.takes t
  static-order m (target.Input class name) is known = tt
  static-order m (target.Output class name) is known = tt
  static-order m target.Nothing is known = tt
  static-order m (target.Code class method locals) is known = (
    known.coded,
    known.room,
    known.takes
        ∙ ap (λ b. given_to b (class_named (class_names files) class) (taken_by files class method))
        (sym is ∙ known.static),
  )

  pub own-order : (m : MethodLink) (t : Target) → m.is_static ≡ false → TargetRight files m t
      → OrderRight (m.receiver ∷ m.takes) t
  own-order m (target.Input class name) is known = tt
  own-order m (target.Output class name) is known = tt
  own-order m target.Nothing is known = tt
  own-order m (target.Code class method locals) is known = (
    known.coded,
    known.room,
    (λ i. known.receiver i ∷ known.takes i)
        ∙ ap (λ b. given_to b (class_named (class_names files) class) (taken_by files class method))
        (sym is ∙ known.static),
  )

  -- ---- objects

  module _ (c : ClassLink) (known : ClassRight files c) where
    abbrev fields : List MVal
    fields = map first_value c.fields

    abbrev made : Areas
    made = push (Ref c.number (next_number c.number a)) (with_object c.number fields a)

    made-after : After files a.objects
        (record { locals = k.locals; stack = AnObject c.name ∷ drop 0 k.stack }) made
    unfolding Has
    made-after =
        let grows = birth-grows files right a heap c.number fields in
        let after = (with_object c.number fields a).objects in
        let first : Both (Keeps files a.objects) (class_kinds files c.number) fields =
        subst (λ (ks : List Kind). Both (Keeps files a.objects) ks fields) (sym known.kinds)
        (first-fields files right a heap c.fields) in
        record {
          grows = grows;
          heap = birth-fits files right a heap c.number fields first;
          locals = held-grow files a.objects after grows k.locals a.locals locals;
          operands = (
            record {
              has = (bytes_eq-Decides (class_named (class_names files) c.number) c.name).1
                  known.named;
              live = birth-live files right a heap c.number fields known.in_range;
            },
            goods-grow files a.objects after grows k.stack a.operands operands,
          );
        }

    made-fits : (act : Act) (b : Bool) (e : Event) → act.flow ≡ Onward
        → after_act act k ≡ record { locals = k.locals; stack = AnObject c.name ∷ drop 0 k.stack }
        → Fine act (cond b (Goes made) (Happens e made))
    made-fits act true e flow same = (
      subst Behind (sym flow) tt,
      subst (λ (k : KFrame). After files a.objects k made) (sym same) made-after,
    )
    made-fits act false e flow same = (
      subst Behind (sym flow) tt,
      subst (λ (k : KFrame). After files a.objects k made) (sym same) made-after,
    )

  combined-fits : (act : Act) (b : Bool) (v : ℤ) (name : Name) → act.flow ≡ Onward
      → after_act act k ≡ record { locals = k.locals; stack = AnInt ∷ drop 2 k.stack }
      → Fine act (cond b (Throws name) (Goes (push (Int v) (pop 2 a))))
  combined-fits act true v name flow same = tt
  combined-fits act false v name flow same =
      behind-fits act (record { locals = k.locals; stack = AnInt ∷ drop 2 k.stack })
      (push (Int v) (pop 2 a)) flow same (one 2 AnInt (Int v) (int-good files right v a.objects))

  pub effect-fits : (o : Operation) (n : Named) → OpRight files o
      → ActFits (exception_names files) (acted files gives n o) k
      → Fine (acted files gives n o) (effect (class_names files) o a)
  unfolding effect left_by
  effect-fits (Push v) n known fits = (tt, one 0 AnInt (Int v) (int-good files right v a.objects))
  effect-fits PushNull n known fits = (tt, one 0 ANull Null (null-good files right a.objects))
  effect-fits (Load x kind) n known fits = (
    tt,
    one 0 (kind_at k.locals x) (value_or_null (local_at x a))
        (held-good files right a.objects (kind_at k.locals x) (local_at x a)
        (local-holds files right a.objects k.locals a.locals x locals)),
  )
  effect-fits (Store x kind) n known fits = (
    tt,
    record {
      grows = grows-not a.objects;
      heap = heap;
      locals = both-set (Holds files a.objects) k.locals a.locals x (kind_at k.stack 0)
          (Some (operand 0 a)) locals (taking 0);
      operands = dropped 1;
    },
  )
  effect-fits Discard n known fits = (tt, popped 1)
  effect-fits Copy n known fits = (
    tt,
    record {
      grows = grows-not a.objects;
      heap = heap;
      locals = locals;
      operands = (taking 0, first-kept k.stack a.operands fits.takes operands);
    },
  )
  effect-fits (Combine operator) n known fits =
      combined-fits (acted files gives n (Combine operator)) _ _ _ refl refl
  effect-fits Negate n known fits = (tt, one 1 AnInt _ (int-good files right _ a.objects))
  effect-fits (Increase x by) n known fits = (
    tt,
    record {
      grows = grows-not a.objects;
      heap = heap;
      locals = both-put (Holds files a.objects) k.locals a.locals x AnInt _ locals
          (number-at k.locals x fits.also) (int-good files right _ a.objects);
      operands = operands;
    },
  )
  effect-fits (Jump to) n known fits = (refl, popped 0)
  effect-fits (JumpIf test d) n known fits =
      jumps-fit (acted files gives n (JumpIf test d)) 1 _ d refl refl
  effect-fits (JumpIfBoth test d) n known fits =
      jumps-fit (acted files gives n (JumpIfBoth test d)) 2 _ d refl refl
  effect-fits (JumpIfSame test d) n known fits =
      jumps-fit (acted files gives n (JumpIfSame test d)) 2 _ d refl refl
  effect-fits (JumpIfNull test d) n known fits =
      jumps-fit (acted files gives n (JumpIfNull test d)) 1 _ d refl refl
  effect-fits (GetStatic f) n known fits =
      let is = truly f.is_static (neither (not f.is_static) false fits.right).0 in
      (tt, one 0 (vkind f.kind) _ (static-got files right a heap f.place f.kind (known.0 is)))
  effect-fits (PutStatic f) n known fits =
      let is = truly f.is_static (neither (not f.is_static) false fits.right).0 in
      let value = one-taken files right a.objects (f.kind ∷ []) k.stack a.operands 0 f.kind
      fits.takes operands refl in (
        tt,
        record {
          grows = grows-not a.objects;
          heap = static-put files right a heap f.place f.kind (operand 0 a) (known.0 is) value;
          locals = locals;
          operands = dropped 1;
        },
      )
  effect-fits (GetField f) n known fits =
      let is = (neither f.is_static false fits.right).0 in
      let object = one-taken files right a.objects (Object f.class ∷ []) k.stack a.operands 0
      (Object f.class) fits.takes operands refl in
      got-fits (operand 0 a) f (acted files gives n (GetField f)) (known.1 is) object refl refl
  effect-fits (PutField f) n known fits =
      let is = (neither f.is_static false fits.right).0 in
      let object = one-taken files right a.objects (f.kind ∷ Object f.class ∷ []) k.stack a.operands
      1 (Object f.class) fits.takes operands refl in
      let value = one-taken files right a.objects (f.kind ∷ Object f.class ∷ []) k.stack a.operands
      0 f.kind fits.takes operands refl in
      put-fits (operand 1 a) (operand 0 a) f (acted files gives n (PutField f)) (known.1 is) object
      value refl refl
  effect-fits (InvokeStatic m) n known fits =
      let is = truly m.is_static (neither (not m.is_static) false fits.right).0 in
      called-fits (acted files gives n (InvokeStatic m)).wrong (reverse m.takes)
      (also_asked gives n (InvokeStatic m)) m.takes
      (length m.takes) refl refl fits.takes m.target (static-order m m.target is known)
  effect-fits (InvokeSpecial m) n known fits =
      let o = InvokeSpecial m in
      let named : (not m.is_initializer || m.is_static) ≡ false =
      (neither (not m.is_initializer || m.is_static) false fits.right).0 in
      let is = (neither (not m.is_initializer) m.is_static named).1 in
      called_on-fits (acted files gives n o).wrong (reverse m.takes ++ m.receiver ∷ [])
      (also_asked gives n o) (m.receiver ∷ m.takes) (length m.takes + 1)
      (sym (reverse-cons m.receiver m.takes)) (omega arith) fits.takes
      (operand (length m.takes) a) m.target (length m.takes) refl
      (own-order m m.target is known)
  effect-fits (InvokeVirtual m) n known fits =
      let o = InvokeVirtual m in
      let is = (neither m.is_static false fits.right).0 in
      called_on-fits (acted files gives n o).wrong (reverse m.takes ++ m.receiver ∷ [])
      (also_asked gives n o) (m.receiver ∷ m.takes) (length m.takes + 1)
      (sym (reverse-cons m.receiver m.takes)) (omega arith) fits.takes
      (operand (length m.takes) a) m.target (length m.takes) refl
      (own-order m m.target is known)
  effect-fits (Create c) n known fits =
      let is = truly c.is_made fits.right in
      made-fits c (known is) (acted files gives n (Create c)) _ _ refl refl
  effect-fits Throw n known fits =
      let good = taking 0 in
      thrown-fits (operand 0 a) (acted files gives n Throw) good.live
      (thrown-throwable files right (kind_at k.stack 0) (operand 0 a) a.objects heap.many fits.also
      good.has good.live)
  effect-fits Leave n known fits = none-of gives fits.right
  effect-fits (LeaveWith kind) n known fits =
      given-of gives kind (kind_at k.stack 0) (operand 0 a) fits.right fits.also (taking 0)
  effect-fits (Misnamed i j) n known fits = absurd (cc fits.right)
