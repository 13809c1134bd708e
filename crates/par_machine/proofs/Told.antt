-- The event of what an instruction came to.
use Rattle.std.proofs.Common.{◌≡◌, ℕ, ℤ, Bool, true, false, if◌then◌else◌, List, [], Some, None}
use Rattle.std.proofs.Common.{codes, refl, sym, ap, subst, ◌∙◌}
use Rattle.std.specs.Str.{bytes_eq}
use Rattle.par_class.specs.declared.file.ClassFile.{ClassFile}
use Rattle.par_values.specs.declared.value.MVal.{MVal}
use Rattle.par_values.specs.declared.run.Event.{Event}
use Rattle.par_values.specs.declared.run.Event.TheVariants.{Out, Set, Put, Born}
use Rattle.par_values.specs.declared.run.Val.{Val}
use Rattle.par_values.specs.declared.link.FieldLink.{FieldLink}
use Rattle.par_values.specs.declared.link.ClassLink.{ClassLink}
use Rattle.par_values.specs.declared.link.MethodLink.{MethodLink}
use Rattle.par_values.specs.declared.link.Link.{Link}
use Rattle.par_values.specs.declared.link.Link.TheVariants as link
use Rattle.par_values.specs.declared.link.Target.{Target}
use Rattle.par_values.specs.declared.link.Target.TheVariants as target
use Rattle.par_values.specs.Areas.{Name, Areas, shown_value}
use Rattle.par_values.specs.Effects.{Effect, Goes, Happens, Jumps, Calls, Throws, ThrowsObject}
use Rattle.par_values.specs.Effects.{Returns, ReturnsWith, effect}
use Rattle.par_values.specs.Operations.{Operation, PutStatic, PutField, InvokeStatic, InvokeSpecial}
use Rattle.par_values.specs.Operations.{InvokeVirtual, Create, operation}
use Rattle.par_stack.specs.declared.point.Point.{Point}
use Rattle.par_stack.specs.Frames.{running}
use Rattle.par_method_area.specs.par_step_laws.Classes.{class_names}
use Rattle.par_method_area.specs.par_step_laws.Links.{link_at}
use Rattle.par_method_area.specs.par_step_laws.Step.{without_locks}
use Rattle.par_method_area.specs.par_actions.declared.done.Done.TheVariants as done
use Rattle.par_method_area.specs.par_actions.Done.{set_event, put_event, born_event, out_event}
use Rattle.par_method_area.specs.par_actions.Done.{out_by, target_of}
use Rattle.par_machine.specs.Instructions.{index_of}
use Rattle.par_machine.specs.Site.{areas_at, operation_at, does, against, named_by, IsCome}
use Rattle.par_machine.specs.declared.run.Running.{Running}
use Rattle.par_machine.specs.declared.site.Site.{Site}
use Rattle.par_machine.proofs.Effected.{callee_of, IsEventOf, IsEffectOf, effect_of}
use Rattle.par_machine.proofs.Linking.{IsLinkOf, link_of}

-- what is told is no write to a lock
unlocked : (e : Effect) (event : Event) (after : Areas) → without_locks e ≡ Happens event after
    → e ≡ Happens event after
unlocked (Goes a) event after is = absurd (cc)
unlocked (Happens (Out class name n) a) event after is = is
unlocked (Happens (Put class n name v) a) event after is = is
unlocked (Happens (Born class n) a) event after is = is
unlocked (Happens (Set class name v) a) event after is =
    by_lock (bytes_eq class (codes "paragon/Locks")) is where
      by_lock : (b : Bool)
          → (if b then Goes a else Happens (Set class name v) a) ≡ Happens event after
          → Happens (Set class name v) a ≡ Happens event after
      by_lock true e = absurd (cc)
      by_lock false e = e
unlocked (Jumps to a) event after is = absurd (cc)
unlocked (Calls class method locals arguments a) event after is = absurd (cc)
unlocked (Throws name) event after is = absurd (cc)
unlocked (ThrowsObject v) event after is = absurd (cc)
unlocked Returns event after is = absurd (cc)
unlocked (ReturnsWith v) event after is = absurd (cc)

-- ---- of each kind of event

set_shape : (classes : List Name) (o : Operation) (v : MVal)
    → (class : Name) × (name : Name) × (w : Val) × (set_event classes o v ≡ Set class name w)
set_shape classes (PutStatic f) v = (f.class, f.name, shown_value classes v, refl)
set_shape classes _ v = ([], [], shown_value classes v, refl)

put_shape : (classes : List Name) (o : Operation) (n : ℕ) (v : MVal)
    → (class : Name) × (name : Name) × (w : Val) × (put_event classes o n v ≡ Put class n name w)
put_shape classes (PutField f) n v = (f.class, f.name, shown_value classes v, refl)
put_shape classes _ n v = ([], [], shown_value classes v, refl)

born_shape : (o : Operation) (n : ℕ) → (class : Name) × (born_event o n ≡ Born class n)
born_shape (Create c) n = (c.name, refl)
born_shape _ n = ([], refl)

out_shape : (t : Target) (n : ℤ) → (class : Name) × (name : Name) × (out_by t n ≡ Out class name n)
out_shape (target.Output class name) n = (class, name, refl)
out_shape (target.Input class name) n = ([], [], refl)
out_shape (target.Code class method locals) n = ([], [], refl)
out_shape target.Nothing n = ([], [], refl)

-- the method that is called is the one that is named
callee_linked : (o : Operation) (m : MethodLink) (l : Link) → callee_of o ≡ Some m → IsLinkOf o l
    → (l ≡ link.Method m) × (target_of o ≡ m.target)
callee_linked (InvokeStatic k) m l is by = let same : k ≡ m =
    cc in (by ∙ ap (λ (q : MethodLink). link.Method q) same, ap (λ (q : MethodLink). q.target) same)
callee_linked (InvokeSpecial k) m l is by = let same : k ≡ m =
    cc in (by ∙ ap (λ (q : MethodLink). link.Method q) same, ap (λ (q : MethodLink). q.target) same)
callee_linked (InvokeVirtual k) m l is by = let same : k ≡ m =
    cc in (by ∙ ap (λ (q : MethodLink). link.Method q) same, ap (λ (q : MethodLink). q.target) same)
callee_linked _ m l is by = absurd (cc)

module _ (files : List ClassFile) (before : Running) (s : Site) (old : Running) where
  abbrev op : Operation
  op = operation_at files before s

  linked : (running before.stack).point ≡ s.point → IsLinkOf op (named_by files s)
  linked point =
      subst (λ (p : Point). IsLinkOf (operation (link_at files p.class) s.instr)
      (link_at files s.point.class (index_of s.instr))) (sym point)
      (link_of (link_at files s.point.class) s.instr)

  told : (event : Event) (after : Areas) → does files before s ≡ Happens event after
      → IsEventOf op event
  told event after is =
      subst (λ e. IsEffectOf op e) (unlocked (effect (class_names files) op (areas_at files before))
      event after is)
      (effect_of (class_names files) op (areas_at files before))

  -- what is made of the reason and of the effect
  abbrev IsMadeOf : Event → Areas → Type 0
  IsMadeOf event after = (against files before s ≡ None)
      × (does files before s ≡ Happens event after)

  -- a write to a static field
  pub sets_told : (v : MVal) (event : Event) (come : IsCome files before s (done.Sets v) old)
      → ((f : FieldLink) → named_by files s ≡ link.Field f
      → event ≡ Set f.class f.name (shown_value (class_names files) v))
      → IsMadeOf event come.after
  sets_told v event come given =
      let shape = set_shape (class_names files) op v in
      let t = told (Set shape.0 shape.1 shape.2) come.after
      (come.is.1 ∙ ap (λ e. Happens e come.after) shape.3) in
      let l : named_by files s ≡ link.Field t.0 =
      subst (λ o. IsLinkOf o (named_by files s)) t.1 (linked come.point) in
      let same : set_event (class_names files) op v ≡ event =
      ap (λ o. set_event (class_names files) o v) t.1 ∙ sym (given t.0 l) in
      (come.is.0, come.is.1 ∙ ap (λ e. Happens e come.after) same)

  -- a write to a field of an object
  pub puts_told : (n : ℕ) (v : MVal) (event : Event)
      (come : IsCome files before s (done.Puts n v) old)
      → ((f : FieldLink) → named_by files s ≡ link.Field f
      → event ≡ Put f.class n f.name (shown_value (class_names files) v))
      → IsMadeOf event come.after
  puts_told n v event come given =
      let shape = put_shape (class_names files) op n v in
      let t = told (Put shape.0 n shape.1 shape.2) come.after
      (come.is.1 ∙ ap (λ e. Happens e come.after) shape.3) in
      let l : named_by files s ≡ link.Field t.0 =
      subst (λ o. IsLinkOf o (named_by files s)) t.1 (linked come.point) in
      let same : put_event (class_names files) op n v ≡ event =
      ap (λ o. put_event (class_names files) o n v) t.1 ∙ sym (given t.0 l) in
      (come.is.0, come.is.1 ∙ ap (λ e. Happens e come.after) same)

  -- a birth
  pub born_told : (n : ℕ) (event : Event) (come : IsCome files before s (done.Born n) old)
      → ((c : ClassLink) → named_by files s ≡ link.Class c → event ≡ Born c.name n)
      → IsMadeOf event come.after
  born_told n event come given =
      let shape = born_shape op n in
      let t = told (Born shape.0 n) come.after (come.is.1
      ∙ ap (λ e. Happens e come.after) shape.1) in
      let l : named_by files s ≡ link.Class t.0 =
      subst (λ o. IsLinkOf o (named_by files s)) t.1 (linked come.point) in
      let same : born_event op n ≡ event = ap (λ o. born_event o n) t.1 ∙ sym (given t.0 l) in
      (come.is.0, come.is.1 ∙ ap (λ e. Happens e come.after) same)

  -- an output
  pub outs_told : (n : ℤ) (event : Event) (come : IsCome files before s (done.Outs n) old)
      → ((m : MethodLink) → named_by files s ≡ link.Method m → event ≡ out_by m.target n)
      → IsMadeOf event come.after
  outs_told n event come given =
      let shape = out_shape (target_of op) n in
      let t = told (Out shape.0 shape.1 n) come.after
      (come.is.1 ∙ ap (λ e. Happens e come.after) shape.2) in
      let l = callee_linked op t.0 (named_by files s) t.1 (linked come.point) in
      let same : out_event op n ≡ event = ap (λ (g : Target). out_by g n) l.1
      ∙ sym (given t.0 l.0) in
      (come.is.0, come.is.1 ∙ ap (λ e. Happens e come.after) same)
