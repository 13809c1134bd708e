-- What an instruction that makes no event and calls no method comes to.
use Rattle.std.proofs.Common.{◌≡◌, ℕ, zero, suc, ◌+◌, ◌<◌, ◌≤◌, pos, ◌+ℤ◌, Bool, true, false, List}
use Rattle.std.proofs.Common.{length, Option, Some, None, slice_index_or, refl, sym, ap, subst, ◌∙◌}
use Rattle.std.proofs.Common.{inl, inr, arith}
use Rattle.std.proofs.lemmas.Bool.{false≢true}
use Rattle.par_class.specs.declared.file.ClassFile.{ClassFile}
use Rattle.par_heap.specs.Heap.{objects_of}
use Rattle.par_instr.specs.declared.instr.Instr.{Instr}
use Rattle.par_instr.specs.declared.instr.Instr.TheVariants as instr
use Rattle.par_instr.specs.Decoding.{decoded_at}
use Rattle.par_values.specs.declared.kind.Kind.{Kind}
use Rattle.par_values.specs.declared.run.Event.{Event}
use Rattle.par_values.specs.declared.run.Event.TheVariants.{Out, Set, Put, Born}
use Rattle.par_values.specs.declared.link.FieldLink.{FieldLink}
use Rattle.par_values.specs.declared.link.MethodLink.{MethodLink}
use Rattle.par_values.specs.declared.link.Link.{Link}
use Rattle.par_values.specs.declared.link.Link.TheVariants as link
use Rattle.par_values.specs.Areas.{Areas}
use Rattle.par_values.specs.Effects.{Effect, Happens, effect}
use Rattle.par_values.specs.Operations.{Operation, Misnamed, GetStatic, PutStatic, GetField}
use Rattle.par_values.specs.Operations.{PutField, InvokeStatic, InvokeSpecial, InvokeVirtual}
use Rattle.par_values.specs.Operations.{Create, operation, constant, of_field}
use Rattle.par_stack.specs.declared.point.Point.{Point}
use Rattle.par_stack.specs.Frames as stack
use Rattle.par_stack.specs.Frames.{running, with_running, at_offset}
use Rattle.par_method_area.specs.par_step_laws.Classes.{class_names}
use Rattle.par_starts.specs.declared.instructions.Standing.{Standing}
use Rattle.par_starts.specs.Standing.{reach_of, KnowsStanding}
use Rattle.par_method_area.specs.par_step_laws.Links.{link_at}
use Rattle.par_method_area.specs.par_step_laws.State.{State}
use Rattle.par_method_area.specs.par_step_laws.Step as plain
use Rattle.par_method_area.specs.par_step_laws.Step.{turn, offset}
use Rattle.par_method_area.specs.par_actions.declared.done.Done.{Done}
use Rattle.par_method_area.specs.par_actions.declared.done.Done.TheVariants as done
use Rattle.par_method_area.specs.Area.{Area}
use Rattle.par_machine.specs.Frames.{code_of}
use Rattle.par_machine.specs.Instructions.{is_work}
use Rattle.par_machine.specs.Quiet.{AreRows, GoesOn, IsSameMethod, is_loud, IsTried}
use Rattle.par_machine.specs.Running.{here, below, state_in}
use Rattle.par_machine.specs.Settled.{turn_from}
use Rattle.par_machine.specs.Site as site
use Rattle.par_machine.specs.Site.{areas_at, operation_at, does, IsCome, CameTo, IsKnown}
use Rattle.par_machine.specs.Site.{IsPerformed}
use Rattle.par_machine.specs.declared.run.Running.{Running}
use Rattle.par_machine.specs.declared.site.Site.{Site}
use Rattle.par_machine.proofs.Effected.{callee_of, IsEventOf, IsEffectOf, effect_of}
use Rattle.par_machine.proofs.Gone.{gone_sound, goes_turn, jumps_turn}
use Rattle.par_machine.proofs.Standing.{may_put, not_put, no_lock}
use Rattle.par_machine.proofs.Turning.{turn_found}

-- ---- what a quiet instruction is as an operation

-- whether an operation makes an event or calls a method
abbrev tells : Operation → Bool
tells (PutStatic f) = true
tells (PutField f) = true
tells (InvokeStatic m) = true
tells (InvokeSpecial m) = true
tells (InvokeVirtual m) = true
tells (Create c) = true
tells _ = false

quiet_constant : (l : Link) → tells (constant l) ≡ false
quiet_constant (link.Number v) = refl
quiet_constant (link.Field f) = refl
quiet_constant (link.Method m) = refl
quiet_constant (link.Class c) = refl
quiet_constant link.Other = refl

quiet_field : (form : FieldLink → Operation) (kinds : List Kind) (k : ℕ)
    → ((f : FieldLink) → tells (form f) ≡ false) → (l : Link)
    → tells (of_field form (Misnamed kinds k) l) ≡ false
quiet_field form kinds k is (link.Number v) = refl
quiet_field form kinds k is (link.Field f) = is f
quiet_field form kinds k is (link.Method f) = refl
quiet_field form kinds k is (link.Class c) = refl
quiet_field form kinds k is link.Other = refl

quiet : (names : ℕ → Link) (i : Instr) → is_loud i ≡ false → tells (operation names i) ≡ false
quiet names (instr.Ldc n) is = quiet_constant (names n)
quiet names (instr.LdcW n) is = quiet_constant (names n)
quiet names (instr.Getstatic n) is = quiet_field GetStatic _ _ (λ f. refl) (names n)
quiet names (instr.Getfield n) is = quiet_field GetField _ _ (λ f. refl) (names n)
quiet names (instr.Putstatic n) is = absurd (cc)
quiet names (instr.Putfield n) is = absurd (cc)
quiet names (instr.Invokevirtual n) is = absurd (cc)
quiet names (instr.Invokespecial n) is = absurd (cc)
quiet names (instr.Invokestatic n) is = absurd (cc)
quiet names (instr.New n) is = absurd (cc)
quiet names _ is = refl

unput : (i : Instr) → is_loud i ≡ false → may_put i ≡ false
unput (instr.Putstatic n) is = absurd (cc)
unput _ is = refl

-- work and branches are quiet
pub work_quiet : (i : Instr) → is_work i ≡ true → is_loud i ≡ false
work_quiet (instr.Putstatic n) is = absurd (false≢true is)
work_quiet (instr.Putfield n) is = absurd (false≢true is)
work_quiet (instr.Invokevirtual n) is = absurd (false≢true is)
work_quiet (instr.Invokespecial n) is = absurd (false≢true is)
work_quiet (instr.Invokestatic n) is = absurd (false≢true is)
work_quiet (instr.New n) is = absurd (false≢true is)
work_quiet _ is = refl

callee_tells : (o : Operation) (m : MethodLink) → callee_of o ≡ Some m → tells o ≡ true
callee_tells (InvokeStatic k) m is = refl
callee_tells (InvokeSpecial k) m is = refl
callee_tells (InvokeVirtual k) m is = refl
callee_tells _ m is = absurd (cc)

event_tells : (o : Operation) (e : Event) → IsEventOf o e → tells o ≡ true
event_tells o (Set class name v) is = ap tells is.1
event_tells o (Put class n name v) is = ap tells is.1
event_tells o (Born class n) is = ap tells is.1
event_tells o (Out class name n) is = callee_tells o is.0 is.1

-- ---- what it comes to

module _ (files : List ClassFile) (old : Running) (s : Site)
    (silent : is_loud s.instr ≡ false) where
  abbrev o_at : Operation
  o_at = operation_at files old s

  of_it : (e : Effect) → does files old s ≡ e → IsEffectOf o_at e
  of_it e is =
      let told : IsEffectOf o_at (effect (class_names files) o_at (areas_at files old)) =
      effect_of (class_names files) o_at (areas_at files old) in
      let same : does files old s ≡ effect (class_names files) o_at (areas_at files old) =
      no_lock o_at _ (not_put (link_at files (here old).class) s.instr (unput s.instr silent))
      told in
      subst (λ e. IsEffectOf o_at e) (sym same ∙ is) told

  silently : tells o_at ≡ false
  silently = quiet (link_at files (here old).class) s.instr silent

  no_event : (e : Event) (a : Areas) → does files old s ≡ Happens e a → ⊥
  no_event e a is = false≢true (sym silently ∙ event_tells o_at e (of_it (Happens e a) is))

-- it goes on, or nothing is changed
pub went_not : (area : Area) (old : Running) (s : Site) (d : Done) (new : Running)
    → is_loud s.instr ≡ false
    → IsPerformed area old s d new
    → (d ≡ done.Goes → ⊥) → (d ≡ done.Jumps → ⊥)
    → (state_in area.files new ≡ state_in area.files old) × (new.heap ≡ old.heap)
went_not area old s done.Goes new silent p goes jumps = absurd (goes refl)
went_not area old s done.Jumps new silent p goes jumps = absurd (jumps refl)
went_not area old s done.ThrowsArithmetic new silent p goes jumps =
    (p.came.still refl, p.still refl)
went_not area old s (done.ThrowsNull later) new silent p goes jumps =
    (p.came.still refl, p.still refl)
went_not area old s (done.Throws v later) new silent p goes jumps =
    (p.came.still refl, p.still refl)
went_not area old s done.Returns new silent p goes jumps = (p.came.still refl, p.still refl)
went_not area old s (done.ReturnsWith v) new silent p goes jumps = (p.came.still refl, p.still refl)
went_not area old s (done.Bad n) new silent p goes jumps = (p.came.still refl, p.still refl)
went_not area old s (done.Sets v) new silent p goes jumps =
    absurd (no_event area.files old s silent _ _ p.came.is.1)
went_not area old s (done.Puts n v) new silent p goes jumps =
    absurd (no_event area.files old s silent _ _ p.came.is.1)
went_not area old s (done.Born n) new silent p goes jumps =
    absurd (no_event area.files old s silent _ _ p.came.is.1)
went_not area old s (done.Outs n) new silent p goes jumps =
    absurd (no_event area.files old s silent _ _ p.came.is.1)
went_not area old s done.Calls new silent p goes jumps =
    let is = of_it area.files old s silent _ p.came.effect in
    absurd (false≢true (sym (silently area.files old s silent) ∙ callee_tells _ is.0 is.1))

module _ (area : Area) (before : Running) (s : Site) (old : Running) (d : Done)
    (p : IsPerformed area before s d old) where
  -- nothing was done
  pub tried_not : is_loud s.instr ≡ false → (d ≡ done.Goes → ⊥) → (d ≡ done.Jumps → ⊥)
      → IsTried area (turn_from area.files before s) before false old
  tried_not silent goes jumps =
      let same = went_not area before s d old silent p goes jumps in
      record {
        is = same.0;
        sound = p.sound;
        method = λ never. absurd (cc never);
        grown = λ class. let h = ap (λ h. length (objects_of h class)) same.1 in omega (arith, h);
      }

  stood : (k : Done) → d ≡ k → site.is_call k ≡ false → (running old.stack).point ≡ s.point
  stood k is never = elim p.stays
      [ inl h ↦ absurd (false≢true (sym never ∙ ap site.is_call (sym is) ∙ h)) | inr there ↦ there ]

  -- at another offset of its method
  elsewhere : (running before.stack).point ≡ s.point → (running old.stack).point ≡ s.point
      → (frames : List stack.Frame) (at : ℕ) → frames ≡ with_running (at_offset at) old.stack
      → IsSameMethod (running before.stack).point (running frames).point
  elsewhere was is frames at to =
      let one : running frames ≡ at_offset at (running old.stack) = ap running to in
      let same : (running old.stack).point ≡ (running before.stack).point = is ∙ sym was in (
        ap (λ (f : stack.Frame). f.point.class) one ∙ ap (λ (p : Point). p.class) same,
        ap (λ (f : stack.Frame). f.point.method) one ∙ ap (λ (p : Point). p.method) same,
      )

  -- it went on behind itself
  pub tried_goes : d ≡ done.Goes → 0 < length old.stack → s.point.at ≤ s.next
      → s.next ≤ length (code_of area.files s.point).code → (frames : List stack.Frame)
      → frames ≡ with_running (at_offset s.next) old.stack
      → IsTried area (turn_from area.files before s) before true (record old { stack = frames })
  tried_goes is some forward within frames to =
      let come : IsCome area.files before s done.Goes old =
      subst (λ k. CameTo area.files before s k old) is p.came in record {
        is = goes_turn area.files before s old frames come forward to;
        sound =
            gone_sound area old s.point frames s.next p.sound some (stood done.Goes is refl) within
            to;
        method = λ went. elsewhere come.point (stood done.Goes is refl) frames s.next to;
        grown = λ class. let g = p.grown class in omega (arith, g);
      }

  -- it went on at its distance
  pub tried_jumps : d ≡ done.Jumps → 0 < length old.stack → (frames : List stack.Frame)
      → frames ≡ with_running (at_offset (offset (pos s.point.at +ℤ reach_of s.instr))) old.stack
      → IsTried area (turn_from area.files before s) before true (record old { stack = frames })
  tried_jumps is some frames to =
      let come : IsCome area.files before s done.Jumps old =
      subst (λ k. CameTo area.files before s k old) is p.came in record {
        is = jumps_turn area.files before s old frames come to;
        sound = gone_sound area old s.point frames (offset (pos s.point.at +ℤ reach_of s.instr))
            p.sound some (stood done.Jumps is refl) (subst (IsKnown area.files s) is p.known) to;
        method = λ went. elsewhere come.point (stood done.Jumps is refl) frames _ to;
        grown = λ class. let g = p.grown class in omega (arith, g);
      }

-- the instruction at which a run stands is the one that is found there
pub tried_found : (area : Area) (r : Running) (p : Point) (s : Site) (went : Bool) (new : Running)
    → p ≡ (running r.stack).point
    → decoded_at (code_of area.files p).code p.at ≡ Some (site.decoded s)
    → IsTried area (turn_from area.files r s) r went new
    → IsTried area (turn area.files (state_in area.files r)) r went new
tried_found area r p s went new there found tried =
    let turns : turn area.files (state_in area.files r) ≡ turn_from area.files r s =
    turn_found area.files (here r) (below r) (state_in area.files r) (Some (site.decoded s)) refl
    (ap (λ (p : Point). decoded_at (code_of area.files p).code p.at) (sym there) ∙ found) in
    subst (λ t. IsTried area t r went new) (sym turns) tried

abbrev point_at : (class method at : ℕ) → Point
point_at class method at = record { class = class; method = method; at = at }

-- the point of a method at an offset
pub same_point : (p q : Point) (at : ℕ) → IsSameMethod p q → at ≡ q.at
    → point_at p.class p.method at ≡ q
same_point p q at same is =
    ap (λ class. point_at class p.method at) (sym same.0)
    ∙ ap (λ method. point_at q.class method at) (sym same.1)
    ∙ ap (point_at q.class q.method) is

-- the row at a point is its instruction
pub row_stands : (files : List ClassFile) (rows : List (Option Standing)) (p : Point)
    (row : Standing) → AreRows files rows p → Some row ≡ slice_index_or rows p.at None
    → KnowsStanding (code_of files p).code p.at (Some row)
row_stands files rows p row are is =
    subst (λ o. KnowsStanding (code_of files p).code p.at o) (sym is) (are p.at)

-- ---- one after another

pub one_more : (files : List ClassFile) (n : ℕ) (s t u : State) → GoesOn files n s t
    → turn files t ≡ plain.Silent u → GoesOn files (n + 1) s u
one_more files zero s t u goes is = (u, ap (turn files) (sym goes) ∙ is, refl)
one_more files (suc n) s t u goes is =
    let e : suc (n + 1) ≡ suc n + 1 = omega arith in
    let longer : GoesOn files (suc (n + 1)) s u =
    (goes.0, goes.1, one_more files n goes.0 t u goes.2 is) in
    subst (λ k. GoesOn files k s u) e longer
