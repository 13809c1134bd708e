-- What an invoke has done, from what its action tells.
use Rattle.std.proofs.Common.{◌≡◌, ℕ, ◌+◌, ◌-◌, ◌<◌, ◌≤◌, Bool, true, false, ◌||◌, nat_lt}
use Rattle.std.proofs.Common.{if◌then◌else◌, List, [], ◌∷◌, length, Option, Some, None, Result, Ok}
use Rattle.std.proofs.Common.{Err, IfOk, IsTrue, refl, sym, ap, ap₂, subst, ◌∙◌, inl, inr, arith}
use Rattle.std.proofs.lemmas.Bool.{ltb-false}
use Rattle.par_class.specs.declared.file.ClassFile.{ClassFile}
use Rattle.par_instr.specs.declared.instr.Instr.{Instr}
use Rattle.par_values.specs.declared.kind.Kind.{Kind}
use Rattle.par_values.specs.declared.inputs.ChannelInput.{ChannelInput}
use Rattle.par_values.specs.declared.link.MethodLink.{MethodLink}
use Rattle.par_values.specs.declared.link.Link.TheVariants as link
use Rattle.par_values.specs.declared.link.Target.TheVariants as target
use Rattle.par_values.specs.Areas.{Areas, InputLists, operand, first_locals}
use Rattle.par_values.specs.Effects.{Effect, Calls, effect}
use Rattle.par_values.specs.Operations.{Operation, Misnamed, takes, gives}
use Rattle.par_values.specs.Reasons.{reason, exceeds}
use Rattle.par_method_area.specs.par_link.entry.Named.{Named}
use Rattle.par_method_area.specs.par_link.Linked.{named_at}
use Rattle.par_method_area.specs.par_step_laws.Classes.{class_names, exceptions}
use Rattle.par_method_area.specs.par_step_laws.Links.{link_at}
use Rattle.par_method_area.specs.par_step_laws.State.{Frame, State, entered}
use Rattle.par_method_area.specs.par_step_laws.Step.{is_misreceived, is_no_exception}
use Rattle.par_method_area.specs.par_step_laws.Step.{called_on_object}
use Rattle.par_method_area.specs.par_step_laws.Step.{or_2, moved}
use Rattle.par_method_area.specs.par_step_laws.Step.{state_with}
use Rattle.par_stack.specs.declared.point.Point.{Point}
use Rattle.par_stack.specs.Frames as stack
use Rattle.par_stack.specs.Frames.{running, waiting}
use Rattle.par_unwinding.specs.Shown.{frame_of, frames_of}
use Rattle.par_method_area.specs.par_actions.declared.done.Done.{Done}
use Rattle.par_method_area.specs.par_actions.declared.done.Done.TheVariants as done
use Rattle.par_method_area.specs.par_actions.declared.callee.Callee.{Callee}
use Rattle.par_method_area.specs.par_actions.Calls as act
use Rattle.par_method_area.specs.par_actions.Calls.{IsCalled, Invoked, acting, with_inputs}
use Rattle.par_method_area.specs.par_actions.Done.{areas_in, Comes, IsDone, Keeps, is_still}
use Rattle.par_lines.specs.Lines.{channels_of, AreLeft}
use Rattle.par_method_area.specs.Area.{Area, KnowsLines}
use Rattle.par_method_area.specs.Known.{IsNamedMethod}
use Rattle.par_machine.specs.Frames.{are_sound, Stands}
use Rattle.par_machine.specs.Frames as frame
use Rattle.par_machine.specs.Running.{here, below, state_in, IsSound}
use Rattle.par_machine.specs.Site.{areas_at, operation_at, does, spot_of, against, IsThere, IsCome}
use Rattle.par_machine.specs.Site.{IsPerformed}
use Rattle.par_machine.specs.declared.run.Running.{Running}
use Rattle.par_machine.specs.declared.site.Site.{Site}
use Rattle.par_machine.proofs.Called.{Leaves, code_listed, inputs_are}
use Rattle.par_machine.proofs.Coming.{came, state_is}
use Rattle.par_machine.proofs.Effected.{callee_of, IsEffectOf, effect_of}
use Rattle.par_machine.proofs.Free.{is_free, or_2_none}
use Rattle.par_machine.proofs.Knowing.{is_write, known}
use Rattle.par_machine.proofs.Performed.{came_to, frame_performed, kept_sound}
use Rattle.par_machine.proofs.Sound as sound
use Rattle.par_machine.proofs.Standing.{may_put, not_put, no_lock}
use Rattle.par_machine.proofs.Thrown.{frames_cons}

-- the least of a reason and 2, as both crates say it
or_2_same : (b : Bool) (r : Option ℕ) → or_2 b r ≡ act.or_2 b r
or_2_same false r = refl
or_2_same true None = refl
or_2_same true (Some r) = refl

second_false : (a b : Bool) → (a || b) ≡ false → b ≡ false
second_false false b is = is
second_false true b is = absurd (cc)

-- a call on an object, by the index of its instruction
pub received_on : (files : List ClassFile) (old : Running) (s : Site) (i : Instr) (index : ℕ)
    → (running old.stack).point ≡ s.point → s.instr ≡ i
    → called_on_object i ≡ Some index
    → is_misreceived files (here old).class (called_on_object s.instr) (areas_at files old)
    ≡ is_no_exception (exceptions files) (named_at files s.point.class index)
    (operand 0 (areas_at files old))
received_on files old s i index point is on =
    ap (λ j. is_misreceived files (here old).class (called_on_object j) (areas_at files old)) is
    ∙ ap (λ k. is_misreceived files (here old).class k (areas_at files old)) on
    ∙ ap (λ (p : Point). is_no_exception (exceptions files) (named_at files p.class index)
    (operand 0 (areas_at files old))) point

-- frames of which one waits
frames_two : (frames : List stack.Frame) → 0 < length (waiting frames)
    → running frames ∷ waiting frames ≡ frames
frames_two [] some = absurd (omega arith)
frames_two (f ∷ frames) some = refl

-- where a result fits, a place is left after a call
some_left : (room many left free taken : ℕ) (result : Bool)
    → (nat_lt room (many - taken + (if result then 1 else 0))) ≡ false → result ≡ true
    → left ≡ many - taken → left + free ≡ room → 0 < free
some_left room many left free taken true fits is left_is room_is =
    let within = ltb-false room (many - taken + 1) fits in
    omega (arith, within, left_is, room_is)
some_left room many left free taken false fits is left_is room_is = absurd (cc)

module _ (area : Area) (old : Running) (s : Site) (ahead : Bool) (is_sound : IsSound area old)
    (there : IsThere area.files old s ahead)
    (put : may_put s.instr ≡ false) where
  abbrev before : Areas
  before = areas_at area.files old

  abbrev op : Operation
  op = operation_at area.files old s

  abbrev plain_effect : Effect
  plain_effect = effect (class_names area.files) op before

  abbrev plain_reason : Option ℕ
  plain_reason = reason (class_names area.files) (spot_of area.files old s) op before

  plainly_does : does area.files old s ≡ plain_effect
  plainly_does =
      no_lock op plain_effect (not_put (link_at area.files (here old).class) s.instr put)
      (effect_of (class_names area.files) op before)

  -- nothing is changed, since its index is of another kind
  pub call_missed : (d : Done) (kinds : List Kind) (k : ℕ)
      → is_misreceived area.files (here old).class (called_on_object s.instr) before ≡ false
      → op ≡ Misnamed kinds k
      → Comes d (class_names area.files) (spot_of area.files old s) (Misnamed kinds k) before
      old.stack old.stack
      → IsPerformed area old s d old
  call_missed d kinds k received op_is comes =
      let kept : Keeps old.stack old.stack = record { point = refl; room = refl; waiting = refl } in
      let come =
      came area.files old s d old.stack there.point put received
      (subst (λ o. Comes d (class_names area.files) (spot_of area.files old s) o before old.stack
      old.stack) (sym op_is) comes) kept (λ still. refl) in
      frame_performed area old s ahead d old.stack is_sound there come kept
      (known area.files old s d old come plainly_does (ap is_write op_is))

  module _ (misreceived : Bool) (received : is_misreceived area.files (here old).class
      (called_on_object s.instr) before ≡ misreceived) where
    against_is : against area.files old s ≡ act.or_2 misreceived plain_reason
    against_is = ap (λ b. or_2 b plain_reason) received ∙ or_2_same misreceived plain_reason

    module _ (frames : List stack.Frame) (lines : List ChannelInput) (inputs : InputLists)
        (left : AreLeft lines inputs)
        (channels : channels_of lines ≡ channels_of old.lines) where
      abbrev new : Running
      new = record old { stack = frames; lines = lines }

      abbrev program : Areas
      program = with_inputs inputs before

      lines_known : KnowsLines area (channels_of lines)
      lines_known = subst (λ cs. KnowsLines area cs) (sym channels) is_sound.lines

      -- it came to no call
      done_performed : (d : Done) → is_write op ≡ false
          → IsDone d (class_names area.files) op (spot_of area.files old s)
          (act.or_2 misreceived plain_reason) plain_effect (areas_in program (running frames))
          → Keeps old.stack frames → (IsTrue (is_still d) → frames ≡ old.stack)
          → (IsTrue (is_still d) → lines ≡ old.lines)
          → IsPerformed area old s d new
      done_performed d other is kept still untaken =
          let after : Areas = areas_in program (running frames) in
          let come : IsCome area.files old s d new = record {
            after = after;
            point = there.point;
            state = state_is area.files old s new program kept refl refl
                (inputs_are lines inputs left);
            is =
                subst (λ e. IsDone d (class_names area.files) op (spot_of area.files old s)
                (against area.files old s) e after) (sym plainly_does)
                (subst (λ r. IsDone d (class_names area.files) op (spot_of area.files old s) r
                plain_effect after) (sym against_is) is);
            still = λ h. ap₂ (λ fs ls. state_in area.files (record old { stack = fs; lines = ls }))
                (still h) (untaken h);
          } in
          record {
            came = came_to area.files old s d new come;
            stays = inr (kept.point ∙ there.point);
            known = known area.files old s d new come plainly_does other;
            sound = record {
              frames = kept_sound area.files old.stack frames is_sound.frames there.stands kept;
              objects = is_sound.objects;
              lines = lines_known;
            };
            grown = λ class. omega arith;
            still = λ h. refl;
          }

      -- it came to a call
      module _ (m : MethodLink) (x : Callee) (n : Named) (index : ℕ)
          (named : IsNamedMethod area n m x) (linked : link_at area.files s.point.class
          index ≡ link.Method m)
          (calls : callee_of op ≡ Some m) (result : gives op ≡ (if m.gives then 1 else 0))
          (leaves : Leaves (class_names area.files) op before)
          (none : act.or_2 misreceived plain_reason ≡ None)
          (called : IsCalled plain_effect x.target (areas_in program (running (waiting frames)))
          (running frames))
          (kept : Keeps old.stack (waiting frames)) (waits : 0 < length (waiting frames)) where
        abbrev after : Areas
        after = areas_in program (running (waiting frames))

        free : against area.files old s ≡ None
        free = against_is ∙ none

        code_is : m.target ≡ target.Code called.class called.method called.locals
        code_is =
            let told : IsEffectOf op (Calls called.class called.method called.locals
            called.arguments after) =
            subst (λ e. IsEffectOf op e) called.effect
            (effect_of (class_names area.files) op before) in
            let same : told.0 ≡ m = the_callee told.0 (sym told.1 ∙ calls) in
            ap (λ (q : MethodLink). q.target) (sym same) ∙ told.2
          where
            the_callee : (k : MethodLink) → Some k ≡ Some m → k ≡ m
            the_callee k e = cc

        abbrev first : Frame
        first = entered called.class called.method (first_locals called.locals called.arguments)

        state : state_in area.files new ≡ state_with
            (first ∷ moved (here old).at after (here old) ∷ below old) after
        state =
            ap (λ (f : stack.Frame). record (state_in area.files new)
            { frames = frame_of f ∷ frames_of (waiting frames) }) called.frame
            ∙ ap (λ (fs : List Frame). record (state_in area.files new) { frames = first ∷ fs })
            (frames_cons (waiting frames) waits)
            ∙ ap (λ (t : State). record t { frames = first ∷ t.frames })
            (state_is area.files old s (record new { stack = waiting frames }) program kept refl
            refl (inputs_are lines inputs left))

        room_is : called.room ≡ (frame.code_of area.files (running frames).point).max_stack
        room_is =
            named.room called.class called.method called.locals called.room called.is
            ∙ ap (λ (f : stack.Frame). (frame.code_of area.files f.point).max_stack)
            (sym called.frame)

        called_stands : Stands area.files (running frames)
        called_stands = record {
          class =
              subst (λ (f : stack.Frame). f.point.class < length area.files) (sym called.frame)
              (code_listed m called.class called.method called.locals code_is area.files
              s.point.class index linked);
          within = subst (λ (f : stack.Frame). f.point.at ≤ length
              (frame.code_of area.files f.point).code) (sym called.frame) (omega arith);
          room = let same = ap (λ (f : stack.Frame). length f.operands + f.free) called.frame in
              omega (arith, same, room_is);
        }

        given : frame.gives area.files (running frames).point ≡ true → m.gives ≡ true
        given is =
            (named.is (channels_of old.lines) is_sound.lines).gives
            ∙ named.gives called.class called.method called.locals called.room called.is
            ∙ ap (λ (f : stack.Frame). frame.gives area.files f.point) (sym called.frame) ∙ is

        place_left : m.gives ≡ true → 0 < (running (waiting frames)).free
        place_left is =
            let f = is_free (class_names area.files) (spot_of area.files old s) op before
            (or_2_none _ _ free).1 in
            let fits : exceeds (spot_of area.files old s).room op before ≡ false =
            second_false _ _ f.room in
            some_left (spot_of area.files old s).room (length before.operands)
            (length (running (waiting frames)).operands) (running (waiting frames)).free
            (length (takes op)) m.gives
            (ap (λ k. nat_lt (spot_of area.files old s).room
            (length before.operands - length (takes op) + k)) (sym result) ∙ fits) is
            (leaves called.class called.method called.locals called.arguments after called.effect)
            (kept.room ∙ there.stands.room)

        call_performed : IsPerformed area old s done.Calls new
        call_performed = record {
          came = record {
            class = called.class;
            method = called.method;
            locals = called.locals;
            arguments = called.arguments;
            after = after;
            point = there.point;
            state = state;
            free = free;
            effect = plainly_does ∙ called.effect;
          };
          stays = inl refl;
          known = tt;
          sound = record {
            frames =
                subst (λ fs. are_sound area.files fs ≡ true) (frames_two frames waits)
                (sound.entered area.files (running frames) (waiting frames)
                (kept_sound area.files old.stack (waiting frames) is_sound.frames there.stands kept)
                called_stands (λ is. place_left (given is)));
            objects = is_sound.objects;
            lines = lines_known;
          };
          grown = λ class. omega arith;
          still = λ h. absurd (cc);
        }

  -- ---- what it came to, whatever that is

  module _ (misreceived : Bool) (received : is_misreceived area.files (here old).class
      (called_on_object s.instr) before ≡ misreceived)
      (frames : List stack.Frame) (lines : List ChannelInput)
      (channels : channels_of lines ≡ channels_of old.lines)
      (m : MethodLink) (x : Callee) (n : Named) (index : ℕ) (named : IsNamedMethod area n m x)
      (linked : link_at area.files s.point.class index ≡ link.Method m)
      (calls : callee_of op ≡ Some m) (result : gives op ≡ (if m.gives then 1 else 0))
      (leaves : Leaves (class_names area.files) op before)
      (other : is_write op ≡ false) where
    abbrev Came : Done → Type 0
    Came d =
        Invoked d x.target (class_names area.files) op (spot_of area.files old s) misreceived before
        old.stack frames lines
        → Keeps old.stack (acting d frames) → (d ≡ done.Calls → 0 < length (waiting frames))
        → (IsTrue (is_still d) → frames ≡ old.stack) → (IsTrue (is_still d) → lines ≡ old.lines)
        → IsPerformed area old s d (record old { stack = frames; lines = lines })

    -- what an invoke has done, whatever it came to
    pub invoked : (d : Done) → Came d
    invoked done.Calls is kept waits still untaken =
        call_performed misreceived received frames lines is.inputs is.left channels m x n index
        named linked calls result leaves
        is.comes.0 is.comes.1 kept (waits refl)
    invoked done.Goes is kept waits still untaken =
        done_performed misreceived received frames lines is.inputs is.left channels done.Goes other
        is.comes kept still untaken
    invoked done.Jumps is kept waits still untaken =
        done_performed misreceived received frames lines is.inputs is.left channels done.Jumps other
        is.comes kept still untaken
    invoked done.ThrowsArithmetic is kept waits still untaken =
        done_performed misreceived received frames lines is.inputs is.left channels
        done.ThrowsArithmetic other is.comes kept still untaken
    invoked (done.ThrowsNull later) is kept waits still untaken =
        done_performed misreceived received frames lines is.inputs is.left channels
        (done.ThrowsNull later) other is.comes kept still untaken
    invoked (done.Throws v later) is kept waits still untaken =
        done_performed misreceived received frames lines is.inputs is.left channels
        (done.Throws v later) other is.comes kept still untaken
    invoked (done.Sets v) is kept waits still untaken =
        done_performed misreceived received frames lines is.inputs is.left channels (done.Sets v)
        other is.comes kept still untaken
    invoked (done.Puts k v) is kept waits still untaken =
        done_performed misreceived received frames lines is.inputs is.left channels (done.Puts k v)
        other is.comes kept still untaken
    invoked (done.Born k) is kept waits still untaken =
        done_performed misreceived received frames lines is.inputs is.left channels (done.Born k)
        other is.comes kept still untaken
    invoked (done.Outs k) is kept waits still untaken =
        done_performed misreceived received frames lines is.inputs is.left channels (done.Outs k)
        other is.comes kept still untaken
    invoked done.Returns is kept waits still untaken =
        done_performed misreceived received frames lines is.inputs is.left channels done.Returns
        other is.comes kept still untaken
    invoked (done.ReturnsWith v) is kept waits still untaken =
        done_performed misreceived received frames lines is.inputs is.left channels
        (done.ReturnsWith v) other is.comes kept still untaken
    invoked (done.Bad k) is kept waits still untaken =
        done_performed misreceived received frames lines is.inputs is.left channels (done.Bad k)
        other is.comes kept still untaken

  -- the same, by the operation, where the action answered
  module _ (misreceived : Bool) (received : is_misreceived area.files (here old).class
      (called_on_object s.instr) before ≡ misreceived)
      (frames : List stack.Frame) (lines : List ChannelInput)
      (channels : channels_of lines ≡ channels_of old.lines)
      (m : MethodLink) (x : Callee) (n : Named) (index : ℕ) (named : IsNamedMethod area n m x)
      (linked : link_at area.files s.point.class index ≡ link.Method m)
      (o : Operation) (op_is : op ≡ o) (calls : callee_of o ≡ Some m)
      (result : gives o ≡ (if m.gives then 1 else 0))
      (leaves : Leaves (class_names area.files) o before)
      (other : is_write o ≡ false) where
    -- the same of an answer
    pub performed : {E : Type 0} (r : Result Done E)
        → IfOk r (λ d. Invoked d x.target (class_names area.files) o (spot_of area.files old s)
        misreceived before old.stack frames lines)
        → IfOk r (λ d. Keeps old.stack (acting d frames))
        → IfOk r (λ d. d ≡ done.Calls → 0 < length (waiting frames))
        → IfOk r (λ d. IsTrue (is_still d) → frames ≡ old.stack)
        → IfOk r (λ d. IsTrue (is_still d) → lines ≡ old.lines)
        → IfOk r (λ d. IsPerformed area old s d (record old { stack = frames; lines = lines }))
    performed (Ok d) is kept waits still untaken =
        invoked misreceived received frames lines channels m x n index named linked
        (ap callee_of op_is ∙ calls) (ap gives op_is ∙ result)
        (subst (λ p. Leaves (class_names area.files) p before) (sym op_is) leaves)
        (ap is_write op_is ∙ other) d
        (subst (λ p. Invoked d x.target (class_names area.files) p (spot_of area.files old s)
        misreceived before old.stack frames lines) (sym op_is) is)
        kept waits still untaken
    performed (Err e) is kept waits still untaken = tt
