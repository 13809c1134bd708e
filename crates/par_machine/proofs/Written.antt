-- What a write to a field has done.
use Rattle.std.proofs.Common.{◌≡◌, ℕ, Bool, true, false, if◌then◌else◌, List, [], None, IsTrue}
use Rattle.std.proofs.Common.{codes, refl, sym, ap, subst, ◌∙◌, inr, arith}
use Rattle.std.specs.Str.{bytes_eq}
use Rattle.par_class.specs.declared.file.ClassFile.{ClassFile}
use Rattle.par_instr.specs.declared.instr.Instr.{Instr}
use Rattle.par_instr.specs.declared.instr.Instr.TheVariants.{Putstatic}
use Rattle.par_values.specs.declared.kind.Kind.{Kind}
use Rattle.par_values.specs.declared.value.MVal.{MVal}
use Rattle.par_values.specs.declared.link.FieldLink.{FieldLink}
use Rattle.par_values.specs.declared.link.Link.TheVariants as link
use Rattle.par_values.specs.declared.run.Event.TheVariants.{Set}
use Rattle.par_values.specs.Areas.{Name, Areas, shown_value, operand}
use Rattle.par_values.specs.Operations.{PutStatic, Misnamed}
use Rattle.par_values.specs.Effects.{Effect, Goes, Happens, effect}
use Rattle.par_values.specs.Reasons.{Spot, reason}
use Rattle.par_method_area.specs.par_step_laws.Classes.{class_names}
use Rattle.par_method_area.specs.par_step_laws.Step.{without_locks, is_misreceived}
use Rattle.par_method_area.specs.par_step_laws.Step.{called_on_object}
use Rattle.par_method_area.specs.par_step_laws.Step.{or_2}
use Rattle.par_stack.specs.Frames as stack
use Rattle.par_stack.specs.Frames.{running, waiting}
use Rattle.par_method_area.specs.par_actions.declared.done.Done.{Done}
use Rattle.par_method_area.specs.par_actions.declared.done.Done.TheVariants as done
use Rattle.par_method_area.specs.par_actions.Done.{IsDone, Comes, ComesTo, Keeps, is_still}
use Rattle.par_method_area.specs.par_actions.Done.{areas_in}
use Rattle.par_method_area.specs.par_actions.Fields.{with_statics}
use Rattle.par_method_area.specs.Area.{Area}
use Rattle.par_method_area.specs.declared.known.NamedField.{NamedField}
use Rattle.par_method_area.specs.Known.{IsNamedField}
use Rattle.par_machine.specs.Running.{here, state_in, IsSound}
use Rattle.par_machine.specs.Site.{areas_at, operation_at, does, spot_of, against, named_by}
use Rattle.par_machine.specs.Site.{unless_lock, IsThere, IsCome, IsKnown, IsPerformed, IsTellable}
use Rattle.par_machine.specs.Site.{HasName}
use Rattle.par_machine.specs.declared.run.Running.{Running}
use Rattle.par_machine.specs.declared.site.Site.{Site}
use Rattle.par_machine.proofs.Coming.{state_is}
use Rattle.par_machine.proofs.Free.{is_free}
use Rattle.par_machine.proofs.Effected.{effect_of}
use Rattle.par_machine.proofs.Knowing.{known, is_write}
use Rattle.par_machine.proofs.Performed.{came_to, kept_sound, frame_performed}
use Rattle.par_machine.proofs.Standing.{is_put, no_lock}
use Rattle.par_machine.proofs.Valued.{has_name, last_fits}

-- ---- a write to a static field

module _ (classes : List Name) (f : FieldLink) (spot : Spot) (a after : Areas) where
  abbrev writes : Effect
  writes = effect classes (PutStatic f) a

  set_done : (b : Bool) (v : MVal) → bytes_eq f.class (codes "paragon/Locks") ≡ b
      → ComesTo (done.Sets v) classes spot (PutStatic f) a after
      → IsDone (unless_lock b (done.Sets v)) classes (PutStatic f) spot
      (reason classes spot (PutStatic f) a) (without_locks writes) after
  set_done true v lock is = (
    is.0,
    ap without_locks is.1 ∙ ap (λ b. if b then Goes after else Happens
        (Set f.class f.name (shown_value classes v)) after) lock,
  )
  set_done false v lock is = (
    is.0,
    ap without_locks is.1 ∙ ap (λ b. if b then Goes after else Happens
        (Set f.class f.name (shown_value classes v)) after) lock,
  )

  -- a write that is not told where it is a lock's
  pub static_done : (b : Bool) (d : Done) → bytes_eq f.class (codes "paragon/Locks") ≡ b
      → ComesTo d classes spot (PutStatic f) a after
      → IsDone (unless_lock b d) classes (PutStatic f) spot (reason classes spot (PutStatic f) a)
      (without_locks writes) after
  unfolding effect
  static_done b (done.Sets v) lock is = set_done b v lock is
  static_done b done.Goes lock is = let e = is.1 in absurd (cc)
  static_done b done.Jumps lock is = let e = is.1 in absurd (cc)
  static_done b done.ThrowsArithmetic lock is = let e = is.1 in absurd (cc)
  static_done b (done.ThrowsNull later) lock is = let e = is.1 in absurd (cc)
  static_done b (done.Throws v later) lock is = let e = is.1 in absurd (cc)
  static_done b (done.Puts n v) lock is = let e = is.1 in absurd (cc)
  static_done b (done.Born n) lock is = let e = is.1 in absurd (cc)
  static_done b (done.Outs n) lock is = let e = is.1 in absurd (cc)
  static_done b done.Calls lock is = absurd is
  static_done b done.Returns lock is = let e = is.1 in absurd (cc)
  static_done b (done.ReturnsWith v) lock is = let e = is.1 in absurd (cc)
  static_done b (done.Bad n) lock is = is

  -- the value that is written is the last operand
  pub set_value : (v : MVal) → writes ≡ Happens (Set f.class f.name (shown_value classes v)) after
      → shown_value classes (operand 0 a) ≡ shown_value classes v
  unfolding effect
  set_value v is = cc

still_unless : (b : Bool) (d : Done) → IsTrue (is_still (unless_lock b d)) → IsTrue (is_still d)
still_unless true (done.Sets v) is = is
still_unless false (done.Sets v) is = is
still_unless b done.Goes is = is
still_unless b done.Jumps is = is
still_unless b done.ThrowsArithmetic is = is
still_unless b (done.ThrowsNull later) is = is
still_unless b (done.Throws v later) is = is
still_unless b (done.Puts n v) is = is
still_unless b (done.Born n) is = is
still_unless b (done.Outs n) is = is
still_unless b done.Calls is = is
still_unless b done.Returns is = is
still_unless b (done.ReturnsWith v) is = is
still_unless b (done.Bad n) is = is

module _ (files : List ClassFile) (old : Running) (s : Site) (f : FieldLink)
    (o_is : operation_at files old s ≡ PutStatic f)
    (named : named_by files s ≡ link.Field f) (after : Areas) where
  -- what a write to a static field is known by
  abbrev has : Type 0
  has = (v : MVal) → shown_value (class_names files) (operand 0 (areas_at files old)) ≡ shown_value
      (class_names files) v → HasName files v

  -- what a write to a static field is known by
  pub static_known : (b : Bool) (d : Done) → bytes_eq f.class (codes "paragon/Locks") ≡ b
      → (reason (class_names files) (spot_of files old s) (PutStatic f) (areas_at files old) ≡ None
      → has)
      → ComesTo d (class_names files) (spot_of files old s) (PutStatic f) (areas_at files old) after
      → IsKnown files s (unless_lock b d)
  unfolding effect
  static_known true (done.Sets v) lock known is = tt
  static_known false (done.Sets v) lock known is = (
    subst IsTellable (sym named) lock,
    known is.0 v (set_value (class_names files) f (spot_of files old s) (areas_at files old) after
        v is.1),
  )
  static_known b done.Goes lock known is = tt
  static_known b done.Jumps lock known is = let e = is.1 in absurd (cc)
  static_known b done.ThrowsArithmetic lock known is = tt
  static_known b (done.ThrowsNull later) lock known is = tt
  static_known b (done.Throws v later) lock known is = let e = is.1 in absurd (cc)
  static_known b (done.Puts n v) lock known is = let e = is.1 in absurd (cc)
  static_known b (done.Born n) lock known is = let e = is.1 in absurd (cc)
  static_known b (done.Outs n) lock known is = let e = is.1 in absurd (cc)
  static_known b done.Calls lock known is = absurd is
  static_known b done.Returns lock known is = tt
  static_known b (done.ReturnsWith v) lock known is = let e = is.1 in absurd (cc)
  static_known b (done.Bad n) lock known is = tt

-- what a write to a static field has done
pub static_performed : (area : Area) (old : Running) (s : Site) (ahead : Bool) (index : ℕ)
    (f : FieldLink) (x : NamedField) (d : Done)
    (frames : List stack.Frame) (statics : List MVal) → IsSound area old
    → IsThere area.files old s ahead → s.instr ≡ Putstatic index
    → operation_at area.files old s ≡ PutStatic f → named_by area.files s ≡ link.Field f
    → IsNamedField (class_names area.files) f x
    → ComesTo d (class_names area.files) (spot_of area.files old s) (PutStatic f)
    (areas_at area.files old)
    (areas_in (with_statics statics (areas_at area.files old)) (running frames))
    → Keeps old.stack frames → (IsTrue (is_still d) → frames ≡ old.stack)
    → (IsTrue (is_still d) → statics ≡ old.statics)
    → IsPerformed area old s (unless_lock x.is_lock d)
    (record old { stack = frames; statics = statics })
static_performed area old s ahead index f x d frames statics sound there instr_is o_is named known
    comes kept still unset =
    let new : Running = record old { stack = frames; statics = statics } in
    let files = area.files in
    let classes = class_names files in
    let a = areas_at files old in
    let sp = spot_of files old s in
    let after : Areas = areas_in (with_statics statics a) (running frames) in
    let received : is_misreceived files (here old).class (called_on_object s.instr) a ≡ false =
    ap (λ i. is_misreceived files (here old).class (called_on_object i) a) instr_is in
    let against_is : against files old s ≡ reason classes sp (PutStatic f) a =
    ap (λ b. or_2 b (reason classes sp (operation_at files old s) a)) received
    ∙ ap (λ o. reason classes sp o a) o_is in
    let does_is : does files old s ≡ without_locks (effect classes (PutStatic f) a) =
    ap (λ o. without_locks (effect classes o a)) o_is in
    let is = static_done classes f sp a after x.is_lock d (sym known.is_lock) comes in
    let has_all : reason classes sp (PutStatic f) a ≡ None → (v : MVal)
    → shown_value classes (operand 0 a) ≡ shown_value classes v → HasName files v =
    λ none v. let free = is_free classes sp (PutStatic f) a none in
    has_name files f.kind (operand 0 a) v known.kind
    (last_fits classes f.kind [] a free.lacks free.fits) in
    record {
      came = came_to files old s (unless_lock x.is_lock d) new (record {
        after = after;
        point = there.point;
        state = state_is files old s new (with_statics statics a) kept refl refl refl;
        is =
            subst (λ o. IsDone (unless_lock x.is_lock d) classes o sp (against files old s)
            (does files old s) after) (sym o_is)
            (subst (λ r. IsDone (unless_lock x.is_lock d) classes (PutStatic f) sp r
            (does files old s) after) (sym against_is)
            (subst (λ e. IsDone (unless_lock x.is_lock d) classes (PutStatic f) sp
            (reason classes sp (PutStatic f) a) e after) (sym does_is) is));
        still = λ is_still_too.
            let was = still_unless x.is_lock d is_still_too in
            ap (λ fs. state_in files (record old { stack = fs; statics = statics })) (still was)
            ∙ ap (λ vs. state_in files (record old { statics = vs })) (unset was);
      });
      stays = inr (kept.point ∙ there.point);
      known = static_known files old s f o_is named after x.is_lock d (sym known.is_lock) has_all
          comes;
      sound = record {
        frames = kept_sound files old.stack frames sound.frames there.stands kept;
        objects = sound.objects;
        lines = sound.lines;
      };
      grown = λ class. omega arith;
      still = λ is. refl;
    }

-- the same, where nothing is changed since its index is of another kind
pub missed_write : (area : Area) (old : Running) (s : Site) (ahead : Bool) (d : Done) (i : Instr)
    (kinds : List Kind) (k : ℕ)
    → IsSound area old → IsThere area.files old s ahead → s.instr ≡ i → called_on_object i ≡ None
    → operation_at area.files old s ≡ Misnamed kinds k
    → Comes d (class_names area.files) (spot_of area.files old s) (Misnamed kinds k)
    (areas_at area.files old) old.stack old.stack
    → IsPerformed area old s d old
missed_write area old s ahead d i kinds k sound there instr_is uncalled o_is comes =
    let files = area.files in
    let classes = class_names files in
    let a = areas_at files old in
    let sp = spot_of files old s in
    let received : is_misreceived files (here old).class (called_on_object s.instr) a ≡ false =
    ap (λ i. is_misreceived files (here old).class (called_on_object i) a) instr_is
    ∙ ap (λ n. is_misreceived files (here old).class n a) uncalled in
    let against_is : against files old s ≡ reason classes sp (Misnamed kinds k) a =
    ap (λ b. or_2 b (reason classes sp (operation_at files old s) a)) received
    ∙ ap (λ o. reason classes sp o a) o_is in
    let plainly : does files old s ≡ effect classes (operation_at files old s) a =
    no_lock (operation_at files old s) _ (ap is_put o_is)
    (effect_of classes (operation_at files old s) a) in
    let does_is : does files old s ≡ effect classes (Misnamed kinds k) a = plainly
    ∙ ap (λ o. effect classes o a) o_is in
    let kept : Keeps old.stack old.stack = record { point = refl; room = refl; waiting = refl } in
    let come : IsCome files old s d old = record {
      after = a;
      point = there.point;
      state = state_is files old s old a kept refl refl refl;
      is =
          subst (λ o. IsDone d classes o sp (against files old s) (does files old s) a) (sym o_is)
          (subst (λ r. IsDone d classes (Misnamed kinds k) sp r (does files old s) a)
          (sym against_is)
          (subst (λ e. IsDone d classes (Misnamed kinds k) sp
          (reason classes sp (Misnamed kinds k) a) e a) (sym does_is) comes));
      still = λ is. refl;
    } in
    frame_performed area old s ahead d old.stack sound there come kept
    (known files old s d old come plainly (ap is_write o_is))
