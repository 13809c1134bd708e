-- What an instruction that changes the objects of a program has done, and a write to a field.
use Rattle.std.proofs.Common.{◌≡◌, ℕ, suc, ◌≤◌, ℤ, Bool, true, false, List, [], ◌∷◌, length, set}
use Rattle.std.proofs.Common.{Option, None, slice_get, IsTrue, codes, refl, sym, ap, subst, ◌∙◌}
use Rattle.std.proofs.Common.{inl, inr, arith}
use Rattle.std.specs.Str.{bytes_eq}
use Rattle.std.proofs.lemmas.Bool.{cases_lt, false≢true}
use Rattle.std.proofs.lemmas.List.{length-set, set_past}
use Rattle.std.proofs.lemmas.List.Elements.{All-set}
use Rattle.par_class.specs.declared.file.ClassFile.{ClassFile}
use Rattle.par_instr.specs.declared.instr.Instr.{Instr}
use Rattle.par_instr.specs.declared.instr.Instr.TheVariants.{Putfield}
use Rattle.par_values.specs.declared.value.MVal.{MVal}
use Rattle.par_values.specs.declared.value.MVal.TheVariants.{Int, Null, Ref}
use Rattle.par_values.specs.declared.link.FieldLink.{FieldLink}
use Rattle.par_values.specs.declared.link.Link.TheVariants as link
use Rattle.par_values.specs.declared.run.Event.{Event}
use Rattle.par_values.specs.declared.run.Event.TheVariants.{Put}
use Rattle.par_values.specs.declared.kind.Kind.TheVariants as kind
use Rattle.par_values.specs.Areas.{Name, Areas, shown_value, operand, pop, set_field, objects_of}
use Rattle.par_values.specs.Areas.{object_at, list_or_none}
use Rattle.par_values.specs.Operations.{Operation, PutField}
use Rattle.par_values.specs.Effects.{Effect, Goes, Happens, Jumps, ThrowsObject, ReturnsWith}
use Rattle.par_values.specs.Effects.{effect, field_written}
use Rattle.par_values.specs.Reasons.{Spot, reason}
use Rattle.par_heap.specs.Heap as heap
use Rattle.par_method_area.specs.par_step_laws.Classes.{class_names}
use Rattle.par_method_area.specs.par_step_laws.State.{whole_inputs}
use Rattle.par_method_area.specs.par_step_laws.Step.{is_misreceived, called_on_object, or_2}
use Rattle.par_stack.specs.Frames as stack
use Rattle.par_stack.specs.Frames.{running, waiting}
use Rattle.par_method_area.specs.par_actions.declared.done.Done.{Done}
use Rattle.par_method_area.specs.par_actions.declared.done.Done.TheVariants as done
use Rattle.par_method_area.specs.par_actions.Done.{IsDone, ComesTo, Keeps, is_still, areas_in}
use Rattle.par_method_area.specs.par_actions.Objects.{Writes}
use Rattle.par_method_area.proofs.par_actions.Writing.{or_empty}
use Rattle.par_method_area.specs.Area.{Area}
use Rattle.par_method_area.specs.declared.known.NamedField.{NamedField}
use Rattle.par_method_area.specs.Known.{IsNamedField}
use Rattle.par_machine.specs.Objects.{count_classes, objects_in, width, AreObjects}
use Rattle.par_machine.specs.Running.{here, IsSound}
use Rattle.par_machine.specs.Site.{areas_at, operation_at, does, spot_of, against, named_by}
use Rattle.par_machine.specs.Site.{IsThere, IsCome, IsKnown, IsPerformed, IsTellable}
use Rattle.par_machine.specs.declared.run.Running.{Running}
use Rattle.par_machine.specs.declared.site.Site.{Site}
use Rattle.par_machine.proofs.Born.{Fields, IsWide, set_at, wide_before, after_shown, after_stay}
use Rattle.par_machine.proofs.Coming.{state_is}
use Rattle.par_machine.proofs.Effected.{effect_of}
use Rattle.par_machine.proofs.Free.{IsFree, is_free}
use Rattle.par_machine.proofs.Held.{are_shown}
use Rattle.par_machine.proofs.Performed.{came_to, kept_sound, frame_performed}
use Rattle.par_machine.proofs.Standing.{is_put, no_lock}
use Rattle.par_machine.proofs.Valued.{has_name, last_fits}

-- ---- an operation that writes no static field, and calls nothing

module _ (files : List ClassFile) (old : Running) (s : Site) (i : Instr) (o : Operation)
    (instr_is : s.instr ≡ i) (uncalled : called_on_object i ≡ None)
    (o_is : operation_at files old s ≡ o) (unput : is_put o ≡ false) where
  -- its effect is the plain one
  pub plain_does : does files old s ≡ effect (class_names files) (operation_at files old s)
      (areas_at files old)
  plain_does = no_lock (operation_at files old s) _ (ap is_put o_is ∙ unput)
      (effect_of (class_names files) (operation_at files old s) (areas_at files old))

  -- and so is the reason against it
  pub plain_against : against files old s ≡ reason (class_names files) (spot_of files old s) o
      (areas_at files old)
  plain_against =
      ap (λ i. or_2 (is_misreceived files (here old).class (called_on_object i)
      (areas_at files old)) (reason (class_names files) (spot_of files old s)
      (operation_at files old s) (areas_at files old))) instr_is
      ∙ ap (λ n. or_2 (is_misreceived files (here old).class n (areas_at files old))
      (reason (class_names files) (spot_of files old s) (operation_at files old s)
      (areas_at files old))) uncalled
      ∙ ap (λ o. reason (class_names files) (spot_of files old s) o (areas_at files old)) o_is

  -- what its action tells is so of the instruction
  pub plain_done : (d : Done) (after : Areas) → ComesTo d (class_names files) (spot_of files old s)
      o (areas_at files old) after
      → IsDone d (class_names files) (operation_at files old s) (spot_of files old s)
      (against files old s) (does files old s) after
  plain_done d after comes =
      subst (λ o. IsDone d (class_names files) o (spot_of files old s) (against files old s)
      (does files old s) after) (sym o_is)
      (subst (λ r. IsDone d (class_names files) o (spot_of files old s) r (does files old s) after)
      (sym plain_against)
      (subst (λ e. IsDone d (class_names files) o (spot_of files old s)
      (reason (class_names files) (spot_of files old s) o (areas_at files old)) e after)
      (sym (plain_does ∙ ap (λ o. effect (class_names files) o (areas_at files old)) o_is)) comes))

-- what is still says nothing of the areas after it
still_done : (classes : List Name) (o : Operation) (spot : Spot) (r : Option ℕ) (e : Effect)
    (one other : Areas) (d : Done) → IsTrue (is_still d)
    → IsDone d classes o spot r e one → IsDone d classes o spot r e other
still_done classes o spot r e one other done.ThrowsArithmetic still is = is
still_done classes o spot r e one other (done.ThrowsNull later) still is = is
still_done classes o spot r e one other (done.Throws v later) still is = is
still_done classes o spot r e one other done.Returns still is = is
still_done classes o spot r e one other (done.ReturnsWith v) still is = is
still_done classes o spot r e one other (done.Bad n) still is = is
still_done classes o spot r e one other done.Goes still is = absurd (false≢true still)
still_done classes o spot r e one other done.Jumps still is = absurd (false≢true still)
still_done classes o spot r e one other (done.Sets v) still is = absurd (false≢true still)
still_done classes o spot r e one other (done.Puts n v) still is = absurd (false≢true still)
still_done classes o spot r e one other (done.Born n) still is = absurd (false≢true still)
still_done classes o spot r e one other (done.Outs n) still is = absurd (false≢true still)
still_done classes o spot r e one other done.Calls still is = absurd (false≢true still)

module _ (area : Area) (old : Running) (s : Site) (ahead : Bool) (sound : IsSound area old)
    (there : IsThere area.files old s ahead) where
  -- where nothing is changed
  pub still_come : (d : Done) (after : Areas) → IsTrue (is_still d)
      → IsDone d (class_names area.files) (operation_at area.files old s) (spot_of area.files old s)
      (against area.files old s) (does area.files old s) after
      → IsCome area.files old s d old
  still_come d after still is = record {
    after = areas_at area.files old;
    point = there.point;
    state = state_is area.files old s old (areas_at area.files old)
        (record { point = refl; room = refl; waiting = refl }) refl refl refl;
    is = still_done (class_names area.files) (operation_at area.files old s)
        (spot_of area.files old s) (against area.files old s) (does area.files old s) after
        (areas_at area.files old) d still is;
    still = λ is. refl;
  }

  -- and what it has done then
  pub still_performed : (d : Done) → IsCome area.files old s d old
      → IsKnown area.files s d → IsPerformed area old s d old
  still_performed d come known = frame_performed area old s ahead d old.stack sound there come
      (record { point = refl; room = refl; waiting = refl }) known

  -- where the frame that runs and the objects are changed
  module _ (d : Done) (frames : List stack.Frame) (held : heap.Objects) (program : Areas)
      (kept : Keeps old.stack frames) where
    abbrev new : Running
    new = record old { stack = frames; heap = held }

    -- where the frame and the heap are changed
    pub heap_come : (IsTrue (is_still d) → ⊥) → program.statics ≡ old.statics
        → program.inputs ≡ whole_inputs old.lines
        → program.objects ≡ objects_in (count_classes area.files) held
        → IsDone d (class_names area.files) (operation_at area.files old s)
        (spot_of area.files old s) (against area.files old s) (does area.files old s)
        (areas_in program (running frames))
        → IsCome area.files old s d new
    heap_come not_still statics inputs objects is = record {
      after = areas_in program (running frames);
      point = there.point;
      state = state_is area.files old s new program kept (sym statics) (sym objects) (sym inputs);
      is = is;
      still = λ is. absurd (not_still is);
    }

    -- and what it has done then
    pub heap_performed : (IsTrue (is_still d) → ⊥) → IsCome area.files old s d new
        → IsKnown area.files s d → AreObjects area.files held
        → ((class : ℕ) → length (heap.objects_of held class) ≤ suc
        (length (heap.objects_of old.heap class))) → IsPerformed area old s d new
    heap_performed not_still come known objects grown = record {
      came = came_to area.files old s d new come;
      stays = inr (kept.point ∙ there.point);
      known = known;
      sound = record {
        frames = kept_sound area.files old.stack frames sound.frames there.stands kept;
        objects = objects;
        lines = sound.lines;
      };
      grown = grown;
      still = λ is. absurd (not_still is);
    }

-- ---- a write to a field

-- a field of an object is written
pub record IsPut (classes : List Name) (f : FieldLink) (a after : Areas) (v : MVal) : Type 0 where
  pub class : ℕ
  pub n : ℕ
  pub shown : shown_value classes (operand 0 a) ≡ shown_value classes v
  pub is : after ≡ set_field class n f.place (operand 0 a) (pop 2 a)

module _ (classes : List Name) (f : FieldLink) (a after : Areas) where
  by_object : (n : ℕ) (v object : MVal) → field_written classes object f (operand 0 a) a ≡ Happens
      (Put f.class n f.name (shown_value classes v)) after
      → IsPut classes f a after v
  by_object n v Null is = absurd (cc)
  by_object n v (Int m) is = absurd (cc)
  by_object n v (Ref c k) is = record { class = c; n = k; shown = cc; is = cc }

  -- an action that writes has written so
  pub is_put_of : (n : ℕ) (v : MVal) → effect classes (PutField f) a ≡ Happens
      (Put f.class n f.name (shown_value classes v)) after → IsPut classes f a after v
  unfolding effect
  is_put_of n v is = by_object n v (operand 1 a) is

module _ (files : List ClassFile) (a : Areas)
    (wide : (c : ℕ) → IsWide files c (list_or_none (slice_get a.objects c))) (class n place : ℕ)
    (v : MVal) where
  abbrev written : List Fields
  written = set (objects_of class a) n (set (object_at class n a) place v)

  written_wide : IsWide files class written
  written_wide =
      elim (cases_lt n (length (objects_of class a))) [
        | inl within ↦
            All-set (λ object. length object ≡ width files class) (objects_of class a) n
            (set (object_at class n a) place v)
            (length-set (object_at class n a) place v
            ∙ ap (λ (xs : Fields). length xs) (or_empty (objects_of class a) n)
            ∙ wide class n [] within) (wide class)
        | inr past ↦ subst (IsWide files class) (sym
            (set_past (objects_of class a) n (set (object_at class n a) place v) past)) (wide class)
      ]

  -- the objects stay as wide
  pub field_wide : (c : ℕ) → IsWide files c (list_or_none
      (slice_get (set a.objects class written) c))
  field_wide =
      elim (cases_lt class (length a.objects)) [
        | inl within ↦ set_at (IsWide files) a.objects class written within wide written_wide
        | inr past ↦ λ c. subst (λ os. IsWide files c (list_or_none (slice_get os c)))
            (sym (set_past a.objects class written past)) (wide c)
      ]

  written_many : length written ≡ length (objects_of class a)
  written_many = length-set (objects_of class a) n _

  -- and as many
  pub field_many : (c : ℕ) → length (list_or_none (slice_get (set a.objects class written) c))
      ≡ length (objects_of c a)
  field_many =
      elim (cases_lt class (length a.objects)) [
        | inl within ↦ set_at (λ k objects. length objects ≡ length (objects_of k a)) a.objects
            class written within (λ k. refl) written_many
        | inr past ↦ λ c. ap (λ os. length (list_or_none (slice_get os c)))
            (set_past a.objects class written past)
      ]

-- an object is written, or it is null: nothing else comes of a write
module _ (classes : List Name) (f : FieldLink) (v : MVal) (a : Areas) where
  thrown_other : (object w : MVal) → field_written classes object f v a ≡ ThrowsObject w → ⊥
  thrown_other Null w is = cc
  thrown_other (Int m) w is = cc
  thrown_other (Ref c k) w is = cc

  gives_other : (object w : MVal) → field_written classes object f v a ≡ ReturnsWith w → ⊥
  gives_other Null w is = cc
  gives_other (Int m) w is = cc
  gives_other (Ref c k) w is = cc

  goes_other : (object : MVal) (b : Areas) → field_written classes object f v a ≡ Goes b → ⊥
  goes_other Null b is = cc
  goes_other (Int m) b is = cc
  goes_other (Ref c k) b is = cc

  jumps_other : (object : MVal) (to : ℤ) (b : Areas)
      → field_written classes object f v a ≡ Jumps to b → ⊥
  jumps_other Null to b is = cc
  jumps_other (Int m) to b is = cc
  jumps_other (Ref c k) to b is = cc

  abbrev IsNoPut : Event → Type 0
  IsNoPut (Put class n name v) = ⊥
  IsNoPut e = Unit {0}

  happens_other : (object : MVal) (e : Event) (b : Areas) → IsNoPut e
      → field_written classes object f v a ≡ Happens e b → ⊥
  happens_other Null e b none is = cc
  happens_other (Int m) e b none is = cc
  happens_other (Ref c k) e b none is =
      let same : Put f.class k f.name (shown_value classes v) ≡ e = cc in
      subst IsNoPut (sym same) none

-- as many are not more than one more
as_many : (n m : ℕ) → n ≡ m → n ≤ suc m
as_many n m same = omega arith

module _ (area : Area) (old : Running) (s : Site) (ahead : Bool) (sound : IsSound area old)
    (there : IsThere area.files old s ahead) (index : ℕ)
    (instr_is : s.instr ≡ Putfield index) (f : FieldLink) (x : NamedField)
    (o_is : operation_at area.files old s ≡ PutField f)
    (named : named_by area.files s ≡ link.Field f)
    (known : IsNamedField (class_names area.files) f x)
    (frames : List stack.Frame) (held : heap.Objects) (kept : Keeps old.stack frames) where
  abbrev classes : List Name
  classes = class_names area.files

  abbrev a : Areas
  a = areas_at area.files old

  abbrev Write : Done → Type 0
  Write d = Writes d classes (spot_of area.files old s) f a old.stack frames held

  put_is : (d : Done) (after : Areas) → ComesTo d classes (spot_of area.files old s) (PutField f) a
      after
      → IsDone d classes (operation_at area.files old s) (spot_of area.files old s)
      (against area.files old s) (does area.files old s) after
  put_is d after comes = plain_done area.files old s (Putfield index) (PutField f) instr_is refl
      o_is refl d after comes

  not_lock : reason classes (spot_of area.files old s) (PutField f) a ≡ None
      → bytes_eq f.class (codes "paragon/Locks") ≡ false
  not_lock none = by_lock (bytes_eq f.class (codes "paragon/Locks")) refl where
    free : IsFree classes (spot_of area.files old s) (PutField f) a
    free = is_free classes (spot_of area.files old s) (PutField f) a none

    by_lock : (b : Bool) → bytes_eq f.class (codes "paragon/Locks") ≡ b
        → bytes_eq f.class (codes "paragon/Locks") ≡ false
    by_lock false is = is
    by_lock true is = absurd (false≢true (sym free.disagrees ∙ known.shared is))

  -- it is written
  module _ (n : ℕ) (v : MVal) (w : Write (done.Puts n v)) where
    put : IsPut classes f a (areas_in w.after (running frames)) v
    put = is_put_of classes f a (areas_in w.after (running frames)) n v w.comes.1

    objects_are : w.after.objects ≡ (set_field put.class put.n f.place (operand 0 a) a).objects
    objects_are = ap (λ (b : Areas). b.objects) put.is

    many_are : length w.after.objects ≡ length a.objects
    many_are = ap (λ (os : List (List Fields)). length os) objects_are
        ∙ length-set a.objects put.class _

    before : (c : ℕ) → IsWide area.files c (list_or_none (slice_get a.objects c))
    before = wide_before area.files old.heap a sound.objects refl

    stay : AreObjects area.files held
    stay =
        after_stay area.files old.heap a sound.objects refl held w.after w.shown many_are
        (λ c. subst (λ os. IsWide area.files c (list_or_none (slice_get os c))) (sym objects_are)
        (field_wide area.files a before put.class put.n f.place (operand 0 a) c))

    grown : (c : ℕ) → length (heap.objects_of held c) ≤ suc (length (heap.objects_of old.heap c))
    grown c =
        let now = w.shown c in
        let was = are_shown area.files old.heap a sound.objects refl c in
        let same = field_many area.files a before put.class put.n f.place (operand 0 a) c in
        let one : length (heap.objects_of held c) ≡ length (heap.objects_of old.heap c) =
        ap (λ (xs : List Fields). length xs) (sym now)
        ∙ ap (λ os. length (list_or_none (slice_get os c))) objects_are ∙ same
        ∙ ap (λ (xs : List Fields). length xs) was in
        as_many (length (heap.objects_of held c)) (length (heap.objects_of old.heap c)) one

    put_known : IsKnown area.files s (done.Puts n v)
    put_known = (
      subst IsTellable (sym named) (not_lock w.comes.0),
      has_name area.files f.kind (operand 0 a) v known.kind
          (last_fits classes f.kind (kind.Object f.class ∷ []) a
          (is_free classes (spot_of area.files old s) (PutField f) a w.comes.0).lacks
          (is_free classes (spot_of area.files old s) (PutField f) a w.comes.0).fits) put.shown,
    )

    put_performed : IsPerformed area old s (done.Puts n v)
        (record old { stack = frames; heap = held })
    put_performed =
        let come =
        heap_come area old s ahead sound there (done.Puts n v) frames held w.after kept
        (λ is. false≢true is)
        (ap (λ (b : Areas). b.statics) put.is) (ap (λ (b : Areas). b.inputs) put.is)
        (after_shown area.files old.heap a sound.objects refl held w.after w.shown many_are)
        (put_is (done.Puts n v) (areas_in w.after (running frames)) w.comes) in
        heap_performed area old s ahead sound there (done.Puts n v) frames held w.after kept
        (λ is. false≢true is) come put_known stay grown

  still_here : (d : Done) → Write d → IsTrue (is_still d) → frames ≡ old.stack → held ≡ old.heap
      → IsKnown area.files s d
      → IsPerformed area old s d (record old { stack = frames; heap = held })
  still_here d w still same unwritten known_by =
      subst (λ fs. IsPerformed area old s d (record old { stack = fs; heap = held })) (sym same)
      (subst (λ h. IsPerformed area old s d (record old { heap = h })) (sym unwritten)
      (still_performed area old s ahead sound there d
      (still_come area old s ahead sound there d (areas_in w.after (running frames)) still
      (put_is d (areas_in w.after (running frames)) w.comes)) known_by))

  -- what a write to a field has done
  pub field_performed : (d : Done) → Write d → (IsTrue (is_still d) → frames ≡ old.stack)
      → (IsTrue (is_still d) → held ≡ old.heap)
      → IsPerformed area old s d (record old { stack = frames; heap = held })
  unfolding effect
  field_performed (done.Puts n v) w still unwritten = put_performed n v w
  field_performed done.Goes w still unwritten =
      absurd (goes_other classes f (operand 0 a) a (operand 1 a) _ w.comes.1)
  field_performed done.Jumps w still unwritten =
      absurd (jumps_other classes f (operand 0 a) a (operand 1 a) _ _ w.comes.1)
  field_performed done.ThrowsArithmetic w still unwritten =
      still_here done.ThrowsArithmetic w refl (still refl) (unwritten refl) tt
  field_performed (done.ThrowsNull later) w still unwritten =
      still_here (done.ThrowsNull later) w refl (still refl) (unwritten refl) tt
  field_performed (done.Throws v later) w still unwritten =
      absurd (thrown_other classes f (operand 0 a) a (operand 1 a) v w.comes.1)
  field_performed (done.Sets v) w still unwritten =
      absurd (happens_other classes f (operand 0 a) a (operand 1 a) _ _ tt w.comes.1)
  field_performed (done.Born n) w still unwritten =
      absurd (happens_other classes f (operand 0 a) a (operand 1 a) _ _ tt w.comes.1)
  field_performed (done.Outs n) w still unwritten =
      absurd (happens_other classes f (operand 0 a) a (operand 1 a) _ _ tt w.comes.1)
  field_performed done.Calls w still unwritten = absurd w.comes
  field_performed done.Returns w still unwritten =
      still_here done.Returns w refl (still refl) (unwritten refl) tt
  field_performed (done.ReturnsWith v) w still unwritten =
      absurd (gives_other classes f (operand 0 a) a (operand 1 a) v w.comes.1)
  field_performed (done.Bad n) w still unwritten =
      still_here (done.Bad n) w refl (still refl) (unwritten refl) tt
