-- What an instruction that makes an object has done.
use Rattle.std.proofs.Common.{◌≡◌, ℕ, suc, ◌+◌, ◌<◌, ◌≤◌, Bool, true, false, if◌then◌else◌, List}
use Rattle.std.proofs.Common.{length, map, Option, Some, None, Result, Ok, Err, IfOk, slice_get}
use Rattle.std.proofs.Common.{IsTrue, refl, sym, ap, subst, ◌∙◌, ◌⊎◌, inl, inr, arith}
use Rattle.std.specs.List.{All}
use Rattle.std.proofs.lemmas.Bool.{false≢true}
use Rattle.std.proofs.lemmas.List.{length-set, length-map}
use Rattle.std.proofs.lemmas.Option.{slice_get_past, slice_get_within}
use Rattle.par_base.specs.declared.memory.NoMemory.{NoMemory}
use Rattle.par_pool.specs.declared.constant.Constant.{Constant}
use Rattle.par_pool.specs.declared.constant.Constant.TheVariants.{Integer}
use Rattle.par_pool.specs.Entries.{entry_at}
use Rattle.par_class.specs.declared.file.ClassFile.{ClassFile}
use Rattle.par_class.specs.declared.file.FieldFile.{FieldFile}
use Rattle.par_class.specs.declared.file.MethodFile.{MethodFile}
use Rattle.par_instr.specs.declared.instr.Instr.TheVariants.{New}
use Rattle.par_values.specs.declared.value.MVal.{MVal}
use Rattle.par_values.specs.declared.value.MVal.TheVariants.{Ref}
use Rattle.par_values.specs.declared.link.ClassLink.{ClassLink}
use Rattle.par_values.specs.declared.link.Link.{Link}
use Rattle.par_values.specs.declared.link.Link.TheVariants as link
use Rattle.par_values.specs.declared.run.Event.TheVariants.{Born}
use Rattle.par_values.specs.Areas.{Name, Areas, push, with_object, next_number, first_value}
use Rattle.par_values.specs.Areas.{list_or_none}
use Rattle.par_values.specs.Operations.{Operation, Create}
use Rattle.par_values.specs.Effects.{Goes, Happens, effect}
use Rattle.par_values.specs.Reasons.{Spot, reason}
use Rattle.par_heap.specs.Heap as heap
use Rattle.par_method_area.specs.par_link.entry.Builtin.{Builtin}
use Rattle.par_method_area.specs.par_link.entry.Builtin.TheVariants as builtin
use Rattle.par_method_area.specs.par_link.entry.Named.{Named}
use Rattle.par_method_area.specs.par_link.entry.Named.TheVariants as named
use Rattle.par_method_area.specs.par_link.Linked.{named_at}
use Rattle.par_method_area.specs.par_step_laws.Classes.{class_names}
use Rattle.par_method_area.specs.par_step_laws.Links.{class_link, field_link, field_in, method_link}
use Rattle.par_method_area.specs.par_step_laws.Links.{method_in}
use Rattle.par_method_area.specs.par_step_laws.Links.{builtin_class, builtin_initializer, link_of}
use Rattle.par_method_area.specs.par_step_laws.Links.{number_or, link_at}
use Rattle.par_method_area.specs.par_step_laws.Methods.{class_pool}
use Rattle.par_stack.specs.Frames as stack
use Rattle.par_stack.specs.Frames.{running}
use Rattle.par_method_area.specs.par_actions.declared.births.Class.{Class}
use Rattle.par_method_area.specs.par_actions.declared.done.Done.{Done}
use Rattle.par_method_area.specs.par_actions.declared.done.Done.TheVariants as done
use Rattle.par_method_area.specs.par_actions.Done.{IsDone, ComesTo, Keeps, is_still, areas_in}
use Rattle.par_method_area.specs.par_actions.Objects.{IsClass, Creates}
use Rattle.par_method_area.proofs.par_actions.Bearing.{born_shown}
use Rattle.par_method_area.specs.Area.{Area}
use Rattle.par_machine.specs.Objects.{count_classes, width, AreObjects}
use Rattle.par_method_area.specs.par_step_laws.Fields.{kinds_in}
use Rattle.par_machine.specs.Running.{IsSound}
use Rattle.par_machine.specs.Site.{areas_at, operation_at, does, spot_of, against, IsThere, IsCome}
use Rattle.par_machine.specs.Site.{IsKnown, IsPerformed}
use Rattle.par_machine.specs.declared.run.Running.{Running}
use Rattle.par_machine.specs.declared.site.Site.{Site}
use Rattle.par_machine.proofs.Born.{Fields, IsWide, born_wide, after_shown, after_stay, heap_grown}
use Rattle.par_machine.proofs.Fielded.{plain_does, plain_done, still_come, still_performed}
use Rattle.par_machine.proofs.Fielded.{heap_come, heap_performed}
use Rattle.par_machine.proofs.Free.{is_free}
use Rattle.par_machine.proofs.Valued.{not_false}
use Rattle.par_machine.proofs.Held.{are_shown, length-objects_in}
use Rattle.par_machine.proofs.Knowing.{known, is_write}

-- ---- the class that an index names

pub record IsRight (files : List ClassFile) (c : ClassLink) : Type 0 where
  pub within : c.number < count_classes files
  pub wide : c.is_made ≡ true → length c.fields ≡ width files c.number

unnumbered : (l : Link) (e : Option Constant) (c : ClassLink) → number_or l e ≡ link.Class c
    → l ≡ link.Class c
unnumbered l (Some (Integer n)) c is = absurd (cc)
unnumbered l _ c is = is

no_class_field : (files : List ClassFile) (class : ℕ) (file : ClassFile) (place : ℕ)
    (f : Option FieldFile) (c : ClassLink)
    → field_link files class file place f ≡ link.Class c → ⊥
no_class_field files class file place None c is = cc
no_class_field files class file place (Some f) c is = cc

no_class_field_in : (files : List ClassFile) (class place : ℕ) (o : Option ClassFile)
    (c : ClassLink) → field_in files class place o ≡ link.Class c → ⊥
no_class_field_in files class place None c is = cc
no_class_field_in files class place (Some file) c is =
    no_class_field files class file place (slice_get file.fields place) c is

no_class_method : (class : ℕ) (file : ClassFile) (place : ℕ) (m : Option MethodFile) (c : ClassLink)
    → method_link class file place m ≡ link.Class c → ⊥
no_class_method class file place None c is = cc
no_class_method class file place (Some m) c is = cc

no_class_method_in : (class place : ℕ) (o : Option ClassFile) (c : ClassLink)
    → method_in class place o ≡ link.Class c → ⊥
no_class_method_in class place None c is = cc
no_class_method_in class place (Some file) c is =
    no_class_method class file place (slice_get file.methods place) c is

no_class_initializer : (b : Builtin) (c : ClassLink) → builtin_initializer b ≡ link.Class c → ⊥
no_class_initializer builtin.Object c is = cc
no_class_initializer builtin.Exception c is = cc
no_class_initializer builtin.ArithmeticException c is = cc
no_class_initializer builtin.NullPointerException c is = cc
no_class_initializer builtin.Locks c is = cc

module _ (files : List ClassFile) (c : ClassLink) where
  same_right : (d : ClassLink) → link.Class d ≡ link.Class c → IsRight files d → IsRight files c
  same_right d is right = let same : d ≡ c = cc in subst (IsRight files) same right

  by_file : (class : ℕ) (o : Option ClassFile) → slice_get files class ≡ o
      → class_link class o ≡ link.Class c → IsRight files c
  by_file class None at is = absurd (cc)
  by_file class (Some file) at is =
      same_right _ is (record {
        within = let there = slice_get_within files class file at in omega arith;
        wide = λ made. ap (λ o. length (kinds_in o)) (sym at);
      })

  no_fields : (class : ℕ) → length files ≤ class → 0 ≡ width files class
  no_fields class past = ap (λ o. length (kinds_in o)) (sym (slice_get_past files class past))

  by_builtin : (b : Builtin) → builtin_class files b ≡ link.Class c → IsRight files c
  by_builtin builtin.Object is = same_right _ is
      (record { within = omega arith; wide = λ made. absurd (false≢true made) })
  by_builtin builtin.Exception is = same_right _ is
      (record { within = omega arith; wide = λ made. absurd (false≢true made) })
  by_builtin builtin.Locks is = same_right _ is
      (record { within = omega arith; wide = λ made. absurd (false≢true made) })
  by_builtin builtin.ArithmeticException is =
      same_right _ is (record {
        within = omega arith;
        wide = λ made. no_fields (length files) (omega arith);
      })
  by_builtin builtin.NullPointerException is =
      same_right _ is (record {
        within = omega arith;
        wide = λ made. no_fields (length files + 1) (omega arith);
      })

  by_named : (n : Named) → link_of files n ≡ link.Class c → IsRight files c
  by_named (named.Class class) is = by_file class (slice_get files class) refl is
  by_named (named.Builtin b) is = by_builtin b is
  by_named (named.Field d) is = absurd (no_class_field_in files d.class d.place
      (slice_get files d.class) c is)
  by_named (named.Method d) is = absurd (no_class_method_in d.class d.place
      (slice_get files d.class) c is)
  by_named (named.Lock number) is = absurd (cc)
  by_named (named.Initializer b) is = absurd (no_class_initializer b c is)
  by_named named.Nothing is = absurd (cc)

  -- a class that an index names is right
  pub is_right : (class index : ℕ) → link_at files class index ≡ link.Class c → IsRight files c
  is_right class index is =
      by_named (named_at files class index) (unnumbered (link_of files (named_at files class index))
      (entry_at (class_pool files class) index) c is)

  -- the objects of the class have its fields
  pub first_wide : (held : heap.Objects) (x : Class) → AreObjects files held → IsRight files c
      → IsClass c x → IsTrue x.is_made
      → All (λ object. length object ≡ length x.first.now) (heap.objects_of held x.number)
  first_wide held x are right is made =
      let wide : width files x.number ≡ length x.first.now =
      ap (width files) (sym is.number) ∙ sym (right.wide (is.is_made ∙ made))
      ∙ sym (length-map c.fields first_value)
      ∙ ap (λ (vs : List MVal). length vs) is.first in
      subst (λ (n : ℕ). All (λ object. length object ≡ n) (heap.objects_of held x.number)) wide
      (are.wide x.number)

-- ---- what it does

module _ (classes : List Name) (o : Operation) (spot : Spot) (r : Option ℕ) (x after : Areas) where
  goes_by : (d : Done) → IsDone d classes o spot r (Goes x) after
      → IsTrue (is_still d) ⊎ ((IsTrue (is_still d) → ⊥) × (r ≡ None) × (after ≡ x))
  goes_by done.Goes is = let e = is.1 in inr (false≢true, is.0, cc)
  goes_by done.Jumps is = let e = is.1 in absurd (cc)
  goes_by (done.Sets v) is = let e = is.1 in absurd (cc)
  goes_by (done.Puts n v) is = let e = is.1 in absurd (cc)
  goes_by (done.Born n) is = let e = is.1 in absurd (cc)
  goes_by (done.Outs n) is = let e = is.1 in absurd (cc)
  goes_by done.Calls is = absurd is
  goes_by done.ThrowsArithmetic is = inl refl
  goes_by (done.ThrowsNull later) is = inl refl
  goes_by (done.Throws v later) is = inl refl
  goes_by done.Returns is = inl refl
  goes_by (done.ReturnsWith v) is = inl refl
  goes_by (done.Bad n) is = inl refl

  happens_by : (name : Name) (k : ℕ) (d : Done)
      → IsDone d classes o spot r (Happens (Born name k) x) after
      → IsTrue (is_still d) ⊎ ((IsTrue (is_still d) → ⊥) × (r ≡ None) × (after ≡ x))
  happens_by name k done.Goes is = let e = is.1 in absurd (cc)
  happens_by name k done.Jumps is = let e = is.1 in absurd (cc)
  happens_by name k (done.Sets v) is = let e = is.1 in inr (false≢true, is.0, cc)
  happens_by name k (done.Puts n v) is = let e = is.1 in inr (false≢true, is.0, cc)
  happens_by name k (done.Born n) is = let e = is.1 in inr (false≢true, is.0, cc)
  happens_by name k (done.Outs n) is = let e = is.1 in inr (false≢true, is.0, cc)
  happens_by name k done.Calls is = absurd is
  happens_by name k done.ThrowsArithmetic is = inl refl
  happens_by name k (done.ThrowsNull later) is = inl refl
  happens_by name k (done.Throws v later) is = inl refl
  happens_by name k done.Returns is = inl refl
  happens_by name k (done.ReturnsWith v) is = inl refl
  happens_by name k (done.Bad n) is = inl refl

  born_by : (b : Bool) (name : Name) (k : ℕ) (d : Done)
      → IsDone d classes o spot r (if b then Goes x else Happens (Born name k) x) after
      → IsTrue (is_still d) ⊎ ((IsTrue (is_still d) → ⊥) × (r ≡ None) × (after ≡ x))
  born_by true name k d is = goes_by d is
  born_by false name k d is = happens_by name k d is

abbrev made_areas : ClassLink → Areas → Areas
made_areas c a = push (Ref c.number (next_number c.number a))
    (with_object c.number (map first_value c.fields) a)

made_by : (classes : List Name) (spot : Spot) (c : ClassLink) (a after : Areas) (d : Done)
    → ComesTo d classes spot (Create c) a after
    → IsTrue (is_still d) ⊎ ((IsTrue (is_still d) → ⊥) × (reason classes spot (Create c) a ≡ None)
    × (after ≡ made_areas c a))
unfolding effect
made_by classes spot c a after d is = born_by classes (Create c) spot _ (made_areas c a) after
    c.is_exception c.name (next_number c.number a) d is

module _ (area : Area) (old : Running) (s : Site) (ahead : Bool) (sound : IsSound area old)
    (there : IsThere area.files old s ahead) (index : ℕ)
    (instr_is : s.instr ≡ New index) (c : ClassLink)
    (o_is : operation_at area.files old s ≡ Create c) (right : IsRight area.files c)
    (d : Done) (frames : List stack.Frame) (held : heap.Objects) (kept : Keeps old.stack frames)
    (w : Creates d (class_names area.files) (spot_of area.files old s) c (areas_at area.files old)
    old.stack frames held) where
  abbrev a : Areas
  a = areas_at area.files old

  made_done : IsDone d (class_names area.files) (operation_at area.files old s)
      (spot_of area.files old s) (against area.files old s) (does area.files old s)
      (areas_in w.after (running frames))
  made_done = plain_done area.files old s (New index) (Create c) instr_is refl o_is refl d
      (areas_in w.after (running frames)) w.comes

  made_known : (new : Running) → IsCome area.files old s d new → IsKnown area.files s d
  made_known new come =
      known area.files old s d new come (plain_does area.files old s (New index) (Create c) instr_is
      refl o_is refl) (ap is_write o_is)

  module _ (is : areas_in w.after (running frames) ≡ made_areas c a) where
    objects_are : w.after.objects ≡ (with_object c.number (map first_value c.fields) a).objects
    objects_are = ap (λ (b : Areas). b.objects) is

    many_are : length w.after.objects ≡ length a.objects
    many_are = ap (λ (os : List (List Fields)). length os) objects_are
        ∙ length-set a.objects c.number _

    known_class : c.number < length a.objects
    known_class = let many = length-objects_in (count_classes area.files) old.heap in let within =
        right.within in omega arith

    grown : (k : ℕ) → length (heap.objects_of held k) ≤ suc (length (heap.objects_of old.heap k))
    grown k =
        let shown = are_shown area.files old.heap a sound.objects refl in
        let same : heap.objects_of held k ≡ heap.objects_of
        (heap.with_object old.heap c.number (map first_value c.fields)) k =
        sym (w.shown k) ∙ ap (λ os. list_or_none (slice_get os k)) objects_are
        ∙ born_shown a old.heap shown c.number (map first_value c.fields) known_class k in
        subst (λ xs. length xs ≤ suc (length (heap.objects_of old.heap k))) (sym same)
        (heap_grown old.heap c.number k (map first_value c.fields) a shown known_class)

    stay : length (map first_value c.fields) ≡ width area.files c.number
        → AreObjects area.files held
    stay wide =
        after_stay area.files old.heap a sound.objects refl held w.after w.shown many_are
        (λ k. subst (λ os. IsWide area.files k (list_or_none (slice_get os k))) (sym objects_are)
        (born_wide area.files old.heap a sound.objects refl c.number (map first_value c.fields)
        right.within wide k))

    born_performed : (IsTrue (is_still d) → ⊥) → c.is_made ≡ true
        → IsPerformed area old s d (record old { stack = frames; heap = held })
    born_performed not_still made =
        let come =
        heap_come area old s ahead sound there d frames held w.after kept not_still
        (ap (λ (b : Areas). b.statics) is) (ap (λ (b : Areas). b.inputs) is)
        (after_shown area.files old.heap a sound.objects refl held w.after w.shown many_are)
        made_done in
        heap_performed area old s ahead sound there d frames held w.after kept not_still come
        (made_known (record old { stack = frames; heap = held }) come)
        (stay (length-map c.fields first_value ∙ right.wide made)) grown

  still_here : IsTrue (is_still d) → frames ≡ old.stack → held ≡ old.heap
      → IsPerformed area old s d (record old { stack = frames; heap = held })
  still_here still same unmade =
      let come = still_come area old s ahead sound there d (areas_in w.after (running frames)) still
      made_done in
      subst (λ fs. IsPerformed area old s d (record old { stack = fs; heap = held })) (sym same)
      (subst (λ h. IsPerformed area old s d (record old { heap = h })) (sym unmade)
      (still_performed area old s ahead sound there d come (made_known old come)))

  -- what a birth has done
  pub made_performed : (IsTrue (is_still d) → frames ≡ old.stack)
      → (IsTrue (is_still d) → held ≡ old.heap)
      → IsPerformed area old s d (record old { stack = frames; heap = held })
  made_performed still unmade =
      elim (made_by (class_names area.files) (spot_of area.files old s) c a
      (areas_in w.after (running frames)) d w.comes) [
        | inl is ↦ still_here is (still is) (unmade is)
        | inr both ↦
            born_performed both.2 both.0
            (not_false c.is_made (is_free (class_names area.files) (spot_of area.files old s)
            (Create c) a both.1).misused)
      ]

-- the same, where there may have been too little memory
pub make_performed : (area : Area) (old : Running) (s : Site) (ahead : Bool) → IsSound area old
    → IsThere area.files old s ahead → (index : ℕ)
    → s.instr ≡ New index → (c : ClassLink) → operation_at area.files old s ≡ Create c
    → IsRight area.files c
    → (result : Result Done NoMemory) (frames : List stack.Frame) (held : heap.Objects)
    → IfOk result (λ d. Keeps old.stack frames)
    → IfOk result (λ d. Creates d (class_names area.files) (spot_of area.files old s) c
    (areas_at area.files old) old.stack frames held)
    → IfOk result (λ d. IsTrue (is_still d) → frames ≡ old.stack)
    → IfOk result (λ d. IsTrue (is_still d) → held ≡ old.heap)
    → IfOk result (λ d. IsPerformed area old s d (record old { stack = frames; heap = held }))
make_performed area old s ahead sound there index instr_is c o_is right (Ok d) frames held kept w
    still unmade =
    made_performed area old s ahead sound there index instr_is c o_is right d frames held kept w
    still unmade
make_performed area old s ahead sound there index instr_is c o_is right (Err e) frames held kept w
    still unmade = tt
