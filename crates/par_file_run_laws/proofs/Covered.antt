-- The code of a loaded class names loaded classes alone, and the exceptions that every program has.
use Rattle.std.proofs.Common.{◌≡◌, ℕ, zero, suc, ◌<◌, Bool, true, false, not, cond, ◌&&◌, ◌||◌, ◌⊎◌}
use Rattle.std.proofs.Common.{inl, inr, ⊎_elim, nat_lt, ◌+◌, ◌++◌, length, List, [], ◌∷◌, Option}
use Rattle.std.proofs.Common.{Some, None, slice_get}
use Rattle.std.proofs.Common.{is_some, refl, sym, ap, subst, ◌∙◌, arith, codes}
use Rattle.std.specs.List.{AllZip, AllByRecursion}
use Rattle.std.specs.Option.{option_map}
use Rattle.std.specs.Str.{bytes_eq}
use Rattle.std.proofs.lemmas.Bool.{and_right, or_right, or_cases, lt-ltb, not_from_false}
use Rattle.par_base.specs.Names.{IsName}
use Rattle.par_typed.specs.declared.table.ClassInfo.{ClassInfo}
use Rattle.par_typed.specs.declared.table.Table.{Table}
use Rattle.par_typed.specs.Plain.{TSta, Body}
use Rattle.par_typed.specs.Members.{fields_in, channels_in, methods_in, field_at, channel_at}
use Rattle.par_typed.specs.Members.{method_at}
use Rattle.par_pool.specs.Entries.{IsClassAt}
use Rattle.par_class.specs.declared.file.Catch.{Catch}
use Rattle.par_class.specs.declared.file.ClassFile.{ClassFile}
use Rattle.par_class.specs.declared.file.CodeAttr.{CodeAttr}
use Rattle.par_values.specs.Areas.{Name}
use Rattle.par_run_laws.specs.Names.{body_of}
use Rattle.par_match_laws.specs.par_link.Builtins.{builtin}
use Rattle.par_match_laws.specs.par_link.Named.{class_named, class_of, listed, class_place}
use Rattle.par_match_laws.specs.par_link.Rules.{is_nothing}
use Rattle.par_code_form.specs.declared.item.Item.{Item}
use Rattle.par_code_form.specs.declared.item.Item.TheVariants.{Label, Op, Const, Jump, Member}
use Rattle.par_code_form.specs.declared.item.Item.TheVariants.{ClassOp, LockOp}
use Rattle.par_code_form.specs.declared.labelled.Handler.{Handler}
use Rattle.par_code_form.specs.declared.labelled.Labelled.{Labelled}
use Rattle.par_code_form.specs.Code.{Words, body_code, body_handlers}
use Rattle.par_code_form.specs.Method.{labelled}
use Rattle.par_code_form.specs.Named.{class_word, words_of}
use Rattle.par_match_laws.specs.par_code_form.PoolNames.{full_name, is_builtin, Names}
use Rattle.par_match_laws.specs.par_code_form.Placed.{IsCatch, IsPlaced, offset_of}
use Rattle.par_compile_laws.specs.Files.{IsCode}
use Rattle.par_compile_laws.specs.Members.{method}
use Rattle.par_source_code_laws.specs.par_evaluation_laws.Laid.{Meth, HasMethod}
use Rattle.par_source_code_laws.specs.Named.{Named, Made, Raised, OfClass, OfObject, Reads, Writes}
use Rattle.par_source_code_laws.specs.Named.{Calls}
use Rattle.par_source_code_laws.specs.Named.{Uses, EachInSta}
use Rattle.par_source_code_laws.specs.Items.{ItemPasses, HandlerPasses, NamedPasses}
use Rattle.par_source_code_laws.specs.Methods.{may_meth, meth_at, is_ordinary}
use Rattle.par_typed.specs.Members.{class_is_exception}
use Rattle.par_source_code_laws.specs.Methods.{static_type}
use Rattle.par_source_code_laws.specs.Methods.{own_type, is_input, is_output, IsLaid}
use Rattle.par_source_code_laws.proofs.Items.{code_names_each}
use Rattle.par_file_run_laws.specs.Layout.{LOCKS, file_place, is_loaded, layout_of}
use Rattle.par_file_run_laws.specs.Parts.{Known, NamesLock}
use Rattle.par_file_run_laws.proofs.Texts.{same-text, unbuilt}
use Rattle.par_file_run_laws.proofs.Known.{word-is, no-word, one-class}
use Rattle.par_file_run_laws.proofs.Callees.{there, method-at}
use Rattle.par_file_run_laws.proofs.Each.{in_sta}
use Rattle.par_file_run_laws.proofs.Codes.{methods-are}
use Rattle.par_file_run_laws.proofs.Held.{method-here, method-in}

-- ---- a test that the classes pass

abbrev passes : List ClassFile → Name → Bool
passes files class = not (is_nothing (class_named files (full_name class)))

abbrev is_lock : ℕ → Bool
is_lock l = nat_lt l LOCKS

module _ (files : List ClassFile) (file : ClassFile)
    (closed : (index : ℕ) (name : Name) → IsClassAt file.pool.entries index name
    → is_nothing (class_named files name) ≡ false) where
  class-passes : (index : ℕ) (class : Name)
      → IsClassAt file.pool.entries index (full_name class) → passes files class ≡ true
  class-passes index class is =
      not_from_false _ (closed index (full_name class) is)

  items-pass : (items : List Item) (indices : List ℕ)
      → AllZip (Names file.pool.entries) items indices → AllByRecursion NamesLock items
      → AllByRecursion (ItemPasses (passes files) is_lock) items
  items-pass [] indices named locks = tt
  items-pass (Label l ∷ items) [] named locks = absurd named
  items-pass (Label l ∷ items) (index ∷ indices) named locks =
      (tt, items-pass items indices named.1 locks.1)
  items-pass (Op i ∷ items) [] named locks = absurd named
  items-pass (Op i ∷ items) (index ∷ indices) named locks =
      (tt, items-pass items indices named.1 locks.1)
  items-pass (Const v ∷ items) [] named locks = absurd named
  items-pass (Const v ∷ items) (index ∷ indices) named locks =
      (tt, items-pass items indices named.1 locks.1)
  items-pass (Jump o l ∷ items) [] named locks = absurd named
  items-pass (Jump o l ∷ items) (index ∷ indices) named locks =
      (tt, items-pass items indices named.1 locks.1)
  items-pass (Member o class name of_type ∷ items) [] named locks = absurd named
  items-pass (Member o class name of_type ∷ items) (index ∷ indices) named locks = (
    class-passes named.0.owner class named.0.is_class,
    items-pass items indices named.1 locks.1,
  )
  items-pass (ClassOp o class ∷ items) [] named locks = absurd named
  items-pass (ClassOp o class ∷ items) (index ∷ indices) named locks =
      (class-passes index class named.0, items-pass items indices named.1 locks.1)
  items-pass (LockOp o l ∷ items) [] named locks = absurd named
  items-pass (LockOp o l ∷ items) (index ∷ indices) named locks =
      (lt-ltb l LOCKS locks.0, items-pass items indices named.1 locks.1)

  handlers-pass : (offset : ℕ → ℕ) (handlers : List Handler) (catches : List Catch)
      → AllZip (IsCatch file.pool.entries offset) handlers catches
      → AllByRecursion (HandlerPasses (passes files)) handlers
  handlers-pass offset [] catches all = tt
  handlers-pass offset (h ∷ handlers) [] all = absurd all
  handlers-pass offset (h ∷ handlers) (c ∷ catches) all =
      (class-passes c.class h.class all.0.class, handlers-pass offset handlers catches all.1)

  pub record Placed (code : Labelled) : Type 0 where
    pub attr : CodeAttr
    pub is : IsPlaced file.pool.entries code attr

  placed : (code : Labelled) (attr : Option CodeAttr)
      → IsCode file.pool.entries (Some code) attr → Placed code
  placed code None is = absurd is
  placed code (Some attr) is = record { attr = record attr { attributes = [] }; is = is }

  code-passes : (w : Words) (code : Labelled) (body : TSta) → code.items ≡ body_code w body
      → code.handlers ≡ body_handlers w body → Placed code
      → AllByRecursion NamesLock (body_code w body)
      → EachInSta (NamedPasses (passes files) is_lock w) body
  code-passes w code body items handlers is locks =
      code_names_each (passes files) is_lock w body
      (subst (λ (xs : List Item). AllByRecursion (ItemPasses (passes files) is_lock) xs) items
      (items-pass code.items is.is.indices is.is.named
      (subst (λ (xs : List Item). AllByRecursion NamesLock xs) (sym items) locks)))
      (subst (λ (hs : List Handler). AllByRecursion (HandlerPasses (passes files)) hs) handlers
      (handlers-pass (offset_of code.items is.is.indices) code.handlers is.attr.catches
      is.is.catches))

-- ---- classes that pass are laid out

same-choice : {A : Type 0} (b : Bool) (o : Option A) → o ≡ None → cond b o None ≡ o
same-choice true o none = refl
same-choice false o none = sym none

module _ (table : Table) (bodies : List Body) (files : List ClassFile)
    (known : Known table bodies files) where
  no-other : (c : ℕ) → file_place files table c ≡ None
      → passes files (class_word table c) ≡ true → c < 2
  no-other c none pass = in_case (is_builtin (class_word table c)) refl where
    of-name : (d : ℕ) (class : ClassInfo) → slice_get table.classes d ≡ Some class → d < 2
        → (o : Option ClassInfo) → slice_get table.classes c ≡ o
        → (class.name ≡ [] → ⊥) → class_word table c ≡ class.name → c < 2
    of-name d class there early None missing some same =
        absurd (some (sym same ∙ no-word table c missing))
    of-name d class there early (Some own) at some same =
        let one : c ≡ d =
        one-class table bodies files known c d own class at there
        (sym (word-is table c own at) ∙ same) in
        omega arith

    unnamed : (o : Option ClassInfo) → slice_get table.classes c ≡ o
        → builtin (class_word table c) ≡ None
    unnamed None missing = ap builtin (no-word table c missing)
    unnamed (Some own) at =
        unbuilt (class_word table c)
        (subst IsName (sym (word-is table c own at)) (known.classes c own at).named)

    in_case : (b : Bool) → is_builtin (class_word table c) ≡ b → c < 2
    in_case true is =
        ⊎_elim
        (λ first. of-name 0 known.first.0 known.first.1 (omega arith)
        (slice_get table.classes c) refl (λ empty. absurd (cc (sym known.first.2 ∙ empty)))
        (same-text _ _ first ∙ sym known.first.2))
        (λ second. of-name 1 known.second.0 known.second.1 (omega arith)
        (slice_get table.classes c) refl (λ empty. absurd (cc (sym known.second.2 ∙ empty)))
        (same-text _ _ second ∙ sym known.second.2))
        (or_cases (bytes_eq (class_word table c) (codes "ArithmeticException")) _ is)
    in_case false is =
        let plain : full_name (class_word table c) ≡ class_word table c =
        ap (λ (b : Bool). cond b (codes "java/lang/" ++ class_word table c) (class_word table c))
        is in
        absurd (cc (sym pass
        ∙ ap (λ (name : Name). not (is_nothing (class_named files name))) plain
        ∙ ap (λ o. not (is_nothing (class_of o (class_place files (class_word table c)))))
        (unnamed (slice_get table.classes c) refl)
        ∙ ap (λ (o : Option ℕ). not (is_nothing (listed o))) none))

  loaded-or-early : (c : ℕ) → passes files (class_word table c) ≡ true
      → (is_loaded files table c ≡ true) ⊎ (c < 2)
  loaded-or-early c pass = in_case (file_place files table c) refl where
    in_case : (o : Option ℕ) → file_place files table c ≡ o
        → (is_loaded files table c ≡ true) ⊎ (c < 2)
    in_case (Some n) is = inl (ap is_some is)
    in_case None none = inr (no-other c none pass)

  early-exception : (c : ℕ) → c < 2
      → (class : ClassInfo) × (slice_get table.classes c ≡ Some class) × (class.exception ≡ true)
  early-exception zero early = (known.first.0, known.first.1, known.first.3)
  early-exception (suc zero) early = (known.second.0, known.second.1, known.second.3)
  early-exception (suc (suc c)) early = absurd (omega arith)

  -- it has no members
  no-field : (c f : ℕ) → c < 2 → field_at table c f ≡ None
  no-field c f early =
      let of = early-exception c early in
      ap (λ (o : Option ClassInfo). slice_get (fields_in o) f) of.1
      ∙ ap (λ fs. slice_get fs f) ((known.classes c of.0 of.1).bare of.2).0

  no-channel : (c k : ℕ) → c < 2 → channel_at table c k ≡ None
  no-channel c k early =
      let of = early-exception c early in
      ap (λ (o : Option ClassInfo). slice_get (channels_in o) k) of.1
      ∙ ap (λ ks. slice_get ks k) ((known.classes c of.0 of.1).bare of.2).1

  no-method : (c i : ℕ) → c < 2 → method_at table c i ≡ None
  no-method c i early =
      let of = early-exception c early in
      ap (λ (o : Option ClassInfo). slice_get (methods_in o) i) of.1
      ∙ ap (λ ms. slice_get ms i) ((known.classes c of.0 of.1).bare of.2).2

  not-ordinary : (c : ℕ) → c < 2 → is_ordinary (slice_get table.classes c) ≡ false
  not-ordinary c early =
      let of = early-exception c early in ap is_ordinary of.1 ∙ ap not of.2

  both : (a b : Bool) → (a ≡ true) ⊎ (b ≡ false) → (a && b) ≡ b
  both a b (inl is) = ap (λ (x : Bool). x && b) is
  both a b (inr is) = and_right a b is ∙ sym is

  choice : {A : Type 0} (a : Bool) (o : Option A) → (a ≡ true) ⊎ (o ≡ None) → cond a o None ≡ o
  choice a o (inl is) = ap (λ (x : Bool). cond x o None) is
  choice a o (inr none) = same-choice a o none

  where-early : (c : ℕ) (P : Type 0) → (c < 2 → P) → passes files (class_word table c) ≡ true
      → (is_loaded files table c ≡ true) ⊎ P
  where-early c P early pass =
      ⊎_elim (λ loaded. inl loaded) (λ less. inr (early less)) (loaded-or-early c pass)

  -- what is named so is laid out
  laid-each : (n : Named) → NamedPasses (passes files) is_lock (words_of table) n
      → IsLaid (layout_of files table bodies) table bodies n
  laid-each (Made c) pass =
      both (is_loaded files table c) (is_ordinary (slice_get table.classes c))
      (where-early c _ (not-ordinary c) pass)
  laid-each (Raised c) pass =
      let exception = class_is_exception (slice_get table.classes c) in
      let loaded = is_loaded files table c in
      ⊎_elim
      (λ is. ap (λ (b : Bool). (b || nat_lt c 2) && exception) is)
      (λ early. ap (λ (b : Bool). b && exception)
      (or_right loaded (nat_lt c 2) (lt-ltb c 2 early)))
      (loaded-or-early c pass)
  laid-each (OfClass c f) pass =
      choice (is_loaded files table c) (static_type (field_at table c f))
      (where-early c _ (λ early. ap static_type (no-field c f early)) pass)
  laid-each (OfObject c f) pass =
      choice (is_loaded files table c) (own_type (field_at table c f))
      (where-early c _ (λ early. ap own_type (no-field c f early)) pass)
  laid-each (Reads c k) pass =
      both (is_loaded files table c) (is_input (channel_at table c k))
      (where-early c _ (λ early. ap is_input (no-channel c k early)) pass)
  laid-each (Writes c k) pass =
      both (is_loaded files table c) (is_output (channel_at table c k))
      (where-early c _ (λ early. ap is_output (no-channel c k early)) pass)
  laid-each (Calls c i) pass =
      choice (is_loaded files table c) (meth_at table bodies c i)
      (where-early c _ (λ early. ap (λ o. may_meth o (body_of bodies c i)) (no-method c i early))
      pass)
  laid-each (Uses l) pass = pass

  -- what the body of a method names is laid out
  pub named : (c i : ℕ) (me : Meth) → HasMethod (layout_of files table bodies) c i me
      → EachInSta (IsLaid (layout_of files table bodies) table bodies) me.body
  named c i me has =
      let found = method-here table bodies files known c i me has in
      let s = found.1 in
      let is = method-in table bodies files known c i me has found.0 s in
      let w = words_of table in
      let place : ℕ = suc (length s.class.channels + i) in
      let in_file =
      there table bodies files known c found.0 s place
      (method table bodies is.info (body_of bodies c i))
      (method-at table bodies c s.class i is.info is.has) in
      let same : is.body ≡ me.body = ap (λ (x : Meth). x.body) is.is in
      let closed = known.closed found.0 s.file s.listed in
      let code =
      placed files s.file closed (labelled w is.info is.body) in_file.item.code
      (subst (λ (o : Option TSta). IsCode s.file.pool.entries (option_map (labelled w is.info) o)
      in_file.item.code) is.body_is in_file.related.code) in
      let locks =
      subst (λ (b : TSta). AllByRecursion NamesLock (body_code w b)) (sym same)
      (known.locks c i me (methods-are table bodies files known c i me has)) in
      subst (EachInSta (IsLaid (layout_of files table bodies) table bodies)) same
      (in_sta _ _ laid-each is.body
      (code-passes files s.file closed w (labelled w is.info is.body) is.body refl refl code locks))
