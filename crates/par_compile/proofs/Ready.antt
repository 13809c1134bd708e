-- The files of a well-typed program can be written: its code can be placed, and the pool of each
-- class has room.
use Rattle.std.proofs.Common.{◌≡◌, ℕ, zero, suc, ◌+◌, ◌*◌, ◌≤◌, Bool, true, false, List, [], ◌∷◌}
use Rattle.std.proofs.Common.{length, map, drop, get_or, Option, Some, refl, sym, ap, subst, ◌∙◌}
use Rattle.std.proofs.Common.{◌<◌, inl, inr, length-append, arith}
use Rattle.std.specs.Prelude.{◌⊎◌, Contains, slice_get, nat_lt, if◌then◌else◌}
use Rattle.std.specs.List.{All, AllByRecursion, sum_by, flat_map}
use Rattle.std.proofs.lemmas.Bool.{ltb-true, ltb-false}
use Rattle.std.proofs.lemmas.List.{length-map}
use Rattle.std.proofs.lemmas.List.Elements.{All-nil, All-cons, Contains-append_right}
use Rattle.std.proofs.lemmas.List.Elements.{Contains-append_cases}
use Rattle.std.proofs.lemmas.List.Sums.{sum_by-cons}
use Rattle.std.proofs.lemmas.Option.{none-some, slice_get-get_or}
use Rattle.par_base.specs.Names.{IsName}
use Rattle.par_policy.proofs.Ordered.{Contains-cons_cases, Contains-nil}
use Rattle.par_typed.specs.declared.table.ChannelInfo.{ChannelInfo}
use Rattle.par_typed.specs.declared.table.ClassInfo.{ClassInfo}
use Rattle.par_typed.specs.declared.table.MethodInfo.{MethodInfo}
use Rattle.par_typed.specs.declared.table.Table.{Table}
use Rattle.par_typed.specs.Plain.{Body}
use Rattle.par_typed.specs.Members.{methods_in, method_at}
use Rattle.par_run_laws.specs.Names.{body_of}
use Rattle.par_source_code_laws.specs.par_typed_laws.Limits.{TakesFew, HaveFewParams}
use Rattle.par_source_code_laws.specs.par_typed_laws.Limits.{IsLimitedClass}
use Rattle.par_source_code_laws.specs.par_typed_laws.Sizes.{IsSmallOf, IsSmallBody}
use Rattle.par_source_code_laws.specs.par_typed_laws.WellTyped.{IsWellTyped}
use Rattle.par_code_form.specs.declared.labelled.Labelled.{Labelled}
use Rattle.par_code_form.specs.declared.labelled.LabelFrame.{LabelFrame}
use Rattle.par_code_form.specs.declared.labelled.Slot.{Slot}
use Rattle.par_code_form.specs.declared.labelled.Slot.TheVariants as slot
use Rattle.par_code_form.specs.Code.{Words}
use Rattle.par_code_form.specs.Method.{labelled}
use Rattle.par_code_form.specs.Named.{words_of}
use Rattle.par_code_form.specs.PoolNames.{entry_count}
use Rattle.par_code_form.specs.Placeable.{IsPlaceable}
use Rattle.par_code_form.specs.PlaceableFrames.{AreFramesPlaceable}
use Rattle.par_erase.specs.declared.program.PlainMethod.{PlainMethod}
use Rattle.par_erase.specs.declared.program.PlainClass.{PlainClass}
use Rattle.par_erase.specs.declared.program.Plain.{Plain}
use Rattle.par_erase.specs.Asked.{asked_in}
use Rattle.par_erase.specs.Named as erased
use Rattle.par_erase.specs.Erased.{erased_table, erased_class, erased_method, erased_bodies}
use Rattle.par_erase.specs.Erased.{erased_field, erased_param, erased_sta, erased_channels}
use Rattle.par_erase.specs.Erased.{inputs_among, outputs_among}
use Rattle.par_erase.specs.Shown.{Name, does, channel_info, field_info, param_info, method_info}
use Rattle.par_erase.specs.Shown.{class_info, table_of, bodies_of, inputs_of}
use Rattle.par_framing.specs.par_frames.Names.{whole_name, classes_of}
use Rattle.par_framing.specs.par_frames.Room.{SPARE}
use Rattle.par_framing.specs.par_compile_laws.Framed.{kinds_of, classes_in, frame_classes}
use Rattle.par_source_code_laws.specs.Slots.{IsOfClass, IsOfClasses}
use Rattle.par_source_code_laws.specs.PlaceableLaws.{IsReadyBody, LabelledCodeIsPlaceable}
use Rattle.par_source_code_laws.specs.PlaceableLaws.{WordsAreTexts}
use Rattle.par_source_code_laws.specs.PlaceableLaws.{NamesClasses, FramesNameClasses}
use Rattle.par_source_code_laws.specs.Laws.{erased_body}
use Rattle.par_source_code_laws.proofs.Bodies.{bodies_are_erased, found}
use Rattle.par_compile.specs.Own.{IsMethodReady, IsReady, code_in, code_entries, methods_entries}
use Rattle.par_compile.specs.Own.{methods_classes}
use Rattle.par_compile.proofs.Lists.{some_is}
use Rattle.par_compile.proofs.Each.{slice_drop}
use Rattle.par_compile.proofs.Bodies.{body_found}

-- ---- lists that are the same but for erasing

-- where two lists show the same, an item of one has a partner in the other
partner : {A B C : Type 0} (f : A → C) (g : B → C) (xs : List A) (ys : List B) (i : ℕ) (x : A)
    → map f xs ≡ map g ys → slice_get xs i ≡ Some x
    → (y : B) × (slice_get ys i ≡ Some y) × (f x ≡ g y)
partner f g [] ys i x e h = absurd (none-some x h)
partner f g (z ∷ xs) [] i x e h = absurd (cc)
partner f g (z ∷ xs) (y ∷ ys) zero x e h =
    let same : f z ≡ g y = cc in
    let is : z ≡ x = some_is z x h in
    (y, refl, ap f (sym is) ∙ same)
partner f g (z ∷ xs) (y ∷ ys) (suc i) x e h =
    let rest : map f xs ≡ map g ys = cc in partner f g xs ys i x rest h

same-length : {A B C : Type 0} (f : A → C) (g : B → C) (xs : List A) (ys : List B)
    → map f xs ≡ map g ys → length xs ≡ length ys
same-length f g xs ys e =
    omega (arith, length-map xs f, length-map ys g, ap length e)

at : {A : Type 0} (P : A → Type 0) (xs : List A) (i : ℕ) (x : A) → AllByRecursion P xs
    → slice_get xs i ≡ Some x → P x
at P [] i x h e = absurd (none-some x e)
at P (y ∷ xs) zero x h e = subst P (some_is y x e) h.0
at P (y ∷ xs) (suc i) x h e = at P xs i x h.1 e

both : {A : Type 0} (P Q : A → Type 0) (xs : List A) → AllByRecursion P xs → AllByRecursion Q xs
    → AllByRecursion (λ x. P x × Q x) xs
both P Q [] p q = tt
both P Q (x ∷ xs) p q = ((p.0, q.0), both P Q xs p.1 q.1)

channel-long : (b : Bool) (name : Name) (ins outs : List Name) (n : ℕ)
    → length ins + length outs ≡ n
    → length (if b then name ∷ ins else ins) + length (if b then outs else name ∷ outs) ≡ suc n
channel-long true name ins outs n e = omega (arith, e)
channel-long false name ins outs n e = omega (arith, e)

channels-long : (cs : List ChannelInfo) → length (inputs_among cs) + length (outputs_among cs)
    ≡ length cs
channels-long [] = omega arith
channels-long (c ∷ cs) =
    channel-long c.is_input c.name (inputs_among cs) (outputs_among cs) (length cs)
    (channels-long cs)

-- ---- the names of classes

module _ (w : Words) where
  -- what a class of one of these numbers is called in class files
  abbrev IsWholeName : ℕ → Name → Type 0
  IsWholeName n name = (c : ℕ) × (c < n) × (name ≡ whole_name (w.class c))

  whole-names : ℕ → List Name
  whole-names zero = []
  whole-names (suc n) = whole_name (w.class n) ∷ whole-names n

  whole-names-long : (n : ℕ) → length (whole-names n) ≡ n
  unfolding whole-names
  whole-names-long zero = refl
  whole-names-long (suc n) = ap (λ (k : ℕ). suc k) (whole-names-long n)

  among-whole-names : (n : ℕ) (name : Name) → IsWholeName n name
      → Contains (whole-names n) name
  unfolding whole-names
  among-whole-names zero name h = absurd (omega (arith, h.1))
  among-whole-names (suc n) name h =
      choose (λ lower. among-whole-names n name (h.0, lower, h.2)) (nat_lt h.0 n) refl
    where
      choose : (h.0 < n → Contains (whole-names n) name) → (b : Bool) → nat_lt h.0 n ≡ b
          → Contains (whole-names (suc n)) name
      choose more true e =
          Contains-append_right (whole_name (w.class n) ∷ []) (whole-names n) name
          (more (ltb-true h.0 n e))
      choose more false e =
          let last : h.0 ≡ n = omega (arith, h.1, ltb-false h.0 n e) in
          (0, omega arith, sym (h.2 ∙ ap (λ (c : ℕ). whole_name (w.class c)) last))

  slots-of : (n : ℕ) (slots : List Slot) (name : Name) → AllByRecursion (IsOfClass w n) slots
      → Contains (classes_of (kinds_of slots)) name → IsWholeName n name
  slots-of n [] name are c = absurd (Contains-nil name c)
  slots-of n (slot.Unset ∷ slots) name are c = slots-of n slots name are.1 c
  slots-of n (slot.Int ∷ slots) name are c = slots-of n slots name are.1 c
  slots-of n (slot.Null ∷ slots) name are c = slots-of n slots name are.1 c
  slots-of n (slot.Class class ∷ slots) name are c =
      here (slots-of n slots name are.1)
      (Contains-cons_cases (whole_name class) (classes_of (kinds_of slots)) name c)
    where
      here : (Contains (classes_of (kinds_of slots)) name → IsWholeName n name)
          → (name ≡ whole_name class) ⊎ Contains (classes_of (kinds_of slots)) name
          → IsWholeName n name
      here more (inl e) = (are.0.0, are.0.1, e ∙ ap (λ (x : Name). whole_name x) are.0.2)
      here more (inr later) = more later

  frames-of : (n : ℕ) (fs : List LabelFrame) (name : Name)
      → AllByRecursion (IsOfClasses w n) fs → Contains (flat_map classes_in fs) name
      → IsWholeName n name
  frames-of n [] name are c = absurd (Contains-nil name c)
  frames-of n (f ∷ fs) name are c =
      here (frames-of n fs name are.1)
      (Contains-append_cases (classes_in f) (flat_map classes_in fs) name c)
    where
      inside : Contains (classes_of (kinds_of f.locals)) name
          ⊎ Contains (classes_of (kinds_of f.stack)) name → IsWholeName n name
      inside (inl h) = slots-of n f.locals name are.0.locals h
      inside (inr h) = slots-of n f.stack name are.0.stack h

      here : (Contains (flat_map classes_in fs) name → IsWholeName n name)
          → Contains (classes_in f) name ⊎ Contains (flat_map classes_in fs) name
          → IsWholeName n name
      here more (inl h) =
          inside (Contains-append_cases (classes_of (kinds_of f.locals))
          (classes_of (kinds_of f.stack)) name h)
      here more (inr later) = more later

-- ---- a method

-- what is known of a method by the method of the source, where there are so many classes
record IsKnown (w : Words) (classes : ℕ) (p : Plain) (m : PlainMethod) (source : MethodInfo)
    : Type 0 where
  ready : IsMethodReady p m
  few : entry_count (code_in p m) ≤ 8 * source.nodes
  named : (name : Name) → Contains (frame_classes (code_in p m)) name → IsWholeName w classes name

module _ (all_ready : LabelledCodeIsPlaceable) (words_are_texts : WordsAreTexts)
    (frames_named : FramesNameClasses) (t : Table)
    (bs : List Body) (typed : IsWellTyped t bs) (p : Plain)
    (named : erased.AreNamed (table_of p)) (table : table_of p ≡ erased_table t)
    (bodies : bodies_of p ≡ erased_bodies t bs) where
  abbrev words : Words
  words = words_of (erased_table t)

  known : (c i : ℕ) (k : PlainClass) (m : PlainMethod) (source : ClassInfo) (tm : MethodInfo)
      → slice_get p.classes c ≡ Some k → slice_get k.methods i ≡ Some m
      → slice_get t.classes c ≡ Some source → slice_get source.methods i ≡ Some tm
      → method_info m ≡ erased_method tm
      → IsKnown words (length t.classes) p m tm
  known c i k m source tm there is of-class of-method same =
      let asked = asked_in bs in
      let s = does (inputs_of p) m.body in
      let w : Words = words in
      let info = method_info m in
      let P : Body → Type 0 = λ b. (IsReadyBody t w asked info b × IsSmallBody t b)
      × NamesClasses t w asked b in
      let stands : method_at t c i ≡ Some tm =
      ap (λ (o : Option ClassInfo). slice_get (methods_in o) i) of-class ∙ of-method in
      let h : body_of (map (erased_body t asked) bs) c i ≡ Some s =
      sym (ap (λ (xs : List Body). body_of xs c i)
      (bodies ∙ bodies_are_erased t bs typed.one_each))
      ∙ body_found p c i k m there is in
      let texts = words_are_texts t (subst erased.AreNamed table named) typed.few_params in
      let all = both (λ b. IsReadyBody t w asked info b × IsSmallBody t b)
      (NamesClasses t w asked) bs
      (both (IsReadyBody t w asked info) (IsSmallBody t) bs
      (all_ready t bs typed w texts asked info) typed.small)
      (frames_named t bs typed w asked) in
      let b = found t asked P c i s bs all h in
      let code : labelled w info (erased_sta t asked b.body.body) ≡ code_in p m =
      ap (labelled w info) b.is
      ∙ ap (λ (x : Table). labelled (words_of x) info s) (sym table) in
      let small : IsSmallOf t b.body b.known.0.1.0 = b.known.0.1.1 in
      let spot : method_at t b.body.class b.body.method ≡ method_at t c i =
      ap (λ (x : ℕ). method_at t x b.body.method) b.class
      ∙ ap (λ (y : ℕ). method_at t c y) b.method in
      let one : tm ≡ b.known.0.1.0 =
      some_is tm b.known.0.1.0 (sym stands ∙ (sym spot ∙ small.method)) in
      let nodes : tm.nodes ≡ b.known.0.1.0.nodes = ap (λ (x : MethodInfo). x.nodes) one in
      let takes : length tm.params ≤ 16 =
      at TakesFew source.methods i tm
      (at HaveFewParams t.classes c source typed.few_params of-class) of-method in
      let params = ap (λ (x : MethodInfo). x.params) same in
      let Names : Labelled → Type 0 =
      λ code. AllByRecursion (IsOfClasses w (length t.classes)) code.frames in
      let names : Names (code_in p m) =
      subst Names code
      (subst (λ (x : MethodInfo). Names (labelled w x (erased_sta t asked b.body.body))) (sym same)
      (b.known.1 tm (spot ∙ stands))) in
      record {
        ready = record {
          few = omega (arith, takes, same-length param_info erased_param m.params tm.params params);
          placeable = subst IsPlaceable code b.known.0.0.placeable;
          framed = subst AreFramesPlaceable code b.known.0.0.framed;
        };
        few = omega (arith, b.known.0.0.few, ap entry_count code, small.nodes, nodes);
        named = λ name h. frames-of w (length t.classes) (code_in p m).frames name names h;
      }

  -- ---- a class

  code-few : (frames : Bool) (m : PlainMethod)
      → code_entries frames p m ≤ entry_count (code_in p m) + 1
  code-few true m = omega arith
  code-few false m = omega arith

  methods-few : (frames : Bool) (ms : List PlainMethod) (tms : List MethodInfo)
      → length ms ≡ length tms
      → ((j : ℕ) (m : PlainMethod) (tm : MethodInfo) → slice_get ms j ≡ Some m
      → slice_get tms j ≡ Some tm → entry_count (code_in p m) ≤ 8 * tm.nodes)
      → methods_entries frames p ms ≤ 8 * sum_by (λ m. m.nodes) tms + 3 * length tms + SPARE
  methods-few frames [] [] e each = omega arith
  methods-few frames [] (tm ∷ tms) e each = absurd (omega (arith, e))
  methods-few frames (m ∷ ms) [] e each = absurd (omega (arith, e))
  methods-few frames (m ∷ ms) (tm ∷ tms) e each =
      let long : length ms ≡ length tms = omega (arith, e) in
      omega (
        arith,
        methods-few frames ms tms long (λ j x tx h g. each (suc j) x tx h g),
        each 0 m tm refl refl,
        code-few frames m,
        sum_by-cons (λ (x : MethodInfo). x.nodes) tm tms,
      )

  no-classes : (ms : List PlainMethod) (name : Name) → Contains (methods_classes false p ms) name
      → ⊥
  no-classes [] name h = omega (arith, h.1)
  no-classes (m ∷ ms) name h = no-classes ms name h

  classes-named : (ms : List PlainMethod)
      → ((j : ℕ) (m : PlainMethod) → slice_get ms j ≡ Some m → (name : Name)
      → Contains (frame_classes (code_in p m)) name → IsWholeName words (length t.classes) name)
      → (name : Name) → Contains (methods_classes true p ms) name
      → IsWholeName words (length t.classes) name
  classes-named [] each name h = absurd (Contains-nil name h)
  classes-named (m ∷ ms) each name h =
      elim (Contains-append_cases (frame_classes (code_in p m)) (methods_classes true p ms) name
      h) [
        | inl first ↦ each 0 m refl name first
        | inr later ↦ classes-named ms (λ j x is. each (suc j) x is) name later
      ]

  covered : (frames : Bool) (ms : List PlainMethod)
      → ((j : ℕ) (m : PlainMethod) → slice_get ms j ≡ Some m → (name : Name)
      → Contains (frame_classes (code_in p m)) name → IsWholeName words (length t.classes) name)
      → (name : Name) → Contains (methods_classes frames p ms) name
      → Contains (whole-names words (length t.classes)) name
  covered true ms each name h =
      among-whole-names words (length t.classes) name (classes-named ms each name h)
  covered false ms each name h = absurd (no-classes ms name h)

  class-ready : (c : ℕ) (k : PlainClass) → slice_get p.classes c ≡ Some k → IsReady p k
  class-ready c k there =
      let tc = partner class_info erased_class p.classes t.classes c k
      (ap (λ (x : Table). x.classes) table) there in
      let source : ClassInfo = tc.0 in
      let same : class_info k ≡ erased_class source = tc.2 in
      let methods : map method_info k.methods ≡ map erased_method source.methods =
      ap (λ (x : ClassInfo). x.methods) same in
      let fields = same-length field_info erased_field k.fields source.fields
      (ap (λ (x : ClassInfo). x.fields) same) in
      let channels : length (class_info k).channels ≡ length (erased_channels source.channels) =
      ap (λ (x : ClassInfo). length x.channels) same in
      let many = same-length method_info erased_method k.methods source.methods methods in
      let limited = at IsLimitedClass t.classes c source typed.few_members tc.1 in
      let each : (i : ℕ) (m : PlainMethod) (tm : MethodInfo) → slice_get k.methods i ≡ Some m
      → slice_get source.methods i ≡ Some tm → method_info m ≡ erased_method tm
      → IsKnown words (length t.classes) p m tm =
      λ i m tm is of-method e. known c i k m source tm there is tc.1 of-method e in
      let few : (frames : Bool) → methods_entries frames p k.methods
      ≤ 8 * sum_by (λ m. m.nodes) source.methods + 3 * length source.methods + SPARE =
      λ frames. methods-few frames k.methods source.methods many (λ j m tm is of-method.
      let mate = partner method_info erased_method k.methods source.methods j m methods is in
      let one : mate.0 ≡ tm = some_is mate.0 tm (sym mate.1 ∙ of-method) in
      (each j m tm is of-method (mate.2 ∙ ap erased_method one)).few) in
      let names : (j : ℕ) (m : PlainMethod) → slice_get k.methods j ≡ Some m → (name : Name)
      → Contains (frame_classes (code_in p m)) name → IsWholeName words (length t.classes) name =
      λ j m is.
      let mate = partner method_info erased_method k.methods source.methods j m methods is in
      (each j m mate.0 is mate.1 mate.2).named in
      record {
        methods = λ i d lt.
            let m = get_or k.methods i d in
            let is : slice_get k.methods i ≡ Some m = slice_get-get_or k.methods i d lt in
            let mate = partner method_info erased_method k.methods source.methods i m methods is in
            (each i m mate.0 is mate.1 mate.2).ready;
        room = λ frames. record {
          missing = whole-names words (length t.classes);
          covered = λ name h. inl (covered frames k.methods names name h);
          room =
              omega (
                arith,
                few frames,
                whole-names-long words (length t.classes),
                typed.few_classes,
                many,
                fields,
                channels,
                limited.members,
                limited.methods,
                limited.nodes,
                channels-long source.channels,
                length-append (map (channel_info true) k.inputs)
                    (map (channel_info false) k.outputs),
                length-append (map (channel_info true) (inputs_among source.channels))
                    (map (channel_info false) (outputs_among source.channels)),
                length-map k.inputs (channel_info true),
                length-map k.outputs (channel_info false),
                length-map (inputs_among source.channels) (channel_info true),
                length-map (outputs_among source.channels) (channel_info false),
              );
        };
      }

  -- the file of each declared class can be written
  pub classes_ready : (n : ℕ) → All (IsReady p) (drop n p.classes)
  classes_ready n = λ i d lt.
      let k = get_or (drop n p.classes) i d in
      class-ready (n + i) k
      (slice_drop n i p.classes k (slice_get-get_or (drop n p.classes) i d lt))

-- classes are called by names
pub classes_named : (ks : List PlainClass) → AllByRecursion erased.IsNamed (map class_info ks)
    → All (λ k. IsName k.name) ks
classes_named [] h = All-nil (λ k. IsName k.name)
classes_named (k ∷ ks) h =
    All-cons (λ k. IsName k.name) k ks h.0.name (classes_named ks h.1)
