-- Names and numbers are the same to a program and to its loaded class files.
use Rattle.std.proofs.Common.{◌≡◌, ℕ, Bool, true, false, cond, ◌&&◌}
use Rattle.std.proofs.Common.{◌==◌, nat_lt, ◌⊎◌, inl, inr, ⊎_elim, List, map, Option, Some}
use Rattle.std.proofs.Common.{None, slice_get, refl, sym, ap, subst, ◌∙◌, arith, codes}
use Rattle.std.specs.Str.{bytes_eq}
use Rattle.std.proofs.lemmas.Bool.{and_from, and_left, or_right, eq-eqb, ne_eqb, cases_eq}
use Rattle.par_typed.specs.declared.ty.Ty.{Ty}
use Rattle.par_typed.specs.declared.ty.Ty.TheVariants as ty
use Rattle.par_typed.specs.declared.table.ClassInfo.{ClassInfo}
use Rattle.par_typed.specs.declared.table.Table.{Table}
use Rattle.par_typed.specs.Plain.{Body}
use Rattle.par_class.specs.declared.file.ClassFile.{ClassFile}
use Rattle.par_program_laws.proofs.TableNames.{names_stand_once}
use Rattle.par_values.specs.declared.kind.Kind.TheVariants as kind
use Rattle.par_values.specs.declared.link.Target.TheVariants as to
use Rattle.par_values.specs.declared.link.Link.TheVariants as link
use Rattle.par_values.specs.Areas.{Name, first_value, name_or_none}
use Rattle.par_values.specs.Areas as areas
use Rattle.par_run_laws.specs.Names as names
use Rattle.par_match_laws.specs.par_link.Builtins.{builtin_method}
use Rattle.par_match_laws.specs.par_link.Named.{method_of, method_declared}
use Rattle.par_match_laws.specs.Files.{is_of_exceptions}
use Rattle.par_match_laws.specs.par_step_laws.Classes.{class_names}
use Rattle.par_class.specs.declared.file.FieldFile.{FieldFile}
use Rattle.par_match_laws.specs.par_step_laws.Fields.{is_shared, object_kinds, all_statics}
use Rattle.par_match_laws.specs.par_step_laws.Fields.{field_place}
use Rattle.par_match_laws.specs.par_step_laws.Fields.{lock_place}
use Rattle.par_match_laws.specs.par_step_laws.Fields as steps
use Rattle.par_match_laws.specs.par_step_laws.FieldLaws.{IsFieldOf}
use Rattle.par_match_laws.proofs.par_step_laws.Placing.{static_fields_apart, static_fields_stand}
use Rattle.par_match_laws.proofs.par_step_laws.Placing.{own_fields_apart}
use Rattle.par_match_laws.proofs.par_step_laws.Placing.{own_fields_stand}
use Rattle.par_code_form.specs.Code.{Words}
use Rattle.par_code_form.specs.Named.{class_word, words_of}
use Rattle.par_match_laws.specs.Naming.{class_of_name, method_of_name, naming_of}
use Rattle.par_match_laws.specs.Naming as naming
use Rattle.par_source_code_laws.specs.par_evaluation_laws.Laid.{Layout, Meth, IsMade, IsThrown}
use Rattle.par_source_code_laws.specs.par_evaluation_laws.Laid.{HasStatic, HasOwn}
use Rattle.par_source_code_laws.specs.par_evaluation_laws.Laid.{IsInput}
use Rattle.par_source_code_laws.specs.par_evaluation_laws.Laid.{IsOutput, HasMethod, IsLock, moved}
use Rattle.par_source_code_laws.specs.par_evaluation_laws.Laid.{HasType}
use Rattle.par_source_code_laws.specs.par_evaluation_laws.Laid as laid
use Rattle.par_source_code_laws.specs.par_evaluation_laws.Agreement.{Lays, initializer, init_target}
use Rattle.par_compile_laws.specs.DescriptorLaws.{IsValueType}
use Rattle.par_typed.specs.Members.{class_is_exception}
use Rattle.par_file_run_laws.specs.Layout.{is_loaded, number_of, spot, layout_of}
use Rattle.par_file_run_laws.proofs.Lists.{mapped-at, same-item}
use Rattle.par_file_run_laws.proofs.Texts.{text-itself, unlike, no-name}
use Rattle.par_file_run_laws.specs.Parts.{Known}
use Rattle.par_file_run_laws.proofs.Known.{Stands, number-is, word-is, word-said, is-named}
use Rattle.par_file_run_laws.proofs.Fields.{in_file, is-of, static-said, spot-is, kind-there}
use Rattle.par_file_run_laws.proofs.Fields.{field-linked}
use Rattle.par_file_run_laws.proofs.Fields as fields
use Rattle.par_file_run_laws.proofs.Classes.{Numbered, numbered, class-linked, one-word, one-number}
use Rattle.par_file_run_laws.proofs.Classes.{initializer-linked, initializer-takes, number-first}
use Rattle.par_file_run_laws.proofs.Classes.{number-second}
use Rattle.par_file_run_laws.proofs.Held.{FieldIn, ChannelIn, made-here, made-ordinary}
use Rattle.par_file_run_laws.proofs.Held.{ordinary-class, thrown-raised, not-both, static-here}
use Rattle.par_file_run_laws.proofs.Held.{static-in, own-here, own-in, input-here, input-in}
use Rattle.par_file_run_laws.proofs.Held.{output-here, output-in, method-here, method-in}
use Rattle.par_file_run_laws.proofs.LoadedChannels.{channel-plain, input-linked, output-linked}
use Rattle.par_file_run_laws.proofs.LoadedChannels as channels
use Rattle.par_file_run_laws.proofs.Methods.{no-void, method-plain, method-linked-as, takes-values}
use Rattle.par_file_run_laws.proofs.Methods.{has-room}

-- ---- what a field holds first

pub first-moved : (lay : Layout) (w : Words) (t : Ty)
    → first_value (laid.kind_of w t) ≡ moved lay (names.first_value t)
first-moved lay w ty.Int = refl
first-moved lay w ty.Boolean = refl
first-moved lay w (ty.Class c) = refl
first-moved lay w ty.Null = refl
first-moved lay w ty.Void = refl

first-typed : (lay : Layout) (b : ℕ → ℕ) (t : Ty) → HasType lay b t (names.first_value t)
first-typed lay b ty.Int = tt
first-typed lay b ty.Boolean = tt
first-typed lay b (ty.Class c) = tt
first-typed lay b ty.Null = tt
first-typed lay b ty.Void = tt

module _ (table : Table) (bodies : List Body) (files : List ClassFile)
    (known : Known table bodies files) where
  abbrev lay : Layout
  lay = layout_of files table bodies

  abbrev w : Words
  w = words_of table

  -- ---- a class

  name-shown : (c : ℕ) → Numbered table files c
      → areas.class_named (class_names files) (number_of files table c) ≡ class_word table c
  name-shown c has = ap name_or_none has.shown

  name-there : (c : ℕ) → Numbered table files c
      → names.class_named table c ≡ Some (class_word table c)
  name-there c has =
      ap names.class_name has.there ∙ ap Some (sym (word-is table c has.class has.there))

  made-numbered : (c : ℕ) → IsMade lay c → Numbered table files c
  made-numbered c made =
      let at = made-here table bodies files known c made in
      numbered table bodies files known c at.0 at.1

  thrown-numbered : (x : ℕ) → IsThrown lay x → Numbered table files x
  thrown-numbered x thrown = (thrown-raised table bodies files known x thrown).numbered

  made-there : (c : ℕ) → IsMade lay c → names.made_named table c ≡ Some (class_word table c)
  made-there c made =
      let at = made-here table bodies files known c made in
      let ordinary =
      ordinary-class table bodies files known c at.0 at.1
      (made-ordinary table bodies files known c made) in
      ap names.made_name at.1.there ∙ ap (λ (b : Bool). cond b None (Some at.1.class.name)) ordinary
      ∙ ap Some (sym (word-said table bodies files known c at.0 at.1))

  -- ---- a field

  module _ (c n : ℕ) (s : Stands table bodies files c n) (f : ℕ) (shared : Bool) (t : Ty)
      (is : FieldIn s.class f shared t) where
    value : IsValueType table is.info.ty
    value = (known.classes c s.class s.there).fields f is.info is.has

    pub not-void : t ≡ ty.Void → ⊥
    not-void void = no-void table is.info.ty value (is.type ∙ void)

    pub first-is : names.first_field table c f ≡ names.first_value t
    first-is =
        ap (λ (o : Option ClassInfo). names.first_in o f) s.there ∙ ap names.first_held is.has
        ∙ ap names.first_value is.type

    pub field-there : names.field_named table c f
        ≡ Some (record { class = class_word table c; name = w.field c f })
    field-there =
        ap (λ (o : Option ClassInfo). names.field_of o f) s.there
        ∙ ap (names.field_member s.class.name) is.has
        ∙ ap (λ (name : Name). Some (record { class = name; name = is.info.name }))
        (sym (word-said table bodies files known c n s))
        ∙ ap (λ (name : Name). Some (record { class = class_word table c; name = name }))
        (sym (fields.name-word table bodies files known c n s f is.info is.has))

    pub linked : naming.field_of_name files (class_word table c) (w.field c f) (w.field_type c f)
        ≡ link.Field (record {
          class = class_word table c;
          name = w.field c f;
          is_static = shared;
          kind = laid.kind_of w t;
          place = spot files table c f;
        })
    linked =
        let made = λ (b : Bool) (u : Ty). link.Field (record {
          class = class_word table c;
          name = w.field c f;
          is_static = b;
          kind = laid.kind_of w u;
          place = spot files table c f;
        }) in
        field-linked table bodies files known c n s f is.info is.has value
        ∙ ap (λ (b : Bool). made b is.info.ty) is.static ∙ ap (made shared) is.type

    abbrev file : FieldFile
    file = in_file table bodies files known c n s f is.info is.has

    place-is : spot files table c f ≡ field_place files n s.file f file
    place-is = spot-is table bodies files known c n s f is.info is.has

    is-field : IsFieldOf files n s.file f file
    is-field = is-of table bodies files known c n s f is.info is.has

    is-so : is_shared file ≡ shared
    is-so = static-said table bodies files known c n s f is.info is.has ∙ is.static

    holds-first : first_value (steps.kind_of s.file.pool.entries file)
        ≡ moved lay (names.first_field table c f)
    holds-first =
        ap first_value (kind-there table bodies files known c n s f is.info is.has value)
        ∙ first-moved lay w is.info.ty
        ∙ ap (λ (u : Ty). moved lay (names.first_value u)) is.type
        ∙ ap (moved lay) (sym first-is)

  -- what a field of a new object holds
  own-first : (c n : ℕ) (s : Stands table bodies files c n) (f : ℕ) (t : Ty) → HasOwn lay c f t
      → slice_get (map first_value (object_kinds s.file)) (spot files table c f)
      ≡ Some (moved lay (names.first_field table c f))
  own-first c n s f t has =
      let is = own-in table bodies files known c f t has n s in
      ap (slice_get (map first_value (object_kinds s.file))) (place-is c n s f false t is)
      ∙ (own_fields_stand files n s.file f (file c n s f false t is) (is-field c n s f false t is)
      (is-so c n s f false t is)).first
      ∙ ap Some (holds-first c n s f false t is)

  -- and what a static field holds before it is written
  pub static-first : (c f : ℕ) (t : Ty) → HasStatic lay c f t
      → slice_get (all_statics files) (spot files table c f)
      ≡ Some (moved lay (names.first_field table c f))
  static-first c f t has =
      let at = static-here table bodies files known c f t has in
      let is = static-in table bodies files known c f t has at.0 at.1 in
      ap (slice_get (all_statics files)) (place-is c at.0 at.1 f true t is)
      ∙ (static_fields_stand files at.0 at.1.file f (file c at.0 at.1 f true t is)
      (is-field c at.0 at.1 f true t is) (is-so c at.0 at.1 f true t is)).first
      ∙ ap Some (holds-first c at.0 at.1 f true t is)

  pub static-typed : (c f : ℕ) (t : Ty) (b : ℕ → ℕ) → HasStatic lay c f t
      → HasType lay b t (names.first_field table c f)
  static-typed c f t b has =
      let at = static-here table bodies files known c f t has in
      let is = static-in table bodies files known c f t has at.0 at.1 in
      subst (HasType lay b t) (sym (first-is c at.0 at.1 f true t is)) (first-typed lay b t)

  own-typed : (c f : ℕ) (t : Ty) (b : ℕ → ℕ) → HasOwn lay c f t
      → HasType lay b t (names.first_field table c f)
  own-typed c f t b has =
      let at = own-here table bodies files known c f t has in
      let is = own-in table bodies files known c f t has at.0 at.1 in
      subst (HasType lay b t) (sym (first-is c at.0 at.1 f false t is)) (first-typed lay b t)

  static-one : (c f d g : ℕ) (t u : Ty) → HasStatic lay c f t → HasStatic lay d g u
      → spot files table c f ≡ spot files table d g → (c ≡ d) × (f ≡ g)
  static-one c f d g t u has also same =
      let x = static-here table bodies files known c f t has in
      let y = static-here table bodies files known d g u also in
      let p = static-in table bodies files known c f t has x.0 x.1 in
      let q = static-in table bodies files known d g u also y.0 y.1 in
      let both =
      static_fields_apart files x.0 y.0 x.1.file y.1.file f g (file c x.0 x.1 f true t p)
      (file d y.0 y.1 g true u q) (is-field c x.0 x.1 f true t p) (is-field d y.0 y.1 g true u q)
      (is-so c x.0 x.1 f true t p) (is-so d y.0 y.1 g true u q)
      (sym (place-is c x.0 x.1 f true t p) ∙ same ∙ place-is d y.0 y.1 g true u q) in
      let one : c ≡ d =
      one-number table bodies files known c d (numbered table bodies files known c x.0 x.1)
      (numbered table bodies files known d y.0 y.1)
      (number-is table bodies files known c x.0 x.1 ∙ both.0
      ∙ sym (number-is table bodies files known d y.0 y.1)) in
      (one, both.1)

  own-one : (c f g : ℕ) (t u : Ty) → HasOwn lay c f t → HasOwn lay c g u
      → spot files table c f ≡ spot files table c g → f ≡ g
  own-one c f g t u has also same =
      let x = own-here table bodies files known c f t has in
      let p = own-in table bodies files known c f t has x.0 x.1 in
      let q = own-in table bodies files known c g u also x.0 x.1 in
      own_fields_apart files x.0 x.1.file f g (file c x.0 x.1 f false t p)
      (file c x.0 x.1 g false u q) (is-field c x.0 x.1 f false t p)
      (is-field c x.0 x.1 g false u q) (is-so c x.0 x.1 f false t p) (is-so c x.0 x.1 g false u q)
      (sym (place-is c x.0 x.1 f false t p) ∙ same ∙ place-is c x.0 x.1 g false u q)

  static-beside : (c f l : ℕ) (t : Ty) → HasStatic lay c f t
      → spot files table c f ≡ lock_place files l → ⊥
  static-beside c f l t has same =
      let x = static-here table bodies files known c f t has in
      let p = static-in table bodies files known c f t has x.0 x.1 in
      let place = place-is c x.0 x.1 f true t p in
      let within =
      (static_fields_stand files x.0 x.1.file f (file c x.0 x.1 f true t p)
      (is-field c x.0 x.1 f true t p) (is-so c x.0 x.1 f true t p)).within in
      absurd (omega (arith, place, within, same))

  -- ---- a channel

  pub channel-there : (c n : ℕ) (s : Stands table bodies files c n) (k : ℕ) (takes : Bool)
      → ChannelIn s.class k takes
      → names.channel_named table c k
      ≡ Some (record { class = class_word table c; name = w.channel c k })
  channel-there c n s k takes is =
      ap (λ (o : Option ClassInfo). names.channel_of o k) s.there
      ∙ ap (names.channel_member s.class.name) is.has
      ∙ ap (λ (name : Name). Some (record { class = name; name = is.info.name }))
      (sym (word-said table bodies files known c n s))
      ∙ ap (λ (name : Name). Some (record { class = class_word table c; name = name }))
      (sym (channels.name-word table bodies files known c n s k takes is))

  -- two inputs of one class
  channels-same : (c k j : ℕ) → IsInput lay c k → IsInput lay c j
      → bytes_eq (w.channel c j) (w.channel c k) ≡ (j == k)
  channels-same c k j has also =
      let x = input-here table bodies files known c k has in
      let p = input-in table bodies files known c k has x.0 x.1 in
      let q = input-in table bodies files known c j also x.0 x.1 in
      let first = channels.name-word table bodies files known c x.0 x.1 k true p in
      let second = channels.name-word table bodies files known c x.0 x.1 j true q in
      let one = λ (same : w.channel c j ≡ w.channel c k).
      names_stand_once (map (λ h. h.name) x.1.class.channels) j k q.info.name
      (known.classes c x.1.class x.1.there).channels
      (mapped-at (λ h. h.name) x.1.class.channels j q.info q.has)
      (mapped-at (λ h. h.name) x.1.class.channels k p.info p.has
      ∙ ap Some (sym first ∙ sym same ∙ second)) in
      ⊎_elim
      (λ (same : j ≡ k). ap (λ (i : ℕ). bytes_eq (w.channel c i) (w.channel c k)) same
      ∙ text-itself (w.channel c k) ∙ sym (eq-eqb j k same))
      (λ (differ : j ≡ k → ⊥). unlike (w.channel c j) (w.channel c k)
      (λ same. differ (one same)) ∙ sym (ne_eqb j k differ))
      (cases_eq j k)

  inputs-same : (c k d j : ℕ) → IsInput lay c k → IsInput lay d j
      → (bytes_eq (class_word table d) (class_word table c)
      && bytes_eq (w.channel d j) (w.channel c k)) ≡ ((d == c) && (j == k))
  inputs-same c k d j has also =
      ⊎_elim
      (λ (same : d ≡ c). ap (λ (e : ℕ). bytes_eq (class_word table e) (class_word table c)
      && bytes_eq (w.channel e j) (w.channel c k)) same
      ∙ ap (λ (b : Bool). b && bytes_eq (w.channel c j) (w.channel c k))
      (text-itself (class_word table c))
      ∙ channels-same c k j has (subst (λ (e : ℕ). IsInput lay e j) same also)
      ∙ ap (λ (b : Bool). b && (j == k)) (sym (eq-eqb d c same)))
      (λ (differ : d ≡ c → ⊥). and_left _ (bytes_eq (w.channel d j) (w.channel c k))
      (unlike (class_word table d) (class_word table c) (λ same. differ (words same)))
      ∙ sym (and_left (d == c) (j == k) (ne_eqb d c differ)))
      (cases_eq d c)
    where
      words : class_word table d ≡ class_word table c → d ≡ c
      words same =
          let x = input-here table bodies files known c k has in
          let y = input-here table bodies files known d j also in
          one-word table bodies files known d c (numbered table bodies files known d y.0 y.1)
          (numbered table bodies files known c x.0 x.1) same

  -- ---- initializers

  init-plain : (c : ℕ) → IsMade lay c ⊎ IsThrown lay c
      → is_of_exceptions (method_declared files (naming.member (class_word table c)
      (codes "<init>") (codes "()V"))) ≡ false
  init-plain c (inl made) =
      let at = made-here table bodies files known c made in
      initializer-takes table bodies files known c at.0 at.1
  init-plain c (inr thrown) = (thrown-raised table bodies files known c thrown).takes

  init-linked : (c : ℕ) → IsMade lay c ⊎ IsThrown lay c
      → method_of_name files (class_word table c) (codes "<init>") (codes "()V")
      ≡ link.Method (initializer (kind.Object (class_word table c))
      (init_target (number_of files table c) (lay.init_at c)))
  init-linked c (inl made) =
      let at = made-here table bodies files known c made in
      initializer-linked table bodies files known c at.0 at.1
  init-linked c (inr thrown) = (thrown-raised table bodies files known c thrown).made

  object-linked : method_of_name files (codes "java/lang/Object") (codes "<init>") (codes "()V")
      ≡ link.Method (initializer kind.AnyObject to.Nothing)
  unfolding method_of builtin_method
  object-linked = refl

  exception-linked : method_of_name files (codes "java/lang/Exception") (codes "<init>")
      (codes "()V") ≡ link.Method (initializer kind.AnyObject to.Nothing)
  unfolding method_of builtin_method
  exception-linked = refl

  object-plain : is_of_exceptions (method_declared files (naming.member (codes "java/lang/Object")
      (codes "<init>") (codes "()V"))) ≡ false
  unfolding method_of builtin_method
  object-plain = refl

  early-thrown : (x : ℕ) (class : ClassInfo) → slice_get table.classes x ≡ Some class
      → class.exception ≡ true → nat_lt x 2 ≡ true → IsThrown lay x
  early-thrown x class there exception early =
      and_from _ (class_is_exception (slice_get table.classes x))
      (or_right (is_loaded files table x) _ early) (ap class_is_exception there ∙ exception)

  made-linked : (c n : ℕ) (s : Stands table bodies files c n) → s.class.exception ≡ false
      → class_of_name files (class_word table c) ≡ link.Class (record {
        name = class_word table c;
        number = number_of files table c;
        fields = object_kinds s.file;
        is_exception = false;
        is_made = true;
      })
  made-linked c n s ordinary =
      class-linked table bodies files known c n s
      ∙ ap (λ (b : Bool). link.Class (record {
        name = class_word table c;
        number = number_of files table c;
        fields = object_kinds s.file;
        is_exception = b;
        is_made = true;
      })) ordinary

  pub lays : Lays (naming_of files) w lay table
  lays = record {
    number_one = λ c d made also same. one-number table bodies files known c d
        (made-numbered c made) (made-numbered d also) same;
    number_named = λ c made. name-shown c (made-numbered c made);
    class_named = λ c made. name-there c (made-numbered c made);
    made_named = made-there;
    made_link = λ c made.
        let at = made-here table bodies files known c made in (
          object_kinds at.1.file,
          made-linked c at.0 at.1 (ordinary-class table bodies files known c at.0 at.1
              (made-ordinary table bodies files known c made)),
          λ f t has. own-first c at.0 at.1 f t has,
        );
    first_typed = own-typed;
    plain = λ c f t has.
        let at = static-here table bodies files known c f t has in
        no-name (class_word table c) (codes "paragon/Locks")
        (is-named table bodies files known c at.0 at.1) refl;
    static_named = λ c f t has.
        let at = static-here table bodies files known c f t has in
        field-there c at.0 at.1 f true t (static-in table bodies files known c f t has at.0 at.1);
    static_link = λ c f t has.
        let at = static-here table bodies files known c f t has in
        linked c at.0 at.1 f true t (static-in table bodies files known c f t has at.0 at.1);
    static_one = static-one;
    static_typed = λ c f t u has also. same-item t u (sym has ∙ also);
    static_value = λ c f u has.
        let at = static-here table bodies files known c f u has in
        not-void c at.0 at.1 f true u (static-in table bodies files known c f u has at.0 at.1);
    own_value = λ c f u has.
        let at = own-here table bodies files known c f u has in
        not-void c at.0 at.1 f false u (own-in table bodies files known c f u has at.0 at.1);
    own_named = λ c f t has.
        let at = own-here table bodies files known c f t has in
        field-there c at.0 at.1 f false t (own-in table bodies files known c f t has at.0 at.1);
    own_link = λ c f t has.
        let at = own-here table bodies files known c f t has in
        linked c at.0 at.1 f false t (own-in table bodies files known c f t has at.0 at.1);
    own_one = own-one;
    own_typed = λ c f t u has also. same-item t u (sym has ∙ also);
    in_named = λ c k has.
        let at = input-here table bodies files known c k has in
        channel-there c at.0 at.1 k true (input-in table bodies files known c k has at.0 at.1);
    in_link = λ c k has.
        let at = input-here table bodies files known c k has in
        input-linked table bodies files known c at.0 at.1 k
        (input-in table bodies files known c k has at.0 at.1);
    in_plain = λ c k has.
        let at = input-here table bodies files known c k has in
        channel-plain table bodies files known c at.0 at.1 k true
        (input-in table bodies files known c k has at.0 at.1);
    out_plain = λ c k has.
        let at = output-here table bodies files known c k has in
        channel-plain table bodies files known c at.0 at.1 k false
        (output-in table bodies files known c k has at.0 at.1);
    method_plain = λ c i me has.
        let at = method-here table bodies files known c i me has in
        method-plain table bodies files known c at.0 at.1 i me
        (method-in table bodies files known c i me has at.0 at.1);
    method_link = λ c i me has.
        let at = method-here table bodies files known c i me has in
        method-linked-as table bodies files known c at.0 at.1 i me
        (method-in table bodies files known c i me has at.0 at.1);
    method_values = λ c i me has.
        let at = method-here table bodies files known c i me has in
        takes-values table bodies files known c at.0 at.1 i me
        (method-in table bodies files known c i me has at.0 at.1);
    method_room = λ c i me has.
        let at = method-here table bodies files known c i me has in
        has-room table bodies files known c at.0 at.1 i me
        (method-in table bodies files known c i me has at.0 at.1);
    init_plain = init-plain;
    init_link = init-linked;
    object_link = object-linked;
    exception_link = exception-linked;
    object_plain = object-plain;
    thrown_number = λ x thrown.
        ap naming.number_of (thrown-raised table bodies files known x thrown).linked;
    thrown_one = λ x y thrown also same. one-number table bodies files known x y
        (thrown-numbered x thrown) (thrown-numbered y also) same;
    thrown_is = λ x n thrown. (thrown-raised table bodies files known x thrown).listed;
    thrown_source = λ x thrown. name-there x (thrown-numbered x thrown);
    thrown_named = λ x thrown. name-shown x (thrown-numbered x thrown);
    thrown_link = λ x thrown. (thrown-raised table bodies files known x thrown).linked;
    lock_link = λ l is. (codes "L", refl);
    lock_one = λ l k is also same. omega arith;
    lock_beside = λ c f l t has is same. static-beside c f l t has same;
    in_one = inputs-same;
    out_named = λ c k has.
        let at = output-here table bodies files known c k has in
        channel-there c at.0 at.1 k false (output-in table bodies files known c k has at.0 at.1);
    out_link = λ c k has.
        let at = output-here table bodies files known c k has in
        output-linked table bodies files known c at.0 at.1 k
        (output-in table bodies files known c k has at.0 at.1);
    arithmetic = sym (number-first table bodies files known);
    null_pointer = sym (number-second table bodies files known);
    zero_thrown = early-thrown 0 known.first.0 known.first.1 known.first.3 refl;
    one_thrown = early-thrown 1 known.second.0 known.second.1 known.second.3 refl;
    apart = λ c x made thrown same. not-both table bodies files known c x made thrown
        (one-number table bodies files known c x (made-numbered c made) (thrown-numbered x thrown)
        same);
  }
