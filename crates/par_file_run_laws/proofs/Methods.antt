-- The methods of loaded classes that have a body.
use Rattle.std.proofs.Common.{◌≡◌, ℕ, suc, ◌+◌, ◌≤◌, Bool, true, false, not, cond, ◌&&◌, List, []}
use Rattle.std.proofs.Common.{◌∷◌, length, map, Option, slice_get, is_some, refl, sym}
use Rattle.std.proofs.Common.{ap, subst, ◌∙◌, arith, codes}
use Rattle.std.specs.List.{AllByRecursion}
use Rattle.std.specs.Option.{option_map}
use Rattle.std.specs.Str.{bytes_eq}
use Rattle.std.proofs.lemmas.Bool.{and_left}
use Rattle.std.proofs.lemmas.List.{length-map}
use Rattle.par_base.specs.Names.{IsName}
use Rattle.par_typed.specs.declared.ty.Ty.{Ty}
use Rattle.par_typed.specs.declared.ty.Ty.TheVariants as ty
use Rattle.par_typed.specs.declared.table.ClassInfo.{ClassInfo}
use Rattle.par_typed.specs.declared.table.MethodInfo.{MethodInfo}
use Rattle.par_typed.specs.declared.table.ParamInfo.{ParamInfo}
use Rattle.par_typed.specs.declared.table.Table.{Table}
use Rattle.par_typed.specs.Plain.{TSta, Body}
use Rattle.par_typed.specs.Members.{channels_in}
use Rattle.par_program_laws.specs.Locals.{arrivals}
use Rattle.par_class.specs.declared.file.ClassFile.{ClassFile}
use Rattle.par_class.specs.Spelling.{is_native}
use Rattle.par_values.specs.declared.kind.Kind.{Kind}
use Rattle.par_values.specs.declared.kind.Kind.TheVariants.{Object}
use Rattle.par_values.specs.declared.link.Link.{Link}
use Rattle.par_values.specs.declared.link.Link.TheVariants as link
use Rattle.par_values.specs.declared.link.Target.TheVariants as to
use Rattle.par_values.specs.Areas.{Name}
use Rattle.par_run_laws.specs.Names.{body_of}
use Rattle.par_single.specs.declared.descriptor.Signature.{Signature}
use Rattle.par_single.specs.Links.{signature_said, signature_or_none}
use Rattle.par_match_laws.specs.par_link.Named.{method_declared}
use Rattle.par_match_laws.specs.par_step_laws.Links.{channel_of}
use Rattle.par_match_laws.specs.Files.{is_of_exceptions}
use Rattle.par_code_form.specs.Code.{Words, is_void}
use Rattle.par_code_form.specs.Method.{labelled}
use Rattle.par_code_form.specs.Named.{of_class, of_method, class_word, method_descriptor, words_of}
use Rattle.par_match_laws.specs.Naming.{member, method_of_name}
use Rattle.par_source_code_laws.specs.par_evaluation_laws.Laid.{Meth, OfValues, given_types}
use Rattle.par_source_code_laws.specs.par_evaluation_laws.Laid as laid
use Rattle.par_compile_laws.specs.DescriptorLaws.{IsValueType, HasValueTypes, given_kind}
use Rattle.par_compile_laws.specs.DescriptorLaws as said
use Rattle.par_compile_laws.proofs.Described.{methods_are_described}
use Rattle.par_compile_laws.specs.Members.{member_access, method}
use Rattle.par_source_code_laws.specs.Methods.{meth}
use Rattle.par_file_run_laws.specs.Layout.{number_of, layout_of}
use Rattle.par_file_run_laws.proofs.Texts.{no-name}
use Rattle.par_file_run_laws.specs.Parts.{Known}
use Rattle.par_file_run_laws.proofs.Known.{Stands, number-is}
use Rattle.par_file_run_laws.proofs.Fields.{kind-is, static-access}
use Rattle.par_file_run_laws.proofs.Callees.{locals_in, method-linked, takes-any, method-at}
use Rattle.par_file_run_laws.proofs.Held.{MethodIn}

-- ---- types

kinds-are : (table : Table) (ps : List ParamInfo)
    → map (λ p. said.kind_of table p.ty) ps
    ≡ map (laid.kind_of (words_of table)) (map (λ p. p.ty) ps)
kinds-are table [] = refl
kinds-are table (p ∷ ps) =
    ap (λ (k : Kind). k ∷ map (λ q. said.kind_of table q.ty) ps) (kind-is table p.ty)
    ∙ ap (λ (ks : List Kind). laid.kind_of (words_of table) p.ty ∷ ks) (kinds-are table ps)

gives-are : (table : Table) (t : Ty) → is_some (given_kind table t) ≡ not (is_void t)
gives-are table ty.Int = refl
gives-are table ty.Boolean = refl
gives-are table (ty.Class c) = refl
gives-are table ty.Null = refl
gives-are table ty.Void = refl

pub no-void : (table : Table) (t : Ty) → IsValueType table t → t ≡ ty.Void → ⊥
no-void table ty.Int value same = absurd (cc same)
no-void table ty.Boolean value same = absurd (cc same)
no-void table (ty.Class c) value same = absurd (cc same)
no-void table ty.Null value same = absurd value
no-void table ty.Void value same = absurd value

of-values : (table : Table) (ps : List ParamInfo)
    → AllByRecursion (λ p. IsValueType table p.ty) ps → OfValues (map (λ p. p.ty) ps)
of-values table [] all = tt
of-values table (p ∷ ps) all = (no-void table p.ty all.0, of-values table ps all.1)

-- as many as a call hands on
arrive : (c : ℕ) (m : MethodInfo) (body : TSta) → length (given_types c (meth m body)) ≡ arrivals m
arrive c m body = in_case m.is_static (length-map m.params (λ p. p.ty)) where
  in_case : (b : Bool) → length (map (λ p. p.ty) m.params) ≡ length m.params
      → length (cond b (map (λ p. p.ty) m.params) (ty.Class c ∷ map (λ p. p.ty) m.params))
      ≡ cond b (length m.params) (suc (length m.params))
  in_case true long = long
  in_case false long = ap suc long

native-access : (b : Bool) → is_native (member_access b) ≡ false
native-access true = refl
native-access false = refl

-- ---- a method with its body

abbrev shaped : (static initializer native : Bool) → Signature → (class name : Name)
    → (n place locals : ℕ) → Link
shaped static initializer native signature class name n place locals =
    link.Method (record {
      is_static = static;
      is_initializer = initializer;
      receiver = Object class;
      takes = signature.takes;
      gives = is_some signature.gives;
      target = cond native (channel_of class name signature.takes) (to.Code n place locals);
    })

-- what the name of a method is to an instruction
abbrev pub linked_as : Words → (class : Name) → (number at : ℕ) → Meth → Link
linked_as w class number at me =
    link.Method (record {
      is_static = me.static;
      is_initializer = false;
      receiver = Object class;
      takes = map (laid.kind_of w) me.takes;
      gives = not (is_void me.result);
      target = to.Code number at me.many;
    })

module _ (table : Table) (bodies : List Body) (files : List ClassFile)
    (known : Known table bodies files) (c n : ℕ) (s : Stands table bodies files c n)
    (i : ℕ) (me : Meth) (is : MethodIn bodies s.class c i me) where
  of-class : IsName is.info.name × HasValueTypes table is.info
      × (arrivals is.info ≤ length is.info.locals)
  of-class = (known.classes c s.class s.there).methods i is.info is.has

  pub name-word : (words_of table).method c i ≡ is.info.name
  name-word =
      ap (λ (o : Option ClassInfo). of_class o (λ class. of_method (slice_get class.methods i) (λ m.
      m.name))) s.there
      ∙ ap (λ (o : Option MethodInfo). of_method o (λ m. m.name)) is.has

  pub type-word : (words_of table).method_type c i ≡ method_descriptor table is.info
  type-word =
      ap (λ (o : Option ClassInfo). of_class o (λ class. of_method (slice_get class.methods i)
      (method_descriptor table))) s.there
      ∙ ap (λ (o : Option MethodInfo). of_method o (method_descriptor table)) is.has

  -- its place in the file
  abbrev pub place : ℕ
  place = suc (length s.class.channels + i)

  pub place-is : (layout_of files table bodies).method_at c i ≡ place
  place-is = ap (λ (o : Option ClassInfo). suc (length (channels_in o) + i)) s.there

  signature-is : signature_said (method_descriptor table is.info)
      ≡ record {
        takes = map (λ p. said.kind_of table p.ty) is.info.params;
        gives = given_kind table is.info.result;
      }
  signature-is = ap signature_or_none (methods_are_described table is.info of-class.1)

  no-initializer : (bytes_eq is.info.name (codes "<init>")
      && bytes_eq (method_descriptor table is.info) (codes "()V")) ≡ false
  no-initializer =
      and_left (bytes_eq is.info.name (codes "<init>")) _
      (no-name is.info.name (codes "<init>") of-class.0 refl)

  pub method-plain : is_of_exceptions (method_declared files (member (class_word table c)
      ((words_of table).method c i) ((words_of table).method_type c i))) ≡ false
  method-plain =
      ap (λ (name : Name). is_of_exceptions (method_declared files (member (class_word table c) name
      ((words_of table).method_type c i)))) name-word
      ∙ ap (λ (of_type : Name). is_of_exceptions (method_declared files (member (class_word table c)
      is.info.name of_type))) type-word
      ∙ takes-any table bodies files known c n s place
      (method table bodies is.info (body_of bodies c i))
      (method-at table bodies c s.class i is.info is.has)

  locals-are : locals_in (option_map (labelled (words_of table) is.info) (body_of bodies c i))
      ≡ length is.info.locals
  locals-are =
      ap (λ (o : Option TSta). locals_in (option_map (labelled (words_of table) is.info) o))
      is.body_is

  info-linked : method_of_name files (class_word table c) ((words_of table).method c i)
      ((words_of table).method_type c i)
      ≡ linked_as (words_of table) (class_word table c) (number_of files table c)
      ((layout_of files table bodies).method_at c i) (meth is.info is.body)
  info-linked =
      let word = class_word table c in
      let info = is.info in
      let name = info.name in
      let locals = length info.locals in
      let code = locals_in (option_map (labelled (words_of table) info) (body_of bodies c i)) in
      let init = bytes_eq name (codes "<init>")
      && bytes_eq (method_descriptor table info) (codes "()V") in
      let native = is_native (member_access info.is_static) in
      let signature = signature_said (method_descriptor table info) in
      let takes = map (λ p. said.kind_of table p.ty) info.params in
      let kinds = map (laid.kind_of (words_of table)) (map (λ p. p.ty) info.params) in
      let gives = given_kind table info.result in
      let made = λ (ks : List Kind) (b : Bool) (number at : ℕ). link.Method (record {
        is_static = info.is_static;
        is_initializer = false;
        receiver = Object word;
        takes = ks;
        gives = b;
        target = to.Code number at locals;
      }) in
      ap (λ (of_name : Name). method_of_name files word of_name ((words_of table).method_type c i))
      name-word
      ∙ ap (method_of_name files word name) type-word
      ∙ method-linked table bodies files known c n s place
      (method table bodies info (body_of bodies c i))
      (method-at table bodies c s.class i info is.has)
      ∙ ap (λ (b : Bool). shaped b init native signature word name n place code)
      (static-access info.is_static)
      ∙ ap (λ (b : Bool). shaped info.is_static b native signature word name n place code)
      no-initializer
      ∙ ap (λ (b : Bool). shaped info.is_static false b signature word name n place code)
      (native-access info.is_static)
      ∙ ap (λ (g : Signature). shaped info.is_static false false g word name n place code)
      signature-is
      ∙ ap (λ (l : ℕ). shaped info.is_static false false (record { takes = takes; gives = gives })
      word name n place l) locals-are
      ∙ ap (λ (ks : List Kind). made ks (is_some gives) n place) (kinds-are table info.params)
      ∙ ap (λ (b : Bool). made kinds b n place) (gives-are table info.result)
      ∙ ap (λ (k : ℕ). made kinds (not (is_void info.result)) k place)
      (sym (number-is table bodies files known c n s))
      ∙ ap (made kinds (not (is_void info.result)) (number_of files table c)) (sym place-is)

  pub method-linked-as : method_of_name files (class_word table c) ((words_of table).method c i)
      ((words_of table).method_type c i)
      ≡ linked_as (words_of table) (class_word table c) (number_of files table c)
      ((layout_of files table bodies).method_at c i) me
  method-linked-as =
      subst (λ (x : Meth). method_of_name files (class_word table c) ((words_of table).method c i)
      ((words_of table).method_type c i)
      ≡ linked_as (words_of table) (class_word table c) (number_of files table c)
      ((layout_of files table bodies).method_at c i) x) is.is info-linked

  pub takes-values : OfValues me.takes
  takes-values =
      subst (λ (x : Meth). OfValues x.takes) is.is
      (of-values table is.info.params of-class.1.params)

  pub has-room : length (given_types c me) ≤ me.many
  has-room =
      let many = arrive c is.info is.body in
      let few : arrivals is.info ≤ length is.info.locals = of-class.2 in
      let here : length (given_types c (meth is.info is.body)) ≤ length is.info.locals =
      omega arith in
      subst (λ (x : Meth). length (given_types c x) ≤ x.many) is.is here
