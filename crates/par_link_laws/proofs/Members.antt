-- The members of a class's file: they differ, and have the names and descriptors that they need.
use Rattle.std.proofs.Common.{◌≡◌, ℕ, suc, Bool, true, false, not, ◌&&◌, ◌||◌, ◌⊎◌, inl, inr}
use Rattle.std.proofs.Common.{List, [], ◌∷◌, ◌++◌, map, None, is_some, codes, refl, sym}
use Rattle.std.proofs.Common.{ap, subst, ◌∙◌, if◌then◌else◌}
use Rattle.std.proofs.lemmas.Bool.{and_from, or_left, or_right, not_from_false}
use Rattle.std.proofs.lemmas.List.{map-append}
use Rattle.std.specs.List.{list_any, AllByRecursion, IsDistinct}
use Rattle.std.specs.Str.{bytes_eq}
use Rattle.par_base.specs.Names.{IsName, is_name}
use Rattle.par_base.proofs.NameTests.{IsName-is_name}
use Rattle.par_typed.specs.declared.ty.Ty.{Ty}
use Rattle.par_typed.specs.declared.ty.Ty.TheVariants as ty
use Rattle.par_typed.specs.declared.table.ChannelInfo.{ChannelInfo}
use Rattle.par_typed.specs.declared.table.ClassInfo.{ClassInfo}
use Rattle.par_typed.specs.declared.table.FieldInfo.{FieldInfo}
use Rattle.par_typed.specs.declared.table.MethodInfo.{MethodInfo}
use Rattle.par_typed.specs.declared.table.ParamInfo.{ParamInfo}
use Rattle.par_typed.specs.declared.table.Table.{Table}
use Rattle.par_typed.specs.Plain.{Body}
use Rattle.par_program_laws.specs.TableNames.{HasOwnNames}
use Rattle.par_pool.specs.declared.constant.Constant.{Constant}
use Rattle.par_class.specs.declared.file.ClassFile.{ClassFile}
use Rattle.par_class.specs.declared.file.FieldFile.{FieldFile}
use Rattle.par_class.specs.declared.file.MethodFile.{MethodFile}
use Rattle.par_class.specs.Spelling.{is_native}
use Rattle.par_compile_laws.specs.par_single.Descriptors.{Text, kind_at, kinds_in, field_kind}
use Rattle.par_compile_laws.specs.par_single.Descriptors.{method_signature}
use Rattle.par_compile_laws.specs.par_single.Members.{text_at, is_static}
use Rattle.par_compile_laws.specs.par_single.Members as single
use Rattle.par_compile_laws.specs.par_single.Described.{differ, field_named, method_named}
use Rattle.par_compile_laws.specs.par_single.Described.{is_field_right}
use Rattle.par_compile_laws.specs.par_single.Described.{is_of_channel, is_channel_right}
use Rattle.par_compile_laws.specs.par_single.Described.{is_method_right}
use Rattle.par_compile_laws.specs.par_run_laws.Names.{body_of}
use Rattle.par_compile_laws.specs.par_code_form.Named.{class_word, descriptor, method_descriptor}
use Rattle.par_compile_laws.specs.DescriptorLaws.{HasValueTypes}
use Rattle.par_compile_laws.specs.DescriptorLaws as said
use Rattle.par_compile_laws.proofs.Described.{fields_are_described, methods_are_described}
use Rattle.par_loader.specs.par_link.Firsts.{first_repeated}
use Rattle.par_loader.specs.par_link.Named.{is_same, fields_of, methods_of}
use Rattle.par_loader.specs.par_link.Rules.{repeated_field, repeated_method, wrong_field}
use Rattle.par_loader.specs.par_link.Rules.{wrong_method}
use Rattle.par_loader.proofs.par_link.Passing.{position-none}
use Rattle.par_loader.proofs.par_link.Unrepeated.{differ-none}
use Rattle.par_compile_laws.specs.Members.{Member, member_access, initializer, channel, method}
use Rattle.par_compile_laws.specs.Members.{methods_from, members}
use Rattle.par_compile_laws.specs.Files.{IsFieldOf, IsMethodOf, IsFileOf}
use Rattle.par_loader.proofs.par_link.Passing.{same_text}
use Rattle.par_link_laws.specs.Linkable.{FieldLinks, MethodLinks, ClassLinks, IsValueType}
use Rattle.par_link_laws.proofs.Lists.{bytes_equiv}
use Rattle.par_link_laws.proofs.Zips.{zip-made, zip-none, all-append, all-made, made-again}
use Rattle.par_link_laws.proofs.Texts.{text-is}

-- ---- members of which the names differ

none-same : (x : single.Member) (xs : List single.Member)
    → AllByRecursion (λ y. bytes_eq x.name y ≡ false) (map (λ (m : single.Member). m.name) xs)
    → list_any (λ y. is_same y x) xs ≡ false
none-same x [] each = refl
none-same x (y ∷ xs) each =
    let apart : bytes_eq y.name x.name ≡ false = bytes_equiv.symm y.name x.name ∙ each.0 in
    ap (λ (b : Bool). (b && bytes_eq y.descriptor x.descriptor) || list_any (λ z. is_same z x) xs)
    apart
    ∙ none-same x xs each.1

members-differ : (ms : List single.Member)
    → IsDistinct bytes_eq (map (λ (m : single.Member). m.name) ms)
    → differ (λ x y. is_same y x) ms ≡ true
unfolding IsDistinct
members-differ [] apart = refl
members-differ (x ∷ xs) apart =
    and_from (not (list_any (λ y. is_same y x) xs)) (differ (λ y z. is_same z y) xs)
    (not_from_false (list_any (λ y. is_same y x) xs) (none-same x xs apart.0))
    (members-differ xs apart.1)

none-repeated : (ms : List single.Member)
    → IsDistinct bytes_eq (map (λ (m : single.Member). m.name) ms)
    → first_repeated is_same ms ≡ None
none-repeated ms apart = differ-none is_same ms (members-differ ms apart)

distinct-cons : (name : Text) (names : List Text)
    → AllByRecursion (λ y. bytes_eq name y ≡ false) names
    → IsDistinct bytes_eq names → IsDistinct bytes_eq (name ∷ names)
unfolding IsDistinct
distinct-cons name names each apart = (each, apart)

-- ---- names of the members

-- a name is not that of an initializer
not-init : (name : Text) → IsName name → bytes_eq (codes "<init>") name ≡ false
not-init name is = in_case (bytes_eq (codes "<init>") name) refl where
  in_case : (b : Bool) → bytes_eq (codes "<init>") name ≡ b → b ≡ false
  in_case false e = refl
  in_case true e =
      let never : false ≡ true =
      ap is_name (same_text (codes "<init>") name e) ∙ IsName-is_name name is in
      absurd (cc never)

-- ---- one class

-- a field and a method as their file says them
abbrev pub field_member : Table → FieldInfo → single.Member
field_member table f =
    record { class = []; name = f.name; descriptor = descriptor table f.ty }

abbrev pub method_member : Member → single.Member
method_member m = record { class = []; name = m.name; descriptor = m.descriptor }

module _ (table : Table) (bodies : List Body) where
  names-from : (c i : ℕ) (ms : List MethodInfo)
      → map (λ (m : Member). m.name) (methods_from table bodies c i ms)
      ≡ map (λ (m : MethodInfo). m.name) ms
  names-from c i [] = refl
  names-from c i (m ∷ ms) =
      ap (λ (names : List Text). m.name ∷ names) (names-from c (suc i) ms)

  module _ (c : ℕ) (class : ClassInfo) (file : ClassFile)
      (is : IsFileOf table bodies c class file) (links : ClassLinks table class)
      (own : HasOwnNames class)
      (named_classes : (n : ℕ) (t : Ty) → t ≡ ty.Class n → IsValueType table t
      → IsName (class_word table n)) where
    abbrev entries : List Constant
    entries = file.pool.entries

    -- ---- the fields

    pub fields-are : fields_of file ≡ map (field_member table) class.fields
    fields-are =
        zip-made (IsFieldOf table entries) (field_member table) (field_named entries) class.fields
        file.fields is.fields
        (λ f x of.
        let name = text-is entries x.name f.name of.name in
        let type = text-is entries x.descriptor (descriptor table f.ty) of.descriptor_is in
        λ i. record { class = []; name = name i; descriptor = type i })

    pub fields-apart : repeated_field file ≡ None
    fields-apart =
        ap (first_repeated is_same) fields-are
        ∙ none-repeated (map (field_member table) class.fields)
        (subst (IsDistinct bytes_eq)
        (sym (made-again (field_member table) (λ (m : single.Member). m.name) class.fields))
        own.fields)

    value-said : (t : Ty) → IsValueType table t → said.IsValueType table t
    value-said ty.Int v = tt
    value-said ty.Boolean v = tt
    value-said (ty.Class n) v = named_classes n (ty.Class n) refl v
    value-said ty.Null v = absurd v
    value-said ty.Void v = absurd v

    field-right : (f : FieldInfo) (x : FieldFile) → FieldLinks table f
        → IsFieldOf table entries f x → not (is_field_right entries x) ≡ false
    field-right f x l of =
        ap not (and_from (is_name (text_at entries x.name))
        (is_some (field_kind (text_at entries x.descriptor)))
        (ap is_name (text-is entries x.name f.name of.name) ∙ IsName-is_name f.name l.named)
        (ap (λ (t : Text). is_some (field_kind t))
        (text-is entries x.descriptor (descriptor table f.ty) of.descriptor_is)
        ∙ ap is_some (fields_are_described table f.ty (value-said f.ty l.of_type))))

    pub fields-right : wrong_field file ≡ None
    fields-right =
        position-none (λ x. not (is_field_right entries x)) file.fields
        (zip-none (FieldLinks table) (IsFieldOf table entries)
        (λ x. not (is_field_right entries x)) class.fields file.fields links.fields is.fields
        field-right)

    -- ---- the methods

    abbrev all_members : List Member
    all_members = members table bodies c class

    pub methods-are : methods_of file ≡ map method_member all_members
    methods-are =
        zip-made (IsMethodOf entries) method_member (method_named entries) all_members file.methods
        is.methods
        (λ m x of.
        let name = text-is entries x.name m.name of.name in
        let type = text-is entries x.descriptor m.descriptor of.descriptor_is in
        λ i. record { class = []; name = name i; descriptor = type i })

    callee-names : map (λ (m : Member). m.name)
        (map channel class.channels ++ methods_from table bodies c 0 class.methods)
        ≡ map (λ (k : ChannelInfo). k.name) class.channels
        ++ map (λ (m : MethodInfo). m.name) class.methods
    callee-names =
        map-append (λ (m : Member). m.name) (map channel class.channels)
        (methods_from table bodies c 0 class.methods)
        ∙ (λ i. made-again channel (λ (m : Member). m.name) class.channels i
        ++ names-from c 0 class.methods i)

    callees-named : AllByRecursion (λ name. bytes_eq (codes "<init>") name ≡ false)
        (map (λ (k : ChannelInfo). k.name) class.channels
        ++ map (λ (m : MethodInfo). m.name) class.methods)
    callees-named =
        all-append (λ name. bytes_eq (codes "<init>") name ≡ false)
        (map (λ (k : ChannelInfo). k.name) class.channels)
        (map (λ (m : MethodInfo). m.name) class.methods)
        (all-made (λ (k : ChannelInfo). IsName k.name)
        (λ name. bytes_eq (codes "<init>") name ≡ false)
        (λ (k : ChannelInfo). k.name) class.channels (λ k named. not-init k.name named)
        links.channels)
        (all-made (MethodLinks table) (λ name. bytes_eq (codes "<init>") name ≡ false)
        (λ (m : MethodInfo). m.name) class.methods (λ m l. not-init m.name l.named) links.methods)

    names-apart : IsDistinct bytes_eq (map (λ (m : Member). m.name) all_members)
    names-apart =
        subst (λ (names : List Text). IsDistinct bytes_eq (codes "<init>" ∷ names))
        (sym callee-names)
        (distinct-cons (codes "<init>") (map (λ (k : ChannelInfo). k.name) class.channels
        ++ map (λ (m : MethodInfo). m.name) class.methods) callees-named own.callees)

    pub methods-apart : repeated_method file ≡ None
    methods-apart =
        ap (first_repeated is_same) methods-are
        ∙ none-repeated (map method_member all_members)
        (subst (IsDistinct bytes_eq)
        (sym (made-again method_member (λ (m : single.Member). m.name) all_members)) names-apart)

    -- each is right in each file where it is a method
    abbrev IsRight : Member → Type 0
    IsRight m = (x : MethodFile) → IsMethodOf entries m x → is_method_right entries x ≡ true

    -- a method that is not native
    own-right : (m : Member) → is_some (method_signature m.descriptor) ≡ true
        → is_native m.access ≡ false → IsRight m
    own-right m said_so own_code x of =
        and_from (is_some (method_signature (text_at entries x.descriptor)))
        (not (is_native x.access) || is_channel_right entries x)
        (ap (λ (t : Text). is_some (method_signature t))
        (text-is entries x.descriptor m.descriptor of.descriptor_is) ∙ said_so)
        (or_left (not (is_native x.access)) (is_channel_right entries x)
        (not_from_false (is_native x.access) (ap is_native of.access ∙ own_code)))

    own-access : (b : Bool) → is_native (member_access b) ≡ false
    own-access true = refl
    own-access false = refl

    void-said : is_some (method_signature (codes "()V")) ≡ true
    unfolding kind_at kinds_in
    void-said = refl

    channel-said : (b : Bool)
        → is_some (method_signature (if b then codes "()I" else codes "(I)V")) ≡ true
    unfolding kind_at kinds_in
    channel-said true = refl
    channel-said false = refl

    of-channel : (b : Bool) → is_of_channel (if b then codes "()I" else codes "(I)V") ≡ true
    of-channel true = refl
    of-channel false = refl

    channel-right : (k : ChannelInfo) → IsName k.name → IsRight (channel k)
    channel-right k named x of =
        let type = text-is entries x.descriptor (channel k).descriptor of.descriptor_is in
        and_from (is_some (method_signature (text_at entries x.descriptor)))
        (not (is_native x.access) || is_channel_right entries x)
        (ap (λ (t : Text). is_some (method_signature t)) type ∙ channel-said k.is_input)
        (or_right (not (is_native x.access)) (is_channel_right entries x)
        (and_from (is_name (text_at entries x.name) && is_static x.access)
        (is_of_channel (text_at entries x.descriptor))
        (and_from (is_name (text_at entries x.name)) (is_static x.access)
        (ap is_name (text-is entries x.name k.name of.name) ∙ IsName-is_name k.name named)
        (ap is_static of.access))
        (ap is_of_channel type ∙ of-channel k.is_input)))

    -- the types of a method are those of values
    params-said : (ps : List ParamInfo) → AllByRecursion (λ p. IsValueType table p.ty) ps
        → AllByRecursion (λ (p : ParamInfo). said.IsValueType table p.ty) ps
    params-said [] each = tt
    params-said (p ∷ ps) each = (value-said p.ty each.0, params-said ps each.1)

    result-said : (t : Ty) → IsValueType table t ⊎ (t ≡ ty.Void) → said.IsResultType table t
    result-said ty.Int v = tt
    result-said ty.Boolean v = tt
    result-said (ty.Class n) (inl v) = named_classes n (ty.Class n) refl v
    result-said (ty.Class n) (inr e) = absurd (cc e)
    result-said ty.Null (inl v) = absurd v
    result-said ty.Null (inr e) = absurd (cc e)
    result-said ty.Void v = tt

    method-said : (m : MethodInfo) → MethodLinks table m
        → is_some (method_signature (method_descriptor table m)) ≡ true
    method-said m l =
        ap is_some (methods_are_described table m (record {
          params = params-said m.params l.params;
          result = result-said m.result l.result;
        }))

    from-right : (i : ℕ) (ms : List MethodInfo) → AllByRecursion (MethodLinks table) ms
        → AllByRecursion IsRight (methods_from table bodies c i ms)
    from-right i [] each = tt
    from-right i (m ∷ ms) each = (
      own-right (method table bodies m (body_of bodies c i)) (method-said m each.0)
          (own-access m.is_static),
      from-right (suc i) ms each.1,
    )

    all-right : AllByRecursion IsRight all_members
    all-right = (
      own-right (initializer class) void-said (own-access false),
      all-append IsRight (map channel class.channels)
          (methods_from table bodies c 0 class.methods)
          (all-made (λ (k : ChannelInfo). IsName k.name) IsRight channel class.channels
          channel-right links.channels)
          (from-right 0 class.methods links.methods),
    )

    pub methods-right : wrong_method file ≡ None
    methods-right =
        position-none (λ x. not (is_method_right entries x)) file.methods
        (zip-none IsRight (IsMethodOf entries) (λ x. not (is_method_right entries x)) all_members
        file.methods all-right is.methods
        (λ m x right of. ap not (right x of)))
