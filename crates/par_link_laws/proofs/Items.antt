-- What the code of a program names is there.
use Rattle.std.proofs.Common.{◌≡◌, ℕ, zero, suc, ◌+◌, ◌<◌, Bool, true, false, cond, nat_lt, ◌||◌}
use Rattle.std.proofs.Common.{◌⊎◌, inl, inr, List, [], ◌∷◌, map, length, Option, Some, None}
use Rattle.std.proofs.Common.{slice_get, codes, refl, sym, ap, subst, ◌∙◌}
use Rattle.std.proofs.Common.{arith, option_map, lit≤}
use Rattle.std.proofs.lemmas.Bool.{and_from, or_left, or_right}
use Rattle.std.proofs.lemmas.List.{map-append}
use Rattle.std.proofs.lemmas.List.Folds.{list_any-append}
use Rattle.std.proofs.lemmas.Option.{slice_get_within}
use Rattle.std.specs.List.{list_any, AllByRecursion, flat_map}
use Rattle.std.specs.Str.{bytes_eq}
use Rattle.par_typed.specs.declared.table.ChannelInfo.{ChannelInfo}
use Rattle.par_typed.specs.declared.table.ClassInfo.{ClassInfo}
use Rattle.par_typed.specs.declared.table.FieldInfo.{FieldInfo}
use Rattle.par_typed.specs.declared.table.MethodInfo.{MethodInfo}
use Rattle.par_typed.specs.declared.table.Table.{Table}
use Rattle.par_typed.specs.Plain.{TSta, Body}
use Rattle.par_program_laws.specs.TableNames.{HasOwnNames}
use Rattle.par_typed.specs.Members.{IsClass, fields_in, channels_in, methods_in}
use Rattle.par_base.specs.Names.{IsName}
use Rattle.par_typed.specs.declared.ty.Ty.{Ty}
use Rattle.par_typed.specs.declared.ty.Ty.TheVariants as ty
use Rattle.par_class.specs.declared.file.ClassFile.{ClassFile}
use Rattle.par_compile_laws.specs.par_single.Descriptors.{Text}
use Rattle.par_compile_laws.specs.par_single.Members as single
use Rattle.par_compile_laws.specs.par_single.Members.{own_name}
use Rattle.par_compile_laws.specs.par_run_laws.Names.{body_of}
use Rattle.par_compile_laws.specs.par_code_form.declared.item.Item.{Item}
use Rattle.par_compile_laws.specs.par_code_form.declared.item.Item.TheVariants as item
use Rattle.par_compile_laws.specs.par_code_form.declared.labelled.Labelled.{Labelled}
use Rattle.par_compile_laws.specs.par_code_form.Method.{labelled}
use Rattle.par_compile_laws.specs.par_code_form.Named.{class_word, descriptor, method_descriptor}
use Rattle.par_compile_laws.specs.par_code_form.Named.{words_of}
use Rattle.par_compile_laws.specs.par_code_form.Opcodes.{INVOKEVIRTUAL}
use Rattle.par_compile_laws.specs.par_code_form.PoolNames.{full_name, LOCKS, LOCK_TYPE, lock_field}
use Rattle.par_loader.specs.par_link.entry.Builtin.{Builtin}
use Rattle.par_loader.specs.par_link.entry.Builtin.TheVariants.{Object, Exception}
use Rattle.par_loader.specs.par_link.entry.Builtin.TheVariants.{ArithmeticException}
use Rattle.par_loader.specs.par_link.entry.Builtin.TheVariants.{NullPointerException}
use Rattle.par_loader.specs.par_link.entry.Builtin.TheVariants.{Locks}
use Rattle.par_loader.specs.par_link.entry.Named.{Named}
use Rattle.par_loader.specs.par_link.Builtins.{builtin, builtin_field, builtin_method}
use Rattle.par_loader.specs.par_link.Named.{is_same, fields_of, methods_of}
use Rattle.par_loader.specs.par_link.Rules.{is_nothing}
use Rattle.par_loader.proofs.par_link.Passing.{any-at}
use Rattle.par_loader.specs.Mentions.{is_unread}
use Rattle.par_compile_laws.specs.Constants.{frame_classes}
use Rattle.par_compile_laws.specs.Files.{FIRST_DECLARED, declared_classes}
use Rattle.par_compile_laws.specs.Members.{Member, above, initializer_of, initializer, channel}
use Rattle.par_compile_laws.specs.Members.{method}
use Rattle.par_compile_laws.specs.Members.{methods_from, members}
use Rattle.par_loader.proofs.par_link.Apart.{same-itself}
use Rattle.par_link_laws.specs.Parts.{AreFilesOf}
use Rattle.par_link_laws.specs.Linkable.{IsClassWord, IsFieldWord, IsChannelWord, IsMethodWord}
use Rattle.par_link_laws.specs.Linkable.{IsInitializerWord, IsCalleeWord, made, channelled}
use Rattle.par_link_laws.specs.Linkable.{called}
use Rattle.par_link_laws.specs.Linkable.{NamesThere, CodeNamesThere, IsValueType, IsLinkable}
use Rattle.par_link_laws.specs.Linkable.{channel_descriptor}
use Rattle.par_link_laws.proofs.Lists.{each-of, made-at}
use Rattle.par_link_laws.proofs.Locks.{lock-there}
use Rattle.par_link_laws.proofs.Members.{field_member, method_member, fields-are, methods-are}
use Rattle.par_link_laws.proofs.Program.{Begins, HasNone, begins, split}
use Rattle.par_link_laws.proofs.Program.{IsSplit, arithmetic, null_pointer, declared, declared-at}
use Rattle.par_link_laws.proofs.Program.{class-links, own-full, number-at, HasFile, file-of}
use Rattle.par_link_laws.proofs.Program.{class-known}
use Rattle.par_link_laws.proofs.Sound.{IsDeclared, IsBuiltIn}
use Rattle.par_link_laws.proofs.Zips.{all-append}

-- ---- places among the members of a class

module _ (table : Table) (bodies : List Body) (c : ℕ) where
  pub from-at : (i j : ℕ) (ms : List MethodInfo) (m : MethodInfo) → slice_get ms j ≡ Some m
      → (body : Option TSta)
      × (slice_get (methods_from table bodies c i ms) j ≡ Some (method table bodies m body))
  from-at i j [] m at = absurd (cc at)
  from-at i zero (x ∷ ms) m at = (
    body_of bodies c i,
    ap (λ (y : MethodInfo). Some (method table bodies y (body_of bodies c i)))
        (same x m at),
  )
    where
      same : (x y : MethodInfo) → Some x ≡ Some y → x ≡ y
      same x y e = cc e
  from-at i (suc j) (x ∷ ms) m at = from-at (suc i) j ms m at

  -- a test that passes for one of the members
  module _ (class : ClassInfo) (test : single.Member → Bool) where
    abbrev channels_pass : Bool
    channels_pass = list_any test (map method_member (map channel class.channels))

    abbrev methods_pass : Bool
    methods_pass = list_any test (map method_member (methods_from table bodies c 0 class.methods))

    members-pass : list_any test (map method_member (members table bodies c class))
        ≡ (test (method_member (initializer class)) || (channels_pass || methods_pass))
    members-pass =
        ap (λ (b : Bool). test (method_member (initializer class)) || b)
        (ap (list_any test) (map-append method_member (map channel class.channels)
        (methods_from table bodies c 0 class.methods))
        ∙ list_any-append test (map method_member (map channel class.channels))
        (map method_member (methods_from table bodies c 0 class.methods)))

    pub initializer-passes : test (method_member (initializer class)) ≡ true
        → list_any test (map method_member (members table bodies c class)) ≡ true
    initializer-passes is =
        members-pass ∙ or_left (test (method_member (initializer class))) _ is

    pub channel-passes : (j : ℕ) (k : ChannelInfo) → slice_get class.channels j ≡ Some k
        → test (method_member (channel k)) ≡ true
        → list_any test (map method_member (members table bodies c class)) ≡ true
    channel-passes j k at is =
        members-pass
        ∙ or_right (test (method_member (initializer class))) (channels_pass || methods_pass)
        (or_left channels_pass methods_pass
        (any-at test (map method_member (map channel class.channels)) j
        (method_member (channel k))
        (made-at method_member (map channel class.channels) j (channel k)
        (made-at channel class.channels j k at)) is))

    pub method-passes : (j : ℕ) (m : MethodInfo) → slice_get class.methods j ≡ Some m
        → ((body : Option TSta) → test (method_member (method table bodies m body)) ≡ true)
        → list_any test (map method_member (members table bodies c class)) ≡ true
    method-passes j m at is =
        let found = from-at 0 j class.methods m at in
        members-pass
        ∙ or_right (test (method_member (initializer class))) (channels_pass || methods_pass)
        (or_right channels_pass methods_pass
        (any-at test (map method_member (methods_from table bodies c 0 class.methods)) j
        (method_member (method table bodies m found.0))
        (made-at method_member (methods_from table bodies c 0 class.methods) j
        (method table bodies m found.0) found.1) (is found.0)))

-- ---- members

-- a member of a class that is read stands in its file, or every program has it
pub record MemberStands (all : List ClassFile) (members : ClassFile → List single.Member)
    (named : Builtin → single.Member → Named) (m : single.Member) : Type 0 where
  pub read : is_unread all m.class ≡ false
  pub there : IsDeclared all members m ⊎ IsBuiltIn named m

abbrev pub member : (class name of_type : Text) → single.Member
member class name of_type =
    record { class = full_name class; name = name; descriptor = of_type }

-- the field of a lock
abbrev pub lock_member : ℕ → single.Member
lock_member lock = record { class = LOCKS; name = lock_field lock; descriptor = LOCK_TYPE }

-- a member of one name and one descriptor is the same
same-as : (m : single.Member) (name of_type : Text) → m.name ≡ name → m.descriptor ≡ of_type
    → is_same m (record { class = []; name = name; descriptor = of_type }) ≡ true
same-as m name of_type is_name is_type =
    and_from (bytes_eq m.name name) (bytes_eq m.descriptor of_type)
    (ap (λ (n : Text). bytes_eq n name) is_name ∙ same-itself name)
    (ap (λ (t : Text). bytes_eq t of_type) is_type ∙ same-itself of_type)

module _ (table : Table) (bodies : List Body) (all : List ClassFile) (l : IsLinkable table bodies)
    (files : AreFilesOf table bodies all) where
  -- ---- whose member it is

  pub record IsOwner (n : ℕ) (k : ClassInfo) : Type 0 where
    pub place : ℕ
    pub there : slice_get (declared_classes table) place ≡ Some k
    pub word : class_word table n ≡ k.name
    pub in_table : IsClass table n

  pub owner : (n : ℕ) (k : ClassInfo) → slice_get table.classes n ≡ Some k → (HasNone k → ⊥)
      → IsOwner n k
  owner n k at some = by_split (split table bodies l n within) where
    within : n < length table.classes
    within = slice_get_within table.classes n k at

    b : Begins table.classes
    b = begins table bodies l

    same : (x y : ClassInfo) → Some x ≡ Some y → x ≡ y
    same x y e = cc e

    by_split : IsSplit table bodies l n → IsOwner n k
    by_split (arithmetic number word) =
        absurd (some (subst HasNone (same b.first k
        (sym (ap (λ (cs : List ClassInfo). slice_get cs 0) b.is)
        ∙ ap (slice_get table.classes) (sym number) ∙ at)) b.first_bare))
    by_split (null_pointer number word) =
        absurd (some (subst HasNone (same b.second k
        (sym (ap (λ (cs : List ClassInfo). slice_get cs 1) b.is)
        ∙ ap (slice_get table.classes) (sym number) ∙ at)) b.second_bare))
    by_split (declared d) =
        let is : d.class ≡ k =
        same d.class k (sym d.there ∙ sym (declared-at table bodies l d.place)
        ∙ ap (slice_get table.classes) (sym d.number) ∙ at) in
        record {
          place = d.place;
          there = d.there ∙ ap Some is;
          word = d.word ∙ ap (λ (x : ClassInfo). x.name) is;
          in_table = within;
        }

  -- what lemmas of members ask of a class
  pub own-names-at : (place : ℕ) (k : ClassInfo)
      → slice_get (declared_classes table) place ≡ Some k → HasOwnNames k
  own-names-at place k there =
      each-of HasOwnNames table.classes (suc (suc place)) k (l.apart).members
      (declared-at table bodies l place ∙ there)

  pub classes-named : (n : ℕ) (t : Ty) → t ≡ ty.Class n → IsValueType table t
      → IsName (class_word table n)
  classes-named n t is v = by_split (split table bodies l n (subst (IsValueType table) is v)) where
    by_split : IsSplit table bodies l n → IsName (class_word table n)
    by_split (arithmetic number word) =
        subst IsName (sym word) (record { spelled = refl; short = lit≤ tt })
    by_split (null_pointer number word) =
        subst IsName (sym word) (record { spelled = refl; short = lit≤ tt })
    by_split (declared d) =
        subst IsName (sym d.word) (class-links table bodies l d.place d.class d.there).named

  module _ (place : ℕ) (k : ClassInfo)
      (there : slice_get (declared_classes table) place ≡ Some k) where
    abbrev own_file : HasFile table bodies l all files place k
    own_file = file-of table bodies l all files place k there

    pub fields-here : fields_of own_file.file ≡ map (field_member table) k.fields
    fields-here =
        fields-are table bodies (FIRST_DECLARED + place) k own_file.file own_file.is
        (class-links table bodies l place k there) (own-names-at place k there) classes-named

    pub methods-here : methods_of own_file.file
        ≡ map method_member (members table bodies (FIRST_DECLARED + place) k)
    methods-here =
        methods-are table bodies (FIRST_DECLARED + place) k own_file.file own_file.is
        (class-links table bodies l place k there) (own-names-at place k there) classes-named

    -- a member that is found in the file of its class
    in-file : (which : ClassFile → List single.Member) (m : single.Member) → m.class ≡ k.name
        → list_any (is_same m) (which own_file.file) ≡ true → IsDeclared all which m
    in-file which m of has = record {
      at = place;
      file = own_file.file;
      listed = own_file.listed;
      own = own_file.own ∙ sym of;
      has = has;
    }

  class-is : (n : ℕ) (class : Text) (k : ClassInfo) (o : IsOwner n k)
      → class ≡ class_word table n → full_name class ≡ k.name
  class-is n class k o is =
      ap full_name (is ∙ o.word) ∙ own-full table bodies l o.place k o.there

  read-word : (n : ℕ) (class : Text) → IsClass table n → class ≡ class_word table n
      → is_unread all (full_name class) ≡ false
  read-word n class there is =
      ap (λ (w : Text). is_unread all (full_name w)) is
      ∙ class-known table bodies l all files n there

  pub word-read : (class : Text) → IsClassWord table class
      → is_unread all (full_name class) ≡ false
  word-read class w = read-word w.number class w.there w.is

  -- ---- fields, channels, methods and initializers

  pub field-stands : (class name of_type : Text) → IsFieldWord table class name of_type
      → MemberStands all fields_of builtin_field (member class name of_type)
  field-stands class name of_type w = in_class (slice_get table.classes w.number) refl w.there where
    m : single.Member
    m = member class name of_type

    in_class : (o : Option ClassInfo) → slice_get table.classes w.number ≡ o
        → slice_get (fields_in o) w.field ≡ Some w.info
        → MemberStands all fields_of builtin_field (member class name of_type)
    in_class None at has = absurd (cc has)
    in_class (Some k) at has =
        let o : IsOwner w.number k =
        owner w.number k at
        (λ none. absurd (cc (sym (ap (λ (fs : List FieldInfo). slice_get fs w.field) none.fields)
        ∙ has))) in
        let found : list_any (is_same (member class name of_type))
        (map (field_member table) k.fields) ≡ true =
        any-at (is_same (member class name of_type)) (map (field_member table) k.fields) w.field
        (field_member table w.info) (made-at (field_member table) k.fields w.field w.info has)
        (same-as (member class name of_type) w.info.name (descriptor table w.info.ty) w.is_name
        w.is_type) in
        record {
          read = read-word w.number class o.in_table w.is_class;
          there = inl (in-file o.place k o.there fields_of (member class name of_type)
              (class-is w.number class k o w.is_class)
              (ap (list_any (is_same (member class name of_type)))
              (fields-here o.place k o.there) ∙ found));
        }

  -- a method of the file of its class
  method-in : (n : ℕ) (class name of_type : Text) (k : ClassInfo) (o : IsOwner n k)
      → class ≡ class_word table n
      → list_any (is_same (member class name of_type))
      (map method_member (members table bodies (FIRST_DECLARED + o.place) k)) ≡ true
      → MemberStands all methods_of builtin_method (member class name of_type)
  method-in n class name of_type k o is found = record {
    read = read-word n class o.in_table is;
    there = inl (in-file o.place k o.there methods_of (member class name of_type)
        (class-is n class k o is)
        (ap (list_any (is_same (member class name of_type))) (methods-here o.place k o.there)
        ∙ found));
  }

  channel-stands : (class name of_type : Text) → IsChannelWord table class name of_type
      → MemberStands all methods_of builtin_method (member class name of_type)
  channel-stands class name of_type w =
      in_class (slice_get table.classes w.number) refl w.there
    where
      in_class : (o : Option ClassInfo) → slice_get table.classes w.number ≡ o
          → slice_get (channels_in o) w.channel ≡ Some w.info
          → MemberStands all methods_of builtin_method (member class name of_type)
      in_class None at has = absurd (cc has)
      in_class (Some k) at has =
          let o : IsOwner w.number k =
          owner w.number k at
          (λ none. absurd (cc (sym (ap (λ (cs : List ChannelInfo). slice_get cs w.channel)
          none.channels) ∙ has))) in
          method-in w.number class name of_type k o w.is_class
          (channel-passes table bodies (FIRST_DECLARED + o.place) k
          (is_same (member class name of_type)) w.channel w.info has
          (same-as (member class name of_type) w.info.name (channel_descriptor w.info.is_input)
          w.is_name w.is_type))

  called-stands : (class name of_type : Text) → IsMethodWord table class name of_type
      → MemberStands all methods_of builtin_method (member class name of_type)
  called-stands class name of_type w =
      in_class (slice_get table.classes w.number) refl w.there
    where
      in_class : (o : Option ClassInfo) → slice_get table.classes w.number ≡ o
          → slice_get (methods_in o) w.method ≡ Some w.info
          → MemberStands all methods_of builtin_method (member class name of_type)
      in_class None at has = absurd (cc has)
      in_class (Some k) at has =
          let o : IsOwner w.number k =
          owner w.number k at
          (λ none. absurd (cc (sym (ap (λ (ms : List MethodInfo). slice_get ms w.method)
          none.methods) ∙ has))) in
          method-in w.number class name of_type k o w.is_class
          (method-passes table bodies (FIRST_DECLARED + o.place) k
          (is_same (member class name of_type)) w.method w.info has
          (λ body. same-as (member class name of_type) w.info.name
          (method_descriptor table w.info) w.is_name w.is_type))

  -- the initializer of a class that every program has
  built-stands : (b : Builtin) (class name of_type : Text) → builtin (full_name class) ≡ Some b
      → is_unread all (full_name class) ≡ false
      → is_nothing (builtin_method b (member class (codes "<init>") (codes "()V"))) ≡ false
      → name ≡ codes "<init>" → of_type ≡ codes "()V"
      → MemberStands all methods_of builtin_method (member class name of_type)
  built-stands b class name of_type is read has is_name is_type = record {
    read = read;
    there = inr (record {
      class = b;
      is = is;
      has =
          ap (λ (n : Text). is_nothing (builtin_method b (member class n of_type))) is_name
          ∙ ap (λ (t : Text). is_nothing (builtin_method b (member class (codes "<init>") t)))
          is_type
          ∙ has;
    });
  }

  initializer-stands : (class name of_type : Text) → IsInitializerWord table class name of_type
      → MemberStands all methods_of builtin_method (member class name of_type)
  unfolding builtin_method
  initializer-stands class name of_type w =
      by_split (split table bodies l (w.is_class).number (w.is_class).there)
    where
      read : is_unread all (full_name class) ≡ false
      read = word-read class w.is_class

      by_split : IsSplit table bodies l (w.is_class).number
          → MemberStands all methods_of builtin_method (member class name of_type)
      by_split (arithmetic number word) =
          built-stands ArithmeticException class name of_type
          (ap (λ (t : Text). builtin (full_name t)) ((w.is_class).is ∙ word)) read refl w.is_name
          w.is_type
      by_split (null_pointer number word) =
          built-stands NullPointerException class name of_type
          (ap (λ (t : Text). builtin (full_name t)) ((w.is_class).is ∙ word)) read refl w.is_name
          w.is_type
      by_split (declared d) =
          let o : IsOwner (w.is_class).number d.class =
          record {
            place = d.place;
            there = d.there;
            word = d.word;
            in_table = (w.is_class).there;
          } in
          method-in (w.is_class).number class name of_type d.class o (w.is_class).is
          (initializer-passes table bodies (FIRST_DECLARED + d.place) d.class
          (is_same (member class name of_type))
          (same-as (member class name of_type) (codes "<init>") (codes "()V") w.is_name w.is_type))

  callee-stands : (class name of_type : Text) → IsCalleeWord table class name of_type
      → MemberStands all methods_of builtin_method (member class name of_type)
  callee-stands class name of_type (made w) = initializer-stands class name of_type w
  callee-stands class name of_type (channelled w) = channel-stands class name of_type w
  callee-stands class name of_type (called w) = called-stands class name of_type w

  -- ---- items

  -- what an item names is there
  abbrev pub ItemStands : Item → Type 0
  ItemStands (item.Label l) = Unit {0}
  ItemStands (item.Op i) = Unit {0}
  ItemStands (item.Const v) = Unit {0}
  ItemStands (item.Jump opcode l) = Unit {0}
  ItemStands (item.Member opcode class name of_type) =
      cond (nat_lt opcode INVOKEVIRTUAL)
      (MemberStands all fields_of builtin_field (member class name of_type))
      (MemberStands all methods_of builtin_method (member class name of_type))
  ItemStands (item.ClassOp opcode class) = is_unread all (full_name class) ≡ false
  ItemStands (item.LockOp opcode lock) = MemberStands all fields_of builtin_field (lock_member lock)

  item-stands : (i : Item) → NamesThere table i → ItemStands i
  item-stands (item.Label l) there = tt
  item-stands (item.Op i) there = tt
  item-stands (item.Const v) there = tt
  item-stands (item.Jump opcode l) there = tt
  item-stands (item.Member opcode class name of_type) there =
      by_opcode (nat_lt opcode INVOKEVIRTUAL) there
    where
      by_opcode : (b : Bool)
          → cond b (IsFieldWord table class name of_type) (IsCalleeWord table class name of_type)
          → cond b (MemberStands all fields_of builtin_field (member class name of_type))
          (MemberStands all methods_of builtin_method (member class name of_type))
      by_opcode true w = field-stands class name of_type w
      by_opcode false w = callee-stands class name of_type w
  item-stands (item.ClassOp opcode class) there = word-read class there
  item-stands (item.LockOp opcode lock) there = record {
    read = refl;
    there = inr (record { class = Locks; is = refl; has = lock-there lock there });
  }

  -- ---- code

  pub record CodeStands (code : Labelled) : Type 0 where
    pub items : AllByRecursion ItemStands code.items
    pub handlers : AllByRecursion (λ h. is_unread all (full_name h.class) ≡ false) code.handlers
    pub frames : AllByRecursion (λ name. is_unread all (full_name name) ≡ false)
        (flat_map frame_classes code.frames)

  abbrev pub MayCodeStands : Option Labelled → Type 0
  MayCodeStands None = Unit {0}
  MayCodeStands (Some code) = CodeStands code

  each-as : {A : Type 0} (P Q : A → Type 0) (xs : List A) → ((x : A) → P x → Q x)
      → AllByRecursion P xs → AllByRecursion Q xs
  each-as P Q [] each all_so = tt
  each-as P Q (x ∷ xs) each all_so = (each x all_so.0, each-as P Q xs each all_so.1)

  code-stands : (code : Labelled) → CodeNamesThere table code → CodeStands code
  code-stands code there = record {
    items = each-as (NamesThere table) ItemStands code.items item-stands there.items;
    handlers =
        each-as (λ h. IsClassWord table h.class) (λ h. is_unread all (full_name h.class) ≡ false)
        code.handlers (λ h w. word-read h.class w) there.handlers;
    frames =
        each-as (IsClassWord table) (λ name. is_unread all (full_name name) ≡ false)
        (flat_map frame_classes code.frames) word-read there.frames;
  }

  -- the initializer of a class calls that of the class above
  initializer-code-stands : (class : ClassInfo) → CodeStands (initializer_of class)
  unfolding builtin_method
  initializer-code-stands class = record {
    items = (tt, (by_class class.exception, (tt, tt)));
    handlers = tt;
    frames = tt;
  } where
    by_class : (exception : Bool)
        → MemberStands all methods_of builtin_method
        (member (above exception) (codes "<init>") (codes "()V"))
    by_class true =
        built-stands Exception (codes "java/lang/Exception") (codes "<init>") (codes "()V") refl
        refl refl refl refl
    by_class false =
        built-stands Object (codes "java/lang/Object") (codes "<init>") (codes "()V") refl
        refl refl refl refl

  abbrev MemberCodeStands : Member → Type 0
  MemberCodeStands m = MayCodeStands m.code

  may-stand : (c i : ℕ) (m : MethodInfo) → slice_get (methods_in (slice_get table.classes c)) i
      ≡ Some m
      → MayCodeStands (option_map (labelled (words_of table) m) (body_of bodies c i))
  may-stand c i m at = by_body (body_of bodies c i) refl where
    by_body : (o : Option TSta) → body_of bodies c i ≡ o
        → MayCodeStands (option_map (labelled (words_of table) m) o)
    by_body None is = tt
    by_body (Some body) is =
        code-stands (labelled (words_of table) m body) (l.code c i m body at is)

  from-stand : (c i : ℕ) (ms : List MethodInfo)
      → ((j : ℕ) (m : MethodInfo) → slice_get ms j ≡ Some m
      → slice_get (methods_in (slice_get table.classes c)) (i + j) ≡ Some m)
      → AllByRecursion MemberCodeStands (methods_from table bodies c i ms)
  from-stand c i [] each = tt
  from-stand c i (m ∷ ms) each =
      let here : i + 0 ≡ i = omega arith in (
        may-stand c i m (ap (slice_get (methods_in (slice_get table.classes c))) (sym here)
            ∙ each 0 m refl),
        from-stand c (suc i) ms (λ j x at.
            let next : suc i + j ≡ i + suc j = omega arith in
            ap (slice_get (methods_in (slice_get table.classes c))) next ∙ each (suc j) x at),
      )

  none-native : (ks : List ChannelInfo) → AllByRecursion MemberCodeStands (map channel ks)
  none-native [] = tt
  none-native (k ∷ ks) = (tt, none-native ks)

  -- the code of each member of a class
  pub members-stand : (place : ℕ) (class : ClassInfo)
      → slice_get (declared_classes table) place ≡ Some class
      → AllByRecursion MemberCodeStands (members table bodies (FIRST_DECLARED + place) class)
  members-stand place class there = (
    initializer-code-stands class,
    all-append MemberCodeStands (map channel class.channels)
        (methods_from table bodies (FIRST_DECLARED + place) 0 class.methods)
        (none-native class.channels)
        (from-stand (FIRST_DECLARED + place) 0 class.methods (λ j m at.
        let same : 0 + j ≡ j = omega arith in
        ap (λ (o : Option ClassInfo). slice_get (methods_in o) (0 + j))
        (number-at table bodies l place class there)
        ∙ ap (slice_get class.methods) same ∙ at)),
  )
