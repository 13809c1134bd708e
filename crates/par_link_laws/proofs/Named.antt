-- What the constants of a file of a part name is there.
use Rattle.std.proofs.Common.{◌≡◌, ℕ, zero, suc, Bool, true, false, not, ◌&&◌, List}
use Rattle.std.proofs.Common.{Option, Some, None, slice_get, is_some, is_none, refl, sym, ap}
use Rattle.std.proofs.Common.{◌∙◌, ◌⊎◌, inl, inr, option_map, ℤ}
use Rattle.std.specs.List.{list_any, position, IsDistinct}
use Rattle.std.specs.Option.{option_and_then}
use Rattle.std.specs.Str.{bytes_eq}
use Rattle.par_base.specs.Names.{is_name}
use Rattle.par_base.proofs.NameTests.{IsName-is_name}
use Rattle.par_index.proofs.Places.{position-is_some}
use Rattle.par_program_laws.proofs.TableNames.{names_stand_once}
use Rattle.par_pool.specs.declared.constant.Constant.{Constant}
use Rattle.par_pool.specs.declared.constant.Constant.TheVariants as constant
use Rattle.par_pool.specs.Entries.{entry_at}
use Rattle.par_class.specs.declared.file.ClassFile.{ClassFile}
use Rattle.par_compile_laws.specs.par_single.Descriptors.{Text}
use Rattle.par_compile_laws.specs.par_single.Members.{Member, text_at, own_name, own_names}
use Rattle.par_compile_laws.specs.par_single.Members.{member_at}
use Rattle.par_compile_laws.specs.par_single.Members.{class_name_of}
use Rattle.par_compile_laws.specs.par_single.Members.{class_name_at, member_of}
use Rattle.par_compile_laws.proofs.par_single.Found.{found_at}
use Rattle.par_loader.specs.par_link.entry.Builtin.{Builtin}
use Rattle.par_loader.specs.par_link.entry.Declared.{Declared}
use Rattle.par_loader.specs.par_link.entry.Named.{Named}
use Rattle.par_loader.specs.par_link.entry.Named.TheVariants as named
use Rattle.par_loader.specs.par_link.Builtins.{builtin, builtin_field, builtin_method}
use Rattle.par_loader.specs.par_link.Named.{is_same, fields_of, methods_of, class_place, class_of}
use Rattle.par_loader.specs.par_link.Named.{class_named}
use Rattle.par_loader.specs.par_link.Named.{listed, declared, place_in, field_of, method_of}
use Rattle.par_loader.specs.par_link.Named.{named_by}
use Rattle.par_loader.specs.par_link.Named.{field_declared, method_declared}
use Rattle.par_loader.specs.par_link.Rules.{is_nothing}
use Rattle.par_loader.proofs.par_link.Passing.{same_text}
use Rattle.par_link_laws.proofs.Builtins.{unbuilt}
use Rattle.par_loader.proofs.par_link.Passing.{position-none}
use Rattle.par_loader.specs.Mentions.{is_unread, names_unread}
use Rattle.par_link_laws.specs.Parts.{ArePart}
use Rattle.par_link_laws.proofs.Lists.{IsMadeOf, made-of}
use Rattle.par_link_laws.proofs.Lists.{made-at, any-none}
use Rattle.par_link_laws.proofs.ClassesRead as classes
use Rattle.par_link_laws.proofs.Sound.{IsDeclared, IsBuiltIn, IsClassIndex, Stands, IsSoundFile}
use Rattle.par_link_laws.proofs.Sound.{AreSound}

-- ---- files by the names of their classes

-- of files with names that differ two of one class are the same
pub one-file : (files : List ClassFile) (i j : ℕ) (f g : ClassFile)
    → IsDistinct bytes_eq (own_names files)
    → slice_get files i ≡ Some f → slice_get files j ≡ Some g → own_name f ≡ own_name g → f ≡ g
one-file files i j f g apart at there same =
    let place : i ≡ j =
    names_stand_once (own_names files) i j (own_name f) apart (made-at own_name files i f at)
    (made-at own_name files j g there ∙ ap Some (sym same)) in
    let both : Some f ≡ Some g = sym at ∙ ap (slice_get files) place ∙ there in
    cc both

-- the first file of a class
pub record IsFirst (files : List ClassFile) (name : Text) : Type 0 where
  pub place : ℕ
  pub file : ClassFile
  pub listed : slice_get files place ≡ Some file
  pub own : own_name file ≡ name
  pub first : class_place files name ≡ Some place

pub first-file : (files : List ClassFile) (name : Text)
    → list_any (bytes_eq name) (own_names files) ≡ true → IsFirst files name
first-file files name some = in_case (class_place files name) refl where
  in_case : (o : Option ℕ) → class_place files name ≡ o → IsFirst files name
  in_case None is =
      let never : false ≡ true =
      sym (ap is_some is) ∙ position-is_some (bytes_eq name) (own_names files) ∙ some in
      absurd (cc never)
  in_case (Some place) is =
      let found = found_at (bytes_eq name) (own_names files) place is in
      let made : IsMadeOf own_name files place found.item =
      made-of own_name files place found.item found.stands in
      record {
        place = place;
        file = made.item;
        listed = made.stands;
        own = made.is ∙ sym (same_text name found.item found.passes);
        first = is;
      }

-- ---- classes that are read

either-read : (a b : Bool) → (a && not b) ≡ false → (a ≡ false) ⊎ (b ≡ true)
either-read false b e = inl refl
either-read true true e = inr refl
either-read true false e = absurd (cc e)

-- a class that is read is one that every program has, or the class of a file
pub read-class : (files : List ClassFile) (name : Text) → is_unread files name ≡ false
    → (is_none (builtin name) ≡ false) ⊎ (list_any (bytes_eq name) (own_names files) ≡ true)
read-class files name read = either-read (is_none (builtin name)) _ read

module _ (files : List ClassFile) where
  there-of : (name : Text) (o : Option Builtin) → builtin name ≡ o → is_none o ≡ false
      → is_nothing (class_named files name) ≡ false
  there-of name None is some = absurd (cc some)
  there-of name (Some b) is some =
      ap (λ (x : Option Builtin). is_nothing (class_of x (class_place files name))) is

  pub class-there : (name : Text) → is_unread files name ≡ false
      → is_nothing (class_named files name) ≡ false
  class-there name read =
      elim (read-class files name read) as (λ _. is_nothing (class_named files name) ≡ false) [
        | inl some ↦ there-of name (builtin name) refl some
        | inr some ↦ own_there (builtin name) refl (first-file files name some)
      ]
    where
      own_there : (o : Option Builtin) → builtin name ≡ o → IsFirst files name
          → is_nothing (class_named files name) ≡ false
      own_there None is found =
          ap (λ (x : Option Builtin). is_nothing (class_of x (class_place files name))) is
          ∙ ap (λ (x : Option ℕ). is_nothing (listed x)) found.first
      own_there (Some b) is found = there-of name (Some b) is refl

  -- a class whose name is a name is the first of its files
  pub own-class : (name : Text) → is_name name ≡ true → (found : IsFirst files name)
      → class_named files name ≡ named.Class found.place
  own-class name is found =
      ap (λ (x : Option Builtin). class_of x (class_place files name)) (unbuilt name is)
      ∙ ap listed found.first

-- a sort of constants that name something
pub record IsNaming (of : Constant → Bool) : Type 0 where
  pub no_text : (text : List ℕ) → of (constant.Utf8 text) ≡ false
  pub no_number : (n : ℤ) → of (constant.Integer n) ≡ false
  pub no_string : (text : ℕ) → of (constant.Text text) ≡ false
  pub no_pair : (name descriptor : ℕ) → of (constant.NameType name descriptor) ≡ false

-- ---- members

never : (a b : Bool) → b ≡ false → (a && b) ≡ false
never true b e = e
never false b e = refl

declared-there : (form : Declared → Named) → ((d : Declared) → is_nothing (form d) ≡ false)
    → (class : ℕ) (o : Option ℕ) → is_some o ≡ true → is_nothing (declared form class o) ≡ false
declared-there form each class None some = absurd (cc some)
declared-there form each class (Some place) some = each (record { class = class; place = place })

module _ (all part : List ClassFile) (sound : AreSound all) (is_part : ArePart all part) where
  -- the class of a member that one of all files has is the first of a file of the part, and that
  -- file has the member
  pub record IsHere (members : ClassFile → List Member) (m : Member) : Type 0 where
    pub class : IsFirst part m.class
    pub named : is_name m.class ≡ true
    pub has : is_some (place_in members part class.place m) ≡ true

  member-here : (members : ClassFile → List Member) (m : Member) → IsDeclared all members m
      → is_unread part m.class ≡ false → IsHere members m
  member-here members m d read =
      let name : is_name m.class ≡ true =
      ap is_name (sym d.own)
      ∙ IsName-is_name (own_name d.file) (sound.each d.at d.file d.listed).named in
      let some : list_any (bytes_eq m.class) (own_names part) ≡ true =
      elim (read-class part m.class read) as
      (λ _. list_any (bytes_eq m.class) (own_names part) ≡ true) [
        | inl none ↦ absurd (cc (sym (ap is_none (unbuilt m.class name)) ∙ none))
        | inr is ↦ is
      ] in
      let found : IsFirst part m.class = first-file part m.class some in
      let at = is_part.among found.place found.file found.listed in
      let same : found.file ≡ d.file =
      one-file all at.0 d.at found.file d.file sound.apart at.1 d.listed
      (found.own ∙ sym d.own) in
      let where_is : place_in members part found.place m
      ≡ position (is_same m) (members d.file) =
      ap (option_and_then (λ (f : ClassFile). position (is_same m) (members f)))
      (found.listed ∙ ap Some same) in
      record {
        class = found;
        named = name;
        has =
            ap is_some where_is ∙ position-is_some (is_same m) (members d.file) ∙ d.has;
      }

  declared-field : (m : Member) → IsHere fields_of m
      → is_nothing (field_declared part m) ≡ false
  unfolding field_of
  declared-field m here =
      ap (λ (n : Named). is_nothing (field_of part m n))
      (own-class part m.class here.named here.class)
      ∙ declared-there named.Field (λ d. refl) (here.class).place
      (place_in fields_of part (here.class).place m) here.has

  declared-method : (m : Member) → IsHere methods_of m
      → is_nothing (method_declared part m) ≡ false
  unfolding method_of
  declared-method m here =
      ap (λ (n : Named). is_nothing (method_of part m n))
      (own-class part m.class here.named here.class)
      ∙ declared-there named.Method (λ d. refl) (here.class).place
      (place_in methods_of part (here.class).place m) here.has

  built-field : (m : Member) → IsBuiltIn builtin_field m
      → is_nothing (field_declared part m) ≡ false
  unfolding field_of
  built-field m b =
      ap (λ (x : Option Builtin). is_nothing (field_of part m (class_of x
      (class_place part m.class)))) b.is ∙ b.has

  built-method : (m : Member) → IsBuiltIn builtin_method m
      → is_nothing (method_declared part m) ≡ false
  unfolding method_of
  built-method m b =
      ap (λ (x : Option Builtin). is_nothing (method_of part m (class_of x
      (class_place part m.class)))) b.is ∙ b.has

  -- ---- the constants of a file

  module _ (place : ℕ) (file : ClassFile) (listed_so : slice_get part place ≡ Some file) where
    abbrev entries : List Constant
    entries = file.pool.entries

    pub sound-file : IsSoundFile all file
    sound-file =
        let at = is_part.among place file listed_so in sound.each at.0 file at.1

    -- each class that is named is read
    none-unread : (i : ℕ) (c : Constant) → slice_get entries i ≡ Some c
        → names_unread part entries c ≡ false
    none-unread = classes.none-unread part file (is_part.closed place file listed_so)

    class-read : (text : ℕ) (i : ℕ) → slice_get entries i ≡ Some (constant.Class text)
        → is_unread part (text_at entries text) ≡ false
    unfolding names_unread
    class-read text i at = none-unread i (constant.Class text) at

    index-read : (class : ℕ) → IsClassIndex entries class
        → is_unread part (class_name_at entries class) ≡ false
    index-read class index =
        ap (λ (o : Option Constant). is_unread part (class_name_of entries o)) index.is
        ∙ by_index class index.is
      where
        by_index : (n : ℕ) → entry_at entries n ≡ Some (constant.Class index.text)
            → is_unread part (text_at entries index.text) ≡ false
        by_index zero is = absurd (cc is)
        by_index (suc n) is = class-read index.text n is

    -- the class of a member is that of its index
    class-of : (class member : ℕ)
        → (member_at entries class member).class ≡ class_name_at entries class
    class-of class member = by_entry (entry_at entries member) where
      by_entry : (o : Option Constant)
          → (member_of entries class o).class ≡ class_name_at entries class
      by_entry None = refl
      by_entry (Some (constant.NameType name descriptor)) = refl
      by_entry (Some (constant.Utf8 text)) = refl
      by_entry (Some (constant.Integer n)) = refl
      by_entry (Some (constant.Class name)) = refl
      by_entry (Some (constant.Text text)) = refl
      by_entry (Some (constant.Field a b)) = refl
      by_entry (Some (constant.Method a b)) = refl

    member-read : (class member : ℕ) → IsClassIndex entries class
        → is_unread part (member_at entries class member).class ≡ false
    member-read class member index =
        ap (is_unread part) (class-of class member) ∙ index-read class index

    field-there : (class member : ℕ) → Stands all entries (constant.Field class member)
        → is_nothing (field_declared part (member_at entries class member)) ≡ false
    field-there class member stands =
        elim stands.1 as
        (λ _. is_nothing (field_declared part (member_at entries class member)) ≡ false) [
          | inl d ↦ declared-field _
              (member-here fields_of _ d (member-read class member stands.0))
          | inr b ↦ built-field _ b
        ]

    method-there : (class member : ℕ) → Stands all entries (constant.Method class member)
        → is_nothing (method_declared part (member_at entries class member)) ≡ false
    method-there class member stands =
        elim stands.1 as
        (λ _. is_nothing (method_declared part (member_at entries class member)) ≡ false) [
          | inl d ↦ declared-method _
              (member-here methods_of _ d (member-read class member stands.0))
          | inr b ↦ built-method _ b
        ]

    -- no constant is absent, of whichever sort
    not-absent : (of : Constant → Bool) → IsNaming of → (i : ℕ) (c : Constant)
        → slice_get entries i ≡ Some c → Stands all entries c
        → (of c && is_nothing (named_by part entries c)) ≡ false
    unfolding named_by
    not-absent of n i (constant.Class name) at stands =
        never (of (constant.Class name)) _
        (class-there part (text_at entries name) (class-read name i at))
    not-absent of n i (constant.Field class member) at stands =
        never (of (constant.Field class member)) _ (field-there class member stands)
    not-absent of n i (constant.Method class member) at stands =
        never (of (constant.Method class member)) _ (method-there class member stands)
    not-absent of n i (constant.Utf8 text) at stands =
        ap (λ (b : Bool). b && true) (n.no_text text)
    not-absent of n i (constant.Integer k) at stands =
        ap (λ (b : Bool). b && true) (n.no_number k)
    not-absent of n i (constant.Text text) at stands =
        ap (λ (b : Bool). b && true) (n.no_string text)
    not-absent of n i (constant.NameType name descriptor) at stands =
        ap (λ (b : Bool). b && true) (n.no_pair name descriptor)

    -- the first constant of a sort that names nothing
    abbrev pub absent_of : (Constant → Bool) → Option ℕ
    absent_of of =
        option_map suc (position (λ c. of c && is_nothing (named_by part entries c)) entries)

    -- nothing that the file names is absent
    pub none-absent : (of : Constant → Bool) → IsNaming of → absent_of of ≡ None
    none-absent of n =
        ap (option_map suc)
        (position-none (λ c. of c && is_nothing (named_by part entries c)) entries
        (any-none (λ c. of c && is_nothing (named_by part entries c)) entries
        (λ i c at. not-absent of n i c at (sound-file.stands i c at))))
