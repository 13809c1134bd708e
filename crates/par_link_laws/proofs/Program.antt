-- The classes of a program and their files.
use Rattle.std.proofs.Common.{◌≡◌, ℕ, zero, suc, ◌+◌, ◌<◌, Bool, true, false, not, cond, ◌&&◌}
use Rattle.std.proofs.Common.{List, [], ◌∷◌, length, map, take, drop, Option, Some}
use Rattle.std.proofs.Common.{◌++◌, slice_get, is_none, codes, refl, sym, ap, subst, ◌∙◌, arith}
use Rattle.std.proofs.lemmas.Bool.{or_from}
use Rattle.std.proofs.lemmas.Option.{slice_get_within}
use Rattle.std.specs.List.{list_any, IsDistinct, AllByRecursion}
use Rattle.std.specs.Str.{bytes_eq}
use Rattle.par_typed.specs.declared.table.ClassInfo.{ClassInfo}
use Rattle.par_typed.specs.declared.table.Table.{Table}
use Rattle.par_typed.specs.Plain.{Body}
use Rattle.par_typed.specs.Members.{IsClass}
use Rattle.par_class.specs.declared.file.ClassFile.{ClassFile}
use Rattle.par_compile_laws.specs.par_single.Descriptors.{Text}
use Rattle.par_compile_laws.specs.par_single.Members.{own_name, own_names}
use Rattle.par_compile_laws.specs.par_code_form.Named.{of_class, class_word}
use Rattle.par_compile_laws.specs.par_code_form.PoolNames.{is_builtin, full_name}
use Rattle.par_loader.specs.par_link.Builtins.{builtin}
use Rattle.par_loader.proofs.par_link.Passing.{any-at}
use Rattle.par_loader.specs.Mentions.{is_unread}
use Rattle.par_compile_laws.specs.Files.{FIRST_DECLARED, declared_classes, IsFileOf}
use Rattle.par_loader.proofs.par_link.Apart.{same-itself}
use Rattle.par_link_laws.specs.Parts.{AreFilesOf}
use Rattle.par_link_laws.specs.Linkable.{BuiltInsLink, ClassLinks, IsLinkable}
use Rattle.par_link_laws.proofs.Lists.{bytes_equiv, each-of, made-at, IsItem, item-at}
use Rattle.par_link_laws.proofs.Lists.{paired-made}
use Rattle.par_link_laws.proofs.Texts.{class-is}

-- ---- the two classes that every program has

pub record HasNone (c : ClassInfo) : Type 0 where
  pub fields : c.fields ≡ []
  pub channels : c.channels ≡ []
  pub methods : c.methods ≡ []

pub record Begins (classes : List ClassInfo) : Type 0 where
  pub first : ClassInfo
  pub second : ClassInfo
  pub rest : List ClassInfo
  pub is : classes ≡ first ∷ second ∷ rest
  pub first_named : first.name ≡ codes "ArithmeticException"
  pub second_named : second.name ≡ codes "NullPointerException"
  pub first_bare : HasNone first
  pub second_bare : HasNone second

begins-as : (cs : List ClassInfo)
    → map (λ (c : ClassInfo). c.name) (take FIRST_DECLARED cs)
    ≡ codes "ArithmeticException" ∷ codes "NullPointerException" ∷ []
    → AllByRecursion (λ (c : ClassInfo). c.fields ≡ []) (take FIRST_DECLARED cs)
    → AllByRecursion (λ (c : ClassInfo). c.channels ≡ []) (take FIRST_DECLARED cs)
    → AllByRecursion (λ (c : ClassInfo). c.methods ≡ []) (take FIRST_DECLARED cs)
    → Begins cs
begins-as [] names fields channels methods = absurd (cc names)
begins-as (a ∷ []) names fields channels methods = absurd (cc names)
begins-as (a ∷ b ∷ rest) names fields channels methods = record {
  first = a;
  second = b;
  rest = rest;
  is = refl;
  first_named = cc names;
  second_named = cc names;
  first_bare = record { fields = fields.0; channels = channels.0; methods = methods.0 };
  second_bare = record { fields = fields.1.0; channels = channels.1.0; methods = methods.1.0 };
}

-- names of which the third comes behind the first two
apart-both : (a b name : Text) (names : List Text) (i : ℕ) → IsDistinct bytes_eq (a ∷ b ∷ names)
    → slice_get names i ≡ Some name
    → (bytes_eq name a ≡ false) × (bytes_eq name b ≡ false)
unfolding IsDistinct
apart-both a b name names i apart at = (
  bytes_equiv.symm name a
      ∙ each-of (λ (y : Text). bytes_eq a y ≡ false) names i name apart.0.1 at,
  bytes_equiv.symm name b
      ∙ each-of (λ (y : Text). bytes_eq b y ≡ false) names i name apart.1.0 at,
)

apart-rest : (a b : Text) (names : List Text) → IsDistinct bytes_eq (a ∷ b ∷ names)
    → IsDistinct bytes_eq names
unfolding IsDistinct
apart-rest a b names apart = apart.1.1

module _ (table : Table) (bodies : List Body) (l : IsLinkable table bodies) where
  pub begins : Begins table.classes
  begins =
      let b : BuiltInsLink table = l.built_in in
      begins-as table.classes b.names b.no_fields b.no_channels b.no_methods

  pub declared-rest : declared_classes table ≡ begins.rest
  declared-rest = ap (drop FIRST_DECLARED) begins.is

  -- the class of a number behind the first two
  pub declared-at : (place : ℕ)
      → slice_get table.classes (suc (suc place)) ≡ slice_get (declared_classes table) place
  declared-at place =
      ap (λ (cs : List ClassInfo). slice_get cs (suc (suc place))) begins.is
      ∙ ap (λ (cs : List ClassInfo). slice_get cs place) (sym declared-rest)

  pub word-at : (n : ℕ) (class : ClassInfo) → slice_get table.classes n ≡ Some class
      → class_word table n ≡ class.name
  word-at n class at =
      ap (λ (o : Option ClassInfo). of_class o (λ (c : ClassInfo). c.name)) at

  -- one of the declared classes
  pub record IsDeclaredClass (n : ℕ) : Type 0 where
    pub place : ℕ
    pub class : ClassInfo
    pub there : slice_get (declared_classes table) place ≡ Some class
    pub number : n ≡ suc (suc place)
    pub word : class_word table n ≡ class.name

  -- a class is one of the first two, or declared
  pub data IsSplit (n : ℕ) : Type 0 where
    arithmetic : n ≡ 0 → class_word table n ≡ codes "ArithmeticException" → IsSplit n
    null_pointer : n ≡ 1 → class_word table n ≡ codes "NullPointerException" → IsSplit n
    declared : IsDeclaredClass n → IsSplit n

  pub split : (n : ℕ) → IsClass table n → IsSplit n
  split zero there =
      arithmetic refl (word-at 0 begins.first
      (ap (λ (cs : List ClassInfo). slice_get cs 0) begins.is) ∙ begins.first_named)
  split (suc zero) there =
      null_pointer refl (word-at 1 begins.second
      (ap (λ (cs : List ClassInfo). slice_get cs 1) begins.is) ∙ begins.second_named)
  split (suc (suc place)) there =
      let at : IsItem table.classes (suc (suc place)) =
      item-at table.classes (suc (suc place)) there in
      declared (record {
        place = place;
        class = at.item;
        there = sym (declared-at place) ∙ at.stands;
        number = refl;
        word = word-at (suc (suc place)) at.item at.stands;
      })

  -- ---- what is known of a declared class

  module _ (place : ℕ) (class : ClassInfo)
      (there : slice_get (declared_classes table) place ≡ Some class) where
    pub class-links : ClassLinks table class
    class-links =
        each-of (ClassLinks table) table.classes (suc (suc place)) class l.classes
        (declared-at place ∙ there)

    pub number-at : slice_get table.classes (FIRST_DECLARED + place) ≡ Some class
    number-at =
        let same : FIRST_DECLARED + place ≡ suc (suc place) = omega arith in
        ap (slice_get table.classes) same ∙ declared-at place ∙ there

    both-apart : (bytes_eq class.name (codes "ArithmeticException") ≡ false)
        × (bytes_eq class.name (codes "NullPointerException") ≡ false)
    both-apart =
        let names : List Text = map (λ (c : ClassInfo). c.name) begins.rest in
        let listed : slice_get names place ≡ Some class.name =
        made-at (λ (c : ClassInfo). c.name) begins.rest place class
        (ap (λ (cs : List ClassInfo). slice_get cs place) (sym declared-rest) ∙ there) in
        let apart : IsDistinct bytes_eq (begins.first.name ∷ begins.second.name ∷ names) =
        subst (λ (cs : List ClassInfo). IsDistinct bytes_eq (map (λ (c : ClassInfo). c.name) cs))
        begins.is (l.apart).classes in
        let both = apart-both begins.first.name begins.second.name class.name names place apart
        listed in (
          ap (bytes_eq class.name) (sym begins.first_named) ∙ both.0,
          ap (bytes_eq class.name) (sym begins.second_named) ∙ both.1,
        )

    pub not-builtin : is_builtin class.name ≡ false
    not-builtin =
        or_from (bytes_eq class.name (codes "ArithmeticException"))
        (bytes_eq class.name (codes "NullPointerException")) both-apart.0 both-apart.1

    pub own-full : full_name class.name ≡ class.name
    own-full =
        ap (λ (b : Bool). cond b (codes "java/lang/" ++ class.name) class.name) not-builtin

  -- ---- files

  module _ (all : List ClassFile) (files : AreFilesOf table bodies all) where
    -- the file of a declared class
    pub record HasFile (place : ℕ) (class : ClassInfo) : Type 0 where
      pub file : ClassFile
      pub listed : slice_get all place ≡ Some file
      pub is : IsFileOf table bodies (FIRST_DECLARED + place) class file
      pub own : own_name file ≡ class.name

    own-is : (c : ℕ) (class : ClassInfo) (file : ClassFile) → IsFileOf table bodies c class file
        → own_name file ≡ class.name
    own-is c class file is =
        class-is file.pool.entries file.this_class class.name is.this_class

    pub file-of : (place : ℕ) (class : ClassInfo)
        → slice_get (declared_classes table) place ≡ Some class → HasFile place class
    file-of place class there =
        let within : place < length (declared_classes table) =
        slice_get_within (declared_classes table) place class there in
        let at : IsItem all place = item-at all place (omega (arith, files.many)) in
        let is = files.each place class at.item there at.stands in
        record {
          file = at.item;
          listed = at.stands;
          is = is;
          own = own-is (FIRST_DECLARED + place) class at.item is;
        }

    -- the class of a file
    pub record IsOfClass (place : ℕ) (file : ClassFile) : Type 0 where
      pub class : ClassInfo
      pub there : slice_get (declared_classes table) place ≡ Some class
      pub is : IsFileOf table bodies (FIRST_DECLARED + place) class file
      pub own : own_name file ≡ class.name

    pub class-of : (place : ℕ) (file : ClassFile) → slice_get all place ≡ Some file
        → IsOfClass place file
    class-of place file listed =
        let within : place < length all = slice_get_within all place file listed in
        let at : IsItem (declared_classes table) place =
        item-at (declared_classes table) place (omega (arith, files.many)) in
        let is = files.each place at.item file at.stands listed in
        record {
          class = at.item;
          there = at.stands;
          is = is;
          own = own-is (FIRST_DECLARED + place) at.item file is;
        }

    own-names : own_names all ≡ map (λ (c : ClassInfo). c.name) (declared_classes table)
    own-names =
        paired-made (λ (c : ClassInfo). c.name) own_name (declared_classes table) all files.many
        (λ i class file there listed.
        own-is (FIRST_DECLARED + i) class file (files.each i class file there listed))

    pub files-apart : IsDistinct bytes_eq (own_names all)
    files-apart =
        let apart : IsDistinct bytes_eq (begins.first.name ∷ begins.second.name
        ∷ map (λ (c : ClassInfo). c.name) begins.rest) =
        subst (λ (cs : List ClassInfo). IsDistinct bytes_eq (map (λ (c : ClassInfo). c.name) cs))
        begins.is (l.apart).classes in
        subst (IsDistinct bytes_eq)
        (sym (own-names ∙ ap (map (λ (c : ClassInfo). c.name)) declared-rest))
        (apart-rest begins.first.name begins.second.name
        (map (λ (c : ClassInfo). c.name) begins.rest) apart)

    -- a class of the program is read where all files are
    pub class-known : (n : ℕ) → IsClass table n
        → is_unread all (full_name (class_word table n)) ≡ false
    class-known n there = by_split (split n there) where
      declared_known : IsDeclaredClass n → is_unread all (full_name (class_word table n)) ≡ false
      declared_known d =
          let f : HasFile d.place d.class = file-of d.place d.class d.there in
          let some : list_any (bytes_eq d.class.name) (own_names all) ≡ true =
          any-at (bytes_eq d.class.name) (own_names all) d.place (own_name f.file)
          (made-at own_name all d.place f.file f.listed)
          (ap (bytes_eq d.class.name) f.own ∙ same-itself d.class.name) in
          ap (λ (w : Text). is_unread all (full_name w)) d.word
          ∙ ap (is_unread all) (own-full d.place d.class d.there)
          ∙ ap (λ (b : Bool). is_none (builtin d.class.name) && not b) some
          ∙ nothing (is_none (builtin d.class.name))
        where
          nothing : (b : Bool) → (b && false) ≡ false
          nothing true = refl
          nothing false = refl

      by_split : IsSplit n → is_unread all (full_name (class_word table n)) ≡ false
      by_split (arithmetic number word) = ap (λ (w : Text). is_unread all (full_name w)) word
      by_split (null_pointer number word) = ap (λ (w : Text). is_unread all (full_name w)) word
      by_split (declared d) = declared_known d
