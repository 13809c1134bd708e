-- Members are told apart by the numbers of their texts.
use Rattle.std.proofs.Common.{◌≡◌, ℕ, zero, suc, ◌+◌, ◌<◌, ◌≤◌, ◌==◌, Bool, true, false, cond, ◌&&◌}
use Rattle.std.proofs.Common.{◌||◌, List, [], ◌∷◌, ◌++◌, length, map, take, get_or, Option, Some}
use Rattle.std.proofs.Common.{None, is_some, slice_get, refl, sym, ap, ◌∙◌, arith}
use Rattle.std.specs.Prelude.{IsTrue}
use Rattle.std.proofs.lemmas.Grind.{common_steps}
use Rattle.std.proofs.lemmas.List.{map-append}
use Rattle.std.proofs.lemmas.List.Folds.{list_any-append}
use Rattle.std.proofs.lemmas.Bool.{eq-eqb, eqb-true}
use Rattle.std.proofs.lemmas.Option.{none-some, same_Some}
use Rattle.std.proofs.lemmas.Slice.Eq.{bytes_eq-Decides}
use Rattle.std.specs.List.{flat_map, position, position_from, list_any}
use Rattle.std.specs.Option.{option_and_then, unwrap_or}
use Rattle.std.specs.Str.{bytes_eq}
use Rattle.par_single.specs.par_pool.declared.constant.Constant.{Constant}
use Rattle.par_single.specs.par_pool.declared.constant.Constant.TheVariants as constant
use Rattle.par_single.specs.par_pool.Entries.{entry_at}
use Rattle.par_single.specs.par_class.declared.file.ClassFile.{ClassFile}
use Rattle.par_single.specs.par_class.declared.file.FieldFile.{FieldFile}
use Rattle.par_single.specs.par_class.declared.file.MethodFile.{MethodFile}
use Rattle.par_index.proofs.Places.{position-from, position-is_some, position-map, position-within}
use Rattle.par_single.specs.Descriptors.{Text}
use Rattle.par_single.specs.Members.{Member, text_of, text_at, class_name_at, member_of, member_at}
use Rattle.par_references.specs.declared.keys.Key.{Key}
use Rattle.par_references.specs.Firsts.{first_repeated}
use Rattle.par_references.specs.declared.entry.Named.TheVariants as named
use Rattle.par_references.specs.Named.{is_same, fields_of, methods_of, place_in, class_named}
use Rattle.par_references.specs.Named.{declared}
use Rattle.par_references.specs.Named.{field_of, method_of, field_declared, method_declared}
use Rattle.par_references.specs.Placed.{pool_texts, text_in, texts_in, all_texts, number_of, key_of}
use Rattle.par_references.specs.Placed.{same_key, keys_of, key_place, AreAmong}
use Rattle.par_references.proofs.Passing.{same_text}
use Rattle.par_references.proofs.Placing.{repeated-map}

-- ---- one place

from-least : {A : Type 0} (p : A → Bool) (k : ℕ) (xs : List A) (n : ℕ)
    → position_from p k xs ≡ Some n → k ≤ n
from-least p k [] n e = absurd (cc e)
from-least p k (x ∷ xs) n e = in_case (p x) e (from-least p (k + 1) xs n) where
  in_case : (b : Bool) → cond b (Some k) (position_from p (k + 1) xs) ≡ Some n
      → (position_from p (k + 1) xs ≡ Some n → k + 1 ≤ n) → k ≤ n
  in_case true first more = let same : k ≡ n = cc first in omega arith
  in_case false later more = let least = more later in omega arith

-- where two tests find one place, one item passes both
abbrev Both : {A : Type 0} → (A → Bool) → (A → Bool) → Type 0
Both {A} p q = (x : A) × (p x ≡ true) × (q x ≡ true)

from-both : {A : Type 0} (p q : A → Bool) (k : ℕ) (xs : List A) (n : ℕ)
    → position_from p k xs ≡ Some n → position_from q k xs ≡ Some n → Both p q
from-both p q k [] n one two = absurd (cc one)
from-both {A} p q k (x ∷ xs) n one two =
    in_case (p x) (q x) refl refl one two (from-both p q (k + 1) xs n)
  where
    in_case : (a b : Bool) → p x ≡ a → q x ≡ b
        → cond a (Some k) (position_from p (k + 1) xs) ≡ Some n
        → cond b (Some k) (position_from q (k + 1) xs) ≡ Some n
        → (position_from p (k + 1) xs ≡ Some n → position_from q (k + 1) xs ≡ Some n → Both p q)
        → Both p q
    in_case true true passes also one two later = (x, passes, also)
    in_case true false passes also one two later =
        let same : k ≡ n = cc one in
        let more = from-least q (k + 1) xs n two in absurd (omega arith)
    in_case false true passes also one two later =
        let same : k ≡ n = cc two in
        let more = from-least p (k + 1) xs n one in absurd (omega arith)
    in_case false false passes also one two later = later one two

-- ---- texts

equal : (a : Text) → bytes_eq a a ≡ true
equal a = (bytes_eq-Decides a a).1 refl

-- texts are the same where they have one number
number-tells : (texts : List Text) (a b : Text) → list_any (bytes_eq b) texts ≡ true
    → (number_of texts a == number_of texts b) ≡ bytes_eq a b
number-tells texts a b there =
    in_case (bytes_eq a b) (position (bytes_eq a) texts) (position (bytes_eq b) texts)
    refl refl refl
  where
    some : is_some (position (bytes_eq b) texts) ≡ true
    some = position-is_some (bytes_eq b) texts ∙ there

    apart : (n : ℕ) → position (bytes_eq a) texts ≡ Some n → position (bytes_eq b) texts ≡ Some n
        → bytes_eq a b ≡ true
    apart n one two =
        let both =
        from-both (bytes_eq a) (bytes_eq b) 0 texts n
        (sym (position-from (bytes_eq a) texts) ∙ one)
        (sym (position-from (bytes_eq b) texts) ∙ two) in
        let first : a ≡ both.0 = same_text a both.0 both.1 in
        let second : b ≡ both.0 = same_text b both.0 both.2 in
        ap (bytes_eq a) (second ∙ sym first) ∙ equal a

    unequal : (n m : ℕ) → (n ≡ m → ⊥) → (n == m) ≡ false
    unequal n m differ = in_eq (n == m) refl where
      in_eq : (b : Bool) → (n == m) ≡ b → (n == m) ≡ false
      in_eq false e = e
      in_eq true e = absurd (differ (eqb-true n m e))

    in_case : (e : Bool) (o r : Option ℕ) → bytes_eq a b ≡ e → position (bytes_eq a) texts ≡ o
        → position (bytes_eq b) texts ≡ r
        → (unwrap_or o (length texts) == unwrap_or r (length texts)) ≡ e
    in_case e o None is one two = let none = ap is_some (sym two) ∙ some in absurd (cc none)
    in_case true o (Some m) is one two =
        let same : o ≡ Some m =
        sym one ∙ ap (λ t. position (bytes_eq t) texts) (same_text a b is) ∙ two in
        eq-eqb (unwrap_or o (length texts)) m (ap (λ p. unwrap_or p (length texts)) same)
    in_case false None (Some m) is one two =
        let within = position-within (bytes_eq b) texts m two in
        unequal (length texts) m (λ same. absurd (omega (arith, within, same)))
    in_case false (Some n) (Some m) is one two =
        unequal n m
        (λ same.
        let here = apart n one (two ∙ ap Some (sym same)) in
        let never : true ≡ false = sym here ∙ is in absurd (cc never))

-- a number is at most the count of the texts
pub number-within : (texts : List Text) (a : Text) → number_of texts a ≤ length texts
number-within texts a = in_case (position (bytes_eq a) texts) refl where
  in_case : (o : Option ℕ) → position (bytes_eq a) texts ≡ o
      → unwrap_or o (length texts) ≤ length texts
  in_case None is = omega arith
  in_case (Some n) is = let within = position-within (bytes_eq a) texts n is in omega arith

-- ---- texts of a constant pool

-- what is made of each stands at its index, and behind the last there are no bytes
pub text-made : {A : Type 0} (f : Text → A) (entries : List Constant) (index : ℕ)
    → unwrap_or (slice_get (map f (pool_texts entries)) index) (f []) ≡ f (text_at entries index)
text-made f entries zero = refl
text-made f entries (suc place) = later entries place where
  later : (entries : List Constant) (place : ℕ)
      → unwrap_or (slice_get (map f (map (λ c. text_of (Some c)) entries)) place) (f [])
      ≡ f (text_of (slice_get entries place))
  later [] place = refl
  later (c ∷ entries) zero = refl
  later (c ∷ entries) (suc place) = later entries place

-- ---- texts of all files

or-first : (a b : Bool) → a ≡ true → (a || b) ≡ true
or-first a b is = ap (λ x. x || b) is

or-second : (a b : Bool) → b ≡ true → (a || b) ≡ true
or-second true b is = refl
or-second false b is = is

or-here : (a b c : Bool) → (a || b) ≡ true → (a || (b || c)) ≡ true
or-here true b c is = refl
or-here false b c is = ap (λ x. x || c) is

or-past : (a b c : Bool) → (a || c) ≡ true → (a || (b || c)) ≡ true
or-past true b c is = refl
or-past false true c is = refl
or-past false false c is = is

module _ (test : Text → Bool) where
  -- the text without bytes passes, or one of these
  abbrev passes : List Text → Bool
  passes texts = test [] || list_any test texts

  own : (c : Constant) → test (text_of (Some c)) ≡ true → passes (text_in c) ≡ true
  own (constant.Utf8 text) found =
      or-second (test []) (test text || false) (or-first (test text) false found)
  own (constant.Integer n) found = or-first (test []) false found
  own (constant.Class name) found = or-first (test []) false found
  own (constant.Text text) found = or-first (test []) false found
  own (constant.Field class member) found = or-first (test []) false found
  own (constant.Method class member) found = or-first (test []) false found
  own (constant.NameType name descriptor) found = or-first (test []) false found

  -- one behind the other
  both : (texts others : List Text)
      → passes (texts ++ others) ≡ (test [] || (list_any test texts || list_any test others))
  both texts others = ap (λ b. test [] || b) (list_any-append test texts others)

  in-pool : (entries : List Constant) (place : ℕ)
      → test (text_of (slice_get entries place)) ≡ true → passes (texts_in entries) ≡ true
  in-pool [] place found = or-first (test []) false found
  in-pool (c ∷ entries) zero found =
      both (text_in c) (texts_in entries)
      ∙ or-here (test []) (list_any test (text_in c)) (list_any test (texts_in entries))
      (own c found)
  in-pool (c ∷ entries) (suc place) found =
      both (text_in c) (texts_in entries)
      ∙ or-past (test []) (list_any test (text_in c)) (list_any test (texts_in entries))
      (in-pool entries place found)

  at-index : (entries : List Constant) (index : ℕ) → test (text_at entries index) ≡ true
      → passes (texts_in entries) ≡ true
  at-index entries zero found = or-first (test []) (list_any test (texts_in entries)) found
  at-index entries (suc place) found = in-pool entries place found

  in-files : (files : List ClassFile) (place : ℕ) (file : ClassFile)
      → slice_get files place ≡ Some file → passes (texts_in file.pool.entries) ≡ true
      → list_any test (all_texts files) ≡ true
  in-files [] place file is found = absurd (none-some file is)
  in-files (first ∷ files) zero file is found =
      both (texts_in first.pool.entries) (flat_map (λ f. texts_in f.pool.entries) files)
      ∙ or-here (test []) (list_any test (texts_in first.pool.entries))
      (list_any test (flat_map (λ f. texts_in f.pool.entries) files))
      (ap (λ (f : ClassFile). passes (texts_in f.pool.entries)) (same_Some first file is) ∙ found)
  in-files (first ∷ files) (suc place) file is found =
      both (texts_in first.pool.entries) (flat_map (λ f. texts_in f.pool.entries) files)
      ∙ or-past (test []) (list_any test (texts_in first.pool.entries))
      (list_any test (flat_map (λ f. texts_in f.pool.entries) files))
      (in-files files place file is found)

-- the texts of the file at a place are among them
pub are-among : (files : List ClassFile) (place : ℕ) (file : ClassFile)
    → slice_get files place ≡ Some file → AreAmong files file
are-among files place file is = λ index.
    let text = text_at file.pool.entries index in
    in-files (bytes_eq text) files place file is
    (at-index (bytes_eq text) file.pool.entries index (equal text))

-- ---- members, by the indices of their names and descriptors

module _ {A : Type 0} (files : List ClassFile) (entries : List Constant) (name descriptor : A → ℕ)
  where
    abbrev member : A → Member
    member x =
        record {
          class = [];
          name = text_at entries (name x);
          descriptor = text_at entries (descriptor x);
        }

    -- with one key more
    pub keys-more : (keys : List Key) (xs : List A) (i : ℕ) (x : A) → i < length xs
        → x ≡ get_or xs i x → keys ≡ keys_of files (map member (take i xs))
        → keys ++ key_of files (member x) ∷ [] ≡ keys_of files (map member (take (i + 1) xs))
    keys-more keys xs i x within is all =
        let more : take (i + 1) xs ≡ take i xs ++ x ∷ [] = grind (arith, common_steps) in
        ap (λ ks. ks ++ key_of files (member x) ∷ []) all
        ∙ sym (map-append (key_of files) (map member (take i xs)) (member x ∷ []))
        ∙ ap (keys_of files) (sym (map-append member (take i xs) (x ∷ [])))
        ∙ ap (λ ys. keys_of files (map member ys)) (sym more)

    module _ (there : (index : ℕ)
        → IsTrue (list_any (bytes_eq (text_at entries index)) (all_texts files))) where
      key-tells : (m : Member) (x : A)
          → same_key (key_of files m) (key_of files (member x)) ≡ is_same m (member x)
      key-tells m x =
          λ i.
          number-tells (all_texts files) m.name (text_at entries (name x)) (there (name x)) i
          && number-tells (all_texts files) m.descriptor (text_at entries (descriptor x))
          (there (descriptor x)) i

      keys-place : (m : Member) (xs : List A)
          → position (same_key (key_of files m)) (keys_of files (map member xs))
          ≡ position (is_same m) (map member xs)
      keys-place m xs =
          position-map (same_key (key_of files m)) (key_of files) (map member xs)
          ∙ position-map (λ other. same_key (key_of files m) (key_of files other)) member xs
          ∙ (λ i. position (λ x. key-tells m x i) xs)
          ∙ sym (position-map (is_same m) member xs)

      keys-repeated : (xs : List A)
          → first_repeated same_key (keys_of files (map member xs))
          ≡ first_repeated is_same (map member xs)
      keys-repeated xs =
          repeated-map same_key (key_of files) (map member xs)
          ∙ repeated-map (λ m other. same_key (key_of files m) (key_of files other)) member xs
          ∙ (λ i. first_repeated (λ x y. key-tells (member x) y i) xs)
          ∙ sym (repeated-map is_same member xs)

-- ---- fields and methods

module _ (files : List ClassFile) (file : ClassFile) (there : AreAmong files file) where
  pub fields-repeated : first_repeated same_key (keys_of files (fields_of file))
      ≡ first_repeated is_same (fields_of file)
  fields-repeated =
      keys-repeated files file.pool.entries (λ (f : FieldFile). f.name)
      (λ (f : FieldFile). f.descriptor) there file.fields

  pub methods-repeated : first_repeated same_key (keys_of files (methods_of file))
      ≡ first_repeated is_same (methods_of file)
  methods-repeated =
      keys-repeated files file.pool.entries (λ (m : MethodFile). m.name)
      (λ (m : MethodFile). m.descriptor) there file.methods

-- the place of a member is that of its key
module _ (files : List ClassFile) (class : ℕ) (m : Member) where
  pub field-place : key_place fields_of files class (key_of files m)
      ≡ place_in fields_of files class m
  field-place = in_file (slice_get files class) refl where
    in_file : (o : Option ClassFile) → slice_get files class ≡ o
        → option_and_then (λ file. position (same_key (key_of files m))
        (keys_of files (fields_of file))) o
        ≡ option_and_then (λ file. position (is_same m) (fields_of file)) o
    in_file None is = refl
    in_file (Some file) is =
        keys-place files file.pool.entries (λ (f : FieldFile). f.name)
        (λ (f : FieldFile). f.descriptor)
        (are-among files class file is) m file.fields

  pub method-place : key_place methods_of files class (key_of files m)
      ≡ place_in methods_of files class m
  method-place = in_file (slice_get files class) refl where
    in_file : (o : Option ClassFile) → slice_get files class ≡ o
        → option_and_then (λ file. position (same_key (key_of files m))
        (keys_of files (methods_of file))) o
        ≡ option_and_then (λ file. position (is_same m) (methods_of file)) o
    in_file None is = refl
    in_file (Some file) is =
        keys-place files file.pool.entries (λ (f : MethodFile). f.name)
        (λ (f : MethodFile). f.descriptor)
        (are-among files class file is) m file.methods

-- ---- what is declared in a class of the files

-- the class of a member that an index names
member-class : (entries : List Constant) (class : ℕ) (o : Option Constant)
    → class_name_at entries class ≡ (member_of entries class o).class
member-class entries class None = refl
member-class entries class (Some (constant.Utf8 text)) = refl
member-class entries class (Some (constant.Integer n)) = refl
member-class entries class (Some (constant.Class name)) = refl
member-class entries class (Some (constant.Text text)) = refl
member-class entries class (Some (constant.Field of member)) = refl
member-class entries class (Some (constant.Method of member)) = refl
member-class entries class (Some (constant.NameType name descriptor)) = refl

module _ (files : List ClassFile) (entries : List Constant) (class member place : ℕ)
    (is : named.Class place ≡ class_named files (class_name_at entries class)) where
  abbrev said : Member
  said = member_at entries class member

  of-class : named.Class place ≡ class_named files said.class
  of-class = is ∙ ap (class_named files) (member-class entries class (entry_at entries member))

  pub field-found : declared named.Field place
      (key_place fields_of files place (key_of files said)) ≡ field_declared files said
  unfolding field_of
  field-found =
      ap (declared named.Field place) (field-place files place said)
      ∙ ap (field_of files said) of-class

  pub method-found : declared named.Method place
      (key_place methods_of files place (key_of files said)) ≡ method_declared files said
  unfolding method_of
  method-found =
      ap (declared named.Method place) (method-place files place said)
      ∙ ap (method_of files said) of-class
