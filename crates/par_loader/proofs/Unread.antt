-- The first constant that names a class that is still to be read.
use Rattle.std.proofs.Common.{◌≡◌, ℕ, zero, suc, ◌+◌, ◌<◌, ◌≤◌, Bool, true, false, not, ◌&&◌, ◌||◌}
use Rattle.std.proofs.Common.{cond, List, [], ◌∷◌, ◌++◌, length, map, take, drop, get_or, slice_get}
use Rattle.std.proofs.Common.{Option, Some, None, is_some, is_none, refl, sym, ap, subst, ◌∙◌}
use Rattle.std.proofs.Common.{arith}
use Rattle.std.proofs.lemmas.Grind.{common_steps}
use Rattle.std.proofs.lemmas.Bool.{and_parts}
use Rattle.std.proofs.lemmas.List.{map-append, take-append-drop, take-append-le}
use Rattle.std.proofs.lemmas.List.Folds.{list_any-append}
use Rattle.std.proofs.lemmas.List.Quantifiers.{position-Some}
use Rattle.std.proofs.lemmas.Option.{slice_get-get_or}
use Rattle.std.specs.Option.{option_map, option_or}
use Rattle.std.specs.List.{All, position, list_any}
use Rattle.par_base.specs.Names.{IsName}
use Rattle.std.specs.Str.{bytes_eq}
use Rattle.par_pool.specs.declared.constant.Constant.{Constant}
use Rattle.par_pool.specs.declared.constant.Constant.TheVariants.{Utf8, Integer, Class}
use Rattle.par_pool.specs.declared.constant.Constant.TheVariants.{Text as String_, Field, Method}
use Rattle.par_pool.specs.declared.constant.Constant.TheVariants.{NameType}
use Rattle.par_class.specs.declared.file.ClassFile.{ClassFile}
use Rattle.par_single.specs.Members.{own_name, own_names, text_at, class_name_of}
use Rattle.par_single.specs.Members.{class_name_at}
use Rattle.indexmap.specs.IndexSet.{insert_key}
use Rattle.par_link.specs.Builtins.{builtin}
use Rattle.par_index.proofs.Places.{position-is_some, any-map}
use Rattle.par_loader.specs.Reads.{Text}
use Rattle.par_loader.specs.Mentions.{Naming, is_unread, names_unread, naming_in, first_of}
use Rattle.par_loader.specs.Mentions.{first_among, next_named}

-- ---- what is named is still to be read

module _ (files : List ClassFile) (entries : List Constant) where
  constant_unread : (c : Constant) → names_unread files entries c ≡ true
      → is_unread files (class_name_of entries (Some c)) ≡ true
  unfolding names_unread
  constant_unread (Class name) h = h
  constant_unread (Utf8 text) h = absurd (cc h)
  constant_unread (Integer n) h = absurd (cc h)
  constant_unread (String_ text) h = absurd (cc h)
  constant_unread (Field class member) h = absurd (cc h)
  constant_unread (Method class member) h = absurd (cc h)
  constant_unread (NameType name descriptor) h = absurd (cc h)

  place_unread : (n : ℕ) → position (names_unread files entries) entries ≡ Some n
      → is_unread files (class_name_at entries (suc n)) ≡ true
  place_unread n e =
      let d : Constant = NameType 0 0 in
      let at = position-Some (names_unread files entries) entries n d e in
      let is : slice_get entries n ≡ Some (get_or entries n d) =
      slice_get-get_or entries n d at.0 in
      ap (λ (o : Option Constant). is_unread files (class_name_of entries o)) is
      ∙ constant_unread (get_or entries n d) at.1

file_unread : (files : List ClassFile) (file : ClassFile) (m : Naming)
    → first_of files file ≡ Some m → is_unread files m.name ≡ true
file_unread files file m e =
    by_place (position (names_unread files file.pool.entries) file.pool.entries) refl e
  where
    by_place : (o : Option ℕ) → position (names_unread files file.pool.entries) file.pool.entries
        ≡ o → option_map (naming_in file) o ≡ Some m → is_unread files m.name ≡ true
    by_place None at e = absurd (cc e)
    by_place (Some n) at e =
        let same : naming_in file n ≡ m = cc e in
        subst (λ (x : Naming). is_unread files x.name ≡ true) same
        (place_unread files file.pool.entries n at)

among_cons : (files : List ClassFile) (file : ClassFile) (rest : List ClassFile)
    → first_among files (file ∷ rest) ≡ option_or (first_of files file) (first_among files rest)
unfolding first_among
among_cons files file rest = refl

pub among_nil : (files : List ClassFile) → first_among files [] ≡ None
unfolding first_among
among_nil files = refl

among_unread : (files rest : List ClassFile) (m : Naming) → first_among files rest ≡ Some m
    → is_unread files m.name ≡ true
among_unread files [] m e = let none = among_nil files in absurd (cc (e, none))
among_unread files (file ∷ rest) m e =
    by_file (first_of files file) refl (sym (among_cons files file rest) ∙ e)
    (among_unread files rest m)
  where
    by_file : (o : Option Naming) → first_of files file ≡ o
        → option_or o (first_among files rest) ≡ Some m
        → (first_among files rest ≡ Some m → is_unread files m.name ≡ true)
        → is_unread files m.name ≡ true
    by_file None at e later = later e
    by_file (Some x) at e later = file_unread files file m (at ∙ e)

not_false : (b : Bool) → not b ≡ true → b ≡ false
not_false false e = refl
not_false true e = absurd (cc e)

-- it is none of the files'
pub unread_is_new : (files : List ClassFile) (m : Naming) → next_named files ≡ Some m
    → list_any (bytes_eq m.name) (own_names files) ≡ false
unread_is_new files m e = not_false _ (and_parts _ _ (among_unread files files m e)).1

-- ---- a file more

or_false : (a b : Bool) → (a || b) ≡ false → a ≡ false
or_false false b e = refl
or_false true b e = absurd (cc e)

false_not : (b : Bool) → b ≡ false → not b ≡ true
false_not false e = refl
false_not true e = absurd (cc e)

pub names_more : (files : List ClassFile) (file : ClassFile)
    → own_names (files ++ file ∷ []) ≡ own_names files ++ own_name file ∷ []
names_more files file = map-append own_name files (file ∷ [])

module _ (files : List ClassFile) (file : ClassFile) where
  unread_before : (name : Text) → is_unread (files ++ file ∷ []) name ≡ true
      → is_unread files name ≡ true
  unread_before name e =
      let parts = and_parts _ _ e in
      let none : list_any (bytes_eq name) (own_names (files ++ file ∷ [])) ≡ false =
      not_false _ parts.1 in
      let split = ap (list_any (bytes_eq name)) (names_more files file)
      ∙ list_any-append (bytes_eq name) (own_names files) (own_name file ∷ []) in
      let here = or_false _ _ (sym split ∙ none) in
      both _ _ parts.0 (false_not _ here)
    where
      both : (a b : Bool) → a ≡ true → b ≡ true → (a && b) ≡ true
      both true b one other = other
      both false b one other = absurd (cc one)

  pub named_before : (entries : List Constant) (c : Constant)
      → names_unread (files ++ file ∷ []) entries c ≡ true → names_unread files entries c ≡ true
  unfolding names_unread
  named_before entries (Class name) h = unread_before (text_at entries name) h
  named_before entries (Utf8 text) h = absurd (cc h)
  named_before entries (Integer n) h = absurd (cc h)
  named_before entries (String_ text) h = absurd (cc h)
  named_before entries (Field class member) h = absurd (cc h)
  named_before entries (Method class member) h = absurd (cc h)
  named_before entries (NameType name descriptor) h = absurd (cc h)

pub fewer : {A : Type 0} (p q : A → Bool) → ((x : A) → q x ≡ true → p x ≡ true) → (xs : List A)
    → list_any p xs ≡ false → list_any q xs ≡ false
fewer p q less [] e = refl
fewer p q less (x ∷ xs) e = in_case (q x) refl (fewer p q less xs (tail (p x) (list_any p xs) e))
  where
    tail : (a b : Bool) → (a || b) ≡ false → b ≡ false
    tail false b e = e
    tail true b e = absurd (cc e)

    in_case : (b : Bool) → q x ≡ b → list_any q xs ≡ false → (b || list_any q xs) ≡ false
    in_case false is later = later
    in_case true is later =
        let yes = less x is in let no = or_false (p x) (list_any p xs) e in absurd (cc (yes, no))

no_place : {A : Type 0} (o : Option A) → is_some o ≡ false → o ≡ None
no_place None e = refl
no_place (Some x) e = absurd (cc e)

none_map : {A B : Type 0} (f : A → B) (o : Option A) → option_map f o ≡ None → o ≡ None
none_map f None e = refl
none_map f (Some x) e = absurd (cc e)

or_none : {A : Type 0} (a b : Option A) → option_or a b ≡ None → (a ≡ None) × (b ≡ None)
or_none None b e = (refl, e)
or_none (Some x) b e = absurd (cc e)

of_more : (files : List ClassFile) (file one : ClassFile) → first_of files one ≡ None
    → first_of (files ++ file ∷ []) one ≡ None
of_more files file one e =
    let entries = one.pool.entries in
    let none : position (names_unread files entries) entries ≡ None =
    none_map (naming_in one) _ e in
    let no : list_any (names_unread files entries) entries ≡ false =
    sym (position-is_some (names_unread files entries) entries) ∙ ap is_some none in
    let still =
    fewer (names_unread files entries) (names_unread (files ++ file ∷ []) entries)
    (named_before files file entries) entries no in
    let gone : position (names_unread (files ++ file ∷ []) entries) entries ≡ None =
    no_place _ (position-is_some (names_unread (files ++ file ∷ []) entries) entries ∙ still) in
    ap (option_map (naming_in one)) gone

-- what named nothing names nothing
pub among_more : (files : List ClassFile) (file : ClassFile) (rest : List ClassFile)
    → first_among files rest ≡ None → first_among (files ++ file ∷ []) rest ≡ None
among_more files file [] e = among_nil (files ++ file ∷ [])
among_more files file (one ∷ rest) e =
    let parts = or_none _ _ (sym (among_cons files one rest) ∙ e) in
    among_cons (files ++ file ∷ []) one rest
    ∙ ap (λ o. option_or o (first_among (files ++ file ∷ []) rest)) (of_more files file one parts.0)
    ∙ among_more files file rest parts.1

-- ---- one file after the other

pub among_past : (files xs : List ClassFile) (x : ClassFile) → first_among files xs ≡ None
    → first_of files x ≡ None → first_among files (xs ++ x ∷ []) ≡ None
among_past files [] x none here =
    among_cons files x [] ∙ ap (λ o. option_or o (first_among files [])) here ∙ among_nil files
among_past files (y ∷ xs) x none here =
    let parts = or_none _ _ (sym (among_cons files y xs) ∙ none) in
    among_cons files y (xs ++ x ∷ [])
    ∙ ap (λ o. option_or o (first_among files (xs ++ x ∷ []))) parts.0
    ∙ among_past files xs x parts.1 here

pub among_here : (files xs : List ClassFile) (x : ClassFile) (rest : List ClassFile) (m : Naming)
    → first_among files xs ≡ None → first_of files x ≡ Some m
    → first_among files (xs ++ x ∷ rest) ≡ Some m
among_here files [] x rest m none here =
    among_cons files x rest ∙ ap (λ o. option_or o (first_among files rest)) here
among_here files (y ∷ xs) x rest m none here =
    let parts = or_none _ _ (sym (among_cons files y xs) ∙ none) in
    among_cons files y (xs ++ x ∷ rest)
    ∙ ap (λ o. option_or o (first_among files (xs ++ x ∷ rest))) parts.0
    ∙ among_here files xs x rest m parts.1 here

-- of files at a place
pub past_place : (files : List ClassFile) (i : ℕ) (x : ClassFile) → i < length files
    → x ≡ get_or files i x → first_among files (take i files) ≡ None → first_of files x ≡ None
    → first_among files (take (i + 1) files) ≡ None
past_place files i x within is none here =
    let more : take (i + 1) files ≡ take i files ++ x ∷ [] = grind (arith, common_steps) in
    ap (first_among files) more ∙ among_past files (take i files) x none here

pub here_place : (files : List ClassFile) (i : ℕ) (x : ClassFile) (m : Naming) → i < length files
    → x ≡ get_or files i x → first_among files (take i files) ≡ None → first_of files x ≡ Some m
    → next_named files ≡ Some m
here_place files i x m within is none here =
    let left : drop i files ≡ x ∷ drop (i + 1) files = grind (arith, common_steps) in
    ap (first_among files) (sym (take-append-drop i files) ∙ ap (λ ys. take i files ++ ys) left)
    ∙ among_here files (take i files) x (drop (i + 1) files) m none here

pub still_done : (files : List ClassFile) (file : ClassFile) (done : ℕ) → done ≤ length files
    → first_among files (take done files) ≡ None
    → first_among (files ++ file ∷ []) (take done (files ++ file ∷ [])) ≡ None
still_done files file done within none =
    ap (first_among (files ++ file ∷ [])) (take-append-le done files (file ∷ []) within)
    ∙ among_more files file (take done files) none

abbrev pub naming_of : Text → ℕ → Text → Naming
naming_of class index name = record { class = class; index = index; name = name }

-- ---- what the code tests

none_not : {A : Type 0} (o : Option A) → is_some o ≡ false → is_none o ≡ true
none_not None e = refl
none_not (Some x) e = absurd (cc e)

some_not : {A : Type 0} (o : Option A) → is_some o ≡ true → is_none o ≡ false
some_not None e = absurd (cc e)
some_not (Some x) e = refl

module _ {K : Type 0} (items : K → Text) (keys : List K) (files : List ClassFile)
    (are : map items keys ≡ own_names files) (name : Text) where
  pub among_names : list_any (λ k. bytes_eq name (items k)) keys
      ≡ list_any (bytes_eq name) (own_names files)
  among_names = sym (any-map (bytes_eq name) items keys) ∙ ap (list_any (bytes_eq name)) are

  pub unread_is : is_some (builtin name) ≡ false
      → not (list_any (λ k. bytes_eq name (items k)) keys) ≡ is_unread files name
  unread_is other =
      ap not among_names ∙ ap (λ b. b && not (list_any (bytes_eq name) (own_names files)))
      (sym (none_not (builtin name) other))

  pub read_is : is_some (builtin name) ≡ true → false ≡ is_unread files name
  read_is there =
      ap (λ b. b && not (list_any (bytes_eq name) (own_names files)))
      (sym (some_not (builtin name) there))

pub naming_is : (file : ClassFile) (n : ℕ) (class : Text) (index : ℕ) (name : Text)
    → class ≡ own_name file → index ≡ suc n → name ≡ class_name_at file.pool.entries index
    → naming_of class index name ≡ naming_in file n
naming_is file n class index name own counted at =
    let named : name ≡ class_name_at file.pool.entries (suc n) =
    at ∙ ap (class_name_at file.pool.entries) counted in
    ap (λ (c : Text). naming_of c index name) own
    ∙ ap (λ (i : ℕ). naming_of (own_name file) i name) counted
    ∙ ap (λ (t : Text). naming_of (own_name file) (suc n) t) named

-- a name that is new goes behind the others
pub new_keys : {K : Type 0} (items : K → Text) (eq : K → K → Bool) (keys after : List K) (value : K)
    → after ≡ insert_key eq keys value → list_any (eq value) keys ≡ false
    → map items after ≡ map items keys ++ items value ∷ []
new_keys items eq keys after value inserted new =
    ap (map items) (inserted ∙ ap (λ b. cond b keys (keys ++ value ∷ [])) new)
    ∙ map-append items keys (value ∷ [])

pub one_named : (file : ClassFile) → IsName (own_name file)
    → All (λ f. IsName (own_name f)) (file ∷ [])
one_named file named zero d within = named
one_named file named (suc n) d within = absurd (omega arith)

-- nothing was found
pub no_map : {A B : Type 0} (f : A → B) (o : Option A) (p : Option B) → ((x : A) → o ≡ Some x → ⊥)
    → option_map f o ≡ p → p ≡ None
no_map f None p none e = sym e
no_map f (Some x) p none e = absurd (none x refl)
