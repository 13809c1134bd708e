-- Files that link are loaded for the class of one of them, and nothing is refused.
use Rattle.std.proofs.Common.{◌≡◌, ℕ, zero, suc, ◌+◌, ◌<◌, Bool, true, false, not, cond}
use Rattle.std.proofs.Common.{List, [], ◌∷◌, ◌++◌, length, Option, Some, None, slice_get, is_some}
use Rattle.std.proofs.Common.{is_none, refl, sym, ap, subst, ◌∙◌, inl, inr, length-append, arith}
use Rattle.std.proofs.lemmas.Bool.{and_parts, not-true}
use Rattle.std.proofs.lemmas.Map.Keys.{IsDistinct-push}
use Rattle.std.specs.List.{list_any, position, IsDistinct}
use Rattle.std.specs.Option.{option_map, option_or}
use Rattle.std.specs.Str.{bytes_eq}
use Rattle.par_base.specs.Names.{is_name}
use Rattle.par_base.proofs.NameTests.{IsName-is_name}
use Rattle.par_index.proofs.Places.{position-is_some}
use Rattle.par_pool.specs.declared.constant.Constant.{Constant}
use Rattle.par_pool.specs.declared.constant.Constant.TheVariants as constant
use Rattle.par_class.specs.declared.file.ClassFile.{ClassFile}
use Rattle.par_class.proofs.Files.{file_only}
use Rattle.par_compile_laws.specs.par_single.Descriptors.{Text}
use Rattle.par_compile_laws.specs.par_single.Members.{own_name, own_names, class_name_of}
use Rattle.par_compile_laws.specs.par_single.Members.{text_at}
use Rattle.par_compile_laws.proofs.par_single.Found.{FoundAt, found_at}
use Rattle.par_loader.specs.par_link.Builtins.{builtin}
use Rattle.par_loader.proofs.par_link.Faultless.{or-none, map-none}
use Rattle.par_loader.specs.Reads.{Classes}
use Rattle.par_loader.specs.Mentions.{Naming, is_unread, names_unread, naming_in, first_of}
use Rattle.par_loader.specs.Mentions.{first_among, next_named}
use Rattle.par_loader.specs.Found.{Found, found_in}
use Rattle.par_loader.specs.Found as found
use Rattle.par_loader.specs.Loaded.{Loaded, Load, whole, goes_on, ends, refused, step_of, step}
use Rattle.par_loader.specs.Loaded.{after, with_next, further, main_step_of, loaded}
use Rattle.par_loader.specs.Judged.{begins, linked, judged, has_main}
use Rattle.par_loader.proofs.Finding.{short_is, taken_file}
use Rattle.par_loader.proofs.Linking.{begins_so}
use Rattle.par_loader.proofs.Unread.{names_more}
use Rattle.par_loader.proofs.par_link.Apart.{same-itself}
use Rattle.par_link_laws.specs.Parts.{ArePart, IsFoundIn, AreFound, IsClosedIn}
use Rattle.par_link_laws.proofs.Lists.{bytes_equiv}
use Rattle.par_link_laws.proofs.Named.{IsFirst, first-file, read-class}
use Rattle.par_link_laws.proofs.Sound.{IsSoundFile, AreSound, AreAmong, Stands}
use Rattle.par_link_laws.proofs.Unbroken.{no-more, unbroken}

-- ---- where nothing is left to be read

-- each class that one of some files names is read
none-named : (part xs : List ClassFile) → first_among part xs ≡ None → (i : ℕ) (file : ClassFile)
    → slice_get xs i ≡ Some file → IsClosedIn part file
unfolding first_among
none-named part [] none i file at = absurd (cc at)
none-named part (x ∷ xs) none zero file at =
    let same : x ≡ file = cc at in
    let here = (or-none (first_of part x) (first_among part xs) none).0 in
    let entries = file.pool.entries in
    sym (position-is_some (names_unread part entries) entries)
    ∙ ap is_some (map-none (naming_in file) (position (names_unread part entries) entries)
    (ap (first_of part) (sym same) ∙ here))
none-named part (x ∷ xs) none (suc i) file at =
    none-named part xs (or-none (first_of part x) (first_among part xs) none).1 i file at

-- ---- what is read next

-- one of all files, of none of the classes that are read
record IsNext (all part : List ClassFile) (m : Naming) : Type 0 where
  at : ℕ
  file : ClassFile
  listed : slice_get all at ≡ Some file
  own : own_name file ≡ m.name
  new : list_any (bytes_eq (own_name file)) (own_names part) ≡ false

module _ (all part : List ClassFile) (sound : AreSound all) where
  next-by : (m : Naming) (name : Text) → name ≡ m.name → is_unread part name ≡ true
      → is_unread all name ≡ false → IsNext all part m
  next-by m name is unread read =
      let tests =
      and_parts (is_none (builtin name)) (not (list_any (bytes_eq name) (own_names part))) unread in
      elim (read-class all name read) as (λ _. IsNext all part m) [
        | inl built ↦ absurd (cc (sym tests.0 ∙ built))
        | inr some ↦ next_is (first-file all name some)
            (not-true (list_any (bytes_eq name) (own_names part)) tests.1)
      ]
    where
      next_is : IsFirst all name → list_any (bytes_eq name) (own_names part) ≡ false
          → IsNext all part m
      next_is first none = record {
        at = first.place;
        file = first.file;
        listed = first.listed;
        own = first.own ∙ is;
        new = ap (λ (n : Text). list_any (bytes_eq n) (own_names part)) first.own ∙ none;
      }

  -- a constant that names a class which is not read
  named-by : (m : Naming) (entries : List Constant) (c : Constant)
      → class_name_of entries (Some c) ≡ m.name → names_unread part entries c ≡ true
      → Stands all entries c → IsNext all part m
  unfolding names_unread
  named-by m entries (constant.Class name) is unread stands =
      next-by m (text_at entries name) is unread stands
  named-by m entries (constant.Utf8 text) is unread stands = absurd (cc unread)
  named-by m entries (constant.Integer n) is unread stands = absurd (cc unread)
  named-by m entries (constant.Text text) is unread stands = absurd (cc unread)
  named-by m entries (constant.Field class member) is unread stands = absurd (cc unread)
  named-by m entries (constant.Method class member) is unread stands = absurd (cc unread)
  named-by m entries (constant.NameType name descriptor) is unread stands = absurd (cc unread)

  next-of : (file : ClassFile) → IsSoundFile all file → (m : Naming)
      → first_of part file ≡ Some m → IsNext all part m
  next-of file s m e =
      by_place (position (names_unread part file.pool.entries) file.pool.entries) refl e
    where
      by_place : (o : Option ℕ)
          → position (names_unread part file.pool.entries) file.pool.entries ≡ o
          → option_map (naming_in file) o ≡ Some m → IsNext all part m
      by_place None at e = absurd (cc e)
      by_place (Some n) at e =
          let same : naming_in file n ≡ m = cc e in
          let f : FoundAt (names_unread part file.pool.entries) file.pool.entries n =
          found_at (names_unread part file.pool.entries) file.pool.entries n at in
          named-by m file.pool.entries f.item
          (sym (ap (class_name_of file.pool.entries) f.stands)
          ∙ ap (λ (x : Naming). x.name) same) f.passes
          (s.stands n f.item f.stands)

  next-among : (xs : List ClassFile)
      → ((i : ℕ) (file : ClassFile) → slice_get xs i ≡ Some file → IsSoundFile all file)
      → (m : Naming) → first_among part xs ≡ Some m → IsNext all part m
  unfolding first_among
  next-among [] each m e = absurd (cc e)
  next-among (x ∷ xs) each m e =
      by_file (first_of part x) refl e (next-among xs (λ i f listed. each (suc i) f listed) m)
    where
      by_file : (o : Option Naming) → first_of part x ≡ o
          → option_or o (first_among part xs) ≡ Some m
          → (first_among part xs ≡ Some m → IsNext all part m) → IsNext all part m
      by_file None at e later = later e
      by_file (Some y) at e later = next-of x (each 0 x refl) m (at ∙ e)

-- ---- one file more

module _ (all : List ClassFile) (sound : AreSound all) (classes : Classes)
    (are_found : AreFound classes all) where
  -- the file of a class is found
  file-found : (at : ℕ) (file : ClassFile) → slice_get all at ≡ Some file
      → found_in (own_name file) (classes (own_name file)) ≡ found.file file
  file-found at file listed =
      let f : IsFoundIn classes file = are_found at file listed in
      ap (found_in (own_name file)) f.there ∙ short_is (own_name file) f.bytes f.short
      ∙ taken_file (own_name file) f.bytes file (file_only f.bytes file f.spells)
      (same-itself (own_name file))

  next-step : (part : List ClassFile) (m : Naming) (n : IsNext all part m)
      → step m (classes m.name) ≡ goes_on n.file
  next-step part m n =
      let named : is_name m.name ≡ true =
      ap is_name (sym n.own)
      ∙ IsName-is_name (own_name n.file) (sound.each n.at n.file n.listed).named in
      let there : found_in m.name (classes m.name) ≡ found.file n.file =
      ap (λ (name : Text). found_in name (classes name)) (sym n.own)
      ∙ file-found n.at n.file n.listed in
      ap (λ (b : Bool). cond b (step_of m (found_in m.name (classes m.name)))
      (ends 0 (refused m.class 40 m.index))) named
      ∙ ap (step_of m) there

  -- with one more of all files
  more-among : (part : List ClassFile) → AreAmong all part → (m : Naming) (n : IsNext all part m)
      → AreAmong all (part ++ n.file ∷ [])
  more-among part are m n = record {
    among = λ i file at. placed part are.among i file at;
    apart =
        subst (IsDistinct bytes_eq) (sym (names_more part n.file))
        (IsDistinct-push bytes_equiv (own_names part) (own_name n.file) are.apart n.new);
  } where
    placed : (xs : List ClassFile)
        → ((i : ℕ) (f : ClassFile) → slice_get xs i ≡ Some f
        → (at : ℕ) × (slice_get all at ≡ Some f)) → (i : ℕ) (file : ClassFile)
        → slice_get (xs ++ n.file ∷ []) i ≡ Some file → (at : ℕ) × (slice_get all at ≡ Some file)
    placed [] each zero file at = (n.at, n.listed ∙ at)
    placed [] each (suc i) file at = absurd (cc at)
    placed (x ∷ xs) each zero file at = each 0 file at
    placed (x ∷ xs) each (suc i) file at = placed xs (λ j f l. each (suc j) f l) i file at

  -- all is loaded, from these files on
  record IsAllOf (more : ℕ) (part : List ClassFile) : Type 0 where
    files : List ClassFile
    is : further classes more part ≡ record { reads = length files; end = whole files }
    is_part : ArePart all files
    first : slice_get files 0 ≡ slice_get part 0

  kept-first : (part : List ClassFile) (file : ClassFile) → 0 < length part
      → slice_get (part ++ file ∷ []) 0 ≡ slice_get part 0
  kept-first [] file some = absurd (omega arith)
  kept-first (x ∷ part) file some = refl

  all-read : (more : ℕ) (part : List ClassFile) → AreAmong all part → 0 < length part
      → length part + more ≡ 129 → IsAllOf more part
  unfolding further
  all-read zero part are some many =
      absurd (omega (arith, no-more all part are, sound.few))
  all-read (suc more) part are some many =
      by_next (next_named part) refl (all-read more)
    where
      sound_files : (i : ℕ) (file : ClassFile) → slice_get part i ≡ Some file
          → IsSoundFile all file
      sound_files i file at = let there = are.among i file at in sound.each there.0 file there.1

      by_next : (o : Option Naming) → next_named part ≡ o
          → ((longer : List ClassFile) → AreAmong all longer → 0 < length longer
          → length longer + more ≡ 129 → IsAllOf more longer) → IsAllOf (suc more) part
      by_next None none later = record {
        files = part;
        is = ap (with_next classes part (further classes more)) none;
        is_part = record {
          among = are.among;
          apart = are.apart;
          closed = none-named part part none;
        };
        first = refl;
      }
      by_next (Some m) e rest =
          let n : IsNext all part m = next-among all part sound part sound_files m e in
          let longer : length (part ++ n.file ∷ []) ≡ length part + 1 =
          length-append part (n.file ∷ []) in
          let later : IsAllOf more (part ++ n.file ∷ []) =
          rest (part ++ n.file ∷ []) (more-among part are m n) (omega (arith, longer))
          (omega (arith, longer)) in
          let goes : with_next classes part (further classes more) (Some m)
          ≡ further classes more (part ++ n.file ∷ []) =
          ap (after part (further classes more)) (next-step part m n) in
          record {
            files = later.files;
            is = ap (with_next classes part (further classes more)) e ∙ goes ∙ later.is;
            is_part = later.is_part;
            first = later.first ∙ kept-first part n.file some;
          }

  -- ---- the class that is asked for

  module _ (at : ℕ) (file : ClassFile) (listed : slice_get all at ≡ Some file) where
    alone-among : AreAmong all (file ∷ [])
    unfolding IsDistinct
    alone-among = record {
      among = only;
      apart = (tt, tt);
    } where
      only : (i : ℕ) (f : ClassFile) → slice_get (file ∷ []) i ≡ Some f
          → (n : ℕ) × (slice_get all n ≡ Some f)
      only zero f is = (at, listed ∙ is)
      only (suc i) f is = absurd (cc is)

    pub record IsWhole : Type 0 where
      pub files : List ClassFile
      pub is : judged classes (own_name file)
          ≡ record { reads = length files; end = whole files }
      pub is_part : ArePart all files
      pub first : slice_get files 0 ≡ Some file

    pub all-loaded : has_main (Some file) ≡ true → IsWhole
    all-loaded main =
        let read : IsAllOf 128 (file ∷ []) =
        all-read 128 (file ∷ []) alone-among (omega arith) refl in
        let loads : loaded classes (own_name file)
        ≡ record { reads = length read.files; end = whole read.files } =
        ap (λ (x : Found). after [] (further classes 128) (main_step_of (own_name file) x))
        (file-found at file listed) ∙ read.is in
        let begun : begins read.files ≡ true = ap has_main read.first ∙ main in
        record {
          files = read.files;
          is =
              ap (λ (l : Load). record { reads = l.reads; end = linked (own_name file) l.end })
              loads
              ∙ ap (λ (e : Loaded). record { reads = length read.files; end = e })
              (begins_so (own_name file) read.files (unbroken all read.files sound read.is_part)
              begun);
          is_part = read.is_part;
          first = read.first;
        }
