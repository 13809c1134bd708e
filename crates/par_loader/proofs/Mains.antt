-- The method with which a run begins is the static one, since no two have its name and descriptor.
use Rattle.std.proofs.Common.{◌≡◌, ℕ, zero, suc, ◌<◌, Bool, true, false, not, ◌&&◌, ◌||◌, List, []}
use Rattle.std.proofs.Common.{◌∷◌, map, take, Some, None, Option, refl, sym, ap, ◌∙◌, arith, codes}
use Rattle.std.proofs.Common.{is_some, slice_get, subst, Result, Ok, Err}
use Rattle.std.specs.List.{list_any, position}
use Rattle.std.specs.Prelude.{nat_lt, IfOk, OnOk, IsTrue}
use Rattle.std.specs.Str.{bytes_eq}
use Rattle.std.proofs.lemmas.Bool.{and_parts, and_from, ltb-true, ltb-false}
use Rattle.std.proofs.lemmas.Slice.Eq.{bytes_eq-Decides}
use Rattle.par_base.specs.Names.{is_name}
use Rattle.par_class.specs.declared.file.MethodFile.{MethodFile}
use Rattle.par_class.specs.declared.file.ClassFile.{ClassFile}
use Rattle.par_class.specs.Spelling.{is_native}
use Rattle.par_index.proofs.Places.{position-is_some}
use Rattle.par_single.specs.Members.{text_at, own_name, is_static, is_method_of}
use Rattle.par_single.specs.Members.{method_place}
use Rattle.par_single.specs.Described.{main_member, method_named, is_channel_right}
use Rattle.par_single.specs.Described.{is_of_channel}
use Rattle.par_single.specs.Described.{method_in, is_begun_with}
use Rattle.par_single.specs.Descriptors.{method_signature}
use Rattle.par_single.proofs.Found.{found_at}
use Rattle.par_link.specs.Named.{is_same, methods_of}
use Rattle.par_link.specs.Order.{first_broken}
use Rattle.par_link.specs.declared.linked.Linked.{Linked}
use Rattle.par_link.proofs.Apart.{fresh}
use Rattle.par_link.proofs.Faultless.{each-unbroken, methods-apart, method-fits}
use Rattle.par_link.proofs.Passing.{same_text, any-at}
use Rattle.par_loader.specs.declared.error.Unloaded.{Unloaded}
use Rattle.par_loader.specs.Judged.{is_main, has_main, begins}
use Rattle.par_loader.specs.Reads.{Text}
use Rattle.par_loader.specs.Begun.{BeginsMain}

get-take : {A : Type 0} (xs : List A) (n i : ℕ) → i < n → slice_get (take n xs) i ≡ slice_get xs i
get-take xs zero i lt = absurd (omega (arith, lt))
get-take [] (suc n) i lt = refl
get-take (x ∷ xs) (suc n) zero lt = refl
get-take (x ∷ xs) (suc n) (suc i) lt = get-take xs n i (omega (arith, lt))

get-mapped : {A B : Type 0} (f : A → B) (xs : List A) (n : ℕ) (x : A) → slice_get xs n ≡ Some x
    → slice_get (map f xs) n ≡ Some (f x)
get-mapped f [] n x is = absurd (cc is)
get-mapped f (y ∷ xs) zero x is = let same : y ≡ x = cc is in ap (λ z. Some (f z)) same
get-mapped f (y ∷ xs) (suc n) x is = get-mapped f xs n x is

module _ (files : List ClassFile) (whole : first_broken files ≡ None) (class : ℕ)
    (file : ClassFile) (listed : slice_get files class ≡ Some file) where
  abbrev name_of : MethodFile → Text
  name_of m = text_at file.pool.entries m.name

  abbrev said_of : MethodFile → Text
  said_of m = text_at file.pool.entries m.descriptor

  -- of two methods that are the same none stands before the other
  not-before : (i n : ℕ) (x y : MethodFile) → i < n → slice_get file.methods i ≡ Some x
      → slice_get file.methods n ≡ Some y
      → is_same (method_named file.pool.entries y) (method_named file.pool.entries x) ≡ true → ⊥
  not-before i n x y lt one other same =
      let named = method_named file.pool.entries in
      let apart = methods-apart files file (each-unbroken files whole class file listed) in
      let free =
      fresh is_same [] (methods_of file) apart n (named y)
      (get-mapped named file.methods n y other) in
      let here : slice_get (take n (methods_of file)) i ≡ Some (named x) =
      get-take (methods_of file) n i lt ∙ get-mapped named file.methods i x one in
      let any = any-at (is_same (named y)) (take n (methods_of file)) i (named x) here same in
      let both : true ≡ false = sym any ∙ free in
      cc both

  -- the name and the descriptor of `main`
  texts : (m : MethodFile) → is_method_of file.pool.entries (main_member []) m ≡ true
      → (name_of m ≡ codes "main") × (said_of m ≡ codes "()V")
  texts m is =
      let both =
      and_parts (bytes_eq (name_of m) (codes "main")) (bytes_eq (said_of m) (codes "()V")) is in
      (same_text (name_of m) (codes "main") both.0, same_text (said_of m) (codes "()V") both.1)

  are-same : (x y : MethodFile) → is_method_of file.pool.entries (main_member []) x ≡ true
      → is_method_of file.pool.entries (main_member []) y ≡ true
      → is_same (method_named file.pool.entries y) (method_named file.pool.entries x) ≡ true
  are-same x y one other =
      let a = texts x one in
      let b = texts y other in
      and_from (bytes_eq (name_of y) (name_of x)) (bytes_eq (said_of y) (said_of x))
      ((bytes_eq-Decides (name_of y) (name_of x)).1 (b.0 ∙ sym a.0))
      ((bytes_eq-Decides (said_of y) (said_of x)).1 (b.1 ∙ sym a.1))

  one-place : (i n : ℕ) (x y : MethodFile) → slice_get file.methods i ≡ Some x
      → slice_get file.methods n ≡ Some y → is_method_of file.pool.entries (main_member []) x ≡ true
      → is_method_of file.pool.entries (main_member []) y ≡ true → i ≡ n
  one-place i n x y one other first second =
      in_case (nat_lt i n) refl (nat_lt n i) refl
    where
      in_case : (a : Bool) → nat_lt i n ≡ a → (b : Bool) → nat_lt n i ≡ b → i ≡ n
      in_case true e b f =
          absurd (not-before i n x y (ltb-true i n e) one other (are-same x y first second))
      in_case false e true f =
          absurd (not-before n i y x (ltb-true n i f) other one (are-same y x second first))
      in_case false e false f =
          let a = ltb-false i n e in let b = ltb-false n i f in omega (arith, a, b)

  -- `main` is no channel
  not-native : (m : MethodFile) (place : ℕ) → slice_get file.methods place ≡ Some m
      → said_of m ≡ codes "()V" → (b : Bool) → is_native m.access ≡ b → b ≡ false
  not-native m place at text false native = refl
  not-native m place at text true native =
      let right = method-fits files file (each-unbroken files whole class file listed) place m at in
      let second =
      (and_parts (is_some (method_signature (said_of m)))
      (not (is_native m.access) || is_channel_right file.pool.entries m) right).1 in
      let channel : is_channel_right file.pool.entries m ≡ true =
      sym (ap (λ b. not b || is_channel_right file.pool.entries m) native) ∙ second in
      let of =
      (and_parts (is_name (name_of m) && is_static m.access) (is_of_channel (said_of m))
      channel).1 in
      let both : false ≡ true = sym (ap is_of_channel text) ∙ of in
      absurd (cc both)

  -- the first `main` is the static one
  first-begins : (found : Option ℕ) → position (is_main file.pool.entries) file.methods ≡ found
      → is_some found ≡ true
      → (first : Option ℕ) → method_place file (main_member []) ≡ first → is_some first ≡ true
      → is_begun_with (method_in file first) ≡ true
  first-begins None found there first is some = absurd (cc there)
  first-begins (Some n) found there None is some = absurd (cc some)
  first-begins (Some n) found there (Some place) is some =
      let first =
      found_at (is_method_of file.pool.entries (main_member [])) file.methods place is in
      let other = found_at (is_main file.pool.entries) file.methods n found in
      let both =
      and_parts (is_static (other.item).access)
      (is_method_of file.pool.entries (main_member []) other.item) other.passes in
      let at : place ≡ n =
      one-place place n first.item other.item first.stands other.stands first.passes both.1 in
      let here : slice_get file.methods place ≡ Some other.item =
      ap (slice_get file.methods) at ∙ other.stands in
      let text = (texts other.item both.1).1 in
      let native : is_native (other.item).access ≡ false =
      not-native other.item n other.stands text (is_native (other.item).access) refl in
      ap is_begun_with here
      ∙ and_from (is_static (other.item).access) (not (is_native (other.item).access)) both.0
      (ap not native)

  -- where one is static, there is a first
  any-first : (ms : List MethodFile) → list_any (is_main file.pool.entries) ms ≡ true
      → list_any (is_method_of file.pool.entries (main_member [])) ms ≡ true
  any-first [] any = absurd (cc any)
  any-first (m ∷ ms) any =
      by (is_static m.access) (is_method_of file.pool.entries (main_member []) m) any
      (any-first ms)
    where
      by : (static is : Bool)
          → ((static && is) || list_any (is_main file.pool.entries) ms) ≡ true
          → (list_any (is_main file.pool.entries) ms ≡ true
          → list_any (is_method_of file.pool.entries (main_member [])) ms ≡ true)
          → (is || list_any (is_method_of file.pool.entries (main_member [])) ms) ≡ true
      by static true one later = refl
      by true false rest later = later rest
      by false false rest later = later rest

  pub main_begins : list_any (is_main file.pool.entries) file.methods ≡ true
      → is_begun_with (method_in file (method_place file (main_member []))) ≡ true
  main_begins any =
      first-begins (position (is_main file.pool.entries) file.methods) refl
      (position-is_some (is_main file.pool.entries) file.methods ∙ any)
      (method_place file (main_member [])) refl
      (position-is_some (is_method_of file.pool.entries (main_member [])) file.methods
      ∙ any-first file.methods any)

pub begins_main : (files : List ClassFile) (file : ClassFile) → first_broken files ≡ None
    → slice_get files 0 ≡ Some file → begins files ≡ true → BeginsMain (own_name file) files
begins_main files file whole first begun = record {
  file = file;
  first = first;
  own = refl;
  begun =
      main_begins files whole 0 file first
      (sym (ap has_main first) ∙ begun);
}

pub program_begins : (r : Result Linked Unloaded) (files : List ClassFile) (file : ClassFile)
    → OnOk r (first_broken files ≡ None) → IfOk r (λ linked. linked ≡ files)
    → IfOk r (λ linked. IsTrue (begins linked)) → slice_get files 0 ≡ Some file
    → IfOk r (λ linked. BeginsMain (own_name file) linked)
program_begins (Ok linked) files file whole same begun first =
    subst (λ fs. BeginsMain (own_name file) fs) (sym same)
    (begins_main files file whole first (subst (λ fs. begins fs ≡ true) same begun))
program_begins (Err e) files file whole same begun first = tt
