-- The method with which a run starts is the static one, since no two have its name and descriptor.
use Rattle.std.proofs.Common.{◌≡◌, ℕ, zero, suc, ◌<◌, Bool, true, false, not, ◌&&◌, ◌||◌, List, []}
use Rattle.std.proofs.Common.{◌∷◌, take, Some, None, Option, refl, sym, ap, subst, ◌∙◌, arith}
use Rattle.std.proofs.Common.{codes, is_some}
use Rattle.std.specs.List.{slice_get, list_any, position}
use Rattle.std.specs.Prelude.{nat_lt, cond, IsTrue, ◌+◌}
use Rattle.par_single.specs.Described.{method_in, is_begun_with, main_member, method_named}
use Rattle.par_single.specs.Described.{is_channel_right, is_of_channel}
use Rattle.par_values.specs.Areas.{Name}
use Rattle.std.specs.Str.{bytes_eq}
use Rattle.std.proofs.lemmas.Bool.{and_parts, ltb-true, ltb-false}
use Rattle.std.proofs.lemmas.Slice.Eq.{bytes_eq-Decides}
use Rattle.par_class.specs.declared.file.MethodFile.{MethodFile}
use Rattle.par_class.specs.declared.file.ClassFile.{ClassFile}
use Rattle.par_class.specs.Spelling.{is_native}
use Rattle.par_index.proofs.Places.{position-is_some}
use Rattle.par_kinds.proofs.par_link.Passing.{same_text, any-at}
use Rattle.par_kinds.specs.par_link.Firsts.{first_repeated}
use Rattle.par_kinds.specs.par_link.Linked.{AreLinked}
use Rattle.par_kinds.specs.par_link.Named.{is_same, methods_of}
use Rattle.par_kinds.specs.par_link.Order.{at}
use Rattle.par_single.specs.Members.{text_at, own_name, is_static, is_method_of, method_place}
use Rattle.par_single.specs.Descriptors.{method_signature}
use Rattle.par_single.specs.Descriptors as said
use Rattle.par_single.specs.Links.{signature_said}
use Rattle.par_single.proofs.Found.{found_at}
use Rattle.par_base.specs.Names.{is_name}
use Rattle.par_kinds.specs.par_step_laws.Methods.{method_descriptor, descriptor_in, pool_of}
use Rattle.par_kinds.specs.par_step_laws.Methods.{methods_of as methods_at}
use Rattle.par_kinds.specs.par_step_laws.State.{main_place}
use Rattle.par_kinds.specs.Linked.{static_in, coded_in}
use Rattle.par_verify_laws.specs.SoundLaws.{MainRight, IsMain}
use Rattle.par_verify_laws.specs.LinkedLaws.{is_main, MainsAreRight}
use Rattle.par_loader.specs.Begun.{AreCoded}
use Rattle.par_verify_laws.specs.LinkedLaws.{FramesKeepFromBadCode}
use Rattle.par_verify_laws.specs.LinkedLaws.{FramesKeepProgramsFromBadCode}
use Rattle.par_verify_laws.proofs.Whole.{fitting_files_are_never_bad}
use Rattle.par_kinds.specs.par_step_laws.Run.{class_number}
use Rattle.par_kinds.proofs.par_link.Apart.{fresh}
use Rattle.par_verify_laws.proofs.Linking.{are_right, get-map}
use Rattle.par_kinds.proofs.par_link.Faultless.{unbroken, methods-apart, method-right}

get-take : {A : Type 0} (xs : List A) (n i : ℕ) → i < n → slice_get (take n xs) i ≡ slice_get xs i
get-take xs zero i lt = absurd (omega (arith, lt))
get-take [] (suc n) i lt = refl
get-take (x ∷ xs) (suc n) zero lt = refl
get-take (x ∷ xs) (suc n) (suc i) lt = get-take xs n i (omega (arith, lt))

module _ (files : List ClassFile) (linked : AreLinked files) (coded : AreCoded files) (class : ℕ)
    (file : ClassFile) (listed : slice_get files class ≡ Some file) where
  none-repeated : first_repeated is_same (methods_of file) ≡ None
  none-repeated = methods-apart files file (unbroken files linked class file listed)

  -- of two methods that are the same none stands before the other
  not-before : (i n : ℕ) (x y : MethodFile) → i < n → slice_get file.methods i ≡ Some x
      → slice_get file.methods n ≡ Some y
      → is_same (method_named file.pool.entries y) (method_named file.pool.entries x) ≡ true → ⊥
  not-before i n x y lt one other same =
      let named = method_named file.pool.entries in
      let free = fresh is_same [] (methods_of file) none-repeated n (named y)
      (get-map named file.methods n y other) in
      let here : slice_get (take n (methods_of file)) i ≡ Some (named x) =
      get-take (methods_of file) n i lt ∙ get-map named file.methods i x one in
      let any = any-at (is_same (named y)) (take n (methods_of file)) i (named x) here same in
      let both : true ≡ false = sym any ∙ free in cc both

  abbrev entries_name : MethodFile → List ℕ
  entries_name m = text_at file.pool.entries m.name

  abbrev entries_descriptor : MethodFile → List ℕ
  entries_descriptor m = text_at file.pool.entries m.descriptor

  -- the name and the descriptor of `main`
  texts : (m : MethodFile) → is_method_of file.pool.entries (main_member []) m ≡ true
      → (entries_name m ≡ codes "main") × (entries_descriptor m ≡ codes "()V")
  texts m is =
      let both = and_parts (bytes_eq (entries_name m) (codes "main"))
      (bytes_eq (entries_descriptor m) (codes "()V")) is in (
        same_text (entries_name m) (codes "main") both.0,
        same_text (entries_descriptor m) (codes "()V") both.1,
      )

  both-true : (a b : Bool) → a ≡ true → b ≡ true → (a && b) ≡ true
  both-true true b e f = f
  both-true false b e f = absurd (cc e)

  are-same : (x y : MethodFile) → is_method_of file.pool.entries (main_member []) x ≡ true
      → is_method_of file.pool.entries (main_member []) y ≡ true
      → is_same (method_named file.pool.entries y) (method_named file.pool.entries x) ≡ true
  are-same x y one other =
      let a = texts x one in
      let b = texts y other in
      both-true (bytes_eq (entries_name y) (entries_name x))
      (bytes_eq (entries_descriptor y) (entries_descriptor x))
      ((bytes_eq-Decides (entries_name y) (entries_name x)).1 (b.0 ∙ sym a.0))
      ((bytes_eq-Decides (entries_descriptor y) (entries_descriptor x)).1 (b.1 ∙ sym a.1))

  one-place : (i n : ℕ) (x y : MethodFile) → slice_get file.methods i ≡ Some x
      → slice_get file.methods n ≡ Some y → is_method_of file.pool.entries (main_member []) x ≡ true
      → is_method_of file.pool.entries (main_member []) y ≡ true → i ≡ n
  one-place i n x y one other first second =
      in_case (nat_lt i n) refl (nat_lt n i) refl
    where
      in_case : (a : Bool) → nat_lt i n ≡ a → (b : Bool) → nat_lt n i ≡ b → i ≡ n
      in_case true e b f =
          absurd (not-before i n x y (ltb-true i n e) one other (are-same x y first second))
      in_case false e true f =
          absurd (not-before n i y x (ltb-true n i f) other one (are-same y x second first))
      in_case false e false f =
          let a = ltb-false i n e in
          let b = ltb-false n i f in omega (arith, a, b)

  native-not : (m : MethodFile) (place : ℕ) → slice_get file.methods place ≡ Some m
      → entries_descriptor m ≡ codes "()V" → (b : Bool) → is_native m.access ≡ b → b ≡ false
  native-not m place at_place text false native = refl
  native-not m place at_place text true native =
      let right = method-right files linked class file listed place m at_place in
      let second = (and_parts (is_some (method_signature (entries_descriptor m)))
      (not (is_native m.access) || is_channel_right file.pool.entries m) right).1 in
      let channel : is_channel_right file.pool.entries m ≡ true =
      sym (ap (λ b. not b || is_channel_right file.pool.entries m) native) ∙ second in
      let of = (and_parts (is_name (entries_name m) && is_static m.access)
      (is_of_channel (entries_descriptor m)) channel).1 in
      let both : false ≡ true = sym (ap is_of_channel text) ∙ of in absurd (cc both)

  empty-takes : (text : List ℕ) → text ≡ codes "()V" → (signature_said text).takes ≡ []
  unfolding said.kinds_in said.kind_at
  empty-takes text is = ap (λ (t : List ℕ). (signature_said t).takes) is

  main-at : (place : ℕ) → method_place file (main_member (own_name file)) ≡ Some place
      → (static : Option ℕ) → position (is_main file) file.methods ≡ static → is_some static ≡ true
      → IsMain files class place
  main-at place at_first None found there = absurd (cc there)
  main-at place at_first (Some n) found there =
      let first = found_at (is_method_of file.pool.entries (main_member (own_name file)))
      file.methods
      place at_first in
      let other = found_at (is_main file) file.methods n found in
      let both = and_parts (is_static (other.item).access)
      (is_method_of file.pool.entries (main_member []) other.item) other.passes in
      let same_place : place ≡ n =
      one-place place n first.item other.item first.stands other.stands first.passes both.1 in
      let pair : Some first.item ≡ Some other.item =
      sym first.stands ∙ ap (slice_get file.methods) same_place ∙ other.stands in
      let same : first.item ≡ other.item = cc pair in
      let m = first.item in
      let text = (texts m first.passes).1 in
      let native : is_native m.access ≡ false =
      native-not m place first.stands text (is_native m.access) refl in
      let descriptor : method_descriptor files class place ≡ entries_descriptor m =
      ap (λ o. descriptor_in (pool_of o) (slice_get (methods_at o) place)) listed
      ∙ ap (descriptor_in file.pool.entries) first.stands in
      record {
        coded = ap (λ o. coded_in (slice_get (methods_at o) place)) listed
            ∙ ap coded_in first.stands
            ∙ coded class place file m listed first.stands native;
        static = ap (λ o. static_in (slice_get (methods_at o) place)) listed
            ∙ ap static_in first.stands ∙ ap (λ (m : MethodFile). is_static m.access) same ∙ both.0;
        takes = empty-takes (method_descriptor files class place) (descriptor ∙ text);
      }

  pub main_right : list_any (is_main file) file.methods ≡ true
      → MainRight files class (main_place (slice_get files class))
  main_right has =
      subst (λ o. MainRight files class (main_place o)) (sym listed)
      (in_case (method_place file (main_member (own_name file))) refl)
    where
      in_case : (o : Option ℕ) → method_place file (main_member (own_name file)) ≡ o
          → MainRight files class o
      in_case None e = tt
      in_case (Some place) e =
          main-at place e (position (is_main file) file.methods) refl
          (position-is_some (is_main file) file.methods ∙ has)

pub mains_are_right : MainsAreRight
mains_are_right files class file linked coded listed has =
    main_right files linked coded class file listed has

pub frames_keep_from_bad_code : FramesKeepFromBadCode
frames_keep_from_bad_code files given main file inputs m linked coded fit listed has =
    fitting_files_are_never_bad files given main inputs m (are_right files linked coded) fit
    (main_right files linked coded (class_number files main) file listed has)

-- ---- the first file of a program

-- the class that comes first has number 0
first-number : (files : List ClassFile) (main : Name) (file : ClassFile)
    → slice_get files 0 ≡ Some file → own_name file ≡ main → class_number files main ≡ 0
first-number [] main file listed own = absurd (cc listed)
first-number (f ∷ files) main file listed own =
    let same : f ≡ file = cc listed in
    let is : bytes_eq (own_name f) main ≡ true =
    (bytes_eq-Decides (own_name f) main).1 (ap own_name same ∙ own) in
    ap (λ (b : Bool). cond (not b) (1 + class_number files main) 0) is

-- a method that a run begins with is static
begun-static : (file : ClassFile) (main : Name) (o : Option ℕ)
    → method_place file (main_member main) ≡ o → IsTrue (is_begun_with (method_in file o))
    → IsTrue (list_any (is_main file) file.methods)
begun-static file main None at begun = absurd (cc begun)
begun-static file main (Some place) at begun =
    let found = found_at (is_method_of file.pool.entries (main_member main)) file.methods place
    at in
    let here : IsTrue (is_begun_with (Some found.item)) =
    subst (λ (o : Option MethodFile). IsTrue (is_begun_with o)) found.stands begun in
    let static = (and_parts (is_static (found.item).access) (not (is_native (found.item).access))
    here).0 in
    let passes : is_main file found.item ≡ true =
    ap (λ (b : Bool). b && is_method_of file.pool.entries (main_member []) found.item) static
    ∙ found.passes in
    any-at (is_main file) file.methods place found.item found.stands passes

pub frames_keep_programs_from_bad_code : FramesKeepProgramsFromBadCode
frames_keep_programs_from_bad_code files given main file inputs m linked coded fit listed own
    begun =
    frames_keep_from_bad_code files given main file inputs m linked coded fit
    (ap (slice_get files) (first-number files main file listed own) ∙ listed)
    (begun-static file main (method_place file (main_member main)) refl begun)
