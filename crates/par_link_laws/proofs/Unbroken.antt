-- A part of files that link breaks no rule of linking.
use Rattle.std.proofs.Common.{◌≡◌, ℕ, suc, ◌+◌, ◌≤◌, Bool, true, false, not, List, [], ◌∷◌}
use Rattle.std.proofs.Common.{length, Option, Some, None, slice_get, if◌then◌else◌, ◌-◌, refl, sym}
use Rattle.std.proofs.Common.{ap, ◌∙◌, arith}
use Rattle.std.proofs.lemmas.Bool.{le-ltb, or_from, and_from}
use Rattle.std.proofs.lemmas.List.{length-map}
use Rattle.std.proofs.lemmas.Map.Made.{length-le_from_is_member}
use Rattle.std.specs.List.{list_any, IsDistinct, AllByRecursion}
use Rattle.std.specs.Option.{option_map, option_or}
use Rattle.std.specs.Set.{is_member}
use Rattle.std.specs.Str.{bytes_eq}
use Rattle.par_pool.specs.declared.constant.Constant.{Constant}
use Rattle.par_pool.specs.declared.constant.Constant.TheVariants as constant
use Rattle.par_class.specs.declared.file.ClassFile.{ClassFile}
use Rattle.par_compile_laws.specs.par_single.Descriptors.{Text}
use Rattle.par_compile_laws.specs.par_single.Members.{own_name, own_names}
use Rattle.par_compile_laws.specs.par_single.Described.{is_taken, differ}
use Rattle.par_loader.specs.par_link.Firsts.{first_repeated}
use Rattle.par_loader.specs.par_link.Order.{at, in_class, member_fault, description_fault}
use Rattle.par_loader.specs.par_link.Order.{constant_fault}
use Rattle.par_loader.specs.par_link.Order.{code_fault, file_fault, first_in, list_fault}
use Rattle.par_loader.specs.par_link.Order.{first_broken}
use Rattle.par_loader.specs.par_link.Rules.{is_of, are_too_many, repeated_class, repeated_field}
use Rattle.par_loader.specs.par_link.Rules.{repeated_method}
use Rattle.par_loader.specs.par_link.Rules.{wrong_field, wrong_method, unlisted, cut, earlier}
use Rattle.par_loader.specs.par_link.Stops.{is_unlisted, is_cut}
use Rattle.par_loader.proofs.par_link.Passing.{or-none, any-at, position-none}
use Rattle.par_loader.proofs.par_link.Unrepeated.{differ-none}
use Rattle.par_link_laws.specs.Parts.{ArePart}
use Rattle.par_link_laws.proofs.Lists.{bytes_equiv, any-none, Passes, passing}
use Rattle.par_link_laws.proofs.Lists.{IsMadeOf, made-of, made-at}
use Rattle.par_link_laws.proofs.Named.{IsNaming, absent_of, none-absent, sound-file}
use Rattle.par_link_laws.proofs.Sound.{IsSoundFile, AreSound, AreAmong}

-- ---- the sorts of constants that name something

abbrev is_class : Constant → Bool
is_class (constant.Class name) = true
is_class _ = false

abbrev is_field : Constant → Bool
is_field (constant.Field class member) = true
is_field _ = false

abbrev is_method : Constant → Bool
is_method (constant.Method class member) = true
is_method _ = false

naming_class : IsNaming is_class
naming_class = record {
  no_text = λ t. refl;
  no_number = λ n. refl;
  no_string = λ t. refl;
  no_pair = λ a b. refl;
}

naming_field : IsNaming is_field
naming_field = record {
  no_text = λ t. refl;
  no_number = λ n. refl;
  no_string = λ t. refl;
  no_pair = λ a b. refl;
}

naming_method : IsNaming is_method
naming_method = record {
  no_text = λ t. refl;
  no_number = λ n. refl;
  no_string = λ t. refl;
  no_pair = λ a b. refl;
}

-- ---- names that differ

none-same : (x : Text) (xs : List Text) → AllByRecursion (λ y. bytes_eq x y ≡ false) xs
    → list_any (λ y. bytes_eq y x) xs ≡ false
none-same x [] each = refl
none-same x (y ∷ xs) each =
    or_from (bytes_eq y x) (list_any (λ z. bytes_eq z x) xs)
    (sym (bytes_equiv.symm x y) ∙ each.0) (none-same x xs each.1)

differs : (xs : List Text) → IsDistinct bytes_eq xs → differ (λ x y. bytes_eq y x) xs ≡ true
unfolding IsDistinct
differs [] h = refl
differs (x ∷ xs) h =
    and_from (not (list_any (λ y. bytes_eq y x) xs)) (differ (λ x y. bytes_eq y x) xs)
    (ap not (none-same x xs h.0)) (differs xs h.1)

-- of names that differ none is repeated
pub none-repeated : (names : List Text) → IsDistinct bytes_eq names
    → first_repeated bytes_eq names ≡ None
none-repeated names apart = differ-none bytes_eq names (differs names apart)

-- ---- how many files

module _ (all part : List ClassFile) (are : AreAmong all part) where
  among-names : (name : Text) → is_member bytes_eq (own_names part) name ≡ true
      → is_member bytes_eq (own_names all) name ≡ true
  among-names name is =
      let p : Passes (bytes_eq name) (own_names part) =
      passing (bytes_eq name) (own_names part) is in
      let f : IsMadeOf own_name part p.place p.item =
      made-of own_name part p.place p.item p.stands in
      let there = are.among p.place f.item f.stands in
      any-at (bytes_eq name) (own_names all) there.0 p.item
      (made-at own_name all there.0 f.item there.1 ∙ ap Some f.is) p.passes

  pub no-more : length part ≤ length all
  no-more =
      omega (
        arith,
        length-le_from_is_member bytes_equiv (own_names part) (own_names all) are.apart among-names,
        length-map part own_name,
        length-map all own_name,
      )

module _ (all part : List ClassFile) (sound : AreSound all) (is_part : ArePart all part) where
  pub few : length part ≤ 128
  few =
      let are : AreAmong all part =
      record { among = is_part.among; apart = is_part.apart } in
      omega (arith, no-more all part are, sound.few)

  -- ---- the rules of the list

  free : (i : ℕ) (file : ClassFile) → slice_get part i ≡ Some file
      → is_taken (own_name file) ≡ false
  free i file at = (sound-file all part sound is_part i file at).free

  class-none : repeated_class part ≡ None
  class-none =
      λ i. earlier
      (position-none (λ file. is_taken (own_name file)) part
      (any-none (λ file. is_taken (own_name file)) part free) i)
      (none-repeated (own_names part) is_part.apart i)

  list-none : list_fault part ≡ None
  unfolding list_fault
  list-none =
      let fits : are_too_many part ≡ false = le-ltb 128 (length part) few in
      or-none _ (option_map (λ class. record { number = 43; class = class; index = 0 })
      (repeated_class part))
      (ap (λ (b : Bool). if b
      then Some (record { number = 45; class = length part - 1; index = length part })
      else None) fits)
      (ap (option_map (λ class. record { number = 43; class = class; index = 0 })) class-none)

  -- ---- the rules of a file

  module _ (i : ℕ) (file : ClassFile) (listed : slice_get part i ≡ Some file) where
    s : IsSoundFile all file
    s = sound-file all part sound is_part i file listed

    members-none : member_fault file ≡ None
    unfolding member_fault
    members-none =
        or-none (at 43 (repeated_field file)) (at 43 (repeated_method file))
        (ap (at 43) s.fields_apart) (ap (at 43) s.methods_apart)

    descriptions-none : description_fault file ≡ None
    unfolding description_fault
    descriptions-none =
        or-none (at 44 (wrong_field file)) (at 44 (wrong_method file))
        (ap (at 44) s.fields_right) (ap (at 44) s.methods_right)

    abbrev absent : (Constant → Bool) → Option ℕ
    absent = absent_of all part sound is_part i file listed

    constants-same : constant_fault part file
        ≡ option_or (option_or (at 40 (absent is_class)) (at 41 (absent is_field)))
        (at 42 (absent is_method))
    unfolding constant_fault is_of
    constants-same = refl

    constants-none : constant_fault part file ≡ None
    constants-none =
        let none = none-absent all part sound is_part i file listed in
        constants-same
        ∙ or-none (option_or (at 40 (absent is_class)) (at 41 (absent is_field)))
        (at 42 (absent is_method))
        (or-none (at 40 (absent is_class)) (at 41 (absent is_field))
        (ap (at 40) (none is_class naming_class)) (ap (at 41) (none is_field naming_field)))
        (ap (at 42) (none is_method naming_method))

    code-none : code_fault file ≡ None
    unfolding code_fault
    code-none =
        or-none (at 20 (unlisted file)) (at 21 (cut file))
        (ap (at 20) (s.walked is_unlisted refl)) (ap (at 21) (s.walked is_cut refl))

    file-none : file_fault part file ≡ None
    file-none =
        or-none (option_or (option_or (member_fault file) (description_fault file))
        (constant_fault part file)) (code_fault file)
        (or-none (option_or (member_fault file) (description_fault file))
        (constant_fault part file)
        (or-none (member_fault file) (description_fault file) members-none descriptions-none)
        constants-none) code-none

  -- ---- all rules

  each-none : (class : ℕ) (some : List ClassFile)
      → ((i : ℕ) (file : ClassFile) → slice_get some i ≡ Some file → file_fault part file ≡ None)
      → first_in part class some ≡ None
  unfolding first_in
  each-none class [] each = refl
  each-none class (file ∷ some) each =
      or-none (in_class class (file_fault part file)) (first_in part (class + 1) some)
      (ap (in_class class) (each 0 file refl))
      (each-none (class + 1) some (λ i f at. each (suc i) f at))

  pub unbroken : first_broken part ≡ None
  unbroken =
      or-none (list_fault part) (first_in part 0 part) list-none
      (each-none 0 part file-none)
