-- How many fields stand before others.
use Rattle.std.proofs.Common.{◌≡◌, ℕ, zero, suc, pos, ◌+◌, ◌*◌, ◌<◌, ◌≤◌, Bool, true, false, cond}
use Rattle.std.proofs.Common.{List, [], ◌∷◌, ◌++◌, length, take, get_or, replicate, Some, slice_get}
use Rattle.std.proofs.Common.{refl, ap, subst, ◌∙◌, arith, length-append}
use Rattle.std.proofs.lemmas.Grind.{common_steps}
use Rattle.std.proofs.lemmas.List.{length-map}
use Rattle.std.proofs.lemmas.Option.{slice_get_within, get_or_from_slice_get}
use Rattle.std.proofs.lemmas.List.Elements.{filter-append}
use Rattle.std.specs.List.{filter, All}
use Rattle.par_class.specs.declared.file.ClassFile.{ClassFile}
use Rattle.par_step_laws.specs.par_link.Conditions.{IsSmall}
use Rattle.par_values.specs.declared.value.MVal.TheVariants.{Int}
use Rattle.par_step_laws.specs.Fields.{first_statics, class_statics, all_statics, is_shared}
use Rattle.par_step_laws.specs.Fields.{many_of}
use Rattle.par_step_laws.specs.Fields.{kind_of}
use Rattle.par_values.specs.Areas.{first_value}

pub filter-few : {A : Type 0} (p : A → Bool) (xs : List A) → length (filter p xs) ≤ length xs
filter-few p [] = omega arith
filter-few p (x ∷ xs) = in_case (p x) (filter-few p xs) where
  in_case : (b : Bool) → length (filter p xs) ≤ length xs
      → length (cond b (x ∷ filter p xs) (filter p xs)) ≤ suc (length xs)
  in_case true few = omega arith
  in_case false few = omega arith

-- those before a place are no more than the place tells
pub many-few : (p : _ → Bool) (file : ClassFile) (place : ℕ) → many_of p file place ≤ place
many-few p file place =
    let few = filter-few p (take place file.fields) in
    let short : length (take place file.fields) ≤ place = grind (arith, common_steps) in
    omega arith

-- the static fields of a class and of those before it
pub statics-one : (file : ClassFile)
    → length (first_statics file) ≡ length (filter is_shared file.fields)
statics-one file =
    length-map (filter is_shared file.fields) (λ f. first_value (kind_of file.pool.entries f))

pub statics-none : class_statics [] ≡ []
unfolding class_statics
statics-none = refl

statics-joined : (some : List ClassFile) (file : ClassFile)
    → class_statics (some ++ file ∷ []) ≡ class_statics some ++ first_statics file
unfolding class_statics
statics-joined [] file = grind (arith, common_steps)
statics-joined (f ∷ some) file =
    ap (λ ys. first_statics f ++ ys) (statics-joined some file) ∙ grind (arith, common_steps)

pub statics-more : (files : List ClassFile) (i : ℕ) (file : ClassFile) → i < length files
    → file ≡ get_or files i file
    → class_statics (take (i + 1) files) ≡ class_statics (take i files) ++ first_statics file
statics-more files i file within at =
    let more : take (i + 1) files ≡ take i files ++ file ∷ [] = grind (arith, common_steps, at) in
    ap class_statics more ∙ statics-joined (take i files) file

pub statics-count : (files : List ClassFile) (i : ℕ) (file : ClassFile) → i < length files
    → file ≡ get_or files i file
    → length (class_statics (take (i + 1) files))
    ≡ length (class_statics (take i files)) + length (filter is_shared file.fields)
statics-count files i file within at =
    ap length (statics-more files i file within at)
    ∙ length-append (class_statics (take i files)) (first_statics file)
    ∙ ap (λ (n : ℕ). length (class_statics (take i files)) + n) (statics-one file)

-- are few
pub statics-few : (files : List ClassFile)
    → ((n : ℕ) (file : ClassFile) → slice_get files n ≡ Some file → IsSmall file)
    → length (class_statics files) ≤ length files * 65536
unfolding class_statics
statics-few [] small = omega arith
statics-few (file ∷ files) small =
    let later = statics-few files (λ n f at. small (suc n) f at) in
    let here = filter-few is_shared file.fields in
    let one = statics-one file in
    let few = (small 0 file refl).fields in
    let whole : length (first_statics file ++ class_statics files)
    ≡ length (first_statics file) + length (class_statics files) =
    length-append (first_statics file) (class_statics files) in
    omega (arith, later, here, one, few, whole)

-- ---- those that pass a test, as a list is gone through

module _ {A : Type 0} (p : A → Bool) (xs : List A) (i : ℕ) (x : A) (within : i < length xs)
    (at : x ≡ get_or xs i x) where
  more : take (i + 1) xs ≡ take i xs ++ x ∷ []
  more = grind (arith, common_steps, at)

  pub filter-in : p x ≡ true → filter p (take (i + 1) xs) ≡ filter p (take i xs) ++ x ∷ []
  filter-in is =
      ap (filter p) more ∙ filter-append p (take i xs) (x ∷ [])
      ∙ ap (λ (b : Bool). filter p (take i xs) ++ cond b (x ∷ []) []) is

  pub filter-out : p x ≡ false → filter p (take (i + 1) xs) ≡ filter p (take i xs)
  filter-out is =
      let none : filter p (take i xs) ++ [] ≡ filter p (take i xs) = grind (arith, common_steps) in
      ap (filter p) more ∙ filter-append p (take i xs) (x ∷ [])
      ∙ ap (λ (b : Bool). filter p (take i xs) ++ cond b (x ∷ []) []) is ∙ none

  pub filter-count : length (filter p (take (i + 1) xs))
      ≡ length (filter p (take i xs)) + cond (p x) 1 0
  filter-count = in_case (p x) refl where
    in_case : (b : Bool) → p x ≡ b
        → length (filter p (take (i + 1) xs)) ≡ length (filter p (take i xs)) + cond b 1 0
    in_case true is = ap length (filter-in is) ∙ length-append (filter p (take i xs)) (x ∷ [])
    in_case false is =
        let same : length (filter p (take i xs)) ≡ length (filter p (take i xs)) + 0 =
        omega arith in ap length (filter-out is) ∙ same

-- those of all classes and of the locks
pub all-count : (files : List ClassFile)
    → length (all_statics files) ≡ length (class_statics files) + 256
all-count files = length-append (class_statics files) (replicate 256 (Int (pos 0)))

-- ---- the classes before one of a few

before-at : {A : Type 0} (xs : List A) (i n : ℕ) (x : A) → slice_get (take i xs) n ≡ Some x
    → slice_get xs n ≡ Some x
before-at [] zero n x at = at
before-at [] (suc i) n x at = at
before-at (y ∷ xs) zero n x at = absurd (cc at)
before-at (y ∷ xs) (suc i) zero x at = at
before-at (y ∷ xs) (suc i) (suc n) x at = before-at xs i n x at

pub few-before : (files : List ClassFile) (i : ℕ) → All (λ file. IsSmall file) files
    → length files ≤ 128 → length (class_statics (take i files)) ≤ 8388608
few-before files i small few =
    let count =
    statics-few (take i files) (λ n file at. let there = before-at files i n file at in
    subst (λ (f : ClassFile). IsSmall f) (get_or_from_slice_get files n file file there)
    (small n file (slice_get_within files n file there))) in
    let short : length (take i files) ≤ length files = grind (arith, common_steps) in
    omega (arith, count, short, few)
