-- The places of fields: different fields stand at different ones, each within its row.
use Rattle.std.proofs.Common.{◌≡◌, ℕ, zero, suc, ◌+◌, ◌<◌, Bool, true, false, not, cond, List, []}
use Rattle.std.proofs.Common.{◌∷◌, ◌++◌, length, take, map, replicate, Some, slice_get, refl, sym}
use Rattle.std.proofs.Common.{ap, subst, ◌∙◌, arith, length-append, pos}
use Rattle.std.proofs.lemmas.Option.{slice_get_within}
use Rattle.std.specs.List.{filter}
use Rattle.par_link.specs.par_class.declared.file.ClassFile.{ClassFile}
use Rattle.par_link.specs.par_class.declared.file.FieldFile.{FieldFile}
use Rattle.par_secrecy.specs.par_values.declared.value.MVal.TheVariants.{Int}
use Rattle.par_secrecy.specs.par_values.Areas.{first_value}
use Rattle.par_step_laws.specs.Fields.{is_shared, is_own, kind_of, object_kinds, first_statics}
use Rattle.par_step_laws.specs.Fields.{class_statics, field_place, many_of}
use Rattle.par_step_laws.specs.FieldLaws.{IsFieldOf, StaticFieldsApart, StaticFieldsStand}
use Rattle.par_step_laws.specs.FieldLaws.{OwnFieldsApart, OwnFieldsStand, LocksStand}

-- ---- lists

map-at : {A B : Type 0} (f : A → B) (xs : List A) (n : ℕ) (x : A) → slice_get xs n ≡ Some x
    → slice_get (map f xs) n ≡ Some (f x)
map-at f [] n x at = absurd (cc at)
map-at f (y ∷ xs) zero x at = let same : y ≡ x = cc at in ap (λ z. Some (f z)) same
map-at f (y ∷ xs) (suc n) x at = map-at f xs n x at

front-at : {A : Type 0} (xs ys : List A) (n : ℕ) → n < length xs
    → slice_get (xs ++ ys) n ≡ slice_get xs n
front-at [] ys n less = absurd (omega arith)
front-at (x ∷ xs) ys zero less = refl
front-at (x ∷ xs) ys (suc n) less = front-at xs ys n (omega arith)

behind-at : {A : Type 0} (xs ys : List A) (n : ℕ)
    → slice_get (xs ++ ys) (length xs + n) ≡ slice_get ys n
behind-at [] ys n = let same : 0 + n ≡ n = omega arith in ap (slice_get ys) same
behind-at (x ∷ xs) ys n =
    let same : suc (length xs) + n ≡ suc (length xs + n) = omega arith in
    ap (slice_get (x ∷ (xs ++ ys))) same ∙ behind-at xs ys n

copy-at : {A : Type 0} (x : A) (many n : ℕ) → n < many → slice_get (replicate many x) n ≡ Some x
copy-at x zero n less = absurd (omega arith)
copy-at x (suc many) zero less = refl
copy-at x (suc many) (suc n) less = copy-at x many n (omega arith)

-- ---- items that pass a test

module _ {A : Type 0} (test : A → Bool) where
  -- how many pass among the first so many
  abbrev passed : List A → ℕ → ℕ
  passed xs n = length (filter test (take n xs))

  filter-first : (y : A) (xs : List A) → test y ≡ true → filter test (y ∷ xs) ≡ y ∷ filter test xs
  filter-first y xs is = ap (λ b. cond b (y ∷ filter test xs) (filter test xs)) is

  filter-next : (y : A) (xs : List A) → test y ≡ false → filter test (y ∷ xs) ≡ filter test xs
  filter-next y xs is = ap (λ b. cond b (y ∷ filter test xs) (filter test xs)) is

  -- one that passes stands behind as many as pass before it
  pub passed-at : (xs : List A) (n : ℕ) (x : A) → slice_get xs n ≡ Some x → test x ≡ true
      → slice_get (filter test xs) (passed xs n) ≡ Some x
  passed-at [] n x at is = absurd (cc at)
  passed-at (y ∷ xs) zero x at is =
      let same : y ≡ x = cc at in
      ap (λ ys. slice_get ys 0) (filter-first y xs (ap test same ∙ is)) ∙ ap Some same
  passed-at (y ∷ xs) (suc n) x at is = by (test y) refl (passed-at xs n x at is)
    where
      by : (b : Bool) → test y ≡ b → slice_get (filter test xs) (passed xs n) ≡ Some x
          → slice_get (filter test (y ∷ xs)) (passed (y ∷ xs) (suc n)) ≡ Some x
      by true first later =
          ap (λ ys. slice_get ys (passed (y ∷ xs) (suc n))) (filter-first y xs first)
          ∙ ap (λ ys. slice_get (y ∷ filter test xs) (length ys)) (filter-first y (take n xs) first)
          ∙ later
      by false none later =
          ap (λ ys. slice_get ys (passed (y ∷ xs) (suc n))) (filter-next y xs none)
          ∙ ap (λ ys. slice_get (filter test xs) (length ys)) (filter-next y (take n xs) none)
          ∙ later

  -- two that pass behind equally many are one
  pub passed-apart : (xs : List A) (n k : ℕ) (x z : A) → slice_get xs n ≡ Some x
      → slice_get xs k ≡ Some z → test x ≡ true → test z ≡ true → passed xs n ≡ passed xs k → n ≡ k
  passed-apart [] n k x z at also is too same = absurd (cc at)
  passed-apart (y ∷ xs) zero zero x z at also is too same = refl
  passed-apart (y ∷ xs) zero (suc k) x z at also is too same =
      let here : y ≡ x = cc at in
      let more = ap length (filter-first y (take k xs) (ap test here ∙ is)) in
      absurd (omega (arith, same, more))
  passed-apart (y ∷ xs) (suc n) zero x z at also is too same =
      let here : y ≡ z = cc also in
      let more = ap length (filter-first y (take n xs) (ap test here ∙ too)) in
      absurd (omega (arith, same, more))
  passed-apart (y ∷ xs) (suc n) (suc k) x z at also is too same =
      by (test y) refl (λ e. passed-apart xs n k x z at also is too e)
    where
      by : (b : Bool) → test y ≡ b → (passed xs n ≡ passed xs k → n ≡ k) → suc n ≡ suc k
      by true first later =
          let one = ap length (filter-first y (take n xs) first) in
          let other = ap length (filter-first y (take k xs) first) in
          ap suc (later (omega (arith, same, one, other)))
      by false none later =
          let one = ap length (filter-next y (take n xs) none) in
          let other = ap length (filter-next y (take k xs) none) in
          ap suc (later (omega (arith, same, one, other)))

-- ---- rows of all classes

-- where the static fields of a class begin
abbrev begins : List ClassFile → ℕ → ℕ
begins files class = length (class_statics (take class files))

class-at : (files : List ClassFile) (class : ℕ) (file : ClassFile) (n : ℕ)
    → slice_get files class ≡ Some file → n < length (first_statics file)
    → slice_get (class_statics files) (begins files class + n) ≡ slice_get (first_statics file) n
unfolding class_statics
class-at [] class file n at less = absurd (cc at)
class-at (f ∷ files) zero file n at less =
    let same : f ≡ file = cc at in
    let start : 0 + n ≡ n = omega arith in
    ap (slice_get (first_statics f ++ class_statics files)) start
    ∙ front-at (first_statics f) (class_statics files) n
    (subst (λ g. n < length (first_statics g)) (sym same) less)
    ∙ ap (λ g. slice_get (first_statics g) n) same
class-at (f ∷ files) (suc class) file n at less =
    let long = length-append (first_statics f) (class_statics (take class files)) in
    let here : length (first_statics f ++ class_statics (take class files)) + n
    ≡ length (first_statics f) + (begins files class + n) = omega (arith, long) in
    ap (slice_get (first_statics f ++ class_statics files)) here
    ∙ behind-at (first_statics f) (class_statics files) (begins files class + n)
    ∙ class-at files class file n at less

classes-apart : (files : List ClassFile) (class number : ℕ) (file other : ClassFile) (n k : ℕ)
    → slice_get files class ≡ Some file → slice_get files number ≡ Some other
    → n < length (first_statics file) → k < length (first_statics other)
    → begins files class + n ≡ begins files number + k → (class ≡ number) × (n ≡ k)
unfolding class_statics
classes-apart [] class number file other n k at also less short same = absurd (cc at)
classes-apart (f ∷ files) zero zero file other n k at also less short same =
    (refl, omega (arith, same))
classes-apart (f ∷ files) zero (suc number) file other n k at also less short same =
    let here : f ≡ file = cc at in
    let long = length-append (first_statics f) (class_statics (take number files)) in
    let short : n < length (first_statics f) =
    subst (λ g. n < length (first_statics g)) (sym here) less in
    absurd (omega (arith, same, long, short))
classes-apart (f ∷ files) (suc class) zero file other n k at also less short same =
    let here : f ≡ other = cc also in
    let long = length-append (first_statics f) (class_statics (take class files)) in
    let less : k < length (first_statics f) =
    subst (λ g. k < length (first_statics g)) (sym here) short in
    absurd (omega (arith, same, long, less))
classes-apart (f ∷ files) (suc class) (suc number) file other n k at also less short same =
    let one = length-append (first_statics f) (class_statics (take class files)) in
    let two = length-append (first_statics f) (class_statics (take number files)) in
    let rest = classes-apart files class number file other n k at also less short
    (omega (arith, same, one, two)) in
    (ap suc rest.0, rest.1)

-- ---- the places of fields

module _ (files : List ClassFile) (class : ℕ) (file : ClassFile) (place : ℕ) (f : FieldFile)
    (is : IsFieldOf files class file place f) where
  value-at : is_shared f ≡ true
      → slice_get (first_statics file) (many_of is_shared file place)
      ≡ Some (first_value (kind_of file.pool.entries f))
  value-at shared =
      map-at (λ g. first_value (kind_of file.pool.entries g)) (filter is_shared file.fields)
      (many_of is_shared file place) f (passed-at is_shared file.fields place f is.stands shared)

  value-within : is_shared f ≡ true → many_of is_shared file place < length (first_statics file)
  value-within shared =
      slice_get_within (first_statics file) (many_of is_shared file place) _ (value-at shared)

  place-shared : is_shared f ≡ true
      → field_place files class file place f ≡ begins files class + many_of is_shared file place
  place-shared shared =
      ap (λ b. cond b (begins files class + many_of is_shared file place)
      (many_of is_own file place)) shared

  place-own : is_shared f ≡ false
      → field_place files class file place f ≡ many_of is_own file place
  place-own own =
      ap (λ b. cond b (begins files class + many_of is_shared file place)
      (many_of is_own file place)) own

  -- a static field in the row of all classes
  row-at : is_shared f ≡ true
      → slice_get (class_statics files) (field_place files class file place f)
      ≡ Some (first_value (kind_of file.pool.entries f))
  row-at shared =
      ap (slice_get (class_statics files)) (place-shared shared)
      ∙ class-at files class file (many_of is_shared file place) is.listed (value-within shared)
      ∙ value-at shared

pub static_fields_apart : StaticFieldsApart
static_fields_apart files class other file others place at f g one two shared also same =
    let both = classes-apart files class other file others (many_of is_shared file place)
    (many_of is_shared others at) one.listed two.listed
    (value-within files class file place f one shared)
    (value-within files other others at g two also)
    (sym (place-shared files class file place f one shared) ∙ same
    ∙ place-shared files other others at g two also) in
    let file_is : Some file ≡ Some others =
    sym one.listed ∙ ap (slice_get files) both.0 ∙ two.listed in
    let file_same : file ≡ others = cc file_is in
    let here : slice_get file.fields at ≡ Some g =
    ap (λ x. slice_get x.fields at) file_same ∙ two.stands in
    let places : many_of is_shared file place ≡ many_of is_shared file at =
    both.1 ∙ ap (λ x. many_of is_shared x at) (sym file_same) in
    (both.0, passed-apart is_shared file.fields place at f g one.stands here shared also places)

pub static_fields_stand : StaticFieldsStand
static_fields_stand files class file place f is shared =
    let at = row-at files class file place f is shared in
    let within =
    slice_get_within (class_statics files) (field_place files class file place f) _ at in
    record {
      within = within;
      first =
          front-at (class_statics files) _ (field_place files class file place f) within ∙ at;
    }

pub locks_stand : LocksStand
locks_stand files number few =
    record {
      behind = omega arith;
      closed =
          behind-at (class_statics files) (replicate 256 (Int (pos 0))) number
          ∙ copy-at (Int (pos 0)) 256 number few;
    }

pub own_fields_apart : OwnFieldsApart
own_fields_apart files class file place at f g one two own also same =
    passed-apart is_own file.fields place at f g one.stands two.stands
    (ap not own) (ap not also)
    (sym (place-own files class file place f one own) ∙ same
    ∙ place-own files class file at g two also)

pub own_fields_stand : OwnFieldsStand
own_fields_stand files class file place f is own =
    let at : slice_get (object_kinds file) (field_place files class file place f)
    ≡ Some (kind_of file.pool.entries f) =
    ap (slice_get (object_kinds file)) (place-own files class file place f is own)
    ∙ map-at (kind_of file.pool.entries) (filter is_own file.fields) (many_of is_own file place) f
    (passed-at is_own file.fields place f is.stands (ap not own)) in
    record {
      within =
          slice_get_within (object_kinds file) (field_place files class file place f) _ at;
      first = map-at first_value (object_kinds file) (field_place files class file place f) _ at;
    }
