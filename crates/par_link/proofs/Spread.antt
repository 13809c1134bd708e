-- Places that are spread over buckets are those that a look at all files finds.
use Rattle.std.proofs.Common.{◌≡◌, ℕ, zero, suc, ◌+◌, ◌<◌, ◌≤◌, ◌%◌, Bool, true, false, ◌||◌, List}
use Rattle.std.proofs.Common.{[], ◌∷◌, length, Option, Some, None, slice_get, refl, sym, ap, subst}
use Rattle.std.proofs.Common.{◌∙◌, inl, inr, arith, true≢false}
use Rattle.std.specs.Prelude.{IsTrue}
use Rattle.std.specs.List.{list_any, Contains}
use Rattle.std.specs.Option.{option_map_or}
use Rattle.std.specs.Str.{bytes_eq}
use Rattle.std.proofs.lemmas.Bool.{cases_lt, and_parts, and_from}
use Rattle.std.proofs.lemmas.Option.{none-some, same_Some, slice_get_within, slice_get-get_or}
use Rattle.std.proofs.lemmas.Slice.Eq.{bytes_eq-Decides}
use Rattle.par_single.specs.par_class.declared.file.ClassFile.{ClassFile}
use Rattle.par_single.specs.par_class.declared.file.MethodFile.{MethodFile}
use Rattle.par_single.specs.Descriptors.{Text}
use Rattle.par_single.specs.Members.{text_at, own_name}
use Rattle.par_references.specs.declared.entry.Declared.{Declared}
use Rattle.par_link.specs.Channels.{is_channel_in, is_channel, hash_of, bucket_at, bucket_of, Keeps}
use Rattle.par_link.specs.Channels.{AreIn, AreSpread}
use Rattle.par_link.specs.Inputs.{is_input, is_input_of, has_input_in, has_input}

-- ---- some item passes

module _ {A : Type 0} (p : A → Bool) where
  any-from : (xs : List A) (i : ℕ) (x : A) → slice_get xs i ≡ Some x → p x ≡ true
      → list_any p xs ≡ true
  any-from [] i x is passes = absurd (none-some x is)
  any-from (y ∷ xs) zero x is passes =
      ap (λ b. b || list_any p xs) (ap p (same_Some y x is) ∙ passes)
  any-from (y ∷ xs) (suc i) x is passes = in_case (p y) (any-from xs i x is passes) where
    in_case : (b : Bool) → list_any p xs ≡ true → (b || list_any p xs) ≡ true
    in_case true later = refl
    in_case false later = later

  any-found : (xs : List A) → list_any p xs ≡ true
      → (i : ℕ) × (x : A) × (slice_get xs i ≡ Some x) × (p x ≡ true)
  any-found [] some = absurd (true≢false (sym some))
  any-found (y ∷ xs) some = in_case (p y) refl some (any-found xs) where
    in_case : (b : Bool) → p y ≡ b → (b || list_any p xs) ≡ true
        → (list_any p xs ≡ true → (i : ℕ) × (x : A) × (slice_get xs i ≡ Some x) × (p x ≡ true))
        → (i : ℕ) × (x : A) × (slice_get (y ∷ xs) i ≡ Some x) × (p x ≡ true)
    in_case true e some later = (0, y, refl, e)
    in_case false e some later = let found = later some in (suc found.0, found.1, found.2, found.3)

contained : {A : Type 0} (xs : List A) (x : A) → Contains xs x → (i : ℕ) × (slice_get xs i ≡ Some x)
contained xs x c = (c.0, slice_get-get_or xs c.0 x c.1 ∙ ap (λ y. Some y) c.2)

-- what a test finds at a place, where it does
there : {A : Type 0} (p : A → Bool) (o : Option A) → option_map_or p o false ≡ true
    → (x : A) × (o ≡ Some x) × (p x ≡ true)
there p None e = absurd (true≢false (sym e))
there p (Some x) e = (x, refl, e)

-- ---- a place, and the method that stands there

module _ (files : List ClassFile) (class channel : Text) where
  pub record Stands (d : Declared) : Type 0 where
    pub file : ClassFile
    pub method : MethodFile
    pub in_files : slice_get files d.class ≡ Some file
    pub in_methods : slice_get file.methods d.place ≡ Some method
    pub own : own_name file ≡ class
    pub input : is_input file.pool.entries method ≡ true
    pub name : text_at file.pool.entries method.name ≡ channel

  stands : (d : Declared) → is_channel files class channel d ≡ true → Stands d
  stands d e =
      let file = there (is_channel_in class channel d.place) (slice_get files d.class) e in
      let parts = and_parts (bytes_eq (own_name file.0) class) _ file.2 in
      let method =
      there (is_input_of file.0.pool.entries channel) (slice_get file.0.methods d.place) parts.1 in
      let names = and_parts (is_input file.0.pool.entries method.0) _ method.2 in
      record {
        file = file.0;
        method = method.0;
        in_files = file.1;
        in_methods = method.1;
        own = (bytes_eq-Decides (own_name file.0) class).0 parts.0;
        input = names.0;
        name = (bytes_eq-Decides (text_at file.0.pool.entries method.0.name) channel).0 names.1;
      }

  is-input_of : (d : Declared) (s : Stands d)
      → is_input_of s.file.pool.entries channel s.method ≡ true
  is-input_of d s =
      and_from _ _ s.input
      ((bytes_eq-Decides (text_at s.file.pool.entries s.method.name) channel).1 s.name)

  found-by_all : (d : Declared) → Stands d → has_input files class channel ≡ true
  found-by_all d s =
      any-from (has_input_in class channel) files d.class s.file s.in_files
      (and_from _ _ ((bytes_eq-Decides (own_name s.file) class).1 s.own)
      (any-from (is_input_of s.file.pool.entries channel) s.file.methods d.place s.method
      s.in_methods (is-input_of d s)))

  found-at : has_input files class channel ≡ true
      → (d : Declared) × (is_channel files class channel d ≡ true)
  found-at e =
      let file = any-found (has_input_in class channel) files e in
      let parts = and_parts (bytes_eq (own_name file.1) class) _ file.3 in
      let method = any-found (is_input_of file.1.pool.entries channel) file.1.methods parts.1 in
      let d : Declared = record { class = file.0; place = method.0 } in (
        d,
        ap (λ (o : Option ClassFile). option_map_or (is_channel_in class channel method.0) o false)
            file.2
            ∙ and_from _ _ parts.0
            (ap (λ (o : Option MethodFile). option_map_or
            (is_input_of file.1.pool.entries channel) o false) method.2 ∙ method.3),
      )

-- a look into one bucket finds what a look at all files does
pub bucket_has : (files : List ClassFile) (buckets : List (List Declared)) (class channel : Text)
    → AreSpread files buckets
    → list_any (is_channel files class channel) (bucket_of buckets class channel)
    ≡ has_input files class channel
bucket_has files buckets class channel spread =
    both (list_any p bucket) (has_input files class channel) there-all all-there
  where
    p : Declared → Bool
    p d = is_channel files class channel d

    bucket : List Declared
    bucket = bucket_of buckets class channel

    there-all : list_any p bucket ≡ true → has_input files class channel ≡ true
    there-all e = let found = any-found p bucket e in
        found-by_all files class channel found.1 (stands files class channel found.1 found.3)

    all-there : has_input files class channel ≡ true → list_any p bucket ≡ true
    all-there e =
        let found = found-at files class channel e in
        let at = contained bucket found.0 (spread found.0 class channel found.1) in
        any-from p bucket at.0 found.0 at.1 found.1

    both : (a b : Bool) → (a ≡ true → b ≡ true) → (b ≡ true → a ≡ true) → a ≡ b
    both true b f g = sym (f refl)
    both false true f g = g refl
    both false false f g = refl

-- ---- spreading

pub keeps-same : (buckets : List (List Declared)) → Keeps buckets buckets
keeps-same buckets = record { many = refl; kept = λ place d there. there }

pub keeps-then : (a b c : List (List Declared)) → Keeps a b → Keeps b c → Keeps a c
keeps-then a b c p q =
    record { many = q.many ∙ p.many; kept = λ place d there. q.kept place d (p.kept place d there) }

-- what stands in the bucket of its names stays there
pub bucket-kept : (old new : List (List Declared)) (class channel : Text) (d : Declared)
    → Keeps old new → Contains (bucket_of old class channel) d
    → Contains (bucket_of new class channel) d
bucket-kept old new class channel d keeps in-old =
    subst (λ (many : ℕ). Contains (bucket_at new (hash_of class channel % many)) d) (sym keeps.many)
    (keeps.kept (hash_of class channel % length old) d in-old)

pub are-in-kept : (old new : List (List Declared)) (class : ℕ) (file : ClassFile) (many : ℕ)
    → Keeps old new → AreIn old class file many → AreIn new class file many
are-in-kept old new class file many keeps are place m less is input =
    bucket-kept old new (own_name file) (text_at file.pool.entries m.name)
    (record { class = class; place = place }) keeps (are place m less is input)

-- with one more method
pub are-in-more : (old new : List (List Declared)) (class : ℕ) (file : ClassFile) (many : ℕ)
    (x : MethodFile) → Keeps old new → AreIn old class file many
    → slice_get file.methods many ≡ Some x
    → (IsTrue (is_input file.pool.entries x)
    → Contains (bucket_of new (own_name file) (text_at file.pool.entries x.name))
    (record { class = class; place = many }))
    → AreIn new class file (many + 1)
are-in-more old new class file many x keeps are there added place m less is input =
    elim (cases_lt place many) [
      | inl before ↦ are-in-kept old new class file many keeps are place m before is input
      | inr behind ↦
          let last : place ≡ many = omega arith in
          let same : m ≡ x = same_Some m x (sym is ∙ ap (slice_get file.methods) last ∙ there) in
          subst (λ (y : MethodFile). IsTrue (is_input file.pool.entries y)
          → Contains (bucket_of new (own_name file) (text_at file.pool.entries y.name))
          (record { class = class; place = place })) (sym same)
          (subst (λ (n : ℕ). IsTrue (is_input file.pool.entries x)
          → Contains (bucket_of new (own_name file) (text_at file.pool.entries x.name))
          (record { class = class; place = n })) (sym last) added)
          input
    ]

-- the first files, as many as this, have their channels in the buckets
abbrev pub AreAllIn : List ClassFile → List (List Declared) → ℕ → Type 0
AreAllIn files buckets many = (class : ℕ) (file : ClassFile) → class < many
    → slice_get files class ≡ Some file → AreIn buckets class file (length file.methods)

pub all-in-more : (files : List ClassFile) (old new : List (List Declared)) (many : ℕ)
    (x : ClassFile) → Keeps old new → AreAllIn files old many → slice_get files many ≡ Some x
    → AreIn new many x (length x.methods) → AreAllIn files new (many + 1)
all-in-more files old new many x keeps all there added class file less is =
    elim (cases_lt class many) [
      | inl before ↦ are-in-kept old new class file (length file.methods) keeps
          (all class file before is)
      | inr behind ↦
          let last : class ≡ many = omega arith in
          let same : file ≡ x = same_Some file x (sym is ∙ ap (slice_get files) last ∙ there) in
          subst (λ (f : ClassFile). AreIn new class f (length f.methods)) (sym same)
          (subst (λ (n : ℕ). AreIn new n x (length x.methods)) (sym last) added)
    ]

pub all-spread : (files : List ClassFile) (buckets : List (List Declared)) (many : ℕ)
    → length files ≤ many → AreAllIn files buckets many → AreSpread files buckets
all-spread files buckets many whole all d class channel is =
    let s = stands files class channel d is in
    let within = slice_get_within files d.class s.file s.in_files in
    let here = slice_get_within s.file.methods d.place s.method s.in_methods in
    let at =
    all d.class s.file (omega arith) s.in_files d.place s.method here s.in_methods s.input in
    subst (λ (name : Text). Contains (bucket_of buckets name channel) d) s.own
    (subst (λ (name : Text). Contains (bucket_of buckets (own_name s.file) name) d) s.name at)
