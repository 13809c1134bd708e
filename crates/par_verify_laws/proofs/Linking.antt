-- What is known of linked files where each method that is not native has code.
use Rattle.std.proofs.Common.{◌≡◌, ℕ, zero, suc, ◌+◌, ◌<◌, ◌≤◌, ◌==◌, Bool, true, false, not, ◌&&◌}
use Rattle.std.proofs.Common.{◌||◌, cond, List, [], ◌∷◌, ◌++◌, map, take, length, replicate, Some}
use Rattle.std.proofs.Common.{None, Option, refl, sym, ap, subst, ◌∙◌, arith, codes, is_some}
use Rattle.std.proofs.Common.{length-append, ◌⊎◌, inl, inr, ⊎_elim}
use Rattle.std.specs.List.{slice_get, filter, position}
use Rattle.std.specs.Str.{bytes_eq}
use Rattle.std.proofs.lemmas.Bool.{and_parts, leb-true}
use Rattle.std.proofs.lemmas.List.{length-map}
use Rattle.std.proofs.lemmas.Option.{slice_get_within, slice_get_past}
use Rattle.par_pool.specs.declared.constant.Constant.{Constant}
use Rattle.par_pool.specs.declared.constant.Constant.TheVariants as constant
use Rattle.par_pool.specs.Entries.{entry_at}
use Rattle.par_class.specs.declared.file.FieldFile.{FieldFile}
use Rattle.par_class.specs.declared.file.MethodFile.{MethodFile}
use Rattle.par_class.specs.declared.file.ClassFile.{ClassFile}
use Rattle.par_class.specs.Spelling.{is_native}
use Rattle.par_values.specs.declared.kind.Kind.{Kind}
use Rattle.par_values.specs.declared.kind.Kind.TheVariants.{Number, Object}
use Rattle.par_values.specs.declared.link.Link.{Link}
use Rattle.par_values.specs.declared.link.MethodLink.{MethodLink}
use Rattle.par_values.specs.Areas.{Name, class_named, name_or_none}
use Rattle.par_kinds.specs.par_link.entry.Builtin.{Builtin}
use Rattle.par_kinds.specs.par_link.entry.Builtin.TheVariants as builtin
use Rattle.par_kinds.specs.par_link.entry.Named.{Named}
use Rattle.par_kinds.specs.par_link.entry.Named.TheVariants as named
use Rattle.par_kinds.specs.par_link.Linked.{AreLinked, named_at, named_in}
use Rattle.par_single.specs.Members.{text_at, own_name, own_names, is_static, Member}
use Rattle.par_single.specs.Members.{is_initializer}
use Rattle.par_single.specs.Links.{signature_said, locals_of}
use Rattle.par_single.specs.Described.{is_channel_right, is_of_channel, method_named}
use Rattle.par_kinds.specs.par_step_laws.Classes.{class_names, exceptions_from, is_exception}
use Rattle.par_kinds.specs.par_step_laws.Fields.{is_shared, is_own, kind_of, class_statics}
use Rattle.par_kinds.specs.par_step_laws.Fields.{first_statics}
use Rattle.par_kinds.specs.par_step_laws.Fields.{many_of, lock_place}
use Rattle.par_kinds.specs.par_step_laws.Links.{link_of, number_or, class_link, field_in}
use Rattle.par_kinds.specs.par_step_laws.Links.{field_link}
use Rattle.par_kinds.specs.par_step_laws.Links.{method_in}
use Rattle.par_kinds.specs.par_step_laws.Links.{method_link, builtin_class}
use Rattle.par_kinds.specs.par_step_laws.Links.{builtin_initializer}
use Rattle.par_kinds.specs.par_step_laws.Links.{channel_of}
use Rattle.par_kinds.specs.par_step_laws.Methods.{class_pool, method_file, method_descriptor}
use Rattle.par_kinds.specs.par_step_laws.Methods.{descriptor_in}
use Rattle.par_kinds.specs.par_step_laws.Methods.{pool_of, code_in, code_or_none}
use Rattle.par_kinds.specs.par_step_laws.Methods.{methods_of as methods_in}
use Rattle.std.specs.Prelude.{nat_le}
use Rattle.std.specs.Option.{option_map_or}
use Rattle.par_base.specs.Names.{is_name}
use Rattle.par_base.specs.Numbers.{value}
use Rattle.par_base.specs.Numbers.{magnitude_of, is_decimal}
use Rattle.par_class.specs.declared.file.CodeAttr.{CodeAttr}
use Rattle.par_values.specs.declared.link.Target.{Target}
use Rattle.par_values.specs.declared.link.Target.TheVariants.{Code}
use Rattle.par_kinds.proofs.par_link.Passing.{same_text}
use Rattle.par_kinds.specs.par_link.Named.{named_by, class_of, field_of, method_of, declared}
use Rattle.par_kinds.specs.par_link.Named.{place_in}
use Rattle.par_kinds.specs.par_link.Named.{fields_of, methods_of}
use Rattle.par_kinds.specs.par_link.Builtins.{builtin_field, builtin_method, lock_number}
use Rattle.par_kinds.specs.par_link.Builtins.{lock_or_nothing}
use Rattle.par_single.specs.declared.descriptor.Signature.{Signature}
use Rattle.par_single.specs.Descriptors.{method_signature}
use Rattle.par_single.specs.Descriptors as said
use Rattle.par_kinds.specs.Linked.{coded_in, static_in}
use Rattle.par_verify_laws.specs.States.{static_kinds, all_shared, shared_kinds}
use Rattle.par_kinds.specs.par_step_laws.Fields.{kinds_in}
use Rattle.par_verify_laws.specs.States.{class_kinds}
use Rattle.par_verify_laws.specs.LinkedLaws.{LinkedFilesAreRight}
use Rattle.par_loader.specs.Begun.{AreCoded}
use Rattle.par_verify_laws.specs.Right.{AreRight, LinkRight, ClassRight, CodeRight, TargetRight}
use Rattle.par_kinds.specs.Kinds.{Each}
use Rattle.par_kinds.proofs.par_link.Faultless.{names-apart, method-right}

-- ---- lists

pub get-front : {A : Type 0} (xs ys : List A) (n : ℕ) (x : A) → slice_get xs n ≡ Some x
    → slice_get (xs ++ ys) n ≡ Some x
get-front [] ys n x is = absurd (cc is)
get-front (y ∷ xs) ys zero x is = is
get-front (y ∷ xs) ys (suc n) x is = get-front xs ys n x is

get-behind : {A : Type 0} (xs ys : List A) (n i : ℕ) → n ≡ length xs + i
    → slice_get (xs ++ ys) n ≡ slice_get ys i
get-behind [] ys n i e = ap (slice_get ys) (omega (arith, e))
get-behind (x ∷ xs) ys zero i e = absurd (omega (arith, e))
get-behind (x ∷ xs) ys (suc n) i e = get-behind xs ys n i (omega (arith, e))

pub get-map : {A B : Type 0} (f : A → B) (xs : List A) (n : ℕ) (x : A) → slice_get xs n ≡ Some x
    → slice_get (map f xs) n ≡ Some (f x)
get-map f [] n x is = absurd (cc is)
get-map f (y ∷ xs) zero x is = let same : y ≡ x = cc is in ap (λ z. Some (f z)) same
get-map f (y ∷ xs) (suc n) x is = get-map f xs n x is

-- an item that passes a test stands behind those before it that pass
filtered : {A : Type 0} (p : A → Bool) (xs : List A) (n : ℕ) (x : A) → slice_get xs n ≡ Some x
    → p x ≡ true → slice_get (filter p xs) (length (filter p (take n xs))) ≡ Some x
filtered p [] n x is test = absurd (cc is)
filtered p (y ∷ xs) zero x is test =
    let same : y ≡ x = cc is in
    let test : p y ≡ true = ap p same ∙ test in
    ap (λ b. slice_get (cond b (y ∷ filter p xs) (filter p xs)) 0) test ∙ ap Some same
filtered p (y ∷ xs) (suc n) x is test = in_case (p y) (filtered p xs n x is test) where
  in_case : (b : Bool)
      → slice_get (filter p xs) (length (filter p (take n xs))) ≡ Some x
      → slice_get (cond b (y ∷ filter p xs) (filter p xs))
      (length (cond b (y ∷ filter p (take n xs)) (filter p (take n xs)))) ≡ Some x
  in_case true later = later
  in_case false later = later

-- ---- static fields

statics-many : (files : List ClassFile) → length (class_statics files) ≡ length (all_shared files)
unfolding class_statics all_shared
statics-many [] = refl
statics-many (file ∷ files) =
    let one : length (first_statics file) ≡ length (shared_kinds file) =
    length-map (filter is_shared file.fields) _
    ∙ sym (length-map (filter is_shared file.fields) _) in
    let both = length-append (first_statics file) (class_statics files) in
    let other = length-append (shared_kinds file) (all_shared files) in
    omega (arith, one, both, other, statics-many files)

shared-at : (files : List ClassFile) (class j : ℕ) (file : ClassFile) (kind : Kind)
    → slice_get files class ≡ Some file → slice_get (shared_kinds file) j ≡ Some kind
    → slice_get (all_shared files) (length (class_statics (take class files)) + j) ≡ Some kind
unfolding class_statics all_shared
shared-at [] class j file kind is at = absurd (cc is)
shared-at (f ∷ files) zero j file kind is at =
    let same : f ≡ file = cc is in
    let here : slice_get (shared_kinds f) (0 + j) ≡ Some kind =
    ap (λ (g : ClassFile). slice_get (shared_kinds g) (0 + j)) same
    ∙ ap (slice_get (shared_kinds file)) (omega arith) ∙ at in
    get-front (shared_kinds f) (all_shared files) (0 + j) kind here
shared-at (f ∷ files) (suc class) j file kind is at =
    let one : length (first_statics f) ≡ length (shared_kinds f) =
    length-map (filter is_shared f.fields) _ ∙ sym (length-map (filter is_shared f.fields) _) in
    let both = length-append (first_statics f) (class_statics (take class files)) in
    get-behind (shared_kinds f) (all_shared files) _
    (length (class_statics (take class files)) + j) (omega (arith, one, both))
    ∙ shared-at files class j file kind is at

exceptions-in : (files : List ClassFile) (first many : ℕ) → first + length files + 2 ≤ many
    → Each (λ c. c < many) (exceptions_from first files)
unfolding exceptions_from
exceptions-in [] first many le = (omega (arith, le), (omega (arith, le), tt))
exceptions-in (file ∷ files) first many le =
    one-more (is_exception file) (exceptions-in files (suc first) many (omega (arith, le)))
  where
    one-more : (b : Bool) → Each (λ c. c < many) (exceptions_from (suc first) files)
        → Each (λ c. c < many)
        (cond b (first ∷ exceptions_from (suc first) files) (exceptions_from (suc first) files))
    one-more true later = (omega (arith, le), later)
    one-more false later = later

get-there : {A : Type 0} (xs : List A) (n : ℕ) → n < length xs → (x : A) × (slice_get xs n ≡ Some x)
get-there [] n lt = absurd (omega (arith, lt))
get-there (x ∷ xs) zero lt = (x, refl)
get-there (x ∷ xs) (suc n) lt = get-there xs n (omega (arith, lt))

get-replicate : {A : Type 0} (many n : ℕ) (x : A) → n < many → slice_get (replicate many x) n
    ≡ Some x
get-replicate zero n x lt = absurd (omega (arith, lt))
get-replicate (suc many) zero x lt = refl
get-replicate (suc many) (suc n) x lt = get-replicate many n x (omega (arith, lt))

-- ---- the fields of locks are few

abbrev Small : Named → Type 0
Small (named.Lock n) = n < 256
Small n = Unit {0}

small-number : (b : Bool) (v n : ℕ) → (b ≡ true → v < 256) → cond b (Some v) None ≡ Some n → n < 256
small-number true v n small is =
    let same : v ≡ n = cc is in
    let lt = small refl in
    omega (arith, lt, same)
small-number false v n small is = absurd (cc is)

small-magnitude : (text : List ℕ) (n : ℕ) → magnitude_of 255 text ≡ Some n → n < 256
small-magnitude text n is =
    small-number (is_decimal text && nat_le (value text) 255) (value text) n
    (λ both.
    let le = leb-true (value text) 255
    (and_parts (is_decimal text) (nat_le (value text) 255) both).1 in
    omega (arith, le))
    is

small-lock : (o : Option ℕ) → ((n : ℕ) → o ≡ Some n → n < 256) → Small (lock_or_nothing o)
small-lock None each = tt
small-lock (Some n) each = each n refl

lock-number : (text : List ℕ) (n : ℕ) → lock_number text ≡ Some n → n < 256
unfolding lock_number
lock-number [] n is = absurd (cc is)
lock-number (byte ∷ digits) n is = in_case (byte == 76) is where
  in_case : (b : Bool) → cond b (magnitude_of 255 digits) None ≡ Some n → n < 256
  in_case true is = small-magnitude digits n is
  in_case false is = absurd (cc is)

small-builtin : (b : Builtin) (m : Member) → Small (builtin_field b m)
unfolding builtin_field
small-builtin builtin.Locks m = in_case (bytes_eq m.descriptor (codes "Z")) where
  in_case : (b : Bool) → Small (cond b (lock_or_nothing (lock_number m.name)) named.Nothing)
  in_case true = small-lock (lock_number m.name) (lock-number m.name)
  in_case false = tt
small-builtin b m = tt

small-declared-field : (class : ℕ) (o : Option ℕ) → Small (declared named.Field class o)
small-declared-field class None = tt
small-declared-field class (Some n) = tt

small-declared-method : (class : ℕ) (o : Option ℕ) → Small (declared named.Method class o)
small-declared-method class None = tt
small-declared-method class (Some n) = tt

small-initializer : (b : Builtin) (m : Member) → Small (builtin_method b m)
unfolding builtin_method
small-initializer builtin.Locks m = tt
small-initializer b m = in_case (is_initializer m) where
  in_case : (c : Bool) → Small (cond c (named.Initializer b) named.Nothing)
  in_case true = tt
  in_case false = tt

small-field : (files : List ClassFile) (m : Member) (n : Named) → Small (field_of files m n)
unfolding field_of
small-field files m (named.Class class) =
    small-declared-field class (place_in fields_of files class m)
small-field files m (named.Builtin b) = small-builtin b m
small-field files m n = tt

small-method : (files : List ClassFile) (m : Member) (n : Named) → Small (method_of files m n)
unfolding method_of
small-method files m (named.Class class) =
    small-declared-method class (place_in methods_of files class m)
small-method files m (named.Builtin b) = small-initializer b m
small-method files m n = tt

small-class : (b : Option Builtin) (o : Option ℕ) → Small (class_of b o)
small-class (Some b) o = tt
small-class None None = tt
small-class None (Some n) = tt

small-named : (files : List ClassFile) (entries : List Constant) (c : Constant)
    → Small (named_by files entries c)
unfolding named_by
small-named files entries (constant.Class name) = small-class _ _
small-named files entries (constant.Field class member) = small-field files _ _
small-named files entries (constant.Method class member) = small-method files _ _
small-named files entries c = tt

small-at : (files : List ClassFile) (class index : ℕ) → Small (named_at files class index)
small-at files class index = in_file (slice_get files class) where
  in_entry : (file : ClassFile) (o : Option Constant)
      → Small (option_map_or (named_by files file.pool.entries) o named.Nothing)
  in_entry file None = tt
  in_entry file (Some c) = small-named files file.pool.entries c

  in_file : (o : Option ClassFile) → Small (named_in files o index)
  in_file None = tt
  in_file (Some file) = in_entry file (entry_at file.pool.entries index)

-- ---- what each index is

locals-of : (o : Option CodeAttr) → locals_of o ≡ (code_or_none o).max_locals
locals-of None = refl
locals-of (Some c) = refl

or-cases : (a b : Bool) → (a || b) ≡ true → (a ≡ true) ⊎ (b ≡ true)
or-cases true b e = inl refl
or-cases false b e = inr e

zero-behind : (n : ℕ) → n + 0 ≡ n
zero-behind n = omega arith

module _ (files : List ClassFile) (linked : AreLinked files) (coded : AreCoded files) where
  all-many : length (class_names files) ≡ length files + 2
  all-many =
      let whole = length-append (own_names files)
      (codes "ArithmeticException" ∷ codes "NullPointerException" ∷ []) in
      let own : length (own_names files) ≡ length files = length-map files own_name in
      omega (arith, whole, own)

  name-at : (class : ℕ) (file : ClassFile) → slice_get files class ≡ Some file
      → class_named (class_names files) class ≡ own_name file
  name-at class file is =
      ap name_or_none
      (get-front (own_names files) _ class (own_name file) (get-map own_name files class file is))

  in-range : (class : ℕ) (file : ClassFile) → slice_get files class ≡ Some file
      → class < length (class_names files)
  in-range class file is =
      let lt = slice_get_within files class file is in omega (arith, lt, all-many)

  names-differ : (c d : ℕ) → c < length (class_names files) → d < length (class_names files)
      → class_named (class_names files) c ≡ class_named (class_names files) d → c ≡ d
  names-differ c d lt below same =
      let one = get-there (class_names files) c lt in
      let other = get-there (class_names files) d below in
      let name : one.0 ≡ other.0 =
      sym (ap name_or_none one.1) ∙ same ∙ ap name_or_none other.1 in
      let first = names-apart files linked c one.0 one.1 in
      let second = names-apart files linked d other.0 other.1 in
      let both : Some c ≡ Some d =
      sym first ∙ ap (λ n. position (bytes_eq n) (class_names files)) name ∙ second in
      cc both

  class-right : (class : ℕ) (o : Option ClassFile) → slice_get files class ≡ o
      → LinkRight files (class_link class o)
  class-right class None is = tt
  class-right class (Some file) is =
      λ made. record {
        in_range = in-range class file is;
        named = name-at class file is;
        kinds = ap kinds_in is;
      }

  module _ (class place : ℕ) (file : ClassFile) (is : slice_get files class ≡ Some file) where
    field-right : (o : Option FieldFile) → slice_get file.fields place ≡ o
        → LinkRight files (field_link files class file place o)
    field-right None at = tt
    field-right (Some f) at =
        let entries = file.pool.entries in
        let kind = kind_of entries f in
        let shared = length (class_statics (take class files)) + many_of is_shared file place in
        let own = many_of is_own file place in (
          λ st. ap (λ b. slice_get (static_kinds files) (cond b shared own)) st
              ∙ get-front (all_shared files) (replicate 256 Number) shared kind
              (shared-at files class (many_of is_shared file place) file kind is
              (get-map (kind_of entries) (filter is_shared file.fields)
              (many_of is_shared file place) f
              (filtered is_shared file.fields place f at st))),
          λ st. record {
            class = class;
            in_range = in-range class file is;
            named = name-at class file is;
            kind = ap (λ b. slice_get (class_kinds files class) (cond b shared own)) st
                ∙ ap (λ o. slice_get (kinds_in o) own) is
                ∙ get-map (kind_of entries) (filter is_own file.fields) own f
                (filtered is_own file.fields place f at (ap not st));
          },
        )

    module _ (m : MethodFile) (at : slice_get file.methods place ≡ Some m) where
      abbrev signature : Signature
      signature = signature_said (text_at file.pool.entries m.descriptor)

      file-is : method_file files class place ≡ Some m
      file-is = ap (λ o. slice_get (methods_in o) place) is ∙ at

      descriptor-is : method_descriptor files class place ≡ text_at file.pool.entries m.descriptor
      descriptor-is =
          ap (λ o. descriptor_in (pool_of o) (slice_get (methods_in o) place)) is
          ∙ ap (descriptor_in file.pool.entries) at

      abbrev this : Target → MethodLink
      this t = record {
        is_static = is_static m.access;
        is_initializer = is_initializer (method_named file.pool.entries m);
        receiver = Object (own_name file);
        takes = signature.takes;
        gives = is_some signature.gives;
        target = t;
      }

      code-right : (t : Target) → is_native m.access ≡ false
          → CodeRight files (this t) class place (locals_of m.code)
      code-right t native = record {
        coded = ap coded_in file-is ∙ coded class place file m is at native;
        room = locals-of m.code ∙ sym (ap (λ o. (code_in o).max_locals) file-is);
        takes = ap (λ d. (signature_said d).takes) (sym descriptor-is);
        gives = ap (λ d. is_some (signature_said d).gives) (sym descriptor-is);
        static = sym (ap static_in file-is);
        receiver = ap Object (sym (name-at class file is));
      }

      of-channel : is_native m.access ≡ true
          → is_of_channel (text_at file.pool.entries m.descriptor) ≡ true
      of-channel native =
          let right = method-right files linked class file is place m at in
          let second = (and_parts (is_some
          (method_signature (text_at file.pool.entries m.descriptor)))
          (not (is_native m.access) || is_channel_right file.pool.entries m) right).1 in
          let channel : is_channel_right file.pool.entries m ≡ true =
          sym (ap (λ b. not b || is_channel_right file.pool.entries m) native) ∙ second in
          (and_parts (is_name (text_at file.pool.entries m.name) && is_static m.access)
          (is_of_channel (text_at file.pool.entries m.descriptor)) channel).1

      abbrev Channeled : Signature → Target → Type 0
      Channeled sig t = TargetRight files (record (this t) { gives = is_some sig.gives }) t

      channel-right : (class_name name : Name) (text : List ℕ) (native : is_of_channel text ≡ true)
          → (t : Target) → TargetRight files
          (record (this t) {
            takes = (signature_said text).takes;
            gives = is_some (signature_said text).gives;
          })
          (channel_of class_name name (signature_said text).takes)
      unfolding said.kinds_in said.kind_at
      channel-right class_name name text native t =
          ⊎_elim
          (λ e. subst (λ (text : List ℕ). TargetRight files
          (record (this t) {
            takes = (signature_said text).takes;
            gives = is_some (signature_said text).gives;
          })
          (channel_of class_name name (signature_said text).takes))
          (sym (same_text text (codes "()I") e)) refl)
          (λ e. subst (λ (text : List ℕ). TargetRight files
          (record (this t) {
            takes = (signature_said text).takes;
            gives = is_some (signature_said text).gives;
          })
          (channel_of class_name name (signature_said text).takes))
          (sym (same_text text (codes "(I)V") e)) refl)
          (or-cases (bytes_eq text (codes "()I")) (bytes_eq text (codes "(I)V")) native)

      target-right : (t : Target) (b : Bool) → is_native m.access ≡ b
          → TargetRight files (this t)
          (cond b (channel_of (own_name file) (text_at file.pool.entries m.name) signature.takes)
          (Code class place (locals_of m.code)))
      target-right t true native =
          channel-right (own_name file) (text_at file.pool.entries m.name)
          (text_at file.pool.entries m.descriptor) (of-channel native) t
      target-right t false native = code-right t native

    method-links : (o : Option MethodFile) → slice_get file.methods place ≡ o
        → LinkRight files (method_link class file place o)
    method-links None at = tt
    method-links (Some m) at = target-right m at _ (is_native m.access) refl

  fields-right : (class place : ℕ) (o : Option ClassFile) → slice_get files class ≡ o
      → LinkRight files (field_in files class place o)
  fields-right class place None is = tt
  fields-right class place (Some file) is =
      field-right class place file is (slice_get file.fields place) refl

  methods-right : (class place : ℕ) (o : Option ClassFile) → slice_get files class ≡ o
      → LinkRight files (method_in class place o)
  methods-right class place None is = tt
  methods-right class place (Some file) is =
      method-links class place file is (slice_get file.methods place) refl

  past-names : (i : ℕ) → class_named (class_names files) (length files + i)
      ≡ name_or_none (slice_get (codes "ArithmeticException" ∷ codes "NullPointerException" ∷ []) i)
  past-names i =
      ap name_or_none
      (get-behind (own_names files) _ (length files + i) i
      (omega (arith, length-map files own_name)))

  exception-right : (i : ℕ) → i < 2 → ClassRight files (record {
    name = name_or_none (slice_get (codes "ArithmeticException" ∷ codes "NullPointerException" ∷ [])
        i);
    number = length files + i;
    fields = [];
    is_exception = true;
    is_made = true;
  })
  exception-right i lt = record {
    in_range = omega (arith, all-many, lt);
    named = past-names i;
    kinds = ap kinds_in (slice_get_past files (length files + i) (omega arith));
  }

  builtin-right : (b : Builtin) → LinkRight files (builtin_class files b)
  builtin-right builtin.Object = λ made. absurd (cc made)
  builtin-right builtin.Exception = λ made. absurd (cc made)
  builtin-right builtin.Locks = λ made. absurd (cc made)
  builtin-right builtin.ArithmeticException =
      λ made. subst
      (λ (n : ℕ). ClassRight files (record {
        name = codes "ArithmeticException";
        number = n;
        fields = [];
        is_exception = true;
        is_made = true;
      }))
      (zero-behind (length files)) (exception-right 0 (omega arith))
  builtin-right builtin.NullPointerException = λ made. exception-right 1 (omega arith)

  initializer-right : (b : Builtin) → LinkRight files (builtin_initializer b)
  initializer-right builtin.Object = refl
  initializer-right builtin.Exception = refl
  initializer-right builtin.ArithmeticException = refl
  initializer-right builtin.NullPointerException = refl
  initializer-right builtin.Locks = tt

  named-right : (n : Named) → Small n → LinkRight files (link_of files n)
  named-right (named.Class class) small = class-right class (slice_get files class) refl
  named-right (named.Builtin b) small = builtin-right b
  named-right (named.Field d) small = fields-right d.class d.place (slice_get files d.class) refl
  named-right (named.Method d) small = methods-right d.class d.place (slice_get files d.class) refl
  named-right (named.Lock n) small = (
    λ st. get-behind (all_shared files) (replicate 256 Number) (lock_place files n) n
        (omega (arith, statics-many files)) ∙ get-replicate 256 n Number small,
    λ st. absurd (cc st),
  )
  named-right (named.Initializer b) small = initializer-right b
  named-right named.Nothing small = tt

  number-right : (l : Link) (c : Option Constant) → LinkRight files l
      → LinkRight files (number_or l c)
  number-right l (Some (constant.Integer n)) known = tt
  number-right l c known = known

  pub are_right : AreRight files
  are_right = record {
    differ = names-differ;
    exceptions = exceptions-in files 0 (length (class_names files)) (omega (arith, all-many));
    links = λ class index.
        number-right (link_of files (named_at files class index))
        (entry_at (class_pool files class) index)
        (named-right (named_at files class index) (small-at files class index));
  }

pub linked_files_are_right : LinkedFilesAreRight
linked_files_are_right = are_right
