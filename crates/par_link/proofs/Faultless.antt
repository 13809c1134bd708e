-- What is known of class files that break no rule of linking.
use Rattle.std.proofs.Common.{◌≡◌, ℕ, zero, suc, ◌+◌, Bool, true, false, not, ◌||◌, List, [], ◌∷◌}
use Rattle.std.proofs.Common.{◌++◌, Option, Some, None, slice_get, is_some, refl, sym, ap, subst}
use Rattle.std.proofs.Common.{◌∙◌, codes, append_assoc}
use Rattle.std.proofs.lemmas.List.Folds.{list_any-append}
use Rattle.std.proofs.lemmas.Option.{slice_get_within, get_or_from_slice_get}
use Rattle.std.specs.List.{list_any, position}
use Rattle.std.specs.Option.{option_map, option_or}
use Rattle.std.specs.Str.{bytes_eq}
use Rattle.par_single.specs.par_class.declared.file.ClassFile.{ClassFile}
use Rattle.par_single.specs.par_class.declared.file.FieldFile.{FieldFile}
use Rattle.par_single.specs.par_class.declared.file.MethodFile.{MethodFile}
use Rattle.par_single.proofs.par_pool.Positions.{position-none}
use Rattle.par_index.proofs.Places.{any-map, position-is_some}
use Rattle.par_references.proofs.Passing.{eq_turned}
use Rattle.par_index.specs.par_base.Names.{IsName}
use Rattle.par_references.specs.Conditions.{IsSmall}
use Rattle.par_link.specs.Linked.{AreLinked}
use Rattle.par_link.specs.Order.{at, in_class, member_fault, description_fault, constant_fault}
use Rattle.par_link.specs.Order.{code_fault, file_fault, first_in, list_fault, first_broken}
use Rattle.par_link.specs.Rules.{repeated_class, repeated_field, repeated_method, wrong_field}
use Rattle.par_link.specs.Rules.{wrong_method, earlier}
use Rattle.par_references.specs.Named.{is_same, methods_of}
use Rattle.par_references.specs.Firsts.{first_repeated}
use Rattle.par_single.specs.Members.{own_name, own_names}
use Rattle.par_single.specs.Described.{is_taken, is_field_right, is_method_right}
use Rattle.par_inputs.specs.par_values.Areas.{Name}
use Rattle.par_link.proofs.Apart.{AreApart, apart, apart-push}

turned : (b : Bool) → not b ≡ false → b ≡ true
turned true is = refl
turned false is = absurd (cc is)

-- ---- nothing of what is looked for one behind the other

pub or-none : {A : Type 0} (a b : Option A) → option_or a b ≡ None → (a ≡ None) × (b ≡ None)
or-none None b none = (refl, none)
or-none (Some a) b none = absurd (cc none)

pub map-none : {A B : Type 0} (f : A → B) (o : Option A) → option_map f o ≡ None → o ≡ None
map-none f None none = refl
map-none f (Some a) none = absurd (cc none)

earlier-none : (a b : Option ℕ) → earlier a b ≡ None → (a ≡ None) × (b ≡ None)
earlier-none None b none = (refl, none)
earlier-none (Some a) None none = absurd (cc none)
earlier-none (Some a) (Some b) none = absurd (cc none)

any-fewer : {A : Type 0} (p q : A → Bool) (xs : List A) → ((x : A) → q x ≡ true → p x ≡ true)
    → list_any p xs ≡ false → list_any q xs ≡ false
any-fewer p q [] each none = refl
any-fewer p q (x ∷ xs) each none = in_case (p x) (q x) refl refl none (any-fewer p q xs each) where
  in_case : (a b : Bool) → p x ≡ a → q x ≡ b → (a || list_any p xs) ≡ false
      → (list_any p xs ≡ false → list_any q xs ≡ false) → (b || list_any q xs) ≡ false
  in_case true b is other some later = absurd (cc some)
  in_case false true is other rest later = absurd (cc (sym (each x other) ∙ is))
  in_case false false is other rest later = later rest

-- ---- one of the files

-- each file breaks no rule, where none is broken
file-none : (files some : List ClassFile) (class n : ℕ) (file : ClassFile)
    → first_in files class some ≡ None → slice_get some n ≡ Some file → file_fault files file ≡ None
unfolding first_in
file-none files [] class n file none at = absurd (cc at)
file-none files (f ∷ some) class zero file none at =
    let same : f ≡ file = cc at in
    ap (file_fault files) (sym same)
    ∙ map-none _ (file_fault files f)
    (or-none (in_class class (file_fault files f)) (first_in files (class + 1) some) none).0
file-none files (f ∷ some) class (suc n) file none at =
    file-none files some (class + 1) n file
    (or-none (in_class class (file_fault files f)) (first_in files (class + 1) some) none).1 at

pub each-unbroken : (files : List ClassFile) → first_broken files ≡ None → (class : ℕ)
    (file : ClassFile) → slice_get files class ≡ Some file → file_fault files file ≡ None
each-unbroken files none class file listed =
    file-none files files 0 class file (or-none (list_fault files) (first_in files 0 files) none).1
    listed

-- a file that breaks no rule
module _ (files : List ClassFile) (file : ClassFile) (unbroken : file_fault files file ≡ None) where
  members-and-descriptions : (member_fault file ≡ None) × (description_fault file ≡ None)
  members-and-descriptions =
      let all =
      or-none (option_or (option_or (member_fault file) (description_fault file))
      (constant_fault files file)) (code_fault file) unbroken in
      let three =
      or-none (option_or (member_fault file) (description_fault file))
      (constant_fault files file) all.0 in
      or-none (member_fault file) (description_fault file) three.0

  -- no two of its methods have one name and descriptor
  pub methods-apart : first_repeated is_same (methods_of file) ≡ None
  unfolding member_fault
  methods-apart =
      map-none _ (repeated_method file)
      (or-none (at 43 (repeated_field file)) (at 43 (repeated_method file))
      members-and-descriptions.0).1

  both-right : (wrong_field file ≡ None) × (wrong_method file ≡ None)
  unfolding description_fault
  both-right =
      let both =
      or-none (at 44 (wrong_field file)) (at 44 (wrong_method file)) members-and-descriptions.1 in
      (map-none _ (wrong_field file) both.0, map-none _ (wrong_method file) both.1)

  -- its fields and methods have the names and descriptors that they need
  pub field-fits : (place : ℕ) (f : FieldFile) → slice_get file.fields place ≡ Some f
      → is_field_right file.pool.entries f ≡ true
  field-fits place f is =
      turned (is_field_right file.pool.entries f)
      (position-none (λ x. not (is_field_right file.pool.entries x)) file.fields
      both-right.0 place f is)

  pub method-fits : (place : ℕ) (m : MethodFile) → slice_get file.methods place ≡ Some m
      → is_method_right file.pool.entries m ≡ true
  method-fits place m is =
      turned (is_method_right file.pool.entries m)
      (position-none (λ x. not (is_method_right file.pool.entries x)) file.methods
      both-right.1 place m is)

-- ---- linked files

module _ (files : List ClassFile) (linked : AreLinked files) where
  list-none : list_fault files ≡ None
  list-none = (or-none (list_fault files) (first_in files 0 files) linked.unbroken).0

  class-none : repeated_class files ≡ None
  unfolding list_fault
  class-none =
      map-none (λ class. record { number = 43; class = class; index = 0 }) (repeated_class files)
      (or-none _ (option_map (λ class. record { number = 43; class = class; index = 0 })
      (repeated_class files)) list-none).1

  none-repeated : (position (λ file. is_taken (own_name file)) files ≡ None)
      × (first_repeated bytes_eq (own_names files) ≡ None)
  none-repeated =
      earlier-none (position (λ file. is_taken (own_name file)) files)
      (first_repeated bytes_eq (own_names files)) class-none

  none-taken : list_any (λ file. is_taken (own_name file)) files ≡ false
  none-taken =
      sym (position-is_some (λ file. is_taken (own_name file)) files) ∙ ap is_some none-repeated.0

  -- a name that is taken is that of no file
  free : (name : Name) → ((other : Name) → bytes_eq other name ≡ true → is_taken other ≡ true)
      → list_any (bytes_eq name) (own_names files) ≡ false
  free name taken =
      any-map (bytes_eq name) own_name files
      ∙ any-fewer (λ file. is_taken (own_name file)) (λ file. bytes_eq name (own_name file)) files
      (λ file same. taken (own_name file) (eq_turned (own_name file) name ∙ same)) none-taken

  arithmetic-free : list_any (bytes_eq (codes "ArithmeticException")) (own_names files) ≡ false
  arithmetic-free =
      free (codes "ArithmeticException")
      (λ other same. ap (λ (b : Bool). b || bytes_eq other (codes "NullPointerException")) same)

  null-free : list_any (bytes_eq (codes "NullPointerException")) (own_names files) ≡ false
  null-free =
      free (codes "NullPointerException")
      (λ other same. ap (λ (b : Bool). bytes_eq other (codes "ArithmeticException") || b) same
      ∙ either (bytes_eq other (codes "ArithmeticException")))
    where
      either : (b : Bool) → (b || true) ≡ true
      either true = refl
      either false = refl

  -- no two classes have one name, nor one of the two exceptions that every program has
  pub names-apart : AreApart
      (own_names files ++ codes "ArithmeticException" ∷ codes "NullPointerException" ∷ [])
  names-apart =
      let own = own_names files in
      let first : Name = codes "ArithmeticException" in
      let second : Name = codes "NullPointerException" in
      let same : (own ++ first ∷ []) ++ second ∷ [] ≡ own ++ first ∷ second ∷ [] =
      append_assoc own (first ∷ []) (second ∷ []) in
      let new : list_any (bytes_eq second) (own ++ first ∷ []) ≡ false =
      list_any-append (bytes_eq second) own (first ∷ [])
      ∙ ap (λ (b : Bool). b || (bytes_eq second first || false)) null-free in
      subst AreApart same
      (apart-push (own ++ first ∷ []) second
      (apart-push own first (apart own none-repeated.1) arithmetic-free) new)

  module _ (class : ℕ) (file : ClassFile) (listed : slice_get files class ≡ Some file) where
    -- it breaks no rule
    pub unbroken : file_fault files file ≡ None
    unbroken = each-unbroken files linked.unbroken class file listed

    pub field-right : (place : ℕ) (f : FieldFile) → slice_get file.fields place ≡ Some f
        → is_field_right file.pool.entries f ≡ true
    field-right = field-fits files file unbroken

    pub method-right : (place : ℕ) (m : MethodFile) → slice_get file.methods place ≡ Some m
        → is_method_right file.pool.entries m ≡ true
    method-right = method-fits files file unbroken

    -- its class has a name, and it has few items
    pub own-name : IsName (own_name file)
    own-name =
        subst (λ (f : ClassFile). IsName (own_name f))
        (get_or_from_slice_get files class file file listed)
        (linked.spelled class file (slice_get_within files class file listed))

    pub small : IsSmall file
    small =
        subst (λ (f : ClassFile). IsSmall f) (get_or_from_slice_get files class file file listed)
        (linked.small class file (slice_get_within files class file listed))
