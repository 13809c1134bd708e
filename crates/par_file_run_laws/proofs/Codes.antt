-- The labelled code of loaded classes, by the places of their files.
use Rattle.std.proofs.Common.{◌≡◌, ℕ, zero, suc, ◌+◌, ◌-◌, ◌<◌, ◌≤◌, Bool, true, false, not, cond}
use Rattle.std.proofs.Common.{◌⊎◌}
use Rattle.std.proofs.Common.{inl, inr, List, [], ◌∷◌, ◌++◌, length, map, Option, Some, None}
use Rattle.std.proofs.Common.{slice_get, is_some, refl, sym, ap, subst, ◌∙◌, arith}
use Rattle.std.specs.List.{position_or_len}
use Rattle.std.specs.Option.{option_map}
use Rattle.std.specs.Str.{bytes_eq}
use Rattle.std.proofs.lemmas.List.{length-map}
use Rattle.par_typed.specs.declared.ty.Ty.{Ty}
use Rattle.par_typed.specs.declared.ty.Ty.TheVariants as ty
use Rattle.par_typed.specs.declared.table.ChannelInfo.{ChannelInfo}
use Rattle.par_typed.specs.declared.table.ClassInfo.{ClassInfo}
use Rattle.par_typed.specs.declared.table.MethodInfo.{MethodInfo}
use Rattle.par_typed.specs.declared.table.Table.{Table}
use Rattle.par_typed.specs.Plain.{TSta, Body}
use Rattle.par_typed.specs.Members.{channels_in, methods_in}
use Rattle.par_class.specs.declared.file.ClassFile.{ClassFile}
use Rattle.par_values.specs.Areas.{Name}
use Rattle.par_run_laws.specs.Names.{body_of, main_of}
use Rattle.par_single.specs.Descriptors.{kind_at, kinds_in}
use Rattle.par_single.specs.Links.{signature_said, signature_or_none}
use Rattle.par_single.specs.Members.{own_name, own_names}
use Rattle.par_match_laws.proofs.par_link.Apart.{AreApart, apart}
use Rattle.par_match_laws.proofs.par_link.Faultless.{or-none, map-none}
use Rattle.par_match_laws.specs.par_link.Firsts.{first_repeated}
use Rattle.par_match_laws.specs.par_link.Linked.{AreLinked}
use Rattle.par_match_laws.specs.par_link.Order.{first_in, list_fault}
use Rattle.par_match_laws.specs.par_link.Rules.{earlier, repeated_class}
use Rattle.par_single.specs.Described.{is_taken}
use Rattle.std.specs.List.{position}
use Rattle.par_match_laws.specs.par_step_laws.Methods.{method_descriptor, descriptor_in, pool_of}
use Rattle.par_match_laws.specs.par_step_laws.Methods.{methods_of}
use Rattle.par_code_form.specs.Method.{labelled}
use Rattle.par_code_form.specs.Named.{class_word, words_of}
use Rattle.par_code_form.specs.declared.labelled.Labelled.{Labelled}
use Rattle.par_source_code_laws.specs.par_evaluation_laws.Laid.{Meth, HasMethod}
use Rattle.par_source_code_laws.specs.par_evaluation_laws.Programs.{Init, Inits, given_kind}
use Rattle.par_compile_laws.specs.DescriptorLaws as said
use Rattle.par_compile_laws.proofs.Described.{methods_are_described}
use Rattle.par_compile_laws.specs.Members.{Member, above, members, methods_from, channel, method}
use Rattle.par_compile_laws.specs.Members as form
use Rattle.par_source_code_laws.specs.Methods.{meth, may_meth, meth_at, IsCodeOf}
use Rattle.par_typed.specs.Members.{class_is_exception}
use Rattle.par_file_run_laws.specs.Layout.{file_place, is_loaded, number_of, layout_of}
use Rattle.par_file_run_laws.specs.Code.{class_of, code_or_none, code_of, members_of, members_in}
use Rattle.par_file_run_laws.specs.Code.{code_at, labelled_of}
use Rattle.par_file_run_laws.proofs.Lists.{mapped-at, behind-at, chosen, same-item}
use Rattle.par_file_run_laws.proofs.Texts.{same-text, text-itself}
use Rattle.par_file_run_laws.specs.Parts.{Known}
use Rattle.par_file_run_laws.proofs.Known.{Stands, own-is, word-is, one-class, number-is}
use Rattle.par_file_run_laws.proofs.Known.{own-said, word-said, its-class, class-of}
use Rattle.par_file_run_laws.proofs.Callees.{there, type-said, initializer-at, channel-at}
use Rattle.par_file_run_laws.proofs.Callees.{method-at}
use Rattle.par_file_run_laws.proofs.Held.{MethodIn, made-here, made-ordinary, ordinary-class}
use Rattle.par_file_run_laws.proofs.Held.{method-here, method-in, here, thrown-exception}
use Rattle.par_file_run_laws.proofs.Methods as methods

-- ---- the class of a file

-- where one item alone passes, it is the first that does
first-alone : {A : Type 0} (p : A → Bool) (xs : List A) (c : ℕ) (x : A) → slice_get xs c ≡ Some x
    → p x ≡ true → ((k : ℕ) (y : A) → slice_get xs k ≡ Some y → p y ≡ true → k ≡ c)
    → position_or_len p xs ≡ c
first-alone p [] c x at passes alone = absurd (cc at)
first-alone p (y ∷ xs) zero x at passes alone =
    let same : y ≡ x = cc at in
    ap (λ (b : Bool). cond (not b) (1 + position_or_len p xs) 0) (ap p same ∙ passes)
first-alone p (y ∷ xs) (suc c) x at passes alone =
    in_case (p y) refl (first-alone p xs c x at passes (λ k z here is. less k (alone (suc k) z here
    is)))
  where
    less : (k : ℕ) → suc k ≡ suc c → k ≡ c
    less k same = omega arith

    in_case : (b : Bool) → p y ≡ b → position_or_len p xs ≡ c
        → cond (not b) (1 + position_or_len p xs) 0 ≡ suc c
    in_case true is later = absurd (omega (arith, alone 0 y refl is))
    in_case false is later = omega arith

earlier-none : (a b : Option ℕ) → earlier a b ≡ None → b ≡ None
earlier-none None b none = none
earlier-none (Some a) None none = absurd (cc none)
earlier-none (Some a) (Some b) none = absurd (cc none)

-- no two files are of one class
own-apart : (files : List ClassFile) → AreLinked files → AreApart (own_names files)
unfolding list_fault
own-apart files linked =
    let listed = (or-none (list_fault files) (first_in files 0 files) linked.unbroken).0 in
    let none =
    map-none (λ class. record { number = 43; class = class; index = 0 }) (repeated_class files)
    (or-none _ (option_map (λ class. record { number = 43; class = class; index = 0 })
    (repeated_class files)) listed).1 in
    apart (own_names files)
    (earlier-none (position (λ file. is_taken (own_name file)) files)
    (first_repeated bytes_eq (own_names files)) none)

module _ (table : Table) (bodies : List Body) (files : List ClassFile)
    (known : Known table bodies files) where
  -- a file that is loaded is that of its class
  pub stands-there : (n : ℕ) (file : ClassFile) → slice_get files n ≡ Some file
      → (c : ℕ) × Stands table bodies files c n
  stands-there n file listed =
      let of = known.each n file listed in
      let word : class_word table of.0 ≡ own_name file =
      word-is table of.0 of.1.class of.1.there
      ∙ sym (own-is table bodies files known of.0 file of.1)
      in (
        of.0,
        record {
          class = of.1.class;
          file = file;
          there = of.1.there;
          listed = listed;
          placed =
              ap (λ (name : Name). position (bytes_eq name) (own_names files)) word
              ∙ own-apart files known.linked n (own_name file)
              (mapped-at own_name files n file listed);
          declared = of.1.declared;
          is = of.1.is;
        },
      )

module _ (table : Table) (bodies : List Body) (files : List ClassFile)
    (known : Known table bodies files) (c n : ℕ) (s : Stands table bodies files c n) where
  class-number : class_of table (own_name s.file) ≡ c
  class-number =
      let name = own_name s.file in
      let named =
      own-said table bodies files known c n s ∙ word-said table bodies files known c n s in
      first-alone (λ (class : ClassInfo). bytes_eq name class.name) table.classes c s.class s.there
      (ap (bytes_eq name) (sym named) ∙ text-itself name)
      (λ k class at same. one-class table bodies files known k c class s.class at s.there
      (sym (same-text name class.name same) ∙ named))

  pub class-members : members_in table bodies (Some s.file) ≡ members table bodies c s.class
  class-members =
      ap (λ (k : ℕ). members_of table bodies k (slice_get table.classes k)) class-number
      ∙ ap (members_of table bodies c) s.there

  members-there : members_in table bodies (slice_get files n) ≡ members table bodies c s.class
  members-there = ap (members_in table bodies) s.listed ∙ class-members

  pub code-there : (place : ℕ) (m : Member)
      → slice_get (members table bodies c s.class) place ≡ Some m
      → code_at table bodies files n place ≡ code_or_none m.code
  code-there place m has =
      ap (λ (ms : List Member). code_of (slice_get ms place)) members-there ∙ ap code_of has

  pub no-code-there : (place : ℕ) → slice_get (members table bodies c s.class) place ≡ None
      → (code_at table bodies files n place).handlers ≡ []
  no-code-there place none =
      ap (λ (ms : List Member). (code_of (slice_get ms place)).handlers) members-there
      ∙ ap (λ (o : Option Member). (code_of o).handlers) none

  descriptor-there : (place : ℕ) (m : Member)
      → slice_get (members table bodies c s.class) place ≡ Some m
      → method_descriptor files n place ≡ m.descriptor
  descriptor-there place m has =
      ap (λ (o : Option ClassFile). descriptor_in (pool_of o) (slice_get (methods_of o) place))
      s.listed
      ∙ ap (descriptor_in s.file.pool.entries)
      (there table bodies files known c n s place m has).stands
      ∙ type-said table bodies files known c n s place m has

  -- ---- initializers

  initializer-there : code_at table bodies files n 0 ≡ form.initializer_of s.class
  initializer-there =
      code-there 0 (form.initializer s.class) (initializer-at table bodies c s.class)

  gives-nothing : (signature_said (method_descriptor files n 0)).gives ≡ None
  unfolding kind_at kinds_in
  gives-nothing =
      ap (λ (of_type : Name). (signature_said of_type).gives)
      (descriptor-there 0 (form.initializer s.class) (initializer-at table bodies c s.class))

  init-there : Init (labelled_of table bodies files n 0) (above s.class.exception)
  init-there = record {
    items = ap (λ (code : Labelled). code.items) initializer-there;
    handlers = ap (λ (code : Labelled). code.handlers) initializer-there;
    room = subst (λ (k : ℕ). 0 < k) (sym (ap (λ (code : Labelled). code.max_stack)
        initializer-there)) (omega arith);
    gives = gives-nothing;
  }

  pub init-at : (at : ℕ) (exception : Bool) → s.class.exception ≡ exception
      → (layout_of files table bodies).init_at c ≡ Some at
      → Init (labelled_of table bodies files (number_of files table c) at) (above exception)
  init-at at exception is placed =
      let first : 0 ≡ at =
      same-item 0 at (chosen (is_loaded files table c) (Some 0) at placed).1 in
      subst (λ (b : Bool). Init (labelled_of table bodies files (number_of files table c) at)
      (above b)) is
      (subst (λ (k : ℕ). Init (labelled_of table bodies files k at) (above s.class.exception))
      (sym (number-is table bodies files known c n s))
      (subst (λ (k : ℕ). Init (labelled_of table bodies files n k) (above s.class.exception)) first
      init-there))

  -- ---- methods with bodies

  module _ (i : ℕ) (me : Meth) (is : MethodIn bodies s.class c i me) where
    pub body-there : code_at table bodies files n (suc (length s.class.channels + i))
        ≡ labelled (words_of table) is.info is.body
    body-there =
        code-there (suc (length s.class.channels + i))
        (method table bodies is.info (body_of bodies c i))
        (method-at table bodies c s.class i is.info is.has)
        ∙ ap (λ (o : Option TSta). code_or_none (option_map (labelled (words_of table) is.info) o))
        is.body_is

gives-same : (table : Table) (t : Ty) → said.given_kind table t ≡ given_kind (words_of table) t
gives-same table ty.Int = refl
gives-same table ty.Boolean = refl
gives-same table (ty.Class c) = refl
gives-same table ty.Null = refl
gives-same table ty.Void = refl

module _ (table : Table) (bodies : List Body) (files : List ClassFile)
    (known : Known table bodies files) (c n : ℕ) (s : Stands table bodies files c n)
    (i : ℕ) (me : Meth) (is : MethodIn bodies s.class c i me) where
  result-there
      : (signature_said (method_descriptor files n (suc (length s.class.channels + i)))).gives
      ≡ given_kind (words_of table) is.info.result
  result-there =
      ap (λ (of_type : Name). (signature_said of_type).gives)
      (descriptor-there table bodies files known c n s (suc (length s.class.channels + i))
      (method table bodies is.info (body_of bodies c i))
      (method-at table bodies c s.class i is.info is.has))
      ∙ ap (λ o. (signature_or_none o).gives)
      (methods_are_described table is.info ((known.classes c s.class s.there).methods i is.info
      is.has).1)
      ∙ gives-same table is.info.result

  info-code : IsCodeOf (labelled_of table bodies files n (suc (length s.class.channels + i)))
      (words_of table) (meth is.info is.body)
  info-code =
      let same = body-there table bodies files known c n s i me is in
      let room = ap (λ (code : Labelled). code.max_stack) same in
      record {
        items = ap (λ (code : Labelled). code.items) same;
        handlers = ap (λ (code : Labelled). code.handlers) same;
        room = omega arith;
        gives = result-there;
      }

  -- it stands as its code
  pub method-code : IsCodeOf (labelled_of table bodies files (number_of files table c)
      ((layout_of files table bodies).method_at c i)) (words_of table) me
  method-code =
      subst (λ (k : ℕ). IsCodeOf (labelled_of table bodies files k
      ((layout_of files table bodies).method_at c i)) (words_of table) me)
      (sym (number-is table bodies files known c n s))
      (subst (λ (at : ℕ). IsCodeOf (labelled_of table bodies files n at) (words_of table) me)
      (sym (methods.place-is table bodies files known c n s i me is))
      (subst (λ (x : Meth). IsCodeOf (labelled_of table bodies files n (suc (length s.class.channels
      + i))) (words_of table) x) is.is info-code))

-- ---- what a layout has

module _ (table : Table) (bodies : List Body) (files : List ClassFile)
    (known : Known table bodies files) where
  pub inits : Inits (labelled_of table bodies files) (layout_of files table bodies)
  inits = record {
    made = λ c at made placed.
        let here = made-here table bodies files known c made in
        init-at table bodies files known c here.0 here.1 at false
        (ordinary-class table bodies files known c here.0 here.1
        (made-ordinary table bodies files known c made)) placed;
    thrown = λ x at thrown placed.
        let found = here table bodies files known x
        (chosen (is_loaded files table x) (Some 0) at placed).0 in
        init-at table bodies files known x found.0 found.1 at true
        (ap class_is_exception (sym found.1.there)
        ∙ thrown-exception table bodies files known x thrown) placed;
  }

  pub methods-are : (c i : ℕ) (me : Meth) → HasMethod (layout_of files table bodies) c i me
      → meth_at table bodies c i ≡ Some me
  methods-are c i me has =
      (chosen (is_loaded files table c) (meth_at table bodies c i) me has).1

  pub methods-coded : (c i : ℕ) (me : Meth) → HasMethod (layout_of files table bodies) c i me
      → IsCodeOf (labelled_of table bodies files ((layout_of files table bodies).number c)
      ((layout_of files table bodies).method_at c i)) (words_of table) me
  methods-coded c i me has =
      let at = method-here table bodies files known c i me has in
      method-code table bodies files known c at.0 at.1 i me
      (method-in table bodies files known c i me has at.0 at.1)

  pub loaded-method : (c : ℕ) (n : ℕ) → file_place files table c ≡ Some n → (i : ℕ)
      → (layout_of files table bodies).method c i ≡ meth_at table bodies c i
  loaded-method c n placed i =
      ap (λ (o : Option ℕ). cond (is_some o) (meth_at table bodies c i) None) placed

  -- the class with which the program begins is loaded
  pub main-stands : Stands table bodies files table.main 0
  main-stands =
      let of = stands-there table bodies files known 0 known.main.0 known.main.1 in
      let its = its-class table bodies files known of.0 0 of.1 in
      let file : of.1.file ≡ known.main.0 =
      same-item of.1.file known.main.0 (sym of.1.listed ∙ known.main.1) in
      let one : table.main ≡ of.0 =
      class-of table bodies files known table.main 0 of.0 of.1.file of.1.listed its
      (sym known.main.2 ∙ ap own_name (sym file)) in
      subst (λ (c : ℕ). Stands table bodies files c 0) (sym one) of.1

  pub main-there : (layout_of files table bodies).method table.main (main_of table)
      ≡ meth_at table bodies table.main (main_of table)
  main-there = loaded-method table.main 0 main-stands.placed (main_of table)

-- ---- code with handlers is that of a method

none-past : {A : Type 0} (xs : List A) (n : ℕ) → slice_get xs n ≡ None → length xs ≤ n
none-past [] n none = omega arith
none-past (x ∷ xs) zero none = absurd (cc none)
none-past (x ∷ xs) (suc n) none = let later = none-past xs n none in omega arith

from-none : (table : Table) (bodies : List Body) (c k : ℕ) (ms : List MethodInfo) (i : ℕ)
    → slice_get ms i ≡ None → slice_get (methods_from table bodies c k ms) i ≡ None
from-none table bodies c k [] i none = refl
from-none table bodies c k (m ∷ ms) zero none = absurd (cc none)
from-none table bodies c k (m ∷ ms) (suc i) none = from-none table bodies c (suc k) ms i none

module _ (table : Table) (bodies : List Body) (files : List ClassFile)
    (known : Known table bodies files) where
  abbrev OfMethod : ℕ → ℕ → Type 0
  OfMethod n at =
      (c i : ℕ) × (me : Meth) × HasMethod (layout_of files table bodies) c i me
      × ((layout_of files table bodies).number c ≡ n)
      × ((layout_of files table bodies).method_at c i ≡ at)

  abbrev Either : ℕ → ℕ → Type 0
  Either n at = ((labelled_of table bodies files n at).handlers ≡ []) ⊎ OfMethod n at

  no-file : (n at : ℕ) → slice_get files n ≡ None → Either n at
  no-file n at none =
      inl (ap (λ (o : Option ClassFile). (code_of (slice_get (members_in table bodies o)
      at)).handlers) none)

  module _ (c n : ℕ) (s : Stands table bodies files c n) where
    -- a member that is no method with a body has no handlers
    of-member : (at : ℕ) (m : Member) → slice_get (members table bodies c s.class) at ≡ Some m
        → (code_or_none m.code).handlers ≡ [] → Either n at
    of-member at m has none =
        inl (ap (λ (code : Labelled). code.handlers)
        (code-there table bodies files known c n s at m has) ∙ none)

    of-info : (i : ℕ) (info : MethodInfo) → slice_get s.class.methods i ≡ Some info
        → (body : Option TSta) → body_of bodies c i ≡ body
        → Either n (suc (length s.class.channels + i))
    of-info i info has None body_is =
        of-member (suc (length s.class.channels + i))
        (method table bodies info (body_of bodies c i))
        (method-at table bodies c s.class i info has)
        (ap (λ (o : Option TSta). (code_or_none (option_map (labelled (words_of table) info)
        o)).handlers) body_is)
    of-info i info has (Some body) body_is =
        inr (
          c,
          i,
          meth info body,
          loaded-method table bodies files known c n s.placed i
              ∙ ap
              (λ (o : Option ClassInfo). may_meth (slice_get (methods_in o) i) (body_of bodies c i))
              s.there
              ∙ ap (λ (o : Option MethodInfo). may_meth o (body_of bodies c i)) has
              ∙ ap (may_meth (Some info)) body_is,
          number-is table bodies files known c n s,
          ap (λ (o : Option ClassInfo). suc (length (channels_in o) + i)) s.there,
        )

    of-place : (i : ℕ) (o : Option MethodInfo) → slice_get s.class.methods i ≡ o
        → Either n (suc (length s.class.channels + i))
    of-place i (Some info) has = of-info i info has (body_of bodies c i) refl
    of-place i None none =
        let long = sym (length-map s.class.channels channel) in
        inl (no-code-there table bodies files known c n s (suc (length s.class.channels + i))
        (ap (λ (l : ℕ). slice_get (map channel s.class.channels
        ++ methods_from table bodies c 0 s.class.methods) (l + i)) long
        ∙ behind-at (map channel s.class.channels)
        (methods_from table bodies c 0 s.class.methods) i
        ∙ from-none table bodies c 0 s.class.methods i none))

    behind : (k : ℕ) (o : Option ChannelInfo) → slice_get s.class.channels k ≡ o → Either n (suc k)
    behind k (Some ch) has =
        of-member (suc k) (channel ch) (channel-at table bodies c s.class k ch has) refl
    behind k None none =
        let past = none-past s.class.channels k none in
        let i : ℕ = k - length s.class.channels in
        let here : length s.class.channels + i ≡ k = omega arith in
        subst (λ (j : ℕ). Either n (suc j)) here
        (of-place i (slice_get s.class.methods i) refl)

    at-place : (at : ℕ) → Either n at
    at-place zero =
        of-member 0 (form.initializer s.class) (initializer-at table bodies c s.class) refl
    at-place (suc k) = behind k (slice_get s.class.channels k) refl

  pub others : (n at : ℕ) → Either n at
  others n at = in_case (slice_get files n) refl where
    in_case : (o : Option ClassFile) → slice_get files n ≡ o → Either n at
    in_case None none = no-file n at none
    in_case (Some file) listed =
        let of = stands-there table bodies files known n file listed in
        at-place of.0 n of.1 at
