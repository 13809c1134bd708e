-- The classes of loaded files and the two exceptions that every program has: their numbers, and
-- what their names and their initializers are to an instruction.
use Rattle.std.proofs.Common.{◌≡◌, ℕ, zero, suc, ◌+◌, ◌<◌, Bool, true, false, cond, ◌==◌}
use Rattle.std.proofs.Common.{List, [], ◌∷◌, length, map, Option, Some, None, slice_get}
use Rattle.std.proofs.Common.{is_some, refl, sym, ap, ◌∙◌, arith, codes}
use Rattle.std.specs.List.{list_any, filter}
use Rattle.std.specs.Option.{unwrap_or}
use Rattle.std.specs.Str.{bytes_eq}
use Rattle.std.proofs.lemmas.Bool.{or_left, or_right, eq-eqb}
use Rattle.std.proofs.lemmas.List.{length-map}
use Rattle.par_typed.specs.declared.table.ClassInfo.{ClassInfo}
use Rattle.par_typed.specs.declared.table.Table.{Table}
use Rattle.par_typed.specs.Plain.{Body}
use Rattle.par_class.specs.declared.file.ClassFile.{ClassFile}
use Rattle.par_class.specs.declared.file.FieldFile.{FieldFile}
use Rattle.par_values.specs.declared.kind.Kind.{Kind}
use Rattle.par_values.specs.declared.kind.Kind.TheVariants.{Object}
use Rattle.par_values.specs.declared.link.Link.{Link}
use Rattle.par_values.specs.declared.link.Link.TheVariants as link
use Rattle.par_values.specs.Areas.{Name}
use Rattle.par_single.specs.Members.{own_name, own_names}
use Rattle.par_single.specs.Descriptors.{kind_at, kinds_in}
use Rattle.par_match_laws.specs.par_link.Builtins.{builtin_method}
use Rattle.par_match_laws.specs.par_link.Named.{method_of, method_declared}
use Rattle.par_match_laws.specs.par_step_laws.Classes.{class_names, is_exception, exceptions_from}
use Rattle.par_match_laws.specs.par_step_laws.Classes.{exceptions}
use Rattle.par_match_laws.specs.par_step_laws.Fields.{is_own, kind_of, object_kinds}
use Rattle.par_match_laws.specs.par_step_laws.Links.{link_of, class_link}
use Rattle.par_match_laws.specs.Files.{is_of_exceptions}
use Rattle.par_code_form.specs.Named.{class_word}
use Rattle.par_match_laws.specs.Naming.{member, class_of_name, method_of_name}
use Rattle.par_source_code_laws.specs.par_evaluation_laws.Agreement.{initializer, init_target}
use Rattle.par_compile_laws.specs.Members.{above, member_access}
use Rattle.par_compile_laws.specs.Members as form
use Rattle.par_compile_laws.specs.Files.{IsFieldOf}
use Rattle.par_file_run_laws.specs.Layout.{number_of, init_place}
use Rattle.par_file_run_laws.proofs.Lists.{mapped-at, front-at, behind-at, none-beside, same-item}
use Rattle.par_file_run_laws.proofs.Texts.{class-said}
use Rattle.par_file_run_laws.specs.Parts.{Known}
use Rattle.par_file_run_laws.proofs.Known.{Stands, word-is, one-class, unplaced, number-is}
use Rattle.par_file_run_laws.proofs.Known.{own-said, class-named}
use Rattle.par_file_run_laws.proofs.Callees.{callee, method-linked, takes-any, initializer-at}

-- ---- which classes are exceptions

above-said : (b : Bool) → bytes_eq (above b) (codes "java/lang/Exception") ≡ b
above-said true = refl
above-said false = refl

listed-at : (k : ℕ) (files : List ClassFile) (n : ℕ) (file : ClassFile)
    → slice_get files n ≡ Some file → is_exception file ≡ true
    → list_any (λ d. d == k + n) (exceptions_from k files) ≡ true
unfolding exceptions_from
listed-at k [] n file at is = absurd (cc at)
listed-at k (f ∷ files) zero file at is =
    let same : f ≡ file = cc at in
    let here : k ≡ k + 0 = omega arith in
    let rest = exceptions_from (suc k) files in
    ap (λ b. list_any (λ d. d == k + 0) (cond b (k ∷ rest) rest)) (ap is_exception same ∙ is)
    ∙ or_left (k == k + 0) (list_any (λ d. d == k + 0) rest) (eq-eqb k (k + 0) here)
listed-at k (f ∷ files) (suc n) file at is =
    in_case (is_exception f)
    (ap (λ (j : ℕ). list_any (λ d. d == j) (exceptions_from (suc k) files)) here
    ∙ listed-at (suc k) files n file at is)
  where
    here : k + suc n ≡ suc k + n
    here = omega arith

    in_case : (b : Bool) → list_any (λ d. d == k + suc n) (exceptions_from (suc k) files) ≡ true
        → list_any (λ d. d == k + suc n) (cond b (k ∷ exceptions_from (suc k) files)
        (exceptions_from (suc k) files)) ≡ true
    in_case true later = or_right (k == k + suc n) _ later
    in_case false later = later

-- the two behind all files
listed-behind : (k : ℕ) (files : List ClassFile) (i : ℕ) → i < 2
    → list_any (λ d. d == k + length files + i) (exceptions_from k files) ≡ true
unfolding exceptions_from
listed-behind k [] zero less =
    or_left (k == k + 0 + 0) _ (let here : k ≡ k + 0 + 0 = omega arith in eq-eqb k (k + 0 + 0) here)
listed-behind k [] (suc zero) less =
    or_right (k == k + 0 + 1) _ (or_left (suc k == k + 0 + 1) _
    (let here : suc k ≡ k + 0 + 1 = omega arith in eq-eqb (suc k) (k + 0 + 1) here))
listed-behind k [] (suc (suc i)) less = absurd (omega arith)
listed-behind k (f ∷ files) i less =
    in_case (is_exception f)
    (ap (λ (j : ℕ). list_any (λ d. d == j) (exceptions_from (suc k) files)) here
    ∙ listed-behind (suc k) files i less)
  where
    here : k + suc (length files) + i ≡ suc k + length files + i
    here = omega arith

    in_case : (b : Bool)
        → list_any (λ d. d == k + suc (length files) + i) (exceptions_from (suc k) files) ≡ true
        → list_any (λ d. d == k + suc (length files) + i)
        (cond b (k ∷ exceptions_from (suc k) files) (exceptions_from (suc k) files)) ≡ true
    in_case true later = or_right (k == k + suc (length files) + i) _ later
    in_case false later = later

-- ---- numbers

-- a class that has a number of its own
pub record Numbered (table : Table) (files : List ClassFile) (c : ℕ) : Type 0 where
  pub class : ClassInfo
  pub there : slice_get table.classes c ≡ Some class
  pub shown : slice_get (class_names files) (number_of files table c) ≡ Some (class_word table c)

-- an exception that may be thrown
pub record Raised (table : Table) (files : List ClassFile) (c : ℕ) : Type 0 where
  pub numbered : Numbered table files c
  pub linked : class_of_name files (class_word table c) ≡ link.Class (record {
    name = class_word table c;
    number = number_of files table c;
    fields = [];
    is_exception = true;
    is_made = true;
  })
  pub made : method_of_name files (class_word table c) (codes "<init>") (codes "()V")
      ≡ link.Method (initializer (Object (class_word table c))
      (init_target (number_of files table c) (init_place files table c)))
  pub takes : is_of_exceptions (method_declared files (member (class_word table c) (codes "<init>")
      (codes "()V"))) ≡ false
  pub listed : list_any (λ d. d == number_of files table c) (exceptions files) ≡ true

abbrev class_as : Name → ℕ → List Kind → Bool → Link
class_as name number fields exception =
    link.Class (record {
      name = name;
      number = number;
      fields = fields;
      is_exception = exception;
      is_made = true;
    })

abbrev made_as : Name → ℕ → Option ℕ → Link
made_as name number at = link.Method (initializer (Object name) (init_target number at))

initializer-computed : (n : ℕ) (name : Name)
    → callee n 0 name (codes "<init>") (codes "()V") (member_access false) 1
    ≡ made_as name n (Some 0)
unfolding kind_at kinds_in
initializer-computed n name = refl

-- ---- a class whose file is loaded

module _ (table : Table) (bodies : List Body) (files : List ClassFile)
    (known : Known table bodies files) (c n : ℕ) (s : Stands table bodies files c n) where
  exception-said : is_exception s.file ≡ s.class.exception
  exception-said =
      ap (λ (name : Name). bytes_eq name (codes "java/lang/Exception"))
      (class-said s.file.pool.entries s.file.super_class (above s.class.exception) s.is.super_class)
      ∙ above-said s.class.exception

  pub numbered : Numbered table files c
  numbered = record {
    class = s.class;
    there = s.there;
    shown =
        ap (slice_get (class_names files)) (number-is table bodies files known c n s)
        ∙ front-at (own_names files) _ n (own_name s.file)
        (mapped-at own_name files n s.file s.listed)
        ∙ ap Some (own-said table bodies files known c n s);
  }

  -- what its name is to an instruction
  pub class-linked : class_of_name files (class_word table c)
      ≡ class_as (class_word table c) (number_of files table c) (object_kinds s.file)
      s.class.exception
  class-linked =
      let word = class_word table c in
      ap (link_of files) (class-named table bodies files known c n s)
      ∙ ap (class_link n) s.listed
      ∙ ap (λ (name : Name). class_as name n (object_kinds s.file) (is_exception s.file))
      (own-said table bodies files known c n s)
      ∙ ap (λ (k : ℕ). class_as word k (object_kinds s.file) (is_exception s.file))
      (sym (number-is table bodies files known c n s))
      ∙ ap (class_as word (number_of files table c) (object_kinds s.file)) exception-said

  placed-first : init_place files table c ≡ Some 0
  placed-first = ap (λ (o : Option ℕ). cond (is_some o) (Some 0) None) s.placed

  pub initializer-linked : method_of_name files (class_word table c) (codes "<init>") (codes "()V")
      ≡ made_as (class_word table c) (number_of files table c) (init_place files table c)
  initializer-linked =
      method-linked table bodies files known c n s 0 (form.initializer s.class)
      (initializer-at table bodies c s.class)
      ∙ initializer-computed n (class_word table c)
      ∙ ap (λ (k : ℕ). made_as (class_word table c) k (Some 0))
      (sym (number-is table bodies files known c n s))
      ∙ ap (made_as (class_word table c) (number_of files table c)) (sym placed-first)

  pub initializer-takes : is_of_exceptions (method_declared files (member (class_word table c)
      (codes "<init>") (codes "()V"))) ≡ false
  initializer-takes =
      takes-any table bodies files known c n s 0 (form.initializer s.class)
      (initializer-at table bodies c s.class)

  -- an exception class has no fields
  no-fields : s.class.exception ≡ true → object_kinds s.file ≡ []
  no-fields is =
      ap (λ (fs : List FieldFile). map (kind_of s.file.pool.entries) (filter is_own fs))
      (none-beside (IsFieldOf table s.file.pool.entries) s.class.fields s.file.fields s.is.fields
      ((known.classes c s.class s.there).bare is).0)

  pub raised : s.class.exception ≡ true → Raised table files c
  raised is = record {
    numbered = numbered;
    linked =
        class-linked
        ∙ ap (λ (fields : List Kind). class_as (class_word table c) (number_of files table c) fields
        s.class.exception) (no-fields is)
        ∙ ap (class_as (class_word table c) (number_of files table c) []) is;
    made = initializer-linked;
    takes = initializer-takes;
    listed =
        let here : 0 + n ≡ n = omega arith in
        ap (λ (k : ℕ). list_any (λ d. d == k) (exceptions files))
        (number-is table bodies files known c n s ∙ sym here)
        ∙ listed-at 0 files n s.file s.listed (exception-said ∙ is);
  }

-- ---- the two exceptions that every program has

module _ (table : Table) (bodies : List Body) (files : List ClassFile)
    (known : Known table bodies files) where
  -- their numbers are behind those of all files
  number-behind : (c : ℕ) → c < 2 → number_of files table c ≡ length files + c
  number-behind c early =
      ap (λ (o : Option ℕ). unwrap_or o (length files + c))
      (unplaced table bodies files known c early)

  pub number-first : number_of files table 0 ≡ length files
  number-first = let same : length files + 0 ≡ length files = omega arith in
      number-behind 0 (omega arith) ∙ same

  pub number-second : number_of files table 1 ≡ length files + 1
  number-second = number-behind 1 (omega arith)

  no-file : (c : ℕ) → c < 2 → init_place files table c ≡ None
  no-file c early =
      ap (λ (o : Option ℕ). cond (is_some o) (Some 0) None)
      (unplaced table bodies files known c early)

  shown-behind : (c : ℕ) → c < 2 → (name : Name)
      → slice_get (codes "ArithmeticException" ∷ codes "NullPointerException" ∷ []) c ≡ Some name
      → class_word table c ≡ name
      → slice_get (class_names files) (number_of files table c) ≡ Some (class_word table c)
  shown-behind c early name at is =
      ap (slice_get (class_names files)) (number-behind c early)
      ∙ ap (λ (l : ℕ). slice_get (class_names files) (l + c)) (sym (length-map files own_name))
      ∙ behind-at (own_names files) _ c ∙ at ∙ ap Some (sym is)

  listed-number : (c : ℕ) → c < 2
      → list_any (λ d. d == number_of files table c) (exceptions files) ≡ true
  listed-number c early =
      let here : length files + c ≡ 0 + length files + c = omega arith in
      ap (λ (k : ℕ). list_any (λ d. d == k) (exceptions files)) (number-behind c early ∙ here)
      ∙ listed-behind 0 files c early

  first-word : class_word table 0 ≡ codes "ArithmeticException"
  first-word = word-is table 0 known.first.0 known.first.1 ∙ known.first.2

  second-word : class_word table 1 ≡ codes "NullPointerException"
  second-word = word-is table 1 known.second.0 known.second.1 ∙ known.second.2

  pub raised-first : Raised table files 0
  unfolding method_of builtin_method
  raised-first = record {
    numbered = record {
      class = known.first.0;
      there = known.first.1;
      shown = shown-behind 0 (omega arith) (codes "ArithmeticException") refl first-word;
    };
    linked =
        ap (class_of_name files) first-word
        ∙ ap (λ (name : Name). class_as name (length files) [] true) (sym first-word)
        ∙ ap (λ (k : ℕ). class_as (class_word table 0) k [] true) (sym number-first);
    made =
        ap (λ (name : Name). method_of_name files name (codes "<init>") (codes "()V")) first-word
        ∙ ap (λ (name : Name). made_as name (number_of files table 0) None) (sym first-word)
        ∙ ap (made_as (class_word table 0) (number_of files table 0))
        (sym (no-file 0 (omega arith)));
    takes =
        ap (λ (name : Name). is_of_exceptions (method_declared files (member name (codes "<init>")
        (codes "()V")))) first-word;
    listed = listed-number 0 (omega arith);
  }

  pub raised-second : Raised table files 1
  unfolding method_of builtin_method
  raised-second = record {
    numbered = record {
      class = known.second.0;
      there = known.second.1;
      shown = shown-behind 1 (omega arith) (codes "NullPointerException") refl second-word;
    };
    linked =
        ap (class_of_name files) second-word
        ∙ ap (λ (name : Name). class_as name (length files + 1) [] true) (sym second-word)
        ∙ ap (λ (k : ℕ). class_as (class_word table 1) k [] true) (sym number-second);
    made =
        ap (λ (name : Name). method_of_name files name (codes "<init>") (codes "()V")) second-word
        ∙ ap (λ (name : Name). made_as name (number_of files table 1) None) (sym second-word)
        ∙ ap (made_as (class_word table 1) (number_of files table 1))
        (sym (no-file 1 (omega arith)));
    takes =
        ap (λ (name : Name). is_of_exceptions (method_declared files (member name (codes "<init>")
        (codes "()V")))) second-word;
    listed = listed-number 1 (omega arith);
  }

  -- ---- no two classes have one number

  pub one-word : (c d : ℕ) → Numbered table files c → Numbered table files d
      → class_word table c ≡ class_word table d → c ≡ d
  one-word c d first second words =
      one-class table bodies files known c d first.class second.class first.there second.there
      (sym (word-is table c first.class first.there) ∙ words
      ∙ word-is table d second.class second.there)

  pub one-number : (c d : ℕ) → Numbered table files c → Numbered table files d
      → number_of files table c ≡ number_of files table d → c ≡ d
  one-number c d first second same =
      one-word c d first second
      (same-item (class_word table c) (class_word table d)
      (sym first.shown ∙ ap (slice_get (class_names files)) same ∙ second.shown))
