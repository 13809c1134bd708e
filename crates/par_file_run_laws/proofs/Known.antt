-- What is known of the class files of a program that are loaded.
use Rattle.std.proofs.Common.{◌≡◌, ℕ, ◌+◌, ◌<◌, ◌≤◌, Bool, false, cond, List}
use Rattle.std.proofs.Common.{[], length, map, Option, Some, None, slice_get, refl}
use Rattle.std.proofs.Common.{sym, ap, subst, ◌∙◌, ◌++◌, arith, codes}
use Rattle.std.specs.Option.{unwrap_or}
use Rattle.std.specs.Str.{bytes_eq}
use Rattle.std.proofs.lemmas.Bool.{or_from}
use Rattle.par_base.specs.Names.{IsName}
use Rattle.par_typed.specs.declared.table.ClassInfo.{ClassInfo}
use Rattle.par_typed.specs.declared.table.Table.{Table}
use Rattle.par_typed.specs.Plain.{Body}
use Rattle.par_program_laws.proofs.TableNames.{names_stand_once}
use Rattle.par_class.specs.declared.file.ClassFile.{ClassFile}
use Rattle.par_single.specs.Members.{own_name, own_names}
use Rattle.par_match_laws.specs.par_link.entry.Named.TheVariants as named
use Rattle.par_match_laws.specs.par_link.Named.{class_named, class_of, listed, class_place}
use Rattle.par_match_laws.proofs.par_link.Faultless.{own-name}
use Rattle.par_code_form.specs.Named.{of_class, class_word}
use Rattle.par_match_laws.specs.par_code_form.PoolNames.{full_name, is_builtin}
use Rattle.par_compile_laws.specs.Files.{FIRST_DECLARED, IsFileOf}
use Rattle.par_file_run_laws.specs.Layout.{file_place, number_of}
use Rattle.par_file_run_laws.specs.Parts.{IsOf, Known}
use Rattle.par_file_run_laws.proofs.Lists.{stands-at, mapped-from, mapped-at}
use Rattle.par_file_run_laws.proofs.Texts.{same-text, unlike, unbuilt, class-said}

-- the file of a class stands at a place
pub record Stands (table : Table) (bodies : List Body) (files : List ClassFile) (c n : ℕ)
    : Type 0 where
  pub class : ClassInfo
  pub file : ClassFile
  pub there : slice_get table.classes c ≡ Some class
  pub listed : slice_get files n ≡ Some file
  pub placed : file_place files table c ≡ Some n
  pub declared : FIRST_DECLARED ≤ c
  pub is : IsFileOf table bodies c class file

-- ---- classes by their names

pub word-is : (table : Table) (c : ℕ) (class : ClassInfo) → slice_get table.classes c ≡ Some class
    → class_word table c ≡ class.name
word-is table c class there = ap (λ (o : Option ClassInfo). of_class o (λ k. k.name)) there

pub no-word : (table : Table) (c : ℕ) → slice_get table.classes c ≡ None → class_word table c ≡ []
no-word table c none = ap (λ (o : Option ClassInfo). of_class o (λ k. k.name)) none

not-empty : IsName [] → ⊥
not-empty is = absurd (cc (is.spelled))

module _ (table : Table) (bodies : List Body) (files : List ClassFile)
    (known : Known table bodies files) where
  pub own-is : (c : ℕ) (file : ClassFile) (of : IsOf table bodies c file)
      → own_name file ≡ of.class.name
  own-is c file of = class-said file.pool.entries file.this_class of.class.name of.is.this_class

  -- no two classes have one name
  pub one-class : (c d : ℕ) (class other : ClassInfo) → slice_get table.classes c ≡ Some class
      → slice_get table.classes d ≡ Some other → class.name ≡ other.name → c ≡ d
  one-class c d class other at also same =
      names_stand_once (map (λ k. k.name) table.classes) c d class.name known.apart
      (mapped-at (λ k. k.name) table.classes c class at)
      (mapped-at (λ k. k.name) table.classes d other also ∙ ap Some (sym same))

  -- a class whose name is that of a file is the class of the file
  pub class-of : (c n d : ℕ) (file : ClassFile) → slice_get files n ≡ Some file
      → (of : IsOf table bodies d file) → class_word table c ≡ own_name file → c ≡ d
  class-of c n d file listed of same = in_case (slice_get table.classes c) refl where
    in_case : (o : Option ClassInfo) → slice_get table.classes c ≡ o → c ≡ d
    in_case None none =
        absurd (not-empty (subst IsName (sym same ∙ no-word table c none)
        (own-name files known.linked n file listed)))
    in_case (Some class) there =
        one-class c d class of.class there of.there
        (sym (word-is table c class there) ∙ same ∙ own-is d file of)

  pub stands : (c n : ℕ) → file_place files table c ≡ Some n → Stands table bodies files c n
  stands c n placed =
      let at = stands-at (bytes_eq (class_word table c)) (own_names files) n placed in
      let from = mapped-from own_name files n at.item at.stands in
      let of = known.each n from.item from.stands in
      let same : class_word table c ≡ own_name from.item =
      same-text (class_word table c) at.item at.passes ∙ sym from.gives in
      let here : of.0 ≡ c = sym (class-of c n of.0 from.item from.stands of.1 same) in
      let moved : IsOf table bodies c from.item =
      subst (λ d. IsOf table bodies d from.item) here of.1 in
      record {
        class = moved.class;
        file = from.item;
        there = moved.there;
        listed = from.stands;
        placed = placed;
        declared = moved.declared;
        is = moved.is;
      }

  -- a file of a declared class is none of the two exceptions
  unlike-exception : (c : ℕ) (file : ClassFile) (of : IsOf table bodies c file) (d : ℕ)
      (class : ClassInfo) → slice_get table.classes d ≡ Some class → d < FIRST_DECLARED
      → of.class.name ≡ class.name → ⊥
  unlike-exception c file of d class there early same =
      let one : c ≡ d = one-class c d of.class class of.there there same in
      let late : FIRST_DECLARED ≤ c = of.declared in
      absurd (omega arith)

  pub unplaced : (c : ℕ) → c < FIRST_DECLARED → file_place files table c ≡ None
  unplaced c early = in_case (file_place files table c) refl where
    in_case : (o : Option ℕ) → file_place files table c ≡ o → o ≡ None
    in_case None none = refl
    in_case (Some n) placed =
        let late : FIRST_DECLARED ≤ c = (stands c n placed).declared in absurd (omega arith)

-- ---- a class whose file is loaded

module _ (table : Table) (bodies : List Body) (files : List ClassFile)
    (known : Known table bodies files) (c n : ℕ) (s : Stands table bodies files c n) where
  pub number-is : number_of files table c ≡ n
  number-is = ap (λ (o : Option ℕ). unwrap_or o (length files + c)) s.placed

  pub word-said : class_word table c ≡ s.class.name
  word-said = word-is table c s.class s.there

  abbrev pub its-class : IsOf table bodies c s.file
  its-class = record { class = s.class; there = s.there; declared = s.declared; is = s.is }

  pub own-said : own_name s.file ≡ class_word table c
  own-said = own-is table bodies files known c s.file its-class ∙ sym word-said

  pub is-named : IsName (class_word table c)
  is-named = subst IsName own-said (own-name files known.linked n s.file s.listed)

  plain-name : is_builtin (class_word table c) ≡ false
  plain-name =
      or_from _ _
      (unlike (class_word table c) (codes "ArithmeticException")
      (λ same. unlike-exception table bodies files known c s.file its-class 0 known.first.0
      known.first.1 (omega arith) (sym word-said ∙ same ∙ sym known.first.2)))
      (unlike (class_word table c) (codes "NullPointerException")
      (λ same. unlike-exception table bodies files known c s.file its-class 1 known.second.0
      known.second.1 (omega arith) (sym word-said ∙ same ∙ sym known.second.2)))

  pub full-said : full_name (class_word table c) ≡ class_word table c
  full-said =
      ap (λ (b : Bool). cond b (codes "java/lang/" ++ class_word table c) (class_word table c))
      plain-name

  -- its name is that of its file
  pub class-named : class_named files (full_name (class_word table c)) ≡ named.Class n
  class-named =
      ap (class_named files) full-said
      ∙ ap (λ o. class_of o (class_place files (class_word table c)))
      (unbuilt (class_word table c) is-named)
      ∙ ap listed s.placed
