-- The names and the numbers of the classes of linked files.
use Rattle.std.proofs.Common.{◌≡◌, ℕ, zero, suc, ◌+◌, ◌-◌, Bool, true, false, ◌||◌, List}
use Rattle.std.proofs.Common.{[], ◌∷◌, ◌++◌, length, map, Some, None, slice_get, refl, sym}
use Rattle.std.proofs.Common.{ap, ◌∙◌, codes, arith}
use Rattle.std.proofs.lemmas.Slice.Eq.{bytes_eq-Decides}
use Rattle.std.specs.List.{position, list_any}
use Rattle.std.specs.Str.{bytes_eq}
use Rattle.par_base.specs.Names.{IsName, is_spelled}
use Rattle.par_class.specs.declared.file.ClassFile.{ClassFile}
use Rattle.par_step_laws.specs.par_link.Linked.{AreLinked}
use Rattle.par_step_laws.proofs.par_link.Passing.{position-none, eq_turned}
use Rattle.par_single.specs.Members.{own_name}
use Rattle.par_values.specs.Areas.{Name}
use Rattle.par_step_laws.specs.Classes.{class_names, is_exception}
use Rattle.par_method_area.specs.Classes.{exception_flags}
use Rattle.par_step_laws.proofs.par_link.Faultless.{own-name}

-- a name has some bytes
pub some-name : (name : Name) → IsName name → bytes_eq [] name ≡ false
some-name [] is = absurd (cc is.spelled)
some-name (byte ∷ name) is = refl

-- a text with a byte that no name has is none
pub no-name : (text name : Name) → is_spelled text ≡ false → IsName name
    → bytes_eq name text ≡ false
no-name text name unspelled is = in_case (bytes_eq name text) refl where
  in_case : (b : Bool) → bytes_eq name text ≡ b → bytes_eq name text ≡ false
  in_case false e = e
  in_case true e =
      let same : name ≡ text = (bytes_eq-Decides name text).0 e in
      let spelled : is_spelled name ≡ true = is.spelled in
      let never : true ≡ false = sym spelled ∙ ap is_spelled same ∙ unspelled in
      absurd (cc never)

-- ---- each class by its number

name-from : (files : List ClassFile) (more : List Name) (c : ℕ) (file : ClassFile)
    → slice_get files c ≡ Some file
    → slice_get (map own_name files ++ more) c ≡ Some (own_name file)
name-from [] more c file at = absurd (cc at)
name-from (f ∷ files) more zero file at =
    let same : f ≡ file = cc at in ap (λ x. Some (own_name x)) same
name-from (f ∷ files) more (suc c) file at = name-from files more c file at

pub name-at : (files : List ClassFile) (c : ℕ) (file : ClassFile) → slice_get files c ≡ Some file
    → slice_get (class_names files) c ≡ Some (own_name file)
name-at files c file at =
    name-from files (codes "ArithmeticException" ∷ codes "NullPointerException" ∷ []) c file at

-- those of the two exceptions that every program has
pub arithmetic-at : (files : List ClassFile)
    → slice_get (class_names files) (length files) ≡ Some (codes "ArithmeticException")
arithmetic-at [] = refl
arithmetic-at (f ∷ files) = arithmetic-at files

null-behind : (files : List ClassFile)
    → slice_get (class_names files) (suc (length files)) ≡ Some (codes "NullPointerException")
null-behind [] = refl
null-behind (f ∷ files) = null-behind files

pub null-at : (files : List ClassFile)
    → slice_get (class_names files) (length files + 1) ≡ Some (codes "NullPointerException")
null-at files =
    let same : length files + 1 ≡ suc (length files) = omega arith in
    ap (slice_get (class_names files)) same ∙ null-behind files

pub many : (files : List ClassFile) → length (class_names files) ≡ length files + 2
many [] = refl
many (f ∷ files) = let later = many files in omega (arith, later)

-- it is told whether the class of a file is one of exceptions
pub flag-at : (files : List ClassFile) (c : ℕ) (file : ClassFile) (flag : Bool)
    → slice_get files c ≡ Some file
    → slice_get (exception_flags files) c ≡ Some flag → is_exception file ≡ flag
flag-at [] c file flag at told = absurd (cc at)
flag-at (f ∷ files) zero file flag at told =
    let same : f ≡ file = cc at in
    let is : is_exception f ≡ flag = cc told in
    ap is_exception (sym same) ∙ is
flag-at (f ∷ files) (suc c) file flag at told = flag-at files c file flag at told

pub flag-missing : (files : List ClassFile) (c : ℕ) (file : ClassFile)
    → slice_get files c ≡ Some file → slice_get (exception_flags files) c ≡ None → ⊥
flag-missing [] c file at none = cc at
flag-missing (f ∷ files) zero file at none = cc none
flag-missing (f ∷ files) (suc c) file at none = flag-missing files c file at none

-- ---- a name that no class has

missed-from : (text : Name) (files : List ClassFile)
    → ((c : ℕ) (file : ClassFile) → slice_get files c ≡ Some file
    → bytes_eq text (own_name file) ≡ false)
    → (more : List Name) → list_any (bytes_eq text) more ≡ false
    → list_any (bytes_eq text) (map own_name files ++ more) ≡ false
missed-from text [] each more none = none
missed-from text (f ∷ files) each more none =
    ap (λ (b : Bool). b || list_any (bytes_eq text) (map own_name files ++ more)) (each 0 f refl)
    ∙ missed-from text files (λ c file at. each (suc c) file at) more none

module _ (files : List ClassFile) (linked : AreLinked files) where
  -- no class of a file is that of the locks
  pub not-locks : (c : ℕ) (file : ClassFile) → slice_get files c ≡ Some file
      → bytes_eq (own_name file) (codes "paragon/Locks") ≡ false
  not-locks c file at =
      no-name (codes "paragon/Locks") (own_name file) refl (own-name files linked c file at)

  pub locks-missed : position (bytes_eq (codes "paragon/Locks")) (class_names files) ≡ None
  locks-missed =
      position-none (bytes_eq (codes "paragon/Locks")) (class_names files)
      (missed-from (codes "paragon/Locks") files
      (λ c file at. eq_turned (codes "paragon/Locks") (own_name file) ∙ not-locks c file at)
      (codes "ArithmeticException" ∷ codes "NullPointerException" ∷ []) refl)
