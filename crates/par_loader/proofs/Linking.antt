-- The files that are linked, and their names.
use Rattle.std.proofs.Common.{◌≡◌, ℕ, ◌+◌, ◌-◌, ◌<◌, ◌≤◌, Bool, true, false, cond, List, [], ◌∷◌}
use Rattle.std.proofs.Common.{length, map, slice_get, Option, Some, None, Err, refl, sym, ap, subst}
use Rattle.std.proofs.Common.{◌∙◌, arith}
use Rattle.std.specs.Prelude.{IfSome}
use Rattle.std.specs.Option.{option_map, option_or, unwrap_or}
use Rattle.std.specs.List.{All}
use Rattle.std.proofs.lemmas.Bool.{ltb-true}
use Rattle.std.proofs.lemmas.List.{length-map}
use Rattle.std.proofs.lemmas.Option.{slice_get-map, slice_get-get_or}
use Rattle.par_base.specs.Names.{IsName}
use Rattle.par_class.specs.declared.file.ClassFile.{ClassFile}
use Rattle.par_single.specs.Members.{own_name, own_names}
use Rattle.par_single.specs.Described.{is_taken}
use Rattle.par_link.specs.Order.{Broken, in_class, file_fault, first_in, list_fault, first_broken}
use Rattle.par_link.specs.Rules.{are_too_many, repeated_class}
use Rattle.par_link.proofs.Below.{IsBelow, first-below, place-below, earlier-below}
use Rattle.par_loader.specs.declared.error.Unloaded.{Unloaded}
use Rattle.par_loader.specs.declared.error.Unloaded.TheVariants.{Absent, TooLong, Failed, BadClass}
use Rattle.par_loader.specs.declared.error.Unloaded.TheVariants.{Memory}
use Rattle.par_loader.specs.Reads.{Text}
use Rattle.par_loader.specs.Loaded.{Loaded, whole, refused}
use Rattle.par_loader.specs.Judged.{begins, name_of, unless_broken}
use Rattle.par_loader.specs.Ends.{IsBadAs, LinksAs}

-- the file of a rule that is broken is one of those that are left
abbrev IsAmong : ℕ → Option Broken → Type 0
IsAmong bound o = IfSome o (λ b. b.class < bound)

or-among : (bound : ℕ) (a b : Option Broken) → IsAmong bound a → IsAmong bound b
    → IsAmong bound (option_or a b)
or-among bound None b here later = later
or-among bound (Some x) b here later = here

map-among : {A : Type 0} (bound : ℕ) (f : A → Broken) (o : Option A)
    → ((x : A) → (f x).class < bound) → IsAmong bound (option_map f o)
map-among bound f None each = tt
map-among bound f (Some x) each = each x

first-among : (all files : List ClassFile) (class bound : ℕ) → class + length files ≤ bound
    → IsAmong bound (first_in all class files)
unfolding first_in
first-among all [] class bound few = tt
first-among all (file ∷ files) class bound few =
    or-among bound (in_class class (file_fault all file)) (first_in all (class + 1) files)
    (map-among bound _ (file_fault all file) (λ f. omega arith))
    (first-among all files (class + 1) bound (omega arith))

many-among : (files : List ClassFile) (b : Bool) → are_too_many files ≡ b
    → IsAmong (length files) (cond b
    (Some (record { number = 45; class = length files - 1; index = length files })) None)
many-among files false e = tt
many-among files true e = let more = ltb-true 128 (length files) e in omega (arith, more)

repeated-among : (bound : ℕ) (o : Option ℕ) → IsBelow bound o
    → IsAmong bound (option_map (λ class. record { number = 43; class = class; index = 0 }) o)
repeated-among bound None h = tt
repeated-among bound (Some n) h = h

list-among : (files : List ClassFile) → IsAmong (length files) (list_fault files)
unfolding list_fault
list-among files =
    let many : length (own_names files) ≡ length files = length-map files own_name in
    or-among (length files) _ _ (many-among files (are_too_many files) refl)
    (repeated-among (length files) (repeated_class files)
    (earlier-below (length files) _ _
    (place-below (λ file. is_taken (own_name file)) (length files) files (omega arith))
    (first-below _ (length files) (own_names files) (omega (arith, many)))))

broken-among : (files : List ClassFile) → IsAmong (length files) (first_broken files)
broken-among files =
    or-among (length files) (list_fault files) (first_in files 0 files) (list-among files)
    (first-among files files 0 (length files) (omega arith))

pub broken-within : (files : List ClassFile) (b : Broken) → first_broken files ≡ Some b
    → b.class < length files
broken-within files b e = subst (IsAmong (length files)) e (broken-among files)

-- ---- names

pub name_is : {K : Type 0} (items : K → Text) (keys : List K) (files : List ClassFile)
    → map items keys ≡ own_names files → (n : ℕ)
    → unwrap_or (slice_get (map items keys) n) [] ≡ name_of (slice_get files n)
name_is items keys files are n =
    ap (λ (ns : List Text). unwrap_or (slice_get ns n) []) are
    ∙ ap (λ (o : Option Text). unwrap_or o []) (slice_get-map own_name files n)
    ∙ of_file (slice_get files n)
  where
    of_file : (o : Option ClassFile) → unwrap_or (option_map own_name o) [] ≡ name_of o
    of_file None = refl
    of_file (Some file) = refl

pub name_named : (files : List ClassFile) (n : ℕ) → All (λ file. IsName (own_name file)) files
    → n < length files → IsName (name_of (slice_get files n))
name_named [] n named within = absurd (omega arith)
name_named (file ∷ files) n named within =
    subst (λ (o : Option ClassFile). IsName (name_of o))
    (sym (slice_get-get_or (file ∷ files) n file within)) (named n file within)

-- ---- what is said of files

module _ (main : Text) (files : List ClassFile) where
  pub begins_not : first_broken files ≡ None → begins files ≡ false
      → unless_broken main files (first_broken files) ≡ refused main 42 0
  begins_not none is =
      ap (unless_broken main files) none ∙ ap (λ b. cond b (whole files) (refused main 42 0)) is

  pub begins_so : first_broken files ≡ None → begins files ≡ true
      → unless_broken main files (first_broken files) ≡ whole files
  begins_so none is =
      ap (unless_broken main files) none ∙ ap (λ b. cond b (whole files) (refused main 42 0)) is

  pub broken_is : (b : Broken) → first_broken files ≡ Some b
      → unless_broken main files (first_broken files)
      ≡ refused (name_of (slice_get files b.class)) b.number b.index
  broken_is b is = ap (unless_broken main files) is

pub links_bad : (end : Loaded) (class : Text) (number value : ℕ) (e : Unloaded)
    → end ≡ refused class number value → IsBadAs class number value e → LinksAs end (Err e)
links_bad end class number value (BadClass c n v) is told =
    is ∙ ap (λ (x : Text). refused x number value) (sym told.0)
    ∙ ap (λ (x : ℕ). refused c x value) (sym told.1) ∙ ap (λ (x : ℕ). refused c n x) (sym told.2)
links_bad end class number value Memory is told = tt
links_bad end class number value Absent is told = told
links_bad end class number value TooLong is told = told
links_bad end class number value Failed is told = told
