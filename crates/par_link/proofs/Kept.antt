-- What a link keeps is what the constants name.
use Rattle.std.proofs.Common.{◌≡◌, ℕ, zero, suc, List, map, Some, None, Option, slice_get, refl, ap}
use Rattle.std.proofs.Common.{◌∙◌}
use Rattle.std.specs.Option.{option_map, option_map_or, unwrap_or}
use Rattle.std.proofs.lemmas.Option.{slice_get-map}
use Rattle.par_single.specs.par_class.declared.file.ClassFile.{ClassFile}
use Rattle.par_references.specs.declared.entry.Named.{Named}
use Rattle.par_references.specs.declared.entry.Named.TheVariants.{Nothing}
use Rattle.par_link.specs.Linked.{name_at, named_in, named_at}
use Rattle.par_references.specs.Named.{named_by, names_of}

of-map : {A B : Type 0} (f : A → B) (o : Option A) (other : B)
    → unwrap_or (option_map f o) other ≡ option_map_or f o other
of-map f None other = refl
of-map f (Some x) other = refl

name_at-named : (files : List ClassFile) (file : ClassFile) (index : ℕ)
    → name_at (names_of files file) index ≡ named_in files (Some file) index
name_at-named files file zero = refl
name_at-named files file (suc place) =
    ap (λ o. unwrap_or o Nothing)
    (slice_get-map (named_by files file.pool.entries) file.pool.entries place)
    ∙ of-map (named_by files file.pool.entries) (slice_get file.pool.entries place) Nothing

-- what is kept for a file
pub kept : (files : List ClassFile) (all : List (List Named)) (class index : ℕ) (names : List Named)
    → all ≡ map (names_of files) files
    → Some names ≡ slice_get all class → name_at names index ≡ named_at files class index
kept files all class index names made found =
    in_file (slice_get files class)
    (found ∙ ap (λ xs. slice_get xs class) made ∙ slice_get-map (names_of files) files class)
  where
    in_file : (o : Option ClassFile) → Some names ≡ option_map (names_of files) o
        → name_at names index ≡ named_in files o index
    in_file None is = absurd (cc is)
    in_file (Some file) is =
        let same : names ≡ names_of files file = cc is in
        ap (λ xs. name_at xs index) same ∙ name_at-named files file index

-- and nothing where there is no file
pub kept-none : (files : List ClassFile) (all : List (List Named)) (class index : ℕ)
    → all ≡ map (names_of files) files
    → None ≡ slice_get all class → Nothing ≡ named_at files class index
kept-none files all class index made found =
    in_file (slice_get files class)
    (found ∙ ap (λ xs. slice_get xs class) made ∙ slice_get-map (names_of files) files class)
  where
    in_file : (o : Option ClassFile) → None ≡ option_map (names_of files) o
        → Nothing ≡ named_in files o index
    in_file None is = refl
    in_file (Some file) is = absurd (cc is)
