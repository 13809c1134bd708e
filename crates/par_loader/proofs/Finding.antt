-- What is found where a class is asked for.
use Rattle.std.proofs.Common.{◌≡◌, ℕ, suc, ◌<◌, ◌≤◌, cond, true, false, List, length, replicate}
use Rattle.std.proofs.Common.{Option, Some, None, Result, Ok, Err, refl, sym, ap, subst, ◌∙◌, arith}
use Rattle.std.proofs.lemmas.Bool.{le-leb, lt-leb}
use Rattle.std.proofs.lemmas.List.{length-replicate}
use Rattle.par_io.specs.Causes.{FolderCounts, Files, Told}
use Rattle.par_pool.specs.declared.reader.TheConstants.{LONGEST_CLASS}
use Rattle.par_class.specs.declared.file.ClassFile.{ClassFile}
use Rattle.par_class.specs.Reading.{file_at}
use Rattle.std.specs.Str.{bytes_eq}
use Rattle.std.specs.Prelude.{IfOk, IfErr}
use Rattle.par_class.specs.Spelling.{Spells}
use Rattle.par_pool.specs.declared.error.ClassError.{ClassError}
use Rattle.par_pool.specs.declared.error.ClassError.TheVariants as error
use Rattle.par_pool.specs.Reading.{Fails}
use Rattle.par_single.specs.Members.{own_name}
use Rattle.par_loader.specs.declared.found.Unfound.{Unfound}
use Rattle.par_loader.specs.declared.found.Unfound.TheVariants as unfound
use Rattle.par_loader.specs.Reads.{Text, class_file, WasFound}
use Rattle.par_loader.specs.Found.{file, nothing, overlong, another, refused_as, taken_as, found_in}
use Rattle.par_loader.specs.Found.{Finds, IsOfBytes, Rises}
use Rattle.par_loader.specs.Ends.{IsRead}

pub short_is : (class bytes : Text) → length bytes ≤ LONGEST_CLASS
    → found_in class (Some bytes) ≡ taken_as class (file_at bytes)
short_is class bytes few =
    ap (λ b. cond b (taken_as class (file_at bytes)) overlong)
    (le-leb (length bytes) LONGEST_CLASS few)

long_is : (class bytes : Text) → LONGEST_CLASS < length bytes
    → found_in class (Some bytes) ≡ overlong
long_is class bytes more =
    ap (λ b. cond b (taken_as class (file_at bytes)) overlong)
    (lt-leb (length bytes) LONGEST_CLASS more)

-- bytes that were read
pub there : (files : Option Files) (class bytes : Text) (r : Result ClassFile Unfound)
    → length bytes ≤ LONGEST_CLASS → Told files (λ m. m (class_file class) ≡ Some bytes)
    → Finds r (taken_as class (file_at bytes))
    → (found : Option Text) × WasFound files class found × Finds r (found_in class found)
there files class bytes r few told h =
    (Some bytes, told, subst (Finds r) (sym (short_is class bytes few)) h)

long_bytes : (most : ℕ) → (bytes : Text) × (most < length bytes)
long_bytes most =
    let zeros : Text = replicate (suc most) 0 in
    let many : length zeros ≡ suc most = length-replicate (suc most) 0 in
    (zeros, omega (arith, many))

-- a file that is too long
pub too_long : (files : Option Files) (class : Text)
    → Told files (λ m. (bytes : List ℕ) × (m (class_file class) ≡ Some bytes)
    × (LONGEST_CLASS < length bytes))
    → (found : Option Text) × WasFound files class found × (found_in class found ≡ overlong)
too_long None class told =
    let long = long_bytes LONGEST_CLASS in
    (Some long.0, tt, long_is class long.0 long.1)
too_long (Some m) class told = (Some told.0, told.1, long_is class told.0 told.2)

-- no file
pub none_there : (files : Option Files) (class : Text)
    → Told files (λ m. m (class_file class) ≡ None)
    → (found : Option Text) × WasFound files class found × (found_in class found ≡ nothing)
none_there files class told = (None, told, refl)

-- whatever is there
pub some_there : (files : Option Files) (class : Text)
    → (found : Option Text) × WasFound files class found
some_there None class = (None, tt)
some_there (Some m) class = (m (class_file class), refl)

-- ---- bytes that were taken apart

module _ (class bytes : Text) where
  pub taken_file : (f : ClassFile) → file_at bytes ≡ Ok f → bytes_eq (own_name f) class ≡ true
      → taken_as class (file_at bytes) ≡ file f
  taken_file f is own = ap (taken_as class) is ∙ ap (λ b. cond b (file f) another) own

  pub taken_other : (f : ClassFile) → file_at bytes ≡ Ok f → bytes_eq (own_name f) class ≡ false
      → taken_as class (file_at bytes) ≡ another
  taken_other f is own = ap (taken_as class) is ∙ ap (λ b. cond b (file f) another) own

  pub taken_refused : (e : ClassError) (u : Unfound) → (e ≡ error.Memory → u ≡ unfound.Memory)
      → Fails e (file_at bytes) → Finds (Err u) (refused_as e)
      → Finds (Err u) (taken_as class (file_at bytes))
  unfolding Finds
  taken_refused error.Memory u memory fails h =
      subst (λ (x : Unfound). Finds (Err x) (taken_as class (file_at bytes))) (sym (memory refl)) tt
  taken_refused error.Magic u memory fails h =
      subst (Finds (Err u)) (sym (ap (taken_as class) fails)) h
  taken_refused (error.Version n) u memory fails h =
      subst (Finds (Err u)) (sym (ap (taken_as class) fails)) h
  taken_refused (error.Cut n) u memory fails h =
      subst (Finds (Err u)) (sym (ap (taken_as class) fails)) h
  taken_refused (error.Pool n) u memory fails h =
      subst (Finds (Err u)) (sym (ap (taken_as class) fails)) h
  taken_refused (error.Index n) u memory fails h =
      subst (Finds (Err u)) (sym (ap (taken_as class) fails)) h
  taken_refused (error.Extra n) u memory fails h =
      subst (Finds (Err u)) (sym (ap (taken_as class) fails)) h
  taken_refused (error.Shape n) u memory fails h =
      subst (Finds (Err u)) (sym (ap (taken_as class) fails)) h

-- a file that was read
pub was_read : (files : Option Files) (class bytes : Text) (r : Result ClassFile Unfound)
    → length bytes ≤ LONGEST_CLASS → Told files (λ m. m (class_file class) ≡ Some bytes)
    → Finds r (taken_as class (file_at bytes)) → IfOk r (Spells bytes)
    → IfOk r (λ f. own_name f ≡ class) → IfOk r (IsRead files)
unfolding Finds
was_read files class bytes (Ok f) few told finds spells own = record {
  bytes = bytes;
  short = few;
  found = subst (λ (n : Text). WasFound files n (Some bytes)) (sym own) told;
  taken =
      subst (λ (n : Text). found_in n (Some bytes) ≡ file f) (sym own)
      (short_is class bytes few ∙ finds);
  spells = spells;
}
was_read files class bytes (Err u) few told finds spells own = tt

-- no count rises where bytes were read
pub rises_none : (u : Unfound) (before after : FolderCounts) → IsOfBytes u → Rises u before after
rises_none unfound.Another before after h = tt
rises_none (unfound.Broken number value) before after h = tt
rises_none unfound.Memory before after h = tt
rises_none unfound.Absent before after h = absurd h
rises_none unfound.TooLong before after h = absurd h
rises_none unfound.Failed before after h = absurd h

pub rise_none : (r : Result ClassFile Unfound) (before after : FolderCounts) → IfErr r IsOfBytes
    → IfErr r (λ u. Rises u before after)
rise_none (Ok f) before after h = tt
rise_none (Err u) before after h = rises_none u before after h
