-- How many files are asked for.
use Rattle.std.proofs.Common.{◌≡◌, ℕ, zero, suc, ◌+◌, ◌≤◌, List, [], ◌∷◌, ◌++◌, length, Option}
use Rattle.std.proofs.Common.{Some, None, refl, arith}
use Rattle.std.proofs.lemmas.List.{length-append}
use Rattle.par_class.specs.declared.file.ClassFile.{ClassFile}
use Rattle.par_loader.specs.Reads.{Text, Classes}
use Rattle.par_loader.specs.Mentions.{Naming, next_named}
use Rattle.par_loader.specs.Found as found
use Rattle.par_loader.specs.Found.{Found, found_in}
use Rattle.par_loader.specs.Loaded.{Step, goes_on, ends, asked, step_of, step, main_step}
use Rattle.par_loader.specs.Loaded.{main_step_of, after, with_next, further, loaded}

-- a step asks for one file, where the name is one that a class can have
pub asks_one : (m : Naming) (f : Found) → asked (step_of m f) ≡ 1
asks_one m (found.file f) = refl
asks_one m found.nothing = refl
asks_one m found.overlong = refl
asks_one m found.another = refl
asks_one m (found.broken number value) = refl

-- and so does the first
pub asks_first : (main : Text) (f : Found) → asked (main_step_of main f) ≡ 1
asks_first main (found.file f) = refl
asks_first main found.nothing = refl
asks_first main found.overlong = refl
asks_first main found.another = refl
asks_first main (found.broken number value) = refl

-- the files before a step and that of the step are counted, given that all files are of which
-- others are read behind them
module _ (c : Classes) (more : ℕ)
    (counted : (fs : List ClassFile) → length fs ≤ (further c more fs).reads) where
  pub step_counted : (fs : List ClassFile) (s : Step)
      → length fs + asked s ≤ (after fs (further c more) s).reads
  step_counted fs (goes_on f) =
      let longer : length (fs ++ f ∷ []) ≡ length fs + 1 = length-append fs (f ∷ []) in
      let rest = counted (fs ++ f ∷ []) in omega (arith, longer, rest)
  step_counted fs (ends reads end) = omega arith

  next_counted : (fs : List ClassFile) (next : Option Naming)
      → length fs ≤ (with_next c fs (further c more) next).reads
  next_counted fs None = omega arith
  next_counted fs (Some m) =
      let here = step_counted fs (step m (c m.name)) in omega (arith, here)

-- files that were read are among those that are asked for
pub files_counted : (c : Classes) (more : ℕ) (fs : List ClassFile)
    → length fs ≤ (further c more fs).reads
unfolding further
files_counted c zero fs = omega arith
files_counted c (suc more) fs = next_counted c more (files_counted c more) fs (next_named fs)

-- at least one file is asked for
pub some_asked : (c : Classes) (main : Text) → 1 ≤ (loaded c main).reads
some_asked c main =
    let one = asks_first main (found_in main (c main)) in
    let all = step_counted c 128 (files_counted c 128) [] (main_step main (c main)) in
    omega (arith, one, all)
