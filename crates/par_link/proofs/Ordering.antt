-- Which rule is the first that is broken, as one file after the other is looked at.
use Rattle.std.proofs.Common.{◌≡◌, ℕ, ◌+◌, ◌-◌, Bool, true, false, cond, List, [], ◌∷◌, length}
use Rattle.std.proofs.Common.{drop, Some, None, refl, sym, ap, ◌∙◌}
use Rattle.std.specs.Option.{option_map, option_or}
use Rattle.par_single.specs.par_class.declared.file.ClassFile.{ClassFile}
use Rattle.par_link.specs.declared.error.LinkError.{LinkError}
use Rattle.par_link.specs.declared.error.LinkError.TheVariants as error
use Rattle.par_link.specs.Order.{in_class, file_fault, first_in, list_fault, first_broken}
use Rattle.par_link.specs.Rules.{are_too_many, repeated_class}
use Rattle.par_link.specs.Told.{Tells}

-- ---- the files

first-cons : (all : List ClassFile) (i : ℕ) (file : ClassFile) (files : List ClassFile)
    → first_in all i (file ∷ files)
    ≡ option_or (in_class i (file_fault all file)) (first_in all (i + 1) files)
unfolding first_in
first-cons all i file files = refl

module _ (all files : List ClassFile) (i : ℕ) (file : ClassFile)
    (left : drop i files ≡ file ∷ drop (i + 1) files) where
  first-step : first_in all i (drop i files)
      ≡ option_or (in_class i (file_fault all file)) (first_in all (i + 1) (drop (i + 1) files))
  first-step = ap (first_in all i) left ∙ first-cons all i file (drop (i + 1) files)

  -- a file that breaks no rule is passed
  pub first-past : file_fault all file ≡ None
      → first_in all (i + 1) (drop (i + 1) files) ≡ first_in all i (drop i files)
  first-past none =
      sym (first-step
      ∙ ap (λ o. option_or (in_class i o) (first_in all (i + 1) (drop (i + 1) files))) none)

  -- the first rule that a file breaks is the first of those that are left
  pub first-told : (e : LinkError) → Tells (in_class i (file_fault all file)) e
      → Tells (first_in all i (drop i files)) e
  first-told (error.Broken number class index) told =
      first-step ∙ ap (λ o. option_or o (first_in all (i + 1) (drop (i + 1) files))) told
  first-told error.Memory told = tt

pub first-ended : (all files : List ClassFile) (i : ℕ) → drop i files ≡ []
    → first_in all i (drop i files) ≡ None
unfolding first_in
first-ended all files i ended = ap (first_in all i) ended

-- ---- the list

module _ (files : List ClassFile) where
  pub broken-many : are_too_many files ≡ true
      → first_broken files
      ≡ Some (record { number = 45; class = length files - 1; index = length files })
  unfolding list_fault
  broken-many many =
      ap
      (λ (b : Bool). option_or
      (option_or
      (cond b (Some (record { number = 45; class = length files - 1; index = length files })) None)
      (option_map (λ class. record { number = 43; class = class; index = 0 })
      (repeated_class files))) (first_in files 0 files)) many

  pub broken-repeated : (class : ℕ) → are_too_many files ≡ false → repeated_class files ≡ Some class
      → first_broken files ≡ Some (record { number = 43; class = class; index = 0 })
  unfolding list_fault
  broken-repeated class few repeated =
      ap
      (λ (b : Bool). option_or
      (option_or
      (cond b (Some (record { number = 45; class = length files - 1; index = length files })) None)
      (option_map (λ class. record { number = 43; class = class; index = 0 })
      (repeated_class files))) (first_in files 0 files)) few
      ∙ ap
      (λ o. option_or (option_map (λ class. record { number = 43; class = class; index = 0 }) o)
      (first_in files 0 files)) repeated

  pub broken-within : are_too_many files ≡ false → repeated_class files ≡ None
      → first_broken files ≡ first_in files 0 files
  unfolding list_fault
  broken-within few repeated =
      ap
      (λ (b : Bool). option_or
      (option_or
      (cond b (Some (record { number = 45; class = length files - 1; index = length files })) None)
      (option_map (λ class. record { number = 43; class = class; index = 0 })
      (repeated_class files))) (first_in files 0 files)) few
      ∙ ap
      (λ o. option_or (option_map (λ class. record { number = 43; class = class; index = 0 }) o)
      (first_in files 0 files)) repeated
