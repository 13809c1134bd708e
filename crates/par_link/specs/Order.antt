-- Which rule is the first that linked class files break.
use Rattle.std.specs.Prelude.{ℕ, ◌+◌, ◌-◌, if◌then◌else◌, List, [], ◌∷◌, length, Option, Some, None}
use Rattle.std.specs.Option.{option_map, option_or}
use Rattle.par_single.specs.par_class.declared.file.ClassFile.{ClassFile}
use Rattle.par_link.specs.declared.sort.Sort.TheVariants.{Class, Field, Method}
use Rattle.par_link.specs.declared.fault.Fault.{Fault}
use Rattle.par_link.specs.Rules.{are_too_many, repeated_class, repeated_field, repeated_method}
use Rattle.par_link.specs.Rules.{wrong_field, wrong_method, absent, unlisted, cut}

-- the number of a rule that is broken, the file and the index
pub record Broken : Type 0 where
  pub number : ℕ
  pub class : ℕ
  pub index : ℕ

-- a rule is broken at an index of a file
abbrev pub at : ℕ → Option ℕ → Option Fault
at number index = option_map (λ i. record { number = number; index = i }) index

infixl 10 ◌or◌
-- the first of two, where it is broken
abbrev pub ◌or◌ : {A : Type 0} → Option A → Option A → Option A
first or second = option_or first second

unfoldable pub member_fault : ClassFile → Option Fault
member_fault file = at 43 (repeated_field file) or at 43 (repeated_method file)

unfoldable pub description_fault : ClassFile → Option Fault
description_fault file = at 44 (wrong_field file) or at 44 (wrong_method file)

unfoldable pub constant_fault : List ClassFile → ClassFile → Option Fault
constant_fault files file =
    at 40 (absent Class files file) or at 41 (absent Field files file)
    or at 42 (absent Method files file)

unfoldable pub code_fault : ClassFile → Option Fault
code_fault file = at 20 (unlisted file) or at 21 (cut file)

-- the first rule that a file breaks
abbrev pub file_fault : List ClassFile → ClassFile → Option Fault
file_fault files file =
    member_fault file or description_fault file or constant_fault files file
    or code_fault file

abbrev pub in_class : ℕ → Option Fault → Option Broken
in_class class fault =
    option_map (λ f. record { number = f.number; class = class; index = f.index }) fault

-- the first rule that one of these files breaks, which stand behind so many others of the list
unfoldable pub first_in : List ClassFile → ℕ → List ClassFile → Option Broken
first_in all class [] = None
first_in all class (file ∷ files) =
    in_class class (file_fault all file) or first_in all (class + 1) files

-- the first rule that the list breaks
unfoldable pub list_fault : List ClassFile → Option Broken
list_fault files =
    (if are_too_many files
    then Some (record { number = 45; class = length files - 1; index = length files })
    else None)
    or option_map (λ class. record { number = 43; class = class; index = 0 }) (repeated_class files)

-- the first rule that is broken: of the list, and then of the files in their order
abbrev pub first_broken : List ClassFile → Option Broken
first_broken files = list_fault files or first_in files 0 files
