-- The class files that are loaded for a class, or why they are not.
use Rattle.std.specs.Prelude.{ℕ, zero, suc, ◌+◌, ◌-◌, if◌then◌else◌, List, [], ◌∷◌, ◌++◌, length}
use Rattle.std.specs.Prelude.{Option, Some, None}
use Rattle.par_base.specs.Names.{is_name}
use Rattle.par_class.specs.declared.file.ClassFile.{ClassFile}
use Rattle.par_loader.specs.Reads.{Text, Classes}
use Rattle.par_loader.specs.Mentions.{Naming, next_named}
use Rattle.par_loader.specs.Found as found
use Rattle.par_loader.specs.Found.{Found, found_in}

pub data Loaded : Type 0 where
  -- these files, in the order in which they were read
  whole : List ClassFile → Loaded
  -- the class that is asked for has no file
  missing : Loaded
  -- a file is too long
  overlong : Loaded
  -- a class file is refused, by a number with a value
  refused : (class : Text) (number value : ℕ) → Loaded
  -- a constant of a class file, at this index, names a class that has no file
  absent : (class : Text) (index : ℕ) → Loaded

-- what loading comes to, and how many files were asked for
pub record Load : Type 0 where
  pub reads : ℕ
  pub end : Loaded

-- What becomes of a class that is named: its file is read, or loading ends there, after so many
-- reads.
pub data Step : Type 0 where
  goes_on : ClassFile → Step
  ends : (reads : ℕ) → Loaded → Step

-- how many files a step asks for
abbrev pub asked : Step → ℕ
asked (goes_on f) = 1
asked (ends reads end) = reads

-- Number 40 stands with the class whose file holds the constant, and with its index there; what
-- the bytes are refused by stands with their own class.
abbrev pub step_of : Naming → Found → Step
step_of m (found.file f) = goes_on f
step_of m found.nothing = ends 1 (absent m.class m.index)
step_of m found.overlong = ends 1 overlong
step_of m found.another = ends 1 (refused m.class 40 m.index)
step_of m (found.broken number value) = ends 1 (refused m.name number value)

-- a name that no class can have is not asked for
abbrev pub step : Naming → Option Text → Step
step m bytes =
    if is_name m.name then step_of m (found_in m.name bytes)
    else ends 0 (refused m.class 40 m.index)

-- the class that is asked for first is named by no constant
abbrev pub main_naming : Text → Naming
main_naming main = record { class = main; index = 0; name = main }

abbrev pub main_step_of : Text → Found → Step
main_step_of main found.nothing = ends 1 missing
main_step_of main f = step_of (main_naming main) f

abbrev pub main_step : Text → Option Text → Step
main_step main bytes = main_step_of main (found_in main bytes)

-- how many reads there are behind the first
abbrev pub behind_first : Load → ℕ
behind_first load = load.reads - 1

-- what follows a step, behind files that were read
abbrev pub after : List ClassFile → (List ClassFile → Load) → Step → Load
after files then_ (goes_on f) = then_ (files ++ f ∷ [])
after files then_ (ends reads end) = record { reads = length files + reads; end = end }

-- the next class is read, where one is named that is still to be read
abbrev pub with_next : Classes → List ClassFile → (List ClassFile → Load) → Option Naming → Load
with_next classes files then_ None = record { reads = length files; end = whole files }
with_next classes files then_ (Some m) = after files then_ (step m (classes m.name))

-- at most so many more files are read
unfoldable pub further : Classes → ℕ → List ClassFile → Load
further classes zero files = record { reads = length files; end = whole files }
further classes (suc more) files =
    with_next classes files (further classes more) (next_named files)

-- The class files that are loaded for a class: its own, and each that is named first by one of
-- those that were read; at most 129.
abbrev pub loaded : Classes → Text → Load
loaded classes main = after [] (further classes 128) (main_step main (classes main))
