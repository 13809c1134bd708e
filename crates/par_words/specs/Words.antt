-- The words behind a program's name, and what they ask for.
use Rattle.std.specs.Prelude.{◌≡◌, ℕ, ◌≤◌, List, [], ◌∷◌, Some}
use Rattle.std.specs.declared.string.String.{String}
use Rattle.std.specs.declared.alloc.Global.{Global}
use Rattle.par_base.specs.Names.{IsName}
use Rattle.par_base.specs.Numbers.{magnitude_of}
use Rattle.clap.specs.Words.{Row}
use Rattle.par_words.specs.declared.words.Which.{Which}
use Rattle.par_words.specs.declared.words.Which.TheVariants.{Compiler, Runner}
use Rattle.par_words.specs.declared.commands.Flag.{Flag}
use Rattle.par_words.specs.declared.commands.Flag.TheVariants as flag
use Rattle.par_words.specs.Commands.{Text, texts, IsTaken, rows, values, set_flags}

-- what words ask for
pub data Wanted : Type 0 where
  -- to check a source
  Check : (file : Text) → Wanted
  -- to compile a source
  Compile : (file : Text) → Wanted
  -- to tell of the run of a source on an input file, at most so many steps
  Trace : (file inputs : Text) → (bound : ℕ) → Wanted
  -- to audit a source for an actor
  Audit : (actor file : Text) → Wanted
  -- to infer the policies that a source leaves open
  Infer : (file : Text) → Wanted
  -- to judge and compile the source that is made of a number
  Sample : (number : ℕ) → Wanted
  -- to verify the class files of a class and of all that it names
  Verify : (main : Text) → Wanted
  -- to run a class on an input file, at most so many instructions
  Run : (main inputs : Text) → (steps : ℕ) → Wanted

-- the most instructions that a run is given
abbrev pub most_steps : ℕ
most_steps = 1000000000

-- the most steps that the run of a source is given
abbrev pub most_bound : ℕ
most_bound = 10000000

-- the greatest number of which a source is made
abbrev pub most_sample : ℕ
most_sample = 18446744073709551615

-- some bytes write a number from 1 to the greatest
abbrev pub Counts : (most : ℕ) → Text → ℕ → Type 0
Counts most text n = (magnitude_of most text ≡ Some n) × (1 ≤ n)

-- ---- what values ask for

-- a name, a file and a number
pub record AskRun (main inputs third : Text) (w : Wanted) : Type 0 where
  pub steps : ℕ
  pub number : Counts most_steps third steps
  pub name : IsName main
  pub is : w ≡ Run main inputs steps

-- two files and a number
pub record AskTrace (file inputs third : Text) (w : Wanted) : Type 0 where
  pub bound : ℕ
  pub number : Counts most_bound third bound
  pub is : w ≡ Trace file inputs bound

-- a name and a file
pub record AskAudit (actor file : Text) (w : Wanted) : Type 0 where
  pub name : IsName actor
  pub is : w ≡ Audit actor file

-- a number from 0 on
pub record AskSample (text : Text) (w : Wanted) : Type 0 where
  pub of : ℕ
  pub number : magnitude_of most_sample text ≡ Some of
  pub is : w ≡ Sample of

-- a name
pub record AskVerify (main : Text) (w : Wanted) : Type 0 where
  pub name : IsName main
  pub is : w ≡ Verify main

-- just so many values, of which something is asked
abbrev pub OfOne : (Text → Wanted → Type 0) → (values : List Text) → Wanted → Type 0
OfOne asks [] w = ⊥
OfOne asks (first ∷ []) w = asks first w
OfOne asks (first ∷ second ∷ more) w = ⊥

abbrev pub OfTwo : (Text → Text → Wanted → Type 0) → (values : List Text) → Wanted → Type 0
OfTwo asks [] w = ⊥
OfTwo asks (first ∷ []) w = ⊥
OfTwo asks (first ∷ second ∷ []) w = asks first second w
OfTwo asks (first ∷ second ∷ third ∷ more) w = ⊥

abbrev pub OfThree : (Text → Text → Text → Wanted → Type 0) → (values : List Text) → Wanted → Type 0
OfThree asks [] w = ⊥
OfThree asks (first ∷ []) w = ⊥
OfThree asks (first ∷ second ∷ []) w = ⊥
OfThree asks (first ∷ second ∷ third ∷ []) w = asks first second third w
OfThree asks (first ∷ second ∷ third ∷ fourth ∷ more) w = ⊥

-- ---- the forms

-- `FILE` of the compiler, `MAIN INPUTS STEPS` of the machine
abbrev pub IsPlain : Which → (values : List Text) → Wanted → Type 0
IsPlain Compiler values w = OfOne (λ file v. v ≡ Compile file) values w
IsPlain Runner values w = OfThree AskRun values w

-- `--check FILE`, `--trace FILE INPUTS BOUND`, `--audit ACTOR FILE`, `--infer FILE`, `--sample N`
-- and `--verify MAIN`
abbrev pub IsFlagged : Flag → (values : List Text) → Wanted → Type 0
IsFlagged flag.Check values w = OfOne (λ file v. v ≡ Check file) values w
IsFlagged flag.Trace values w = OfThree AskTrace values w
IsFlagged flag.Audit values w = OfTwo AskAudit values w
IsFlagged flag.Infer values w = OfOne (λ file v. v ≡ Infer file) values w
IsFlagged flag.Sample values w = OfOne AskSample values w
IsFlagged flag.Verify values w = OfOne AskVerify values w

-- at most one flag is set
abbrev pub IsSet : Which → (flags : List Flag) → (values : List Text) → Wanted → Type 0
IsSet which [] values w = IsPlain which values w
IsSet which (flag ∷ []) values w = IsFlagged flag values w
IsSet which (flag ∷ another ∷ more) values w = ⊥

-- what is found of a program's flags and values asks for this
abbrev pub IsForm : Which → (found : List Row) → Wanted → Type 0
IsForm which found w = IsSet which (set_flags which found) (values found) w

-- What the words ask of each program: its command takes them, and what it makes of them is of one
-- of the program's forms.
abbrev pub Asks : Which → List (String Global) → Wanted → Type 0
Asks which words w =
    IsTaken which (texts words) × IsForm which (rows which (texts words)) w
