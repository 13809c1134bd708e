-- What runs the files that a program was compiled to: its runs, and the channels that the files
-- have.
use Rattle.std.specs.Prelude.{ℕ, Bool, IsTrue, false, ◌≡◌, FitsSigned, All}
use Rattle.std.specs.List.{filter, AllPairs}
use Rattle.std.specs.Int.{w32}
use Rattle.par_values.specs.declared.inputs.Inputs.{Inputs}
use Rattle.par_values.specs.Ran.{Ran}
use Rattle.par_secrecy.specs.Subject.{Name, is_of}

pub record Target : Type 0 where
  -- the run on these inputs with at most so many instructions
  pub run : Inputs → ℕ → Ran
  -- whether the files have an input channel of this class and name
  pub has_input : Name → Name → Bool

-- the lines for channels that the files have
abbrev pub fitting : Target → Inputs → Inputs
fitting target inputs =
    record { channels = filter (λ line. target.has_input line.class line.channel) inputs.channels }

-- The inputs name only channels that the files have, each once, and hold numbers of 32 bits alone.
pub record FitsFiles (target : Target) (inputs : Inputs) : Type 0 where
  pub there : All (λ line. IsTrue (target.has_input line.class line.channel)) inputs.channels
  pub once : AllPairs (λ one other. is_of one.class one.channel other ≡ false) inputs.channels
  pub numbers : All (λ line. All (λ n. FitsSigned w32 n) line.numbers) inputs.channels
