-- What is watched: the runs of a program, and its declared policies.
use Rattle.std.specs.Prelude.{◌≡◌, ℕ, Bool, ◌&&◌, if◌then◌else◌, List, [], ◌∷◌, ℤ, FitsSigned, All}
use Rattle.std.specs.Prelude.{IsTrue, false, Option, Some, None, slice_get}
use Rattle.std.specs.List.{AllPairs, list_any}
use Rattle.std.specs.Int.{w32}
use Rattle.std.specs.Str.{bytes_eq}
use Rattle.par_policy.specs.declared.clauses.Clause.{Clause}
use Rattle.par_values.specs.declared.run.Event.{Event}
use Rattle.par_values.specs.declared.inputs.Inputs.{Inputs}
use Rattle.par_values.specs.declared.inputs.ChannelInput.{ChannelInput}
use Rattle.par_secrecy.specs.Runs.{Run}

abbrev pub Name : Type 0
Name = List ℕ

abbrev pub Policy : Type 0
Policy = List Clause

-- an input channel, with its read policy
pub record InputChannel : Type 0 where
  pub class : Name
  pub name : Name
  pub policy : Policy

-- a program, as its runs and its policies
pub record Subject : Type 0 where
  -- how many actors are declared
  pub actors : ℕ
  pub inputs : List InputChannel
  pub policy : Event → Policy
  -- the run on these inputs with at most so many steps
  pub run : Inputs → ℕ → Run

-- the line is that of this channel
abbrev pub is_of : Name → Name → ChannelInput → Bool
is_of class name line = bytes_eq line.class class && bytes_eq line.channel name

-- what the lines give to a channel; a channel without a line has the empty list
abbrev pub given : List ChannelInput → Name → Name → List ℤ
given [] class name = []
given (line ∷ lines) class name =
    if is_of class name line then line.numbers else given lines class name

-- the numbers of a line, none where there is no line
abbrev pub numbers_of : Option ChannelInput → List ℤ
numbers_of None = []
numbers_of (Some line) = line.numbers

-- the numbers of the line at a place
abbrev pub numbers_at : Option ℕ → List ChannelInput → List ℤ
numbers_at None lines = []
numbers_at (Some place) lines = numbers_of (slice_get lines place)

-- The inputs name only input channels of the subject, each once, and hold numbers of 32 bits alone.
pub record Fits (subject : Subject) (inputs : Inputs) : Type 0 where
  pub declared : All (λ line. IsTrue (list_any (λ c. is_of c.class c.name line) subject.inputs))
      inputs.channels
  pub once : AllPairs (λ one other. is_of one.class one.channel other ≡ false) inputs.channels
  pub numbers : All (λ line. All (λ n. FitsSigned w32 n) line.numbers) inputs.channels
