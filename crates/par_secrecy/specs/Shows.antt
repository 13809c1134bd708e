-- When the runs of files show those of the program that they were compiled from.
use Rattle.std.specs.Prelude.{◌≡◌, ℕ, ◌+◌, ◌*◌, ◌≤◌, ◌&&◌, List, ◌++◌, IsTrue}
use Rattle.std.specs.List.{list_any}
use Rattle.std.specs.Str.{bytes_eq}
use Rattle.par_values.specs.declared.run.Event.{Event}
use Rattle.par_values.specs.declared.run.Ending.{Ending}
use Rattle.par_values.specs.declared.run.Ending.TheVariants.{Stopped}
use Rattle.par_values.specs.declared.inputs.Inputs.{Inputs}
use Rattle.par_values.specs.Ran.{Ran, Outcome, Fine}
use Rattle.par_secrecy.specs.Runs.{Run}
use Rattle.par_secrecy.specs.Subject.{Name, Subject, Fits}
use Rattle.par_secrecy.specs.Secure.{events}
use Rattle.par_secrecy.specs.Target.{Target, fitting}

-- a run of the program as a machine shows it, without locks
abbrev pub shown_run : Run → Ran
shown_run r = record { events = events r.events; ending = Fine r.ending }

-- these events come first among those
abbrev pub ComeFirst : List Event → List Event → Type 0
ComeFirst front all = (more : List Event) × (all ≡ front ++ more)

-- As far as the machine's run goes, it is the program's; where it was not stopped, it is the whole.
pub record IsFrontOf (ran : Ran) (r : Run) : Type 0 where
  pub first : ComeFirst ran.events (events r.events)
  pub whole : (ran.ending ≡ Fine Stopped → ⊥) → ran ≡ shown_run r

-- the ending is not bad code
abbrev pub IsFine : Outcome → Type 0
IsFine outcome = (ending : Ending) × (outcome ≡ Fine ending)

-- On all inputs of the program the runs of the files are its own: none of its steps takes more than
-- 16 instructions, and 16 more are for what is around them.
pub record Shows (target : Target) (subject : Subject) : Type 0 where
  pub reach : (inputs : Inputs) → Fits subject inputs → (n : ℕ)
      → (m : ℕ) × (m ≤ 16 * n + 16)
      × (target.run (fitting target inputs) m ≡ shown_run (subject.run inputs n))
  pub front : (inputs : Inputs) → Fits subject inputs → (m : ℕ)
      → (n : ℕ) × IsFrontOf (target.run (fitting target inputs) m) (subject.run inputs n)
  pub never_bad : (inputs : Inputs) → Fits subject inputs → (m : ℕ)
      → IsFine (target.run (fitting target inputs) m).ending
  -- the files have no input channel that the program lacks
  pub channels : (class name : Name) → IsTrue (target.has_input class name)
      → IsTrue (list_any (λ c. bytes_eq c.class class && bytes_eq c.name name) subject.inputs)
