-- When the files of a program are secure. It speaks of pairs of runs of the files; their events are
-- given the policies and the locks of the program's events, number by number.
use Rattle.std.specs.Prelude.{◌≡◌, ℕ, ◌<◌, List, ◌++◌}
use Rattle.std.specs.List.{filter}
use Rattle.par_values.specs.declared.run.Event.{Event}
use Rattle.par_values.specs.declared.inputs.Inputs.{Inputs}
use Rattle.par_secrecy.specs.Runs.{Witnessed}
use Rattle.par_secrecy.specs.Subject.{Subject}
use Rattle.par_secrecy.specs.Shown.{Observer, sees, Alike}
use Rattle.par_secrecy.specs.Secure.{events, NextAgree}
use Rattle.par_secrecy.specs.Target.{Target, FitsFiles}

-- Each event has the locks of the program's event of its number, on the same inputs.
pub record AreWitnessed (subject : Subject) (inputs : Inputs) (shown : List Event)
    (witnessed : List Witnessed) : Type 0 where
  pub events_are : events witnessed ≡ shown
  pub steps : ℕ
  pub more : List Witnessed
  pub first : (subject.run inputs steps).events ≡ witnessed ++ more

-- the events of a run of the files, each with its locks
abbrev pub Witnesses : Target → Subject → Inputs → ℕ → List Witnessed → Type 0
Witnesses target subject inputs m witnessed =
    AreWitnessed subject inputs (target.run inputs m).events witnessed

-- those that an observer sees
abbrev pub seen : Subject → Observer → List Witnessed → List Witnessed
seen subject o witnessed = filter (λ w. sees o (subject.policy w.event)) witnessed

-- Any observer with a declared actor, any two inputs that it cannot tell apart, any two bounds: as
-- long as it was shown equal events, the next ones are equal.
pub record SecureFiles (target : Target) (subject : Subject) : Type 0 where
  -- each run of the files has such locks
  pub witnessed : (inputs : Inputs) → FitsFiles target inputs → (m : ℕ)
      → (ws : List Witnessed) × Witnesses target subject inputs m ws
  pub agree : (o : Observer) → o.actor < subject.actors → (one other : Inputs)
      → FitsFiles target one → FitsFiles target other
      → Alike subject o one other → (m n k : ℕ) (ws vs : List Witnessed)
      → Witnesses target subject one m ws → Witnesses target subject other n vs
      → NextAgree o (seen subject o ws) (seen subject o vs) k
