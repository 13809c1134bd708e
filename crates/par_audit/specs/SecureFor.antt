-- Security for an actor, whichever locks are open.
use Rattle.std.specs.Prelude.{◌≡◌, ℕ, ◌<◌, List, take, slice_get, Some}
use Rattle.par_values.specs.declared.inputs.Inputs.{Inputs}
use Rattle.par_secrecy.specs.Runs.{Witnessed}
use Rattle.par_secrecy.specs.Subject.{Subject, Fits}
use Rattle.par_secrecy.specs.Shown.{Observer, shown, Alike}
use Rattle.par_secrecy.specs.Secure.{events}
use Rattle.par_secrecy.specs.Target.{Target, FitsFiles}
use Rattle.par_secrecy.specs.SecureFiles.{Witnesses, seen}

-- where the first k events are equal, the next ones are
abbrev pub NextEqual : List Witnessed → List Witnessed → ℕ → Type 0
NextEqual one other k =
    (a b : Witnessed) → slice_get one k ≡ Some a → slice_get other k ≡ Some b
    → events (take k one) ≡ events (take k other) → a.event ≡ b.event

-- The actor with any locks, if it is declared, any two inputs that it cannot tell apart, any two
-- bounds: as long as it was shown equal events, the next ones are equal.
abbrev pub SecureFor : Subject → ℕ → Type 0
SecureFor subject actor =
    (o : Observer) → o.actor ≡ actor → o.actor < subject.actors → (one other : Inputs)
    → Fits subject one → Fits subject other → Alike subject o one other
    → (m n k : ℕ) → NextEqual (shown subject o (subject.run one m))
    (shown subject o (subject.run other n)) k

-- the same for class files
pub record SecureFilesFor (target : Target) (subject : Subject) (actor : ℕ) : Type 0 where
  -- each run of the files has locks
  pub witnessed : (inputs : Inputs) → FitsFiles target inputs → (m : ℕ)
      → (ws : List Witnessed) × Witnesses target subject inputs m ws
  pub agree : (o : Observer) → o.actor ≡ actor → o.actor < subject.actors → (one other : Inputs)
      → FitsFiles target one → FitsFiles target other
      → Alike subject o one other → (m n k : ℕ) (ws vs : List Witnessed)
      → Witnesses target subject one m ws → Witnesses target subject other n vs
      → NextEqual (seen subject o ws) (seen subject o vs) k
