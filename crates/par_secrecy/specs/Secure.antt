-- When a program is secure. It speaks of pairs of runs, and names no type, no context and no check.
use Rattle.std.specs.Prelude.{◌≡◌, ℕ, ◌<◌, List, map, take, slice_get, Some, IsTrue}
use Rattle.par_policy.specs.Numbers.{within}
use Rattle.par_values.specs.declared.run.Event.{Event}
use Rattle.par_values.specs.declared.inputs.Inputs.{Inputs}
use Rattle.par_secrecy.specs.Runs.{Witnessed}
use Rattle.par_secrecy.specs.Subject.{Subject, Fits}
use Rattle.par_secrecy.specs.Shown.{Observer, shown, Alike}

-- the events alone
abbrev pub events : List Witnessed → List Event
events ws = map (λ w. w.event) ws

-- Where the first k events are equal, and the observer has the locks at both next ones, these are
-- equal.
abbrev pub NextAgree : Observer → List Witnessed → List Witnessed → ℕ → Type 0
NextAgree o one other k =
    (a b : Witnessed) → slice_get one k ≡ Some a → slice_get other k ≡ Some b
    → events (take k one) ≡ events (take k other)
    → IsTrue (within a.locks o.locks) → IsTrue (within b.locks o.locks) → a.event ≡ b.event

-- Any observer with a declared actor, any two inputs that it cannot tell apart, any two bounds: as
-- long as it was shown equal events, the next ones are equal.
abbrev pub Secure : Subject → Type 0
Secure subject =
    (o : Observer) → o.actor < subject.actors → (one other : Inputs) → Fits subject one
    → Fits subject other → Alike subject o one other
    → (m n k : ℕ) → NextAgree o (shown subject o (subject.run one m))
    (shown subject o (subject.run other n)) k
