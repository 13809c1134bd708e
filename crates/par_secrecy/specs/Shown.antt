-- What an observer is shown of a run, and which inputs it cannot tell apart.
use Rattle.std.specs.Prelude.{◌≡◌, ℕ, Bool, List, All, IsTrue}
use Rattle.std.specs.List.{filter}
use Rattle.par_policy.specs.Sees as policy
use Rattle.par_values.specs.declared.inputs.Inputs.{Inputs}
use Rattle.par_secrecy.specs.Runs.{Witnessed, Run}
use Rattle.par_secrecy.specs.Subject.{Policy, Subject, given}

-- an actor, with a list of ground locks
pub record Observer : Type 0 where
  pub actor : ℕ
  pub locks : List ℕ

abbrev pub sees : Observer → Policy → Bool
sees o p = policy.sees p o.actor o.locks

-- the events whose policy the observer sees, in order, each with its locks
abbrev pub shown : Subject → Observer → Run → List Witnessed
shown subject o run = filter (λ w. sees o (subject.policy w.event)) run.events

-- both inputs give equal lists on every input channel that the observer sees
abbrev pub Alike : Subject → Observer → Inputs → Inputs → Type 0
Alike subject o one other =
    All (λ c. IsTrue (sees o c.policy)
    → given one.channels c.class c.name ≡ given other.channels c.class c.name) subject.inputs
