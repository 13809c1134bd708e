-- What may explain that an observer is shown different events.
use Rattle.std.specs.Prelude.{◌≡◌, ◌⊎◌, ◌<◌, ℕ, IsTrue, List, ◌∷◌, Some, Contains, map, take}
use Rattle.std.specs.Prelude.{slice_get}
use Rattle.par_policy.specs.Numbers.{has}
use Rattle.par_bits.specs.Sets.{IsWithin}
use Rattle.par_typed.specs.declared.table.Table.{Table}
use Rattle.par_typed.specs.Plain.{Body}
use Rattle.par_program_laws.specs.Lattice.{numbers, joined}
use Rattle.par_program_laws.specs.Ways.{Way}
use Rattle.par_program_laws.specs.Facts.{Facts}
use Rattle.par_program_laws.specs.Rules.{way}
use Rattle.par_check_laws.specs.Asked.{Released, Check}
use Rattle.par_check_laws.specs.Checks.{checks}
use Rattle.par_values.specs.declared.inputs.Inputs.{Inputs}
use Rattle.par_secrecy.specs.Runs.{Witnessed}
use Rattle.par_secrecy.specs.Subject.{Subject, Fits}
use Rattle.par_secrecy.specs.Shown.{Observer, sees, shown, Alike}
use Rattle.par_secrecy.specs.Secure.{events}
use Rattle.par_alike.specs.Subject.{policy_at}
use Rattle.par_secure_laws.specs.Release.{IsRelease}

-- the body and the facts stand at the same place of the lists
pub data IsPair (b : Body) (f : Facts numbers) : List Body → List (Facts numbers) → Type 0 where
  Here : (bs : List Body) (fs : List (Facts numbers)) → IsPair b f (b ∷ bs) (f ∷ fs)
  Later : (c : Body) (g : Facts numbers) (bs : List Body) (fs : List (Facts numbers))
      → IsPair b f bs fs → IsPair b f (c ∷ bs) (g ∷ fs)

-- A node of a body under a rule on releases explains that two events differ: the observer sees the
-- policy of the target, and does not see the value, and the locks of the node are open at both
-- events.
pub record Explains (table : Table) (bs : List Body) (fs : List (Facts numbers)) (o : Observer)
    (one other : Witnessed) : Type 0 where
  pub body : Body
  pub facts : Facts numbers
  pub pair : IsPair body facts bs fs
  pub check : Check
  pub asked : Contains (checks table body) check
  pub rule : IsRelease check.rule
  pub value : ℕ
  pub policy : ℕ
  pub condition : check.condition ≡ Released value policy
  pub seen : IsTrue (sees o (policy_at table policy))
  pub unseen : IsTrue (joined table.policies (facts value).value o.actor o.locks) → ⊥
  pub at : Way numbers
  pub spot : way numbers (facts check.spot.point).entry (map facts check.spot.parts)
      check.spot.from ≡ Some at
  pub one_open : IsWithin at.locks (has one.locks)
  pub other_open : IsWithin at.locks (has other.locks)

-- where the first k events are equal, the next ones are, or something explains that they are not
abbrev pub NextOr : (Witnessed → Witnessed → Type 0) → List Witnessed → List Witnessed → ℕ → Type 0
NextOr Explains one other k =
    (a b : Witnessed) → slice_get one k ≡ Some a → slice_get other k ≡ Some b
    → events (take k one) ≡ events (take k other) → (a.event ≡ b.event) ⊎ Explains a b

-- Any observer with a declared actor, any two inputs that it cannot tell apart, any two bounds: a
-- first difference of what it is shown is explained.
abbrev pub IsExplained : Subject → (Observer → Witnessed → Witnessed → Type 0) → Type 0
IsExplained subject Explains =
    (o : Observer) → o.actor < subject.actors → (one other : Inputs) → Fits subject one
    → Fits subject other → Alike subject o one other → (m n k : ℕ)
    → NextOr (Explains o) (shown subject o (subject.run one m))
    (shown subject o (subject.run other n)) k
