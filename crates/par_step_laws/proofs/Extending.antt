-- Runs with more instructions go on where those with fewer were stopped.
use Rattle.std.proofs.Common.{ℕ, zero, suc, ◌≤◌, List, [], ◌∷◌, refl, ap, arith}
use Rattle.par_link.specs.par_class.declared.file.ClassFile.{ClassFile}
use Rattle.par_secrecy.specs.par_values.declared.run.Event.{Event}
use Rattle.par_secrecy.specs.par_values.Ran.{Ran, Outcome, ended, stopped, with_event}
use Rattle.par_step_laws.specs.State.{State, start}
use Rattle.par_step_laws.specs.Step.{Turn, Silent, Shows, Ends, IsBad, turn}
use Rattle.par_step_laws.specs.Run.{followed, run, class_number, Extends, MoreInstructionsExtend}

-- every run goes on from one that was stopped at once
from_stopped : (later : Ran) → Extends stopped later
from_stopped later = record { events = (later.events, refl); ended = λ goes. absurd (goes refl) }

-- a run that is over stays as it is
over : (outcome : Outcome) → Extends (ended outcome) (ended outcome)
over outcome = record { events = ([], refl); ended = λ goes. refl }

-- the same event stands before both
behind_event : (e : Event) (earlier later : Ran) → Extends earlier later
    → Extends (with_event e earlier) (with_event e later)
behind_event e earlier later x = record {
  events = (x.events.0, ap (λ es. e ∷ es) x.events.1);
  ended = λ goes. ap (with_event e) (x.ended goes);
}

followed_extends : (t : Turn) (one other : State → Ran) → ((s : State) → Extends (one s) (other s))
    → Extends (followed t one) (followed t other)
followed_extends (Silent s) one other each = each s
followed_extends (Shows e s) one other each = behind_event e (one s) (other s) (each s)
followed_extends (Ends ending) one other each = over _
followed_extends (IsBad class method offset reason) one other each = over _

run_extends : (files : List ClassFile) (m n : ℕ) (s : State) → m ≤ n
    → Extends (run files m s) (run files n s)
run_extends files zero n s fewer = from_stopped (run files n s)
run_extends files (suc m) zero s fewer = absurd (omega arith)
run_extends files (suc m) (suc n) s fewer =
    followed_extends (turn files s) (run files m) (run files n)
    (λ after. run_extends files m n after (omega arith))

pub more_instructions : MoreInstructionsExtend
more_instructions files main inputs m n fewer =
    run_extends files m n (start files (class_number files main) inputs) fewer
