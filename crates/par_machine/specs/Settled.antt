-- What a run comes to behind an instruction.
use Rattle.std.specs.Prelude.{◌≡◌, ℕ, suc, ◌≤◌, Bool, true, false, List, [], ◌∷◌, length, None}
use Rattle.std.specs.Prelude.{Some, Result, IsTrue, IsErrOf}
use Rattle.par_class.specs.declared.file.ClassFile.{ClassFile}
use Rattle.par_heap.specs.Heap.{objects_of}
use Rattle.par_values.specs.declared.run.Event.{Event}
use Rattle.par_values.specs.Effects.{Happens}
use Rattle.par_method_area.specs.par_step_laws.State.{Frame, State}
use Rattle.par_method_area.specs.par_step_laws.Step as plain
use Rattle.par_method_area.specs.par_step_laws.Step.{turn_at}
use Rattle.par_method_area.specs.par_actions.declared.done.Done.{Done}
use Rattle.par_method_area.specs.par_actions.declared.done.Done.TheVariants as done
use Rattle.par_method_area.specs.par_actions.Done.{is_still}
use Rattle.par_method_area.specs.Area.{Area}
use Rattle.par_machine.specs.Running.{here, below, state_in, IsSound}
use Rattle.par_machine.specs.Site.{decoded, does, against, IsCome, CameTo}
use Rattle.par_machine.specs.Turn.{IsTurn, is_over, MakesOrTells}
use Rattle.par_machine.specs.declared.run.Running.{Running}
use Rattle.par_machine.specs.declared.site.Site.{Site}
use Rattle.par_machine.specs.declared.turn.Turn.{Turn}
use Rattle.par_machine.specs.declared.turn.Stuck.{Stuck}
use Rattle.par_machine.specs.declared.turn.Stuck.TheVariants.{Memory}

-- what the instruction of a site comes to where a run stands there
abbrev pub turn_from : List ClassFile → Running → Site → plain.Turn
turn_from files r s = turn_at files (Some (decoded s)) (here r) (below r) (state_in files r)

-- the first frame goes on at an offset
abbrev pub first_at : ℕ → List Frame → List Frame
first_at at [] = []
first_at at (f ∷ frames) = record f { at = at } ∷ frames

abbrev pub gone_to : ℕ → State → State
gone_to at s = record s { frames = first_at at s.frames }

-- whether an instruction that came to this makes an event
abbrev pub is_told : Done → Bool
is_told (done.Sets v) = true
is_told (done.Puts n v) = true
is_told (done.Born n) = true
is_told (done.Outs n) = true
is_told _ = false

-- An instruction that came to this makes this event.
abbrev pub Tells : List ClassFile → Site → Done → Event → Type 0
Tells files s d e =
    (before old : Running) → (come : IsCome files before s d old) →
    (against files before s ≡ None) × (does files before s ≡ Happens e come.after)

-- What an instruction came to is handed out, and the run goes on so.
pub record IsSettled (area : Area) (s : Site) (d : Done) (old : Running)
    (result : Result Turn Stuck)
    (new : Running) : Type 0 where
  pub is : (before : Running) → CameTo area.files before s d old →
      IsTurn result (turn_from area.files before s) (state_in area.files new)
  pub memory : (before : Running) → CameTo area.files before s d old → IsErrOf result Memory →
      MakesOrTells (turn_from area.files before s) (state_in area.files before)
  pub over : IsTrue (is_over result) → (new ≡ old) × IsTrue (is_still d)
  pub sound : IsSound area new
  pub grown : (class : ℕ) →
      length (objects_of new.heap class) ≤ suc (length (objects_of old.heap class))
  pub unmade : is_still d ≡ false → new.heap ≡ old.heap
