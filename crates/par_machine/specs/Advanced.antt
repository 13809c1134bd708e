-- What a run comes to with one instruction.
use Rattle.std.specs.Prelude.{◌≡◌, ℕ, suc, ◌≤◌, ◌⊎◌, Bool, true, List, length, Result, IsTrue}
use Rattle.std.specs.Prelude.{IsErrOf}
use Rattle.par_heap.specs.Heap.{objects_of}
use Rattle.par_instr.specs.Decoding.{decoded_at}
use Rattle.par_class.specs.declared.file.ClassFile.{ClassFile}
use Rattle.par_stack.specs.Frames.{running}
use Rattle.par_method_area.specs.par_step_laws.Step as plain
use Rattle.par_method_area.specs.Area.{Area}
use Rattle.par_machine.specs.Frames.{code_of}
use Rattle.par_machine.specs.Running.{state_in, IsSound}
use Rattle.par_machine.specs.Turn.{IsTurn, is_over, MakesOrTells, is_call_or_make}
use Rattle.par_machine.specs.declared.run.Running.{Running}
use Rattle.par_machine.specs.declared.turn.Turn.{Turn}
use Rattle.par_machine.specs.declared.turn.Stuck.{Stuck}
use Rattle.par_machine.specs.declared.turn.Stuck.TheVariants.{Memory}

-- whether the instruction at which a run stands calls a method or makes an object
abbrev pub is_asking : List ClassFile → Running → Bool
is_asking files r =
    let p = (running r.stack).point in is_call_or_make (decoded_at (code_of files p).code p.at)

-- It comes to this turn, for which memory is taken where it asks for some, where an exception is
-- made, and where names are handed out.
pub record IsAdvanced (area : Area) (asks : Bool) (t : plain.Turn) (old : Running)
    (result : Result Turn Stuck) (new : Running) : Type 0 where
  pub is : IsTurn result t (state_in area.files new)
  pub memory : IsErrOf result Memory →
      MakesOrTells t (state_in area.files old) ⊎ (asks ≡ true)
  pub over : IsTrue (is_over result) → state_in area.files new ≡ state_in area.files old
  pub sound : IsSound area new
  pub grown : (class : ℕ) →
      length (objects_of new.heap class) ≤ suc (length (objects_of old.heap class))
