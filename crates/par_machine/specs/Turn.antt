-- What a step answers, against what one instruction comes to.
use Rattle.std.specs.Prelude.{◌≡◌, ◌≢◌, Bool, true, false, Option, Some, None, Result, Ok, Err}
use Rattle.par_instr.specs.declared.instr.Instr.{Instr}
use Rattle.par_instr.specs.declared.instr.Instr.TheVariants.{Invokevirtual, Invokespecial}
use Rattle.par_instr.specs.declared.instr.Instr.TheVariants.{Invokestatic, New}
use Rattle.par_instr.specs.Decoding.{Decoded}
use Rattle.par_values.specs.declared.run.Ending.TheVariants.{End, Uncaught, Stopped}
use Rattle.par_method_area.specs.par_step_laws.State.{State}
use Rattle.par_method_area.specs.par_step_laws.Step as plain
use Rattle.par_machine.specs.declared.turn.Turn.{Turn}
use Rattle.par_machine.specs.declared.turn.Turn.TheVariants.{Silent, Happened, Ended}
use Rattle.par_machine.specs.declared.turn.Stuck.{Stuck}
use Rattle.par_machine.specs.declared.turn.Stuck.TheVariants.{BadCode, Memory}

-- The answer says this turn, which leaves this state where the run goes on. Want of memory says
-- nothing.
abbrev pub IsTurn : Result Turn Stuck → plain.Turn → State → Type 0
IsTurn (Ok Silent) turn after = turn ≡ plain.Silent after
IsTurn (Ok (Happened event)) turn after = turn ≡ plain.Shows event after
IsTurn (Ok (Ended ending)) turn after = turn ≡ plain.Ends ending
IsTurn (Err (BadCode class method offset reason)) turn after =
    turn ≡ plain.IsBad class method offset reason
IsTurn (Err Memory) turn after = Unit {0}

-- whether the run does not go on
abbrev pub is_over : Result Turn Stuck → Bool
is_over (Ok Silent) = false
is_over (Ok (Happened event)) = false
is_over (Ok (Ended ending)) = true
is_over (Err (BadCode class method offset reason)) = true
is_over (Err Memory) = false

-- whether an instruction calls a method or makes an object
abbrev pub calls_or_makes : Instr → Bool
calls_or_makes (Invokevirtual index) = true
calls_or_makes (Invokespecial index) = true
calls_or_makes (Invokestatic index) = true
calls_or_makes (New index) = true
calls_or_makes _ = false

abbrev pub is_call_or_make : Option Decoded → Bool
is_call_or_make None = false
is_call_or_make (Some d) = calls_or_makes d.instr

-- Memory is taken where an exception is made, and where names are handed out.
abbrev pub MakesOrTells : plain.Turn → State → Type 0
MakesOrTells (plain.Silent after) before = after.objects ≢ before.objects
MakesOrTells (plain.Shows event after) before = Unit {0}
MakesOrTells (plain.Ends End) before = ⊥
MakesOrTells (plain.Ends (Uncaught class)) before = Unit {0}
MakesOrTells (plain.Ends Stopped) before = ⊥
MakesOrTells (plain.IsBad class method offset reason) before = Unit {0}
