-- Parts in a row, and the parts of a call.
use Rattle.std.specs.Prelude.{ℕ, zero, suc, cond}
use Rattle.par_typed.specs.Plain.{MayTExp, Absent, Present, TExps, MayTSta, NoElse}
use Rattle.par_typed.specs.Plain.{Otherwise}
use Rattle.par_program_laws.specs.Kinds as kinds
use Rattle.par_program_laws.specs.Kinds.{Next}
use Rattle.par_program_laws.specs.Declares.{Declares, Method}
use Rattle.par_program_laws.specs.Rules.{From, Entry, After, Value}
use Rattle.par_program_laws.specs.Rules.{Node, Rules, Done, Part, Leaves, Worths, goes_on, can}
use Rattle.par_program_laws.specs.Body.{past, null_test, called, exp, args_past, args_count}
use Rattle.par_program_laws.specs.Body.{args_tested}
use Rattle.par_program_laws.specs.Body.{sta}

-- from where the part at the place is entered: the first from the way, each other from behind the
-- one before
abbrev pub start_at : ℕ → From → From
start_at zero from = from
start_at (suc n) from = past

-- from where the first argument of a call is entered
abbrev pub call_start : MayTExp → From
call_start Absent = Entry
call_start (Present e) = past

-- what a call does behind its arguments
abbrev pub call_does : Declares → Method → MayTExp → TExps → Rules
call_does d m Absent es = called d m (args_past Entry es)
call_does d m (Present e) es =
    null_test e (args_tested es) (Worths (Value (args_count es)) (called d m (args_tested es)))

-- behind the receiver, if there is one
abbrev pub behind : Declares → MayTExp → Rules → Rules
behind d Absent more = more
behind d (Present e) more = Part Entry Next (exp d e) more

-- a return behind its value, if it has one
abbrev pub behind_value : Declares → MayTExp → Rules
behind_value d Absent = Leaves Entry kinds.Return Done
behind_value d (Present e) = Part Entry Next (exp d e) (Leaves past kinds.Return Done)

-- without `else` the way goes on
abbrev pub goes_first : MayTSta → From → Rules → Rules
goes_first NoElse from more = goes_on from more
goes_first (Otherwise t) from more = more

-- what stands behind `else`
abbrev pub else_rules : Declares → MayTSta → From → Rules
else_rules d NoElse from = Done
else_rules d (Otherwise t) from = Part from Next (sta d t) (goes_on past Done)

-- from where a catch of the class is entered, behind as many others
abbrev pub catch_start : Node → ℕ → ℕ → From
catch_start block class before =
    cond (can block (kinds.Throw class)) (After before (kinds.Throw class)) Entry
