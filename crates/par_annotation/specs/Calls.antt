-- A call, by what it is made on.
use Rattle.std.specs.Prelude.{ℕ, ◌+◌, false, List, Option}
use Rattle.par_tree.specs.Plain.{Exps}
use Rattle.par_typed.specs.declared.ty.Ty.{Ty}
use Rattle.par_typed.specs.Plain.{Mark, TExp, MayTExp}
use Rattle.par_typed.specs.Nodes.{may_nodes}
use Rattle.par_scope.specs.declared.meaning.Receiver.{Receiver}
use Rattle.par_scope.specs.declared.meaning.Callee.{Callee}
use Rattle.par_scope.specs.Home.{Home}
use Rattle.par_scope.specs.Meaning.{called, callee_type}
use Rattle.par_type_rules.specs.Frames.{Frame}
use Rattle.par_type_rules.specs.TypedExprs.{own_this, callee_on, call, typed_args, mark_of}

-- the receiver of what is called at this spot, of which this is written
abbrev pub receiver_at : Home → Receiver → Callee → MayTExp → Mark → MayTExp
receiver_at home receiver callee written mark =
    callee_on home receiver callee written (own_this home mark.at (mark.point + 1))

abbrev pub call_at : Home → Frame → Receiver → Callee → MayTExp → Exps → Mark → TExp
call_at home frame receiver callee written es mark =
    call home callee (receiver_at home receiver callee written mark)
    (typed_args home frame
    (mark.point + 1 + may_nodes (receiver_at home receiver callee written mark)) es)
    mark

-- the type of what is called by this name
abbrev pub called_type : Home → Receiver → List ℕ → Option Ty
called_type home receiver name = callee_type home.table (called home receiver name)

-- the call of this name, with its place and its point
abbrev pub call_named : Home → Frame → Receiver → List ℕ → MayTExp → Exps → ℕ → ℕ → TExp
call_named home frame receiver name written es at point =
    call_at home frame receiver (called home receiver name) written es
    (mark_of at point (called_type home receiver name) false)
