use Rattle.std.proofs.Common.{◌≡◌, drop}
use Rattle.par_typed.specs.Shown as typed
use Rattle.par_erase.specs.Erased.{inputs_in, erased_args}
use Rattle.par_erase.proofs.ExprForms.{args_before}
use Rattle.par_erase.proofs.exprs.+expr.Given as goal

-- what is found, in front of what the arguments that are left come to
abbrev pub invariant-erase_args-loop-arg : goal.invariant-erase_args-loop-arg
invariant-erase_args-loop-arg l =
    args_before (inputs_in l.table) l.found
    (erased_args l.table (typed.all_shown (drop l.arg-index l.args)))
    ≡ erased_args l.table (typed.all_shown l.args)
