use Rattle.std.proofs.Common.{◌≡◌, map, take}
use Rattle.par_erase.specs.Shown.{param_info}
use Rattle.par_erase.specs.Erased.{erased_param}
use Rattle.par_erase.proofs.members.erase_params.Given as goal

-- those that were gone over
abbrev pub invariant-loop-param : goal.invariant-loop-param
invariant-loop-param l = map param_info l.found ≡ map erased_param (take l.param-index l.params)
