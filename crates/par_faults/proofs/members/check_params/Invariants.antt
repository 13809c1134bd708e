use Rattle.std.proofs.Common.{◌≡◌, take}
use Rattle.std.specs.List.{flat_map}
use Rattle.par_refusals.specs.First.{first_of}
use Rattle.par_names.specs.Methods.{param_faults}
use Rattle.par_names.specs.Seen.{seen}
use Rattle.par_faults.proofs.members.check_params.Given as goal

-- those that were gone over are noted
abbrev pub invariant-loop-param : goal.invariant-loop-param
invariant-loop-param l =
    l.findings ≡ first_of l.fn.findings
    (flat_map (param_faults (seen l.view)) (take l.param-index l.params))
