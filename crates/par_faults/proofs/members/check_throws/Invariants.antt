use Rattle.std.proofs.Common.{◌≡◌, take}
use Rattle.std.specs.List.{flat_map}
use Rattle.par_refusals.specs.First.{first_of}
use Rattle.par_names.specs.Methods.{throw_faults}
use Rattle.par_names.specs.Seen.{seen}
use Rattle.par_faults.proofs.members.check_throws.Given as goal

-- those that were gone over are noted
abbrev pub invariant-loop-throw : goal.invariant-loop-throw
invariant-loop-throw l =
    l.findings ≡ first_of l.fn.findings
    (flat_map (throw_faults (seen l.view)) (take l.throw-index l.throws))
