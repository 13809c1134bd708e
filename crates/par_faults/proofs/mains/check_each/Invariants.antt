use Rattle.std.proofs.Common.{◌≡◌, take, map}
use Rattle.std.specs.List.{flat_map}
use Rattle.par_tree.specs.Shown.{method}
use Rattle.par_refusals.specs.First.{first_of}
use Rattle.par_names.specs.Program.{main_fault}
use Rattle.par_faults.proofs.mains.check_each.Given as goal

-- those that were gone over are noted
abbrev pub invariant-loop-main : goal.invariant-loop-main
invariant-loop-main l =
    l.findings ≡ first_of l.fn.findings
    (flat_map main_fault (map (λ m. method m.now) (take l.main-index l.mains)))
