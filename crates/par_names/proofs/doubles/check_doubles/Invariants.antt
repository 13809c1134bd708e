use Rattle.std.proofs.Common.{◌≡◌, map, take}
use Rattle.std.specs.List.{flat_map}
use Rattle.par_refusals.specs.First.{first_of}
use Rattle.par_names.specs.Declarations.{double_fault}
use Rattle.par_names.proofs.doubles.check_doubles.Given as goal

-- those that were gone over are noted
abbrev pub invariant-loop-id : goal.invariant-loop-id
invariant-loop-id l =
    l.findings ≡ first_of l.fn.findings
    (flat_map (double_fault (map (λ id. id.now) l.ids))
    (map (λ id. id.now) (take l.id-index l.ids)))
