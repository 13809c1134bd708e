use Rattle.std.proofs.Common.{◌≡◌, drop}
use Rattle.std.specs.List.{flat_map}
use Rattle.par_tree.specs.Shown.{methods}
use Rattle.par_refusals.specs.First.{first_of}
use Rattle.par_names.specs.Methods.{method_faults}
use Rattle.par_names.specs.Seen.{seen, class_seen}
use Rattle.par_faults.proofs.methods.check_methods.Given as goal

abbrev pub invariant-loop-method : goal.invariant-loop-method
invariant-loop-method l =
    first_of l.findings (flat_map (method_faults (seen l.view) (class_seen l.own))
    (methods (drop l.method-index l.methods)))
    ≡ first_of l.fn.findings
    (flat_map (method_faults (seen l.view) (class_seen l.own)) (methods l.methods))
