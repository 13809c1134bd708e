use Rattle.std.proofs.Common.{◌≡◌, ◌<◌, ◌^◌, drop, flat_map}
use Rattle.par_tree.specs.Shown.{methods}
use Rattle.par_refusals.specs.First.{first_of}
use Rattle.par_faults.specs.Limits.{method_limits}
use Rattle.par_parser.specs.Bodies.{methods_size}
use Rattle.par_faults.proofs.counts.check_methods.Given as goal

abbrev pub invariant-loop-method : goal.invariant-loop-method
invariant-loop-method l = record {
  few : methods_size (methods (drop l.method-index l.methods)) < 2 ^ 32;
  found : first_of l.findings (flat_map method_limits (methods (drop l.method-index l.methods)))
      ≡ first_of l.fn.findings (flat_map method_limits (methods l.methods));
}
