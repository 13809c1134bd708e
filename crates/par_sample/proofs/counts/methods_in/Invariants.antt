use Rattle.std.proofs.Common.{◌≡◌, ◌+◌, drop}
use Rattle.par_sample.specs.Counted.{method_count}
use Rattle.par_sample.proofs.counts.methods_in.Given as goal

abbrev pub invariant-loop-class : goal.invariant-loop-class
invariant-loop-class l =
    l.methods + method_count (drop l.class-index l.classes) ≡ method_count l.classes
