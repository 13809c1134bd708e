use Rattle.std.proofs.Common.{◌≡◌, ◌+◌, drop}
use Rattle.par_scope.specs.Home.{seen}
use Rattle.par_type_rules.specs.TypedBodies.{with_params}
use Rattle.par_annotation.specs.Seen.{frame_seen}
use Rattle.par_annotation.proofs.bodies.declare_params.Given as goal

-- what the parameters that are left make of the frame
abbrev pub invariant-loop-param : goal.invariant-loop-param
invariant-loop-param l = record {
  declared : with_params (seen l.home) (frame_seen l.frame) (drop l.param-index l.params)
      ≡ with_params (seen l.home) (frame_seen l.fn.frame) l.params;
  counted : l.frame.next ≡ l.fn.frame.next + l.param-index;
}
