-- What the code keeps, as the definitions have it.
use Rattle.std.specs.Prelude.{map}
use Rattle.par_typed.specs.Plain.{Mark}
use Rattle.par_type_rules.specs.Frames.{Frame, Var}
use Rattle.par_type_rules.specs.TypedExprs.{mark_of}
use Rattle.par_annotation.specs.declared.frame.Var as var
use Rattle.par_annotation.specs.declared.frame.Frame as frame
use Rattle.par_annotation.specs.declared.node.Spot.{Spot}

abbrev pub var_seen : var.Var → Var
var_seen x = record { number = x.number; policy = x.policy }

abbrev pub frame_seen : frame.Frame → Frame
frame_seen f = record { scope = f.locals; vars = map var_seen f.vars.items; next = f.next }

abbrev pub marked : Spot → Mark
marked s = mark_of s.at s.point s.ty s.sure
