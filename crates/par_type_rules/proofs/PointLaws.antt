-- The law of points, of whole bodies.
use Rattle.par_type_rules.specs.PointLaws.{PointsCount}
use Rattle.par_type_rules.specs.TypedBodies.{no_frame, with_params}
use Rattle.par_type_rules.proofs.StmtPoints.{typed_braces_counts}

pub points_count : PointsCount
points_count w home m =
    typed_braces_counts w home (with_params home (no_frame m.is_static) m.params) 0 m.body
