-- The law of points.
use Rattle.std.specs.Prelude.{◌≡◌}
use Rattle.par_tree.specs.Plain.{Method}
use Rattle.par_completes.specs.par_typed.Nodes.{stmt_nodes}
use Rattle.par_scope.specs.Home.{Home}
use Rattle.par_type_rules.specs.TypedStmts.{Written}
use Rattle.par_type_rules.specs.TypedBodies.{typed_body}
use Rattle.par_type_rules.specs.Points.{count_from, stmt_points}

-- the points of each body are the numbers below the count of its nodes, each once, in their order
abbrev pub PointsCount : Type 0
PointsCount = (w : Written) (home : Home) (m : Method)
    → stmt_points (typed_body w home m).body ≡ count_from 0 (stmt_nodes (typed_body w home m).body)
