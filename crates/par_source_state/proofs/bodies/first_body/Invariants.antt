use Rattle.std.proofs.Common.{◌≡◌, drop}
use Rattle.par_typed.specs.Shown.{bodies}
use Rattle.par_run_laws.specs.Names.{body_of}
use Rattle.par_source_state.proofs.bodies.first_body.Given as goal

abbrev pub invariant-loop-body : goal.invariant-loop-body
invariant-loop-body l =
    body_of (bodies l.all) l.class l.method
    ≡ body_of (bodies (drop l.body-index l.all)) l.class l.method
