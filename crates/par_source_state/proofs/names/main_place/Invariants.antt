use Rattle.std.proofs.Common.{◌≡◌, ◌+◌, codes, drop}
use Rattle.par_run_laws.specs.Names.{place_of}
use Rattle.par_source_state.proofs.names.main_place.Given as goal

abbrev pub invariant-loop-place : goal.invariant-loop-place
invariant-loop-place l =
    place_of (codes "main") l.methods
    ≡ l.place + place_of (codes "main") (drop l.place l.methods)
