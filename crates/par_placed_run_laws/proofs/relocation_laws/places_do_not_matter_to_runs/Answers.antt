use Rattle.par_placed_run_laws.proofs.Placed as placed
use Rattle.par_placed_run_laws.proofs.relocation_laws.places_do_not_matter_to_runs.Goals as goal

pub returns : goal.returns
returns c = placed.same_runs
