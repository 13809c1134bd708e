use Rattle.par_source_code_laws.proofs.PlaceableBodies.{all_ready}
use Rattle.par_source_code_laws.proofs.placeable_laws.labelled_code_is_placeable.Goals as goal

pub returns : goal.returns
returns c = all_ready
