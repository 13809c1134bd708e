use Rattle.par_source_code_laws.proofs.PlaceableBodies.{all_named}
use Rattle.par_source_code_laws.proofs.placeable_laws.frames_name_classes.Goals as goal

pub returns : goal.returns
returns c = all_named
