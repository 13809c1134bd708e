use Rattle.par_frame_forms.proofs.Exact as exact
use Rattle.par_frame_forms.proofs.laws.read_forms_are_spelled.Goals as goal

pub returns : goal.returns
returns c = exact.read_forms_are_spelled
