use Rattle.par_frame_forms.proofs.Again as again
use Rattle.par_frame_forms.proofs.laws.spelled_forms_are_read.Goals as goal

pub returns : goal.returns
returns c = again.spelled_forms_are_read
