use Rattle.par_verify_laws.proofs.Texts as texts
use Rattle.par_verify_laws.proofs.linked_laws.texts_tell_acts.Goals as goal

pub returns : goal.returns
returns c = texts.texts_tell_acts
