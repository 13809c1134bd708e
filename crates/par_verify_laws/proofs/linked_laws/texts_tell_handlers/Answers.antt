use Rattle.par_verify_laws.proofs.Caught as caught
use Rattle.par_verify_laws.proofs.linked_laws.texts_tell_handlers.Goals as goal

pub returns : goal.returns
returns c = caught.texts_tell_handlers
