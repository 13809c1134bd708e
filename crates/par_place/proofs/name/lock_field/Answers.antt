use Rattle.par_place.proofs.Texts.{lock_text}
use Rattle.par_place.proofs.name.lock_field.Goals as goal

pub returns-in_err-digits-clause-text : goal.returns-in_err-digits-clause-text
returns-in_err-digits-clause-text c = lock_text c.args.lock c.requires
