use Rattle.par_class.proofs.Files.{one_file}
use Rattle.par_class.proofs.laws.spelling_is_one.Goals as goal

pub returns : goal.returns
returns c = λ bytes one other p q. one_file bytes one other p q
