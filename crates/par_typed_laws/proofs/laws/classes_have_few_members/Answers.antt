use Rattle.par_typed_laws.proofs.Whole as whole
use Rattle.par_typed_laws.proofs.laws.classes_have_few_members.Goals as goal

pub returns : goal.returns
returns c = whole.classes_have_few_members
