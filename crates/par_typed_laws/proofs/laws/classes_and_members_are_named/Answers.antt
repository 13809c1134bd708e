use Rattle.par_typed_laws.proofs.Whole as whole
use Rattle.par_typed_laws.proofs.laws.classes_and_members_are_named.Goals as goal

pub returns : goal.returns
returns c = whole.classes_and_members_are_named
