use Rattle.par_verify_laws.proofs.Linking as linking
use Rattle.par_verify_laws.proofs.linked_laws.linked_files_are_right.Goals as goal

pub returns : goal.returns
returns c = linking.linked_files_are_right
