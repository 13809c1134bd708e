use Rattle.par_link_laws.proofs.ClassesRead as reads
use Rattle.par_link_laws.proofs.laws.named_classes_are_loaded.Goals as goal

pub returns : goal.returns
returns c = reads.named_classes_are_loaded
