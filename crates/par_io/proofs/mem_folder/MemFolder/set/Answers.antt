use Rattle.std.proofs.Common.{arith}
use Rattle.std.proofs.lemmas.Map.Text.{text_keys}
use Rattle.par_io.proofs.mem_folder.MemFolder.set.Goals as goal

pub returns-clause-set : goal.returns-clause-set
returns-clause-set c = grind (arith, text_keys)
