use Rattle.par_source_code_laws.proofs.Words.{words_are_texts}
use Rattle.par_source_code_laws.proofs.placeable_laws.words_are_texts.Goals as goal

pub returns : goal.returns
returns c = words_are_texts
