use Rattle.par_placed_fit_laws.proofs.Telling.{named_items_tell}
use Rattle.par_placed_fit_laws.proofs.item_laws.named_items_tell.Goals as goal

pub returns : goal.returns
returns c = named_items_tell
