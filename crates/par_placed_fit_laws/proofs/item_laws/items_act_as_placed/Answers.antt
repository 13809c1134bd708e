use Rattle.par_placed_fit_laws.proofs.Placed.{items_act_as_placed}
use Rattle.par_placed_fit_laws.proofs.item_laws.items_act_as_placed.Goals as goal

pub returns : goal.returns
returns c = items_act_as_placed
