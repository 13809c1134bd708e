use Rattle.par_source_state.proofs.Stores.{nothing_held}
use Rattle.par_source_state.proofs.store.Store.new.Goals as goal

pub returns : goal.returns
returns c = nothing_held c.new.result c.new-2.result c.new-3.result c.new-4.result c.new-5.result
    c.new.ensures.empty c.new-2.ensures.empty c.new-3.ensures.empty c.new-4.ensures.empty
    c.new-5.ensures
