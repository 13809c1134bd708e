use Rattle.par_verify_laws.proofs.Turns as turns
use Rattle.par_verify_laws.proofs.sound_laws.states_stay_fit.Goals as goal

pub returns : goal.returns
returns c = turns.states_stay_fit
