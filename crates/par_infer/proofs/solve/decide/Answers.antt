use Rattle.par_infer.proofs.Whole.{few_effects}
use Rattle.par_infer.proofs.solve.decide.Goals as goal

pub least_sets-requires-clause-effects : goal.least_sets-requires-clause-effects
least_sets-requires-clause-effects g c =
    few_effects c.args.typed.now.table c.requires.declared c.requires.policies
