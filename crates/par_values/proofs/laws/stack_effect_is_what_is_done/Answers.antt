use Rattle.par_values.proofs.Changes.{takes_and_gives, none_of_members, change_is_given_less_taken}
use Rattle.par_values.proofs.Changes.{change_is_made, leaving_takes}
use Rattle.par_values.proofs.laws.stack_effect_is_what_is_done.Goals as goal

pub returns-clause-done : goal.returns-clause-done
returns-clause-done c = takes_and_gives

pub returns-clause-none : goal.returns-clause-none
returns-clause-none c = none_of_members

pub returns-clause-less : goal.returns-clause-less
returns-clause-less c = change_is_given_less_taken

pub returns-clause-made : goal.returns-clause-made
returns-clause-made c = change_is_made

pub returns-clause-leaving : goal.returns-clause-leaving
returns-clause-leaving c = leaving_takes
