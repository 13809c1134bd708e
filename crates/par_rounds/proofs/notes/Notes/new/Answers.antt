use Rattle.par_rounds.proofs.notes.Notes.new.Goals as goal

pub returns-clause-wide : goal.returns-clause-wide
returns-clause-wide c = c.in_ok-rows.ensures.locals c.args.locals
