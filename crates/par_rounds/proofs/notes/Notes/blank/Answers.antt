use Rattle.par_rounds.proofs.notes.Notes.blank.Goals as goal

pub write-requires : goal.write-requires
write-requires c = c.no_fact.ensures.locals c.args.self.now.locals
