use Rattle.par_typing.proofs.program.type_program.Goals as goal

pub returns-clause-typed : goal.returns-clause-typed
returns-clause-typed c = c.type_known.ensures.typed

pub returns-clause-well_typed : goal.returns-clause-well_typed
returns-clause-well_typed c = c.type_known.ensures.well_typed

pub returns-clause-well_declared : goal.returns-clause-well_declared
returns-clause-well_declared c = c.type_known.ensures.well_declared

pub returns-clause-refused : goal.returns-clause-refused
returns-clause-refused c = c.type_known.ensures.refused
