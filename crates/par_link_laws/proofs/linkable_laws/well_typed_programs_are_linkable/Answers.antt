use Rattle.par_link_laws.proofs.WellTyped as whole
use Rattle.par_link_laws.proofs.linkable_laws.well_typed_programs_are_linkable.Goals as goal

pub returns : goal.returns
returns c = whole.well_typed_programs_are_linkable
