use Rattle.par_compile_laws.proofs.Described.{fields_are_described, methods_are_described}
use Rattle.par_compile_laws.proofs.descriptor_laws.descriptors_say_types.Goals as goal

pub returns-clause-fields : goal.returns-clause-fields
returns-clause-fields c = fields_are_described

pub returns-clause-methods : goal.returns-clause-methods
returns-clause-methods c = methods_are_described
