use Rattle.std.proofs.Common.{◌≡◌, drop}
use Rattle.par_refusals.specs.First.{first_of}
use Rattle.par_scope.specs.Home.{seen}
use Rattle.par_type_rules.specs.Methods.{fields_faults}
use Rattle.par_type_rules.proofs.methods.check_fields.Given as goal

-- what was found so far, and what is left
abbrev pub invariant-loop-field : goal.invariant-loop-field
invariant-loop-field l =
    first_of l.findings (fields_faults (seen l.home) (drop l.field-index l.fields))
    ≡ first_of l.fn.findings (fields_faults (seen l.home) l.fields)
