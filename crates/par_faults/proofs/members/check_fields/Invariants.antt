use Rattle.std.proofs.Common.{◌≡◌, take}
use Rattle.std.specs.List.{flat_map}
use Rattle.par_refusals.specs.First.{first_of}
use Rattle.par_names.specs.Methods.{field_faults}
use Rattle.par_names.specs.Seen.{seen}
use Rattle.par_faults.proofs.members.check_fields.Given as goal

-- those that were gone over are noted
abbrev pub invariant-loop-field : goal.invariant-loop-field
invariant-loop-field l =
    l.findings ≡ first_of l.fn.findings
    (flat_map (field_faults (seen l.view) l.birth) (take l.field-index l.fields))
