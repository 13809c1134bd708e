use Rattle.std.proofs.Common.{◌≡◌, map, take}
use Rattle.std.specs.List.{AllByRecursion}
use Rattle.par_base.specs.Names.{IsName}
use Rattle.par_erase.specs.Shown.{field_info}
use Rattle.par_erase.specs.Erased.{erased_field}
use Rattle.par_erase.proofs.members.erase_fields.Given as goal

-- those that were gone over
abbrev pub invariant-loop-field : goal.invariant-loop-field
invariant-loop-field l = record {
  infos : map field_info l.found ≡ map erased_field (take l.field-index l.fields);
  named : AllByRecursion (λ f. IsName f.name) (map field_info l.found);
}
