-- What is assigned to, as the definitions have it.
use Rattle.par_typed.specs.Shown.{shown}
use Rattle.par_type_rules.specs.TypedStmts.{Target, Nowhere, ToLocal, ToStatic, ToField}
use Rattle.par_annotation.specs.declared.targets.Target as code
use Rattle.par_annotation.specs.declared.targets.Target.TheVariants as target
use Rattle.par_annotation.specs.Seen.{var_seen}

abbrev pub target_seen : code.Target → Target
target_seen target.Nowhere = Nowhere
target_seen (target.Local var) = ToLocal (var_seen var)
target_seen (target.Static field) = ToStatic field
target_seen (target.Field of field) = ToField (shown of) field
