use Rattle.std.proofs.Common.{◌≡◌, take}
use Rattle.par_step_laws.specs.Fields.{class_statics}
use Rattle.par_method_area.proofs.statics.class_statics.Given as goal

abbrev pub invariant-loop-file : goal.invariant-loop-file
invariant-loop-file l = l.values.items ≡ class_statics (take l.file-index l.files)
