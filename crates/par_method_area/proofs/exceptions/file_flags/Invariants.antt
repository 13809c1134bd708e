use Rattle.std.proofs.Common.{◌≡◌, map, take}
use Rattle.par_step_laws.specs.Classes.{is_exception}
use Rattle.par_method_area.proofs.exceptions.file_flags.Given as goal

abbrev pub invariant-loop-file : goal.invariant-loop-file
invariant-loop-file l = l.flags ≡ map is_exception (take l.file-index l.files)
