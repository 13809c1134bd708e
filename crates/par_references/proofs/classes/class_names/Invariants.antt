use Rattle.std.proofs.Common.{◌≡◌, take}
use Rattle.par_index.specs.Texts.{texts}
use Rattle.par_single.specs.Members.{own_names}
use Rattle.par_references.proofs.classes.class_names.Given as goal

abbrev pub invariant-loop-file : goal.invariant-loop-file
invariant-loop-file l = texts l.names.items ≡ own_names (take l.file-index l.files)
