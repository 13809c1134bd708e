use Rattle.std.proofs.Common.{◌≡◌, ◌++◌, drop}
use Rattle.par_kinds.specs.Linked.{exception_names}
use Rattle.par_frame_steps.specs.Marks.{names}
use Rattle.par_verify.proofs.Naming.{left_names}
use Rattle.par_verify.proofs.names.exception_names.Given as goal

-- with those of the files that are left they are all
abbrev pub invariant-loop-file : goal.invariant-loop-file
invariant-loop-file l =
    names l.all.items ++ left_names l.linked l.file-index (drop l.file-index l.linked)
    ≡ exception_names l.linked
