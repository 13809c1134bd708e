use Rattle.std.proofs.Common.{◌≡◌, ◌++◌, drop}
use Rattle.par_parts.specs.Gathered.{all_of}
use Rattle.par_tree.specs.Shown.{all_declared}
use Rattle.par_parts.specs.Written.{queried}
use Rattle.par_parts.proofs.queried.queried.Given as goal

-- those found so far, and those of what is left
abbrev pub invariant-loop-decl : goal.invariant-loop-decl
invariant-loop-decl l =
    all_of l.found.items ++ queried (all_declared (drop l.decl-index l.program.decls))
    ≡ queried (all_declared l.program.decls)
