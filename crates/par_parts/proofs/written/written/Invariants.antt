use Rattle.std.proofs.Common.{◌≡◌, ◌++◌, drop}
use Rattle.par_parts.specs.Gathered.{all_of}
use Rattle.par_tree.specs.Shown.{all_declared}
use Rattle.par_parts.specs.Written.{written}
use Rattle.par_parts.proofs.written.written.Given as goal

-- those found so far, and those of what is left
abbrev pub invariant-loop-decl : goal.invariant-loop-decl
invariant-loop-decl l =
    all_of l.found.items ++ written (all_declared (drop l.decl-index l.program.decls))
    ≡ written (all_declared l.program.decls)
