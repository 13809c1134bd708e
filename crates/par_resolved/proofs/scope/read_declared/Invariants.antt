use Rattle.std.proofs.Common.{◌≡◌, drop}
use Rattle.par_resolved.specs.Policies.{known_behind}
use Rattle.par_resolved.specs.Seen.{known_seen}
use Rattle.par_parts.specs.Gathered.{all_of}
use Rattle.par_resolved.proofs.scope.read_declared.Given as goal

-- what is left is read by what is known so far
abbrev pub invariant-loop-decl : goal.invariant-loop-decl
invariant-loop-decl l =
    known_behind (known_seen l.read) (all_of (drop l.decl-index l.decls))
    ≡ known_behind (known_seen l.fn.known) (all_of l.decls)
