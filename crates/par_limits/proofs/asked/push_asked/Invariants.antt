use Rattle.std.proofs.Common.{◌≡◌, ◌++◌, drop, map}
use Rattle.par_parts.specs.Gathered.{all_of}
use Rattle.par_limits.specs.Asked.{asked_entries}
use Rattle.par_limits.proofs.asked.push_asked.Given as goal

-- those found so far, and those of what is left
abbrev pub invariant-loop-query : goal.invariant-loop-query
invariant-loop-query l =
    l.found.items ++ asked_entries (map (λ lock. lock.now) l.locks.decls)
    (all_of (drop l.query-index l.queries))
    ≡ l.fn.found.items ++ asked_entries (map (λ lock. lock.now) l.locks.decls) (all_of l.queries)
