use Rattle.std.proofs.Common.{◌≡◌, ◌+◌, ◌++◌, drop, sum_by}
use Rattle.par_resolved.specs.Numbers.{ground_count, firsts_from}
use Rattle.par_parts.specs.Gathered.{all_of}
use Rattle.par_resolved.proofs.firsts.firsts.Given as goal

-- those found so far, and those of what is left
abbrev pub invariant-loop-decl : goal.invariant-loop-decl
invariant-loop-decl l = record {
  value : l.found.items ++ firsts_from l.actors l.first (all_of (drop l.decl-index l.decls))
      ≡ firsts_from l.actors 0 (all_of l.decls);
  counted : l.first + sum_by (ground_count l.actors) (all_of (drop l.decl-index l.decls))
      ≡ sum_by (ground_count l.actors) (all_of l.decls);
}
