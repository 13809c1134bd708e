use Rattle.std.proofs.Common.{◌≡◌, ◌++◌, drop, map}
use Rattle.par_table.specs.Parts.{made_lock}
use Rattle.par_table.proofs.locks.push_chosen.Given as goal

-- those made so far, and those of what is left
abbrev pub invariant-loop-actors : goal.invariant-loop-actors
invariant-loop-actors l =
    l.found ++ map (made_lock l.family.policy l.queries l.count l.family.first l.family.decl.now)
    (drop l.actors-index l.choices)
    ≡ l.fn.found ++ map
    (made_lock l.family.policy l.queries l.count l.family.first l.family.decl.now) l.choices
