use Rattle.std.proofs.Common.{◌≡◌, map, take}
use Rattle.par_resolved.specs.Sets.{set_of}
use Rattle.par_resolved.specs.Numbers.{lock_number}
use Rattle.par_resolved.specs.Seen.{seen}
use Rattle.par_table.proofs.locks.lock_set.Given as goal

-- those of what was gone over
abbrev pub invariant-loop-lock : goal.invariant-loop-lock
invariant-loop-lock l =
    l.set ≡ set_of (map (λ r. lock_number (seen l.numbers) r.now) (take l.lock-index l.locks))
