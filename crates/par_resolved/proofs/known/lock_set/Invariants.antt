use Rattle.std.proofs.Common.{◌≡◌, map, take}
use Rattle.par_resolved.specs.Sets.{set_of}
use Rattle.par_resolved.specs.Numbers.{lock_number}
use Rattle.par_resolved.specs.Seen.{seen}
use Rattle.par_resolved.proofs.known.lock_set.Given as goal

abbrev pub invariant-loop-lock : goal.invariant-loop-lock
invariant-loop-lock l =
    l.set ≡ set_of (map (lock_number (seen l.numbers)) (take l.lock-index l.locks))
