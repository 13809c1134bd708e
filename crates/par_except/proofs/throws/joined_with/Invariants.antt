use Rattle.std.proofs.Common.{◌≡◌, ◌++◌, ℕ, drop}
use Rattle.par_except.specs.Exits.{seen_throws, ThrowsHaveLocals}
use Rattle.par_except.specs.Throws.{joined_with, each}
use Rattle.par_except.proofs.throws.joined_with.Given as goal

abbrev pub invariant-loop-throw : goal.invariant-loop-throw
invariant-loop-throw l =
    (seen_throws l.kept ++ each (joined_with (seen_throws l.other))
    (seen_throws (drop l.throw-index l.one))
    ≡ each (joined_with (seen_throws l.other)) (seen_throws l.one))
    × ((n : ℕ) → ThrowsHaveLocals n l.one → ThrowsHaveLocals n l.other → ThrowsHaveLocals n l.kept)
