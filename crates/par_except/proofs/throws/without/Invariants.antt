use Rattle.std.proofs.Common.{◌≡◌, ◌++◌, ℕ, drop}
use Rattle.par_except.specs.Exits.{seen_throws, ThrowsHaveLocals}
use Rattle.par_except.specs.Throws.{but, each}
use Rattle.par_except.proofs.throws.without.Given as goal

abbrev pub invariant-loop-throw : goal.invariant-loop-throw
invariant-loop-throw l =
    (seen_throws l.kept ++ each (but l.class) (seen_throws (drop l.throw-index l.throws))
    ≡ each (but l.class) (seen_throws l.throws))
    × ((n : ℕ) → ThrowsHaveLocals n l.throws → ThrowsHaveLocals n l.kept)
