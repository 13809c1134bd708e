use Rattle.std.proofs.Common.{◌≡◌, ◌++◌, ℕ, drop}
use Rattle.par_except.specs.Exits.{seen_throws, ThrowsHaveLocals}
use Rattle.par_except.specs.Throws.{apart_from, each}
use Rattle.par_except.proofs.throws.add_others.Given as goal

abbrev pub invariant-loop-throw : goal.invariant-loop-throw
invariant-loop-throw l =
    (seen_throws l.kept ++ each (apart_from (seen_throws l.one))
    (seen_throws (drop l.throw-index l.other))
    ≡ seen_throws l.initial.kept ++ each (apart_from (seen_throws l.one)) (seen_throws l.other))
    × ((n : ℕ) → ThrowsHaveLocals n l.initial.kept → ThrowsHaveLocals n l.other
    → ThrowsHaveLocals n l.kept)
