use Rattle.std.proofs.Common.{◌≡◌, drop}
use Rattle.par_except.specs.Exits.{seen_throws, thrown}
use Rattle.par_except.proofs.throws.way_of.Given as goal

abbrev pub invariant-loop-throw : goal.invariant-loop-throw
invariant-loop-throw l =
    thrown (seen_throws (drop l.throw-index l.throws)) l.class
    ≡ thrown (seen_throws l.throws) l.class
