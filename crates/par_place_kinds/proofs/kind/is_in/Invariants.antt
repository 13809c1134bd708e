use Rattle.std.proofs.Common.{◌≡◌, drop}
use Rattle.par_kinds.specs.Kinds.{is_in}
use Rattle.par_place_kinds.specs.Marks.{names}
use Rattle.par_place_kinds.proofs.kind.is_in.Given as goal

-- what is left decides
abbrev pub invariant-loop-exception : goal.invariant-loop-exception
invariant-loop-exception l =
    is_in (names (drop l.exception-index l.exceptions)) l.name ≡ is_in (names l.exceptions) l.name
