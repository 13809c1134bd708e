use Rattle.std.proofs.Common.{◌≡◌, ◌*◌, drop}
use Rattle.par_frame_steps.specs.declared.pile.TheConstants.{PIECE}
use Rattle.par_place_kinds.specs.Listed.{listed_into}
use Rattle.par_frame_steps.specs.Marks.{names, kinds_of}
use Rattle.par_frame_steps.proofs.pile.Pile.listed_into.Given as goal

-- what is left decides
abbrev pub invariant-loop-place : goal.invariant-loop-place
invariant-loop-place l =
    listed_into (names l.exceptions) (kinds_of (drop (l.place * PIECE) l.self))
    (kinds_of (drop (l.place * PIECE) l.other))
    ≡ listed_into (names l.exceptions) (kinds_of l.self) (kinds_of l.other)
