use Rattle.std.proofs.Common.{◌≡◌, ◌++◌, length, drop}
use Rattle.par_kinds.specs.Passes.{merge_all}
use Rattle.par_frame_steps.specs.Marks.{names, kinds_of}
use Rattle.par_frame_steps.specs.Piled.{joined, AreWhole}
use Rattle.par_frame_steps.proofs.pile.merged_pieces.Given as goal

-- those so far, and behind them what is left
abbrev pub invariant-loop-place : goal.invariant-loop-place
invariant-loop-place l =
    (length l.all.items ≡ l.place)
    × (l.merges ≡ names l.exceptions)
    × AreWhole l.all.items
    × (kinds_of (joined l.all.items)
    ++ merge_all (names l.exceptions) (kinds_of (joined (drop l.place l.pieces)))
    (kinds_of (joined (drop l.place l.others)))
    ≡ merge_all (names l.exceptions) (kinds_of (joined l.pieces)) (kinds_of (joined l.others)))
