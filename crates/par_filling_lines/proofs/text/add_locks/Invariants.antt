use Rattle.std.proofs.Common.{◌≡◌, ◌++◌, take}
use Rattle.std.specs.Prelude.{codes}
use Rattle.std.specs.List.{flat_map}
use Rattle.par_trace.specs.Texts.{lock_text}
use Rattle.par_filling_lines.proofs.text.add_locks.Given as goal

abbrev pub invariant-loop-lock : goal.invariant-loop-lock
invariant-loop-lock l =
    l.text.items ≡ l.initial.text.items
    ++ flat_map (λ y. codes ", " ++ lock_text l.table y) (take l.lock-index l.rest)
