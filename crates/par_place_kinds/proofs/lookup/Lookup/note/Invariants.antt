use Rattle.std.proofs.Common.{◌≡◌}
use Rattle.par_place_kinds.proofs.lookup.Lookup.note.Given as goal

-- slots alone change
abbrev pub invariant-loop-step : goal.invariant-loop-step
invariant-loop-step l = l.self-inside.kinds.items ≡ l.initial.self-inside.kinds.items
