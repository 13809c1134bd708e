use Rattle.std.proofs.Common.{◌≡◌, ℕ, ◌<◌, get_or}
use Rattle.par_flow.specs.declared.kept.KeptWay.{KeptWay}
use Rattle.par_flow.proofs.same.are_same_throws.Given as goal

-- those so far are the same
abbrev pub invariant-loop-place : goal.invariant-loop-place
invariant-loop-place l =
    (k : ℕ) (d : ℕ × KeptWay) → k < l.place → get_or l.one k d ≡ get_or l.other k d
