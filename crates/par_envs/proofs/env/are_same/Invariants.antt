use Rattle.std.proofs.Common.{◌≡◌, ℕ, ◌<◌, get_or}
use Rattle.par_envs.specs.declared.env.Held.{Held}
use Rattle.par_envs.proofs.env.are_same.Given as goal

-- those so far are the same
abbrev pub invariant-loop-place : goal.invariant-loop-place
invariant-loop-place l =
    (k : ℕ) (d : Held) → k < l.place → get_or l.one k d ≡ get_or l.other k d
