use Rattle.std.proofs.Common.{◌≡◌, ℕ, ◌<◌}
use Rattle.par_envs.specs.Same.{policy}
use Rattle.par_envs.proofs.apart.first_apart_within.Given as goal

abbrev pub invariant-loop-local : goal.invariant-loop-local
invariant-loop-local l = (i : ℕ) → i < l.local → policy l.one i ≡ policy l.other i
