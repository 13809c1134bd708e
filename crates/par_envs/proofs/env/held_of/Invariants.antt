use Rattle.std.proofs.Common.{◌≡◌, ℕ, ◌<◌, ◌≤◌}
use Rattle.par_envs.specs.Same.{policy}
use Rattle.par_envs.specs.Told.{told, IsFree}
use Rattle.par_envs.proofs.env.held_of.Given as goal

abbrev pub invariant-loop-local : goal.invariant-loop-local
invariant-loop-local l = record {
  tells : (i : ℕ) → i < l.local → policy l.policies i ≡ told l.held.items i;
  free : (i : ℕ) → l.local ≤ i → IsFree l.held.items i;
}
