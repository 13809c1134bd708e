-- Locals that stay in scope.
use Rattle.std.specs.Prelude.{◌≡◌, take, length}
use Rattle.par_scope.specs.Locals.{Scope}

-- those in scope before are still the first ones
pub record IsKept (before after : Scope) : Type 0 where
  pub names : take (length before.names) after.names ≡ before.names
  pub slots : take (length before.slots) after.slots ≡ before.slots
