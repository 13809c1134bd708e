-- What is kept of a frame while statements are made.
use Rattle.std.specs.Prelude.{◌≡◌, ℕ, ◌+◌, take, length}
use Rattle.par_type_rules.specs.Kept.{IsKept}
use Rattle.par_type_rules.specs.Frames.{Frame}

-- what was in scope still is, and so many more locals were declared
pub record Keeps (old : Frame) (n : ℕ) (new : Frame) : Type 0 where
  pub scope : IsKept old.scope new.scope
  pub vars : take (length old.vars) new.vars ≡ old.vars
  pub next : new.next ≡ old.next + n
