-- What a body knows where a typed tree is made.
use Rattle.std.specs.Prelude.{ℕ, ◌+◌, List, [], ◌∷◌, ◌++◌, Option, Some, None, slice_get}
use Rattle.par_scope.specs.declared.locals.Slot.{Slot}
use Rattle.par_scope.specs.Names.{number_in}
use Rattle.par_scope.specs.Locals.{Scope, declared}

-- the number of a local, and that of the policy that its declaration writes
pub record Var : Type 0 where
  pub number : ℕ
  pub policy : Option ℕ

-- the locals in scope with their numbers, and the number of the next one
pub record Frame : Type 0 where
  pub scope : Scope
  pub vars : List Var
  pub next : ℕ

-- with one more local
abbrev pub with_local : Frame → List ℕ → Slot → Option ℕ → Frame
with_local frame name slot policy = record {
  scope = declared frame.scope name slot;
  vars = frame.vars ++ record { number = frame.next; policy = policy } ∷ [];
  next = frame.next + 1;
}

-- behind other locals that have left the scope
abbrev pub further : Frame → ℕ → Frame
further frame n = record { scope = frame.scope; vars = frame.vars; next = frame.next + n }

abbrev pub var_at : List Var → Option ℕ → Option Var
var_at vars None = None
var_at vars (Some place) = slice_get vars place

-- the local that a name stands for
abbrev pub var_named : Frame → List ℕ → Option Var
var_named frame name = var_at frame.vars (number_in frame.scope.names name)
