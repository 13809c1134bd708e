-- What the kept ways mean.
use Rattle.std.specs.Prelude.{◌≡◌, ◌<◌, ◌⊎◌, ℕ, cond, nat_eq, Option, Some, None, List, [], ◌∷◌}
use Rattle.std.specs.Prelude.{All, length, slice_get}
use Rattle.par_bits.specs.Sets.{has}
use Rattle.par_program_laws.specs.Lattice.{numbers}
use Rattle.par_program_laws.specs.Ways.{Way}
use Rattle.par_program_laws.specs.Kinds as kind
use Rattle.par_program_laws.specs.Kinds.{Kind}
use Rattle.par_locks.specs.par_except.Seen.{locals}
use Rattle.par_locks.specs.par_pass_laws.Exits.{Exit, at}
use Rattle.par_flow.specs.declared.kept.KeptWay.{KeptWay}
use Rattle.par_flow.specs.declared.kept.KeptWays.{KeptWays}

-- the way with these policies of locals
abbrev pub way_with : List ℕ → KeptWay → Way numbers
way_with env k = record { context = has k.context; env = locals env; locks = has k.locks }

-- it is the way with the environment that its number names
abbrev pub ShowsWay : List (List ℕ) → KeptWay → Way numbers → Type 0
ShowsWay es k w = (env : List ℕ) × (slice_get es k.env ≡ Some env) × (way_with env k ≡ w)

abbrev pub MayShow : List (List ℕ) → Option KeptWay → Option (Way numbers) → Type 0
MayShow es None None = Unit {0}
MayShow es None (Some w) = ⊥
MayShow es (Some k) None = ⊥
MayShow es (Some k) (Some w) = ShowsWay es k w

-- the first way that is kept for the class
abbrev pub thrown : List (ℕ × KeptWay) → ℕ → Option KeptWay
thrown [] class = None
thrown (t ∷ ts) class = cond (nat_eq t.0 class) (Some t.1) (thrown ts class)

-- the way of each completion
abbrev pub exit_of : KeptWays → Kind → Option KeptWay
exit_of ways kind.Normal = ways.normal
exit_of ways kind.Return = ways.ret
exit_of ways kind.Break = ways.brk
exit_of ways kind.Continue = ways.cont
exit_of ways (kind.Throw class) = thrown ways.throws class

-- the throws among exits
abbrev pub ShowThrows : List (List ℕ) → List (ℕ × KeptWay) → List Exit → Type 0
ShowThrows es ts xs = (class : ℕ) → MayShow es (thrown ts class) (at xs (kind.Throw class))

-- each class stands once at most
abbrev pub AreOnce : List (ℕ × KeptWay) → Type 0
AreOnce [] = Unit {0}
AreOnce (t ∷ ts) = (thrown ts t.0 ≡ None) × AreOnce ts

-- the way has the environment of the number
abbrev pub HasEnv : ℕ → Option KeptWay → Type 0
HasEnv n None = ⊥
HasEnv n (Some k) = k.env ≡ n

-- the way of a throw has it
abbrev pub Throws : ℕ → List (ℕ × KeptWay) → Type 0
Throws n ts = (class : ℕ) × HasEnv n (thrown ts class)

-- that of a completion has it
abbrev pub Leaves : ℕ → KeptWays → Type 0
Leaves n ways = (k : Kind) × HasEnv n (exit_of ways k)

-- each number names an environment that was there before, or is one of these
abbrev pub AddsOnly : List (List ℕ) → List (List ℕ) → (ℕ → Type 0) → Type 0
AddsOnly es fs IsNamed = (n : ℕ) → n < length fs → (n < length es) ⊎ IsNamed n

-- each environment has the policies of so many locals
abbrev pub AreLong : ℕ → List (List ℕ) → Type 0
AreLong n es = All (λ env. length env ≡ n) es
