-- Throws of two parts, joined class by class, and throws without a class.
use Rattle.std.specs.Prelude.{ℕ, cond, nat_eq, Option, Some, None, List, [], ◌∷◌, ◌++◌}
use Rattle.par_program_laws.specs.Lattice.{numbers}
use Rattle.par_program_laws.specs.Ways as rules
use Rattle.par_except.specs.Joins.{join}
use Rattle.par_except.specs.Exits.{Throw, thrown}

-- what is made of each throw, one after the other
abbrev pub each : (Throw → List Throw) → List Throw → List Throw
each f [] = []
each f (t ∷ ts) = f t ++ each f ts

abbrev pub joined : rules.Way numbers → Option (rules.Way numbers) → rules.Way numbers
joined w None = w
joined w (Some x) = join w x

-- the throw, joined with that of its class
abbrev pub joined_with : List Throw → Throw → List Throw
joined_with other t = (t.0, joined t.1 (thrown other t.0)) ∷ []

-- the throw where its class is not among the others
abbrev pub unless : Option (rules.Way numbers) → Throw → List Throw
unless None t = t ∷ []
unless (Some w) t = []

abbrev pub apart_from : List Throw → Throw → List Throw
apart_from others t = unless (thrown others t.0) t

-- the throw, unless it is of this class
abbrev pub but : ℕ → Throw → List Throw
but class t = cond (nat_eq t.0 class) [] (t ∷ [])

-- the throws of both lists, class by class
abbrev pub both : List Throw → List Throw → List Throw
both one other = each (joined_with other) one ++ each (apart_from one) other
