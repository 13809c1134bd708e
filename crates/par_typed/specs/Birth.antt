-- Who may learn that an object is made.
use Rattle.std.specs.Prelude.{ℕ, List, Option, Some, None, slice_get}
use Rattle.par_policy.specs.declared.clauses.Clause.{Clause}
use Rattle.par_typed.specs.declared.table.ClassInfo.{ClassInfo}
use Rattle.par_typed.specs.declared.table.Table.{Table}

-- the birth policy of a class, where its number is that of a policy
abbrev pub class_birth : List (List Clause) → Option ClassInfo → Option (List Clause)
class_birth policies None = None
class_birth policies (Some class) = slice_get policies class.birth

-- the birth policy of the class of this number, where there is one
abbrev pub birth_of : Table → ℕ → Option (List Clause)
birth_of table class = class_birth table.policies (slice_get table.classes class)
