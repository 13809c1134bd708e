-- Parts of a table, as they are made one after the other.
use Rattle.std.specs.Prelude.{ℕ, ◌+◌, Bool, ◌||◌, if◌then◌else◌, List, map, filter}
use Rattle.std.specs.Prelude.{Some, None}
use Rattle.std.specs.Option.{is_some}
use Rattle.par_policy.specs.declared.clauses.Clause.{Clause}
use Rattle.par_policy.specs.Numbers.{has}
use Rattle.par_tree.specs.declared.decl.LockDecl.{LockDecl}
use Rattle.par_tree.specs.declared.decl.FieldDecl.{FieldDecl}
use Rattle.par_typed.specs.declared.table.GroundLock.{GroundLock}
use Rattle.par_resolved.specs.Numbers.{place_in_family}
use Rattle.par_resolved.specs.Policies.{Known, bottom}

-- an inferred policy begins as `bottom`
abbrev pub inferred_policy : Known → FieldDecl → List Clause
inferred_policy k field = bottom k.numbers

abbrev pub inferred_policies : Known → List FieldDecl → List (List Clause)
inferred_policies k fields = map (inferred_policy k) (filter (λ f. f.inferred) fields)

-- a ground lock with this policy, where it has a policy at all
abbrev pub lock_with : ℕ → Bool → LockDecl → List ℕ → GroundLock
lock_with policy is_queried lock actors = record {
  name = lock.id.name;
  actors = actors;
  policy = if is_some lock.policy || is_queried then Some policy else None;
}

-- the lock that these actors choose, of so many, in a family with this first number
abbrev pub made_lock : ℕ → List ℕ → ℕ → ℕ → LockDecl → List ℕ → GroundLock
made_lock policy queries count first lock actors =
    lock_with policy (has queries (first + place_in_family count actors)) lock actors
