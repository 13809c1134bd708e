-- The policies of a table: first those of all that is written or omitted, each once, and behind
-- them one for each inferred field.
use Rattle.std.specs.Prelude.{◌≡◌, ◌≢◌, ℕ, ◌+◌, ◌<◌, false, nat_lt, List, length, slice_get}
use Rattle.std.specs.Prelude.{Option, Some, None}
use Rattle.std.specs.Prelude.{map, filter, flat_map}
use Rattle.std.specs.List.{AllByRecursion, range_with_len}
use Rattle.par_typed.specs.par_policy.declared.clauses.Clause.{Clause}
use Rattle.par_typed.specs.par_policy.Normal.{IsNormal}
use Rattle.par_typed.specs.declared.table.GroundLock.{GroundLock}
use Rattle.par_typed.specs.declared.table.FieldInfo.{FieldInfo}
use Rattle.par_typed.specs.declared.table.MethodInfo.{MethodInfo}
use Rattle.par_typed.specs.declared.table.ClassInfo.{ClassInfo}
use Rattle.par_typed.specs.declared.table.Table.{Table}
use Rattle.par_program_laws.specs.Lattice.{IsSeenBelow}
use Rattle.par_program_laws.specs.Births.{seen_at}

-- numbers below this one
module _ (shared : ℕ) where
  abbrev pub MayShare : Option ℕ → Type 0
  MayShare None = Unit {0}
  MayShare (Some n) = n < shared

  abbrev pub LockShares : GroundLock → Type 0
  LockShares l = MayShare l.policy

  abbrev pub FieldShares : FieldInfo → Type 0
  FieldShares f = f.inferred ≡ false → f.policy < shared

  pub record MethodShares (m : MethodInfo) : Type 0 where
    pub result : m.policy < shared
    pub params : AllByRecursion (λ p. p.policy < shared) m.params
    pub effect : m.effect < shared
    pub throws : AllByRecursion (λ t. t.policy < shared) m.throws

  pub record ClassShares (c : ClassInfo) : Type 0 where
    pub birth : c.birth < shared
    pub fields : AllByRecursion FieldShares c.fields
    pub channels : AllByRecursion (λ k. k.policy < shared) c.channels
    pub methods : AllByRecursion MethodShares c.methods

-- the numbers of the inferred fields, in the order of the fields
abbrev pub inferred_numbers : Table → List ℕ
inferred_numbers table =
    map (λ f. f.policy) (filter (λ f. f.inferred) (flat_map (λ c. c.fields) table.classes))

-- only declared actors are in the clauses
abbrev pub HasActors : ℕ → List Clause → Type 0
HasActors actors policy = AllByRecursion (λ c. c.actor < actors) policy

pub record ArePoliciesShared (table : Table) : Type 0 where
  -- so many are shared
  pub shared : ℕ
  pub some : 0 < shared
  pub locks : AllByRecursion (LockShares shared) table.locks
  pub classes : AllByRecursion (ClassShares shared) table.classes
  -- the others are those of the inferred fields, one by one
  pub count : length table.policies ≡ shared + length (inferred_numbers table)
  pub behind : inferred_numbers table ≡ range_with_len shared (length (inferred_numbers table))
  -- shared ones differ
  pub differ : (i j : ℕ) → i < j → j < shared
      → slice_get table.policies i ≢ slice_get table.policies j
  pub normal : AllByRecursion IsNormal table.policies
  -- number 0 is `bottom`, which all declared actors see with whatever locks
  pub bottom : (actor : ℕ) (locks : List ℕ)
      → seen_at table 0 actor locks ≡ nat_lt actor (length table.actors)
  pub actors : AllByRecursion (HasActors (length table.actors)) table.policies
  -- so it is below each of them
  pub lowest : (n : ℕ) → n < length table.policies → IsSeenBelow (seen_at table 0) (seen_at table n)
