-- What a table of facts says of points.
use Rattle.std.specs.Prelude.{◌≡◌, ◌<◌, ◌⊎◌, ℕ, Bool, ◌&&◌, not, cond, Option, Some, None, is_some}
use Rattle.std.specs.Prelude.{List, [], ◌∷◌, length, map, slice_get, slice_index_or}
use Rattle.par_policy.specs.Numbers.{has as is_among}
use Rattle.par_typed.specs.declared.table.Table.{Table}
use Rattle.par_typed.specs.Plain.{Body}
use Rattle.par_bits.specs.Sets.{has}
use Rattle.par_program_laws.specs.Lattice.{numbers}
use Rattle.par_program_laws.specs.Ways.{Way}
use Rattle.par_program_laws.specs.Kinds.{Kind}
use Rattle.par_program_laws.specs.Facts.{Fact, Facts, blank}
use Rattle.par_envs.specs.Numbered.{envs, AreDifferent}
use Rattle.par_rounds.specs.Bodies.{AreLeastClosed}
use Rattle.par_flow.specs.Standing.{Standing}
use Rattle.par_program_laws.specs.Orderly.{locals_in}
use Rattle.par_flow.specs.declared.kept.KeptWay.{KeptWay}
use Rattle.par_flow.specs.declared.kept.KeptWays.{KeptWays}
use Rattle.par_flow.specs.declared.table.Row.{Row}
use Rattle.par_flow.specs.declared.table.FactTable.{FactTable}
use Rattle.par_flow.specs.Kept.{exit_of, way_with, AreLong, AreOnce, HasEnv, Leaves, MayShow}
use Rattle.par_flow.specs.Statements.{points}

abbrev pub entry_in : Option Row → Option KeptWay
entry_in None = None
entry_in (Some r) = r.entry

-- what is kept where the node is reached
abbrev pub reached : {A : Type 0} → Option KeptWay → Option A → Option A
reached None o = None
reached (Some k) o = o

abbrev pub value_in : Option Row → Option ℕ
value_in None = None
value_in (Some r) = reached r.entry (cond r.is_statement None (Some r.value))

abbrev pub exits_in : Option Row → Option KeptWays
exits_in None = None
exits_in (Some r) = reached r.entry (Some r.exits.value)

abbrev pub row_at : FactTable → ℕ → Option Row
row_at t point = slice_get t.rows.items point

abbrev pub entry_at : FactTable → ℕ → Option KeptWay
entry_at t point = entry_in (row_at t point)

abbrev pub value_at : FactTable → ℕ → Option ℕ
value_at t point = value_in (row_at t point)

abbrev pub exits_at : FactTable → ℕ → Option KeptWays
exits_at t point = exits_in (row_at t point)

-- the environments by their numbers
abbrev pub envs_in : FactTable → List (List ℕ)
envs_in t = envs t.numbered.entries.items

-- the row is the fact, with the environments that its numbers name
pub record ShowsFact (es : List (List ℕ)) (r : Row) (f : Fact numbers) : Type 0 where
  pub entry : MayShow es r.entry f.entry
  pub value : has r.value ≡ f.value
  pub exits : (k : Kind) → MayShow es (exit_of r.exits.value k) (f.exit k)
  pub once : AreOnce r.exits.value.throws

abbrev pub AllShow : List (List ℕ) → List Row → List (Fact numbers) → Type 0
AllShow es [] [] = Unit {0}
AllShow es [] (f ∷ fs) = ⊥
AllShow es (r ∷ rs) [] = ⊥
AllShow es (r ∷ rs) (f ∷ fs) = ShowsFact es r f × AllShow es rs fs

-- which points are said to be those of statements
abbrev pub flags : List Row → List Bool
flags rs = map (λ r. r.is_statement) rs

abbrev pub may_way : List (List ℕ) → Option KeptWay → Option (Way numbers)
may_way es None = None
may_way es (Some k) = Some (way_with (slice_index_or es k.env []) k)

abbrev pub fact_in : List (List ℕ) → Option Row → Fact numbers
fact_in es None = blank numbers
fact_in es (Some r) = record {
  entry = may_way es r.entry;
  value = has r.value;
  exit = λ k. may_way es (exit_of r.exits.value k);
}

-- the facts that the table keeps
abbrev pub facts_in : FactTable → Facts numbers
facts_in t point = fact_in (envs_in t) (row_at t point)

-- the way that enters the point has the environment of the number, or one that leaves it; no way
-- leaves a point that is not reached
abbrev pub IsNamedIn : ℕ → Row → Type 0
IsNamedIn n r = HasEnv n r.entry ⊎ Leaves n r.exits.value

abbrev pub IsNamedAt : ℕ → Option Row → Type 0
IsNamedAt n None = ⊥
IsNamedAt n (Some r) = IsNamedIn n r

-- what is asked of a way, if there is one
abbrev pub stood : Option KeptWay → Option Standing
stood None = None
stood (Some k) = Some (record { context = has k.context; locks = has k.locks })

-- the table keeps the least closed facts of the body: at each point that is reached the way that
-- enters it, how it is left, and unless it is that of a statement, its value. Each number is that
-- of an environment, and different numbers are those of different ones. No environment is kept
-- that no way has, and each has the policies of all locals of the method
pub record IsTableOf (table : Table) (b : Body) (t : FactTable) : Type 0 where
  pub facts : AreLeastClosed table b (facts_in t)
  pub different : AreDifferent (envs_in t)
  pub long : AreLong (locals_in table b) (envs_in t)
  pub used : (n : ℕ) → n < length (envs_in t) → (p : ℕ) × IsNamedAt n (row_at t p)
  pub entries : (p : ℕ) → MayShow (envs_in t) (entry_at t p) (facts_in t p).entry
  pub exits : (p : ℕ) (ways : KeptWays) → exits_at t p ≡ Some ways → (k : Kind)
      → MayShow (envs_in t) (exit_of ways k) ((facts_in t p).exit k)
  pub once : (p : ℕ) (ways : KeptWays) → exits_at t p ≡ Some ways → AreOnce ways.throws
  pub values : (p v : ℕ) → value_at t p ≡ Some v → has v ≡ (facts_in t p).value
  pub left : (p : ℕ) → is_some (exits_at t p) ≡ is_some (entry_at t p)
  pub valued : (p : ℕ) → is_some (value_at t p)
      ≡ (is_some (entry_at t p) && not (is_among (points b.body) p))
