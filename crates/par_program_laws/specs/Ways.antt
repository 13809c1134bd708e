-- Ways, and when one flows into another.
use Rattle.std.specs.Prelude.{ℕ, cond, nat_eq, Option, Some, None}
use Rattle.par_typed.specs.par_bits.Sets.{Set, IsWithin, union, minus}
use Rattle.par_program_laws.specs.Lattice.{Lattice}

module _ (P : Lattice) where
  -- what is known at a spot: who may learn that it is reached, the policy of each local, and locks
  -- that are open
  pub record Way : Type 0 where
    pub context : P.Policy
    pub env : ℕ → P.Policy
    pub locks : Set

  -- environment and locks of the first flow into the second
  pub record Lands (w x : Way) : Type 0 where
    pub env : (i : ℕ) → P.IsBelow (w.env i) (x.env i)
    pub locks : IsWithin x.locks w.locks

  pub record Flows (w x : Way) : Type 0 where
    pub context : P.IsBelow w.context x.context
    pub lands : Lands w x

  abbrev pub MayLand : Option Way → Option Way → Type 0
  MayLand None o = Unit {0}
  MayLand (Some w) None = ⊥
  MayLand (Some w) (Some x) = Lands w x

  -- a way that is there flows into one that is there
  abbrev pub MayFlow : Option Way → Option Way → Type 0
  MayFlow None o = Unit {0}
  MayFlow (Some w) None = ⊥
  MayFlow (Some w) (Some x) = Flows w x

  -- the context of the way, if there is one, is below the policy
  abbrev pub MayRaise : Option Way → P.Policy → Type 0
  MayRaise None c = Unit {0}
  MayRaise (Some w) c = P.IsBelow w.context c

  abbrev pub raised : P.Policy → Way → Way
  raised v w = record w { context = P.join w.context v }

  abbrev pub put : (ℕ → P.Policy) → ℕ → P.Policy → ℕ → P.Policy
  put env x v y = cond (nat_eq y x) v (env y)

  -- the local becomes the policy joined with the context
  abbrev pub assigned : ℕ → P.Policy → Way → Way
  assigned x v w = record w { env = put w.env x (P.join v w.context) }

  abbrev pub opened : Set → Way → Way
  opened locks w = record w { locks = union w.locks locks }

  abbrev pub shut : Set → Way → Way
  shut locks w = record w { locks = minus w.locks locks }

  abbrev pub moved : (Way → Way) → Option Way → Option Way
  moved change None = None
  moved change (Some w) = Some (change w)
