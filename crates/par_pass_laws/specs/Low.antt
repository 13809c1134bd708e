-- What is found, below facts over any lattice of policies.
use Rattle.std.specs.Prelude.{ℕ, Option, Some, None, List, [], ◌∷◌}
use Rattle.par_bits.specs.Sets.{Set, none, adding, union, IsWithin}
use Rattle.par_except.specs.par_program_laws.Lattice.{Lattice, numbers}
use Rattle.par_except.specs.par_program_laws.Kinds.{Kind}
use Rattle.par_except.specs.par_program_laws.Ways as rules
use Rattle.par_except.specs.par_program_laws.Facts.{Fact, Facts}
use Rattle.par_pass_laws.specs.Exits.{Way}
use Rattle.par_pass_laws.specs.Pass.{HeadWays, Event, Row, Into}

-- when a set of numbers is below a policy of the lattice
pub record Stands (Q : Lattice) : Type 1 where
  pub IsUnder : Set → Q.Policy → Type 0
  pub least : (p : Q.Policy) → IsUnder none p
  pub both : (s t : Set) (p : Q.Policy) → IsUnder s p → IsUnder t p → IsUnder (union s t) p
  pub joined : (s t : Set) (p q : Q.Policy) → IsUnder s p → IsUnder t q
      → IsUnder (union s t) (Q.join p q)
  pub up : (s : Set) (p q : Q.Policy) → IsUnder s p → Q.IsBelow p q → IsUnder s q
  pub given : (n : ℕ) → IsUnder (adding none n) (Q.given n)

module _ (Q : Lattice) (S : Stands Q) where
  pub record LandsUnder (w : Way) (x : rules.Way Q) : Type 0 where
    pub env : (i : ℕ) → S.IsUnder (w.env i) (x.env i)
    pub locks : IsWithin x.locks w.locks

  pub record FlowsUnder (w : Way) (x : rules.Way Q) : Type 0 where
    pub context : S.IsUnder w.context x.context
    pub lands : LandsUnder w x

  abbrev pub MayLand : Option Way → Option (rules.Way Q) → Type 0
  MayLand None o = Unit {0}
  MayLand (Some w) None = ⊥
  MayLand (Some w) (Some x) = LandsUnder w x

  abbrev pub MayFlow : Option Way → Option (rules.Way Q) → Type 0
  MayFlow None o = Unit {0}
  MayFlow (Some w) None = ⊥
  MayFlow (Some w) (Some x) = FlowsUnder w x

  -- the fact of the lattice is at least as high
  pub record IsLow (f : Fact numbers) (g : Fact Q) : Type 0 where
    pub entry : MayFlow f.entry g.entry
    pub value : S.IsUnder f.value g.value
    pub exit : (k : Kind) → MayFlow (f.exit k) (g.exit k)

  abbrev pub IsLowEvent : Facts Q → Event → Type 0
  IsLowEvent a (Row p f) = IsLow f (a p)
  IsLowEvent a (Into p o) = MayFlow o (a p).entry

  abbrev pub AreLow : Facts Q → List Event → Type 0
  AreLow a [] = Unit {0}
  AreLow a (x ∷ xs) = IsLowEvent a x × AreLow a xs

  abbrev pub AreHeadsLow : HeadWays → Facts Q → Type 0
  AreHeadsLow h a = (i : ℕ) → MayFlow (h i) (a i).entry
