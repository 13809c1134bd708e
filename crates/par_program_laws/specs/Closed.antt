-- When facts of a method's body are closed.
use Rattle.std.specs.Prelude.{ℕ, zero, suc, Bool, true, false, Option, Some, None, List, [], ◌∷◌}
use Rattle.par_typed.specs.Plain.{Body, point}
use Rattle.par_program_laws.specs.Lattice.{Lattice}
use Rattle.par_program_laws.specs.Kinds.{Kind}
use Rattle.par_program_laws.specs.Ways.{Way, MayFlow}
use Rattle.par_program_laws.specs.Facts.{Facts}
use Rattle.par_program_laws.specs.Declares.{Declares, Method}
use Rattle.par_program_laws.specs.Rules.{Obeys}
use Rattle.par_program_laws.specs.Body.{sta}

module _ (P : Lattice) where
  -- the policies with which parameters arrive, by number; other locals hold nothing yet
  abbrev pub arriving : List ℕ → ℕ → P.Policy
  arriving [] i = P.bottom
  arriving (p ∷ ps) zero = P.given p
  arriving (p ∷ ps) (suc i) = arriving ps i

  -- `this` comes first in an instance method
  abbrev pub locals : Bool → List ℕ → ℕ → P.Policy
  locals true params i = arriving params i
  locals false params zero = P.bottom
  locals false params (suc i) = arriving params i

  -- the way that enters a method's body
  abbrev pub first : Method → Way P
  first m = record {
    context = P.bottom;
    env = locals m.is_static m.params;
    locks = m.expects;
  }

  -- the body is entered, and its flow obeys the rules
  pub record IsClosed (declared : Declares) (b : Body) (a : Facts P) : Type 0 where
    pub entered : MayFlow P (Some (first (declared.method b.class b.method)))
        (a (point b.body)).entry
    pub obeyed : Obeys P a (sta declared b.body)

  abbrev pub IsThere : Option (Way P) → Type 0
  IsThere None = ⊥
  IsThere (Some w) = Unit {0}

  -- a point is reached where all closed facts have an entering way for it
  abbrev pub IsReached : Declares → Body → ℕ → Type 0
  IsReached declared b p = (a : Facts P) → IsClosed declared b a → IsThere (a p).entry

  -- a completion is possible where all closed facts have a way for it
  abbrev pub IsPossible : Declares → Body → ℕ → Kind → Type 0
  IsPossible declared b p k = (a : Facts P) → IsClosed declared b a → IsThere ((a p).exit k)
