-- What the flow of a node must obey, part by part in the order of evaluation.
use Rattle.std.specs.Prelude.{◌≡◌, ℕ, zero, suc, Bool, true, false, ◌&&◌, ◌||◌, not, Option, Some}
use Rattle.std.specs.Prelude.{None, List, [], ◌∷◌}
use Rattle.par_typed.specs.par_bits.Sets.{Set}
use Rattle.par_program_laws.specs.Lattice.{Lattice}
use Rattle.par_program_laws.specs.Kinds.{Kind, Normal, same, normal, Absorber, absorbed}
use Rattle.par_program_laws.specs.Ways.{Way, MayFlow, MayLand, MayRaise, raised, assigned, opened}
use Rattle.par_program_laws.specs.Ways.{shut}
use Rattle.par_program_laws.specs.Ways.{moved}
use Rattle.par_program_laws.specs.Facts.{Fact, Facts, blank}

-- a way at the node: the one that enters it, or one that leaves a part. Parts are numbered
-- backwards, and the latest is 0
pub data From : Type 0 where
  Entry : From
  After : (part : ℕ) (kind : Kind) → From
  -- with the value of a part in its context, or with the policy of that number
  Tested : (part : ℕ) (from : From) → From
  Raised : (policy : ℕ) (from : From) → From
  -- with more locks, or with fewer
  Opened : (locks : Set) (from : From) → From
  Shut : (locks : Set) (from : From) → From
  -- with the value of a part in a local
  Assigned : (local part : ℕ) (from : From) → From

-- a part of the value: the policy of that number, that of a local, or the value of a part
pub data Worth : Type 0 where
  Given : (policy : ℕ) → Worth
  Held : (local : ℕ) → Worth
  Value : (part : ℕ) → Worth

mutual
  -- a node of the tree, its point and its rules. The context of its normal exit is at least the
  -- entering one and those of all other exits
  pub data Node : Type 0 where
    node : (point : ℕ) (rules : Rules) → Node

  pub data Rules : Type 0 where
    Done : Rules
    -- the way enters the part, whose exits are exits of the node unless they are absorbed
    Part : (from : From) (absorber : Absorber) (part : Node) (more : Rules) → Rules
    -- the same of the test of a loop, whose entering way is the head way of the loop
    Test : (part : Node) (more : Rules) → Rules
    -- the way flows into the head way of the loop
    Heads : (from : From) (more : Rules) → Rules
    -- the way leaves the node; at its normal exit, environment and locks of the way alone
    Leaves : (from : From) (kind : Kind) (more : Rules) → Rules
    -- the value is at least that
    Worths : (worth : Worth) (more : Rules) → Rules

-- environment and locks of the way flow into the normal exit
abbrev pub goes_on : From → Rules → Rules
goes_on from more = Leaves from Normal more

abbrev pub spot : Node → ℕ
spot (node p rules) = p

module _ (P : Lattice) where
  abbrev pub part_at : List (Fact P) → ℕ → Fact P
  part_at [] n = blank P
  part_at (f ∷ fs) zero = f
  part_at (f ∷ fs) (suc n) = part_at fs n

  -- the way, from the entering one and the facts of the parts before, the latest first
  unfoldable pub way : Option (Way P) → List (Fact P) → From → Option (Way P)
  way o fs Entry = o
  way o fs (After part k) = (part_at fs part).exit k
  way o fs (Tested part from) = moved P (raised P (part_at fs part).value) (way o fs from)
  way o fs (Raised policy from) = moved P (raised P (P.given policy)) (way o fs from)
  way o fs (Opened locks from) = moved P (opened P locks) (way o fs from)
  way o fs (Shut locks from) = moved P (shut P locks) (way o fs from)
  way o fs (Assigned x part from) =
      moved P (assigned P x (part_at fs part).value) (way o fs from)

  abbrev pub held : Option (Way P) → ℕ → P.Policy
  held None x = P.bottom
  held (Some w) x = w.env x

  unfoldable pub worth : Option (Way P) → List (Fact P) → Worth → P.Policy
  worth o fs (Given policy) = P.given policy
  worth o fs (Held x) = held o x
  worth o fs (Value part) = (part_at fs part).value

  -- the way flows into an exit of the kind, with its context where that is not the normal one
  abbrev pub MayLeave : Kind → Option (Way P) → Option (Way P) → Type 0
  MayLeave Normal o e = MayLand P o e
  MayLeave kind o e = MayFlow P o e

  -- what is said of a way, where there is one
  abbrev pub Holds : Option (Way P) → (Way P → Type 0) → Type 0
  Holds None C = Unit {0}
  Holds (Some w) C = C w

  abbrev pub WhereReached : Option (Way P) → Type 0 → Type 0
  WhereReached None C = Unit {0}
  WhereReached (Some w) C = C

  module _ (a : Facts P) where
    -- the context of the normal exit is at least the entering one and those of all other exits
    abbrev pub Restores : ℕ → Type 0
    Restores p =
        Holds ((a p).exit Normal)
        (λ w. MayRaise P (a p).entry w.context
        × ((k : Kind) → normal k ≡ false → MayRaise P ((a p).exit k) w.context))

    -- the exits of the part that are not absorbed are exits of the node
    abbrev pub Passes : (Kind → Bool) → ℕ → ℕ → Type 0
    Passes absorbs q p = (k : Kind) → absorbs k ≡ false → MayFlow P ((a q).exit k) ((a p).exit k)

    -- the way flows into the head way of the loop whose test has the point
    abbrev pub MayHead : Option ℕ → Option (Way P) → Type 0
    MayHead None o = Unit {0}
    MayHead (Some test) o = MayFlow P o (a test).entry

    unfoldable mutual
      pub Obeys : Node → Type 0
      Obeys (node p rules) = Restores p × ObeysAll p None [] rules

      -- behind the test of a loop, and the facts of the parts before, the latest first
      pub ObeysAll : ℕ → Option ℕ → List (Fact P) → Rules → Type 0
      ObeysAll p head fs Done = Unit {0}
      ObeysAll p head fs (Part from absorber part more) =
          MayFlow P (way (a p).entry fs from) (a (spot part)).entry
          × WhereReached (a (spot part)).entry (Obeys part)
          × Passes (absorbed absorber) (spot part) p
          × ObeysAll p head (a (spot part) ∷ fs) more
      ObeysAll p head fs (Test part more) =
          WhereReached (a (spot part)).entry (Obeys part)
          × Passes normal (spot part) p
          × ObeysAll p (Some (spot part)) (a (spot part) ∷ fs) more
      ObeysAll p head fs (Heads from more) =
          MayHead head (way (a p).entry fs from) × ObeysAll p head fs more
      ObeysAll p head fs (Leaves from kind more) =
          MayLeave kind (way (a p).entry fs from) ((a p).exit kind) × ObeysAll p head fs more
      ObeysAll p head fs (Worths v more) =
          P.IsBelow (worth (a p).entry fs v) (a p).value × ObeysAll p head fs more

-- which completions of the parts before are possible, the latest first
abbrev pub part_can : List (Kind → Bool) → ℕ → Kind → Bool
part_can [] n k = false
part_can (f ∷ fs) zero k = f k
part_can (f ∷ fs) (suc n) k = part_can fs n k

-- whether there is such a way, where the node is reached
unfoldable pub comes : List (Kind → Bool) → From → Bool
comes fs Entry = true
comes fs (After part k) = part_can fs part k
comes fs (Tested part from) = comes fs from
comes fs (Raised policy from) = comes fs from
comes fs (Opened locks from) = comes fs from
comes fs (Shut locks from) = comes fs from
comes fs (Assigned x part from) = comes fs from

-- whether the completion is possible, where the node is reached
unfoldable mutual
  pub can : Node → Kind → Bool
  can (node p rules) k = can_by [] rules k

  pub can_by : List (Kind → Bool) → Rules → Kind → Bool
  can_by fs Done k = false
  can_by fs (Part from absorber part more) k =
      ((comes fs from && can part k) && not (absorbed absorber k))
      || can_by ((λ j. comes fs from && can part j) ∷ fs) more k
  can_by fs (Test part more) k =
      (can part k && not (normal k)) || can_by ((λ j. can part j) ∷ fs) more k
  can_by fs (Heads from more) k = can_by fs more k
  can_by fs (Leaves from kind more) k = (comes fs from && same kind k) || can_by fs more k
  can_by fs (Worths v more) k = can_by fs more k
