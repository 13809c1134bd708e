-- Declarations stand in the order of their places, and exception classes have no members.
use Rattle.std.specs.Prelude.{◌≡◌, ℕ, ◌<◌, ◌≤◌, true, nat_eq, List, [], ◌∷◌, map}
use Rattle.std.specs.List.{AllByRecursion, IsDistinct}
use Rattle.par_names.specs.par_tree.Plain.{Class, Source}
use Rattle.par_names.specs.Declarations.{locks, declared_classes}
use Rattle.par_names.specs.Members.{callee_ids}

-- each of these places is behind the one before it, and the first is behind this place
abbrev pub Ascend : ℕ → List ℕ → Type 0
Ascend before [] = Unit {0}
Ascend before (at ∷ places) = (before < at) × Ascend at places

-- there are none in the class
pub record HasNoMembers (c : Class) : Type 0 where
  pub fields : c.fields ≡ []
  pub channels : c.channels ≡ []
  pub methods : c.methods ≡ []

-- an exception class has no members
abbrev pub IsBare : Class → Type 0
IsBare c = c.exception ≡ true → HasNoMembers c

-- no two fields stand at one place, and no two of the channels and the methods
pub record HasOwnPlaces (c : Class) : Type 0 where
  pub fields : IsDistinct nat_eq (map (λ f. f.id.at) c.fields)
  pub callees : IsDistinct nat_eq (map (λ id. id.at) (callee_ids c))

-- a family of locks has at most two actors; classes, and methods of a class, are in the order of
-- their places; members of a class that names find alike have places of their own; exception
-- classes have no members
pub record IsInOrder (source : Source) : Type 0 where
  pub arities : AllByRecursion (λ lock. lock.arity ≤ 2) (locks source)
  pub classes : Ascend 0 (map (λ c. c.id.at) (declared_classes source))
  pub methods : AllByRecursion (λ c. Ascend 0 (map (λ m. m.id.at) c.methods))
      (declared_classes source)
  pub members : AllByRecursion HasOwnPlaces (declared_classes source)
  pub exceptions : AllByRecursion IsBare (declared_classes source)
