-- What a method gives, and what may be thrown, by numbers.
use Rattle.std.specs.Prelude.{◌≡◌, ℕ, true, false, ◌==◌, Bool, List, slice_index_or}
use Rattle.std.specs.List.{list_any}
use Rattle.par_values.specs.declared.kind.Kind.TheVariants as kind
use Rattle.par_values.specs.Areas.{Name}
use Rattle.par_values.specs.Reasons.{Spot}
use Rattle.par_actions.specs.declared.departures.Gives.{Gives}
use Rattle.par_actions.specs.declared.departures.Gives.TheVariants.{Nothing, Number, Object}
use Rattle.par_actions.specs.declared.fit.Fit.{Fit}
use Rattle.par_actions.specs.Fits.{Takes}

-- a method gives a number
pub record GivesNumber (spot : Spot) : Type 0 where
  pub gives : spot.gives_nothing ≡ false
  pub result : spot.result ≡ kind.Number

-- it gives an object, of the class of this name
pub record GivesObject (classes : List Name) (spot : Spot) (fit : Fit) : Type 0 where
  pub name : Name
  pub gives : spot.gives_nothing ≡ false
  pub result : spot.result ≡ kind.Object name
  pub takes : Takes classes (kind.Object name) fit

-- The method of a spot gives this.
abbrev pub HasResult : List Name → Spot → Gives → Type 0
HasResult classes spot Nothing = spot.gives_nothing ≡ true
HasResult classes spot Number = GivesNumber spot
HasResult classes spot (Object fit) = GivesObject classes spot fit

-- It is told of each class whether it is one of exceptions.
abbrev pub KnowsExceptions : Spot → List Bool → Type 0
KnowsExceptions spot flags =
    (class : ℕ) → list_any (λ d. d == class) spot.exceptions ≡ slice_index_or flags class false
