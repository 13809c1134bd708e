-- Methods by numbers.
use Rattle.std.specs.Prelude.{◌≡◌, ℕ, Bool, true, false, ◌&&◌, nat_lt, List, [], ◌∷◌, Option}
use Rattle.par_values.specs.declared.value.MVal.{MVal}
use Rattle.par_values.specs.declared.kind.Kind.{Kind}
use Rattle.par_values.specs.declared.link.Target.TheVariants as named
use Rattle.par_values.specs.declared.link.Target.{Target as Named}
use Rattle.par_values.specs.declared.link.MethodLink.{MethodLink}
use Rattle.par_values.specs.Areas.{Name}
use Rattle.par_actions.specs.declared.fit.Fit.{Fit}
use Rattle.par_actions.specs.declared.callee.Target.{Target}
use Rattle.par_actions.specs.declared.callee.Target.TheVariants.{Input, Output, Code, Nothing}
use Rattle.par_actions.specs.declared.callee.Callee.{Callee}
use Rattle.par_actions.specs.Fits.{Takes, accepts}
use Rattle.par_lines.specs.Lines.{Channel, line_of}

-- the values that are taken are those of these kinds, each of the one at its place
abbrev pub AllTake : List Name → List Kind → List Fit → Type 0
AllTake classes [] [] = Unit {0}
AllTake classes (kind ∷ kinds) (fit ∷ fits) = Takes classes kind fit × AllTake classes kinds fits
AllTake classes _ _ = ⊥

-- whether each value is one that the place takes, as far as there are both
abbrev pub accept_all : List Fit → List MVal → Bool
accept_all [] vs = true
accept_all (fit ∷ fits) [] = true
accept_all (fit ∷ fits) (v ∷ vs) = accepts fit v && accept_all fits vs

-- Two methods of code are the same, and have as many locals.
pub record IsCode (c m l : ℕ) (d n k : ℕ) : Type 0 where
  pub class : c ≡ d
  pub method : m ≡ n
  pub locals : l ≡ k

-- A method does this, where the channels have lines in this order.
abbrev pub IsTarget : List Channel → Named → Target → Type 0
IsTarget channels (named.Input class name) (Input line) = line ≡ line_of channels class name
IsTarget channels (named.Output class name) Output = Unit {0}
IsTarget channels (named.Code class method locals) (Code c m l room) =
    IsCode class method locals c m l
IsTarget channels named.Nothing Nothing = Unit {0}
IsTarget channels _ _ = ⊥

-- The numbers are those of a method, where the classes have these names and the channels these
-- lines.
pub record IsCallee (classes : List Name) (channels : List Channel) (m : MethodLink)
    (callee : Callee) : Type 0 where
  pub is_static : m.is_static ≡ callee.is_static
  pub is_initializer : m.is_initializer ≡ callee.is_initializer
  pub receiver : Takes classes m.receiver callee.receiver
  pub takes : AllTake classes m.takes callee.takes.now
  pub gives : m.gives ≡ callee.gives
  pub target : IsTarget channels m.target callee.target

-- whether a method has fewer locals than it is given arguments
abbrev pub is_short : Target → ℕ → Bool
is_short (Code c m locals room) arguments = nat_lt locals arguments
is_short _ arguments = false

-- A method that takes a number of an input channel gives it.
abbrev pub GivesInput : Callee → Type 0
GivesInput callee = (line : Option ℕ) → callee.target ≡ Input line → callee.gives ≡ true
