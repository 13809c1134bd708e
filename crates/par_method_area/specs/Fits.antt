-- Kinds by the numbers of their classes.
use Rattle.std.specs.Prelude.{ℕ, List, Option, Some, None}
use Rattle.std.specs.List.{position}
use Rattle.std.specs.Str.{bytes_eq}
use Rattle.par_values.specs.Areas.{Name}
use Rattle.par_values.specs.declared.kind.Kind.{Kind}
use Rattle.par_values.specs.declared.kind.Kind.TheVariants as kind
use Rattle.par_actions.specs.declared.fit.Fit.{Fit}
use Rattle.par_actions.specs.declared.fit.Fit.TheVariants as fit
use Rattle.par_actions.specs.declared.departures.Gives.{Gives}
use Rattle.par_actions.specs.declared.departures.Gives.TheVariants as gives

-- null, and objects of the class of this number where there is one
abbrev pub fit_at : Option ℕ → Fit
fit_at None = fit.Nothing
fit_at (Some class) = fit.OfClass class

-- what a place of a kind takes, where the classes have these names
abbrev pub fit_of : List Name → Kind → Fit
fit_of classes kind.Number = fit.Number
fit_of classes (kind.Object name) = fit_at (position (bytes_eq name) classes)
fit_of classes kind.AnyObject = fit.AnyObject
fit_of classes kind.Anything = fit.Anything

-- the same, and anything where there is no kind
abbrev pub fit_or_any : List Name → Option Kind → Fit
fit_or_any classes None = fit.Anything
fit_or_any classes (Some kind) = fit_of classes kind

-- a result of a kind
abbrev pub result_of : List Name → Kind → Gives
result_of classes kind.Number = gives.Number
result_of classes kind = gives.Object (fit_of classes kind)

-- what a method gives whose result is of this kind
abbrev pub gives_of : List Name → Option Kind → Gives
gives_of classes None = gives.Nothing
gives_of classes (Some kind) = result_of classes kind
