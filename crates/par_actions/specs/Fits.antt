-- Which values a place takes, by numbers.
use Rattle.std.specs.Prelude.{◌≡◌, Bool, true, false, ◌==◌, List}
use Rattle.par_values.specs.declared.value.MVal.{MVal}
use Rattle.par_values.specs.declared.value.MVal.TheVariants.{Int, Null, Ref}
use Rattle.par_values.specs.declared.kind.Kind.{Kind}
use Rattle.par_values.specs.Areas.{Name, fits}
use Rattle.par_actions.specs.declared.fit.Fit.{Fit}
use Rattle.par_actions.specs.declared.fit.Fit.TheVariants.{Number, OfClass, Nothing, AnyObject}
use Rattle.par_actions.specs.declared.fit.Fit.TheVariants.{Anything}

abbrev pub accepts : Fit → MVal → Bool
accepts Anything v = true
accepts Number (Int n) = true
accepts Number Null = false
accepts Number (Ref c n) = false
accepts AnyObject (Int n) = false
accepts AnyObject Null = true
accepts AnyObject (Ref c n) = true
accepts Nothing (Int n) = false
accepts Nothing Null = true
accepts Nothing (Ref c n) = false
accepts (OfClass class) (Int n) = false
accepts (OfClass class) Null = true
accepts (OfClass class) (Ref c n) = c == class

-- the values that are taken are those of a kind, where the classes have these names
abbrev pub Takes : List Name → Kind → Fit → Type 0
Takes classes kind fit = (v : MVal) → fits classes kind v ≡ accepts fit v
