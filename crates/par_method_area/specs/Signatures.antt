-- What the descriptors of methods say, by the indices of their texts.
use Rattle.std.specs.Prelude.{ℕ, List, [], map, Option, Some, None, slice_get}
use Rattle.std.specs.Option.{option_map, unwrap_or}
use Rattle.std.specs.declared.alloc.Global.{Global}
use Rattle.std.specs.declared.boxed.Box.{Box}
use Rattle.par_values.specs.Areas.{Name}
use Rattle.par_single.specs.Descriptors.{Text}
use Rattle.par_single.specs.Links.{signature_said}
use Rattle.par_actions.specs.declared.fit.Fit.{Fit}
use Rattle.par_actions.specs.declared.departures.Gives.{Gives}
use Rattle.par_actions.specs.declared.departures.Gives.TheVariants as gives
use Rattle.par_method_area.specs.declared.signatures.Signature.{Signature}
use Rattle.par_method_area.specs.Fits.{fit_of, gives_of}

-- what is kept of a text
abbrev pub Said : Type 0
Said = Option (Box Signature Global)

-- what the arguments have to be, and what a method gives
abbrev pub Told : Type 0
Told = List Fit × Gives

abbrev pub read : Option Signature → Told
read None = ([], gives.Nothing)
read (Some signature) = (signature.takes.items, signature.gives)

abbrev pub told : Said → Told
told None = read None
told (Some signature) = read (Some signature.value)

-- what a text says, where the classes have these names
abbrev pub said_by : List Name → Text → Told
said_by classes text = (
  map (fit_of classes) (signature_said text).takes,
  gives_of classes (signature_said text).gives,
)

-- what is said at an index
abbrev pub signature_in : List Said → ℕ → Told
signature_in signatures index =
    unwrap_or (option_map told (slice_get signatures index)) (read None)
