-- What an error tells.
use Rattle.std.specs.Prelude.{◌≡◌, Option, Some}
use Rattle.par_link.specs.declared.error.LinkError.{LinkError}
use Rattle.par_link.specs.declared.error.LinkError.TheVariants as error
use Rattle.par_link.specs.Order.{Broken}

-- the rule that is broken; nothing where memory ran out
abbrev pub Tells : Option Broken → LinkError → Type 0
Tells first (error.Broken number class index) =
    first ≡ Some (record { number = number; class = class; index = index })
Tells first error.Memory = Unit {0}
