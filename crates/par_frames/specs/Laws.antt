-- What kinds are written as is read as these kinds again.
use Rattle.std.specs.Prelude.{◌≡◌, List, Some}
use Rattle.std.specs.List.{AllZip, AllByRecursion}
use Rattle.par_base.specs.Names.{IsName}
use Rattle.par_frame_forms.specs.par_pool.declared.constant.Constant.{Constant}
use Rattle.par_frame_forms.specs.declared.form.PlaceType.{PlaceType}
use Rattle.par_kinds.specs.declared.frame.VKind.{VKind}
use Rattle.par_kinds.specs.declared.frame.VKind.TheVariants.{Object}
use Rattle.par_frames.specs.Names.{StandsFor}
use Rattle.par_frames.specs.Given.{kinds_of}

-- a class in a kind has a name of programs
abbrev pub IsNamed : VKind → Type 0
IsNamed (Object name) = IsName name
IsNamed k = Unit {0}

abbrev pub WrittenKindsAreRead : Type 0
WrittenKindsAreRead =
    (pool : List Constant) (ks : List VKind) (ts : List PlaceType) → AllByRecursion IsNamed ks
    → AllZip (StandsFor pool) ks ts → kinds_of pool ts ≡ Some ks
