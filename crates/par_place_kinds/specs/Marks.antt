-- The kinds and names that a verifier keeps, as those that they stand for.
use Rattle.std.specs.Prelude.{ℕ, List, map}
use Rattle.std.specs.Borrow.{Bor}
use Rattle.par_values.specs.Areas.{Name}
use Rattle.par_kinds.specs.declared.frame.VKind.{VKind}
use Rattle.par_kinds.specs.declared.frame.VKind.TheVariants.{Top, Int, Null, Object}
use Rattle.par_kinds.specs.declared.frame.VKind.TheVariants.{Base}
use Rattle.par_place_kinds.specs.declared.kind.PlaceKind.{PlaceKind}
use Rattle.par_place_kinds.specs.declared.kind.PlaceKind.TheVariants as place

abbrev pub names : List (Bor (List ℕ)) → List Name
names all = map (λ name. name.now) all

abbrev pub kind_of : PlaceKind → VKind
kind_of place.Top = Top
kind_of place.Int = Int
kind_of place.Null = Null
kind_of (place.Object name) = Object name.now
kind_of (place.Base exception) = Base exception

abbrev pub kinds_of : List PlaceKind → List VKind
kinds_of kinds = map kind_of kinds
