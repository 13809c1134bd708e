-- The kinds that types of forms say, anything where one says none.
use Rattle.std.specs.Prelude.{List}
use Rattle.std.specs.Option.{unwrap_or}
use Rattle.par_frame_forms.specs.par_pool.declared.constant.Constant.{Constant}
use Rattle.par_values.specs.Areas.{Name}
use Rattle.par_kinds.specs.declared.frame.VKind.{VKind}
use Rattle.par_kinds.specs.declared.frame.VKind.TheVariants.{Top}
use Rattle.par_frame_forms.specs.declared.form.PlaceType.{PlaceType}
use Rattle.par_given_frames.specs.par_frames.par_link.Builtins.{builtin}
use Rattle.par_given_frames.specs.par_frames.Names.{kind_of, kind_of_class}

abbrev pub kind_in_class : Name → VKind
kind_in_class name = unwrap_or (kind_of_class (builtin name) name) Top

abbrev pub kind_in : List Constant → PlaceType → VKind
kind_in pool t = unwrap_or (kind_of pool t) Top
