-- What an index of a constant pool is to frames, as a verifier keeps it.
use Rattle.std.specs.Prelude.{Bool, true, false, if◌then◌else◌, List, [], ◌∷◌, Option, Some}
use Rattle.std.specs.Prelude.{map, reverse}
use Rattle.par_pool.specs.declared.constant.Constant.{Constant}
use Rattle.par_pool.specs.declared.constant.Constant.TheVariants.{Integer}
use Rattle.par_class.specs.declared.file.MethodFile.{MethodFile}
use Rattle.par_class.specs.Spelling.{is_native}
use Rattle.par_single.specs.Descriptors.{Text}
use Rattle.par_single.specs.Links.{signature_said}
use Rattle.par_frame_steps.specs.par_kinds.declared.frame.VKind.{VKind}
use Rattle.par_frame_steps.specs.par_kinds.declared.frame.VKind.TheVariants.{Int}
use Rattle.par_frame_steps.specs.par_kinds.Linked.{kinds_given}
use Rattle.par_frame_steps.specs.declared.act.Asked.{Asked}
use Rattle.par_frame_steps.specs.par_kinds.Shapes as shape
use Rattle.par_frame_steps.specs.par_kinds.Shapes.{Shape, MethodShape}
use Rattle.par_frame_steps.specs.Marks.{asked_of, also_of, given}
use Rattle.par_frame_acts.specs.declared.shape.Callee.{Callee}
use Rattle.par_frame_acts.specs.declared.shape.PlaceShape.{PlaceShape}
use Rattle.par_frame_acts.specs.declared.shape.PlaceShape.TheVariants as place

abbrev pub callee_of : Callee → MethodShape
callee_of m = record {
  static = m.is_static;
  initializer = m.is_initializer;
  receiver = asked_of m.receiver;
  takes = reverse (map asked_of m.takes.items);
  results = given m.result;
  also = also_of m.also;
}

abbrev pub shape_of : PlaceShape → Shape
shape_of place.Number = shape.Number
shape_of (place.Field class is_static kind) = shape.Field class.now is_static (asked_of kind)
shape_of (place.Method m) = shape.Method (callee_of m)
shape_of (place.Class name is_made) = shape.Class name.now is_made
shape_of place.Other = shape.Other

-- whether a constant is a number
abbrev pub is_integer : Option Constant → Bool
is_integer (Some (Integer n)) = true
is_integer _ = false

-- an input gives a number
abbrev pub channel_result : List Asked → List VKind
channel_result [] = Int ∷ []
channel_result (asked ∷ more) = []

-- the kind of the result of a native method by its arguments, of another by its descriptor
abbrev pub result_in : MethodFile → List Asked → Text → List VKind
result_in m takes descriptor =
    if is_native m.access then channel_result takes
    else kinds_given (signature_said descriptor).gives
