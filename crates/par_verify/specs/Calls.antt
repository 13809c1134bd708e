-- What the calls of methods are given and give, by their descriptors.
use Rattle.std.specs.Prelude.{◌≡◌, ℕ, Bool, true, false, List, [], Option, map}
use Rattle.std.specs.Option.{option_map}
use Rattle.par_class.specs.par_pool.declared.constant.Constant.{Constant}
use Rattle.par_values.specs.declared.kind.Kind.{Kind}
use Rattle.par_values.specs.Areas.{Name}
use Rattle.par_single.specs.Descriptors.{Text, kind_of}
use Rattle.par_single.specs.Links.{signature_said}
use Rattle.par_link.specs.Placed.{pool_texts}
use Rattle.par_kinds.specs.declared.frame.VKind.{VKind}
use Rattle.par_kinds.specs.Kinds.{KFrame, vkind}
use Rattle.par_kinds.specs.Linked.{given_to, padded}
use Rattle.par_frame_steps.specs.Marks.{kinds_of}
use Rattle.par_verify.specs.declared.first.Call.{Call}

-- of methods of one class and descriptor
pub record Calls : Type 0 where
  pub of_class : List VKind
  pub of_object : List VKind
  pub gives : Option Kind

abbrev pub call_said : Name → Text → Calls
call_said class text = record {
  of_class = map vkind (given_to true class (signature_said text).takes);
  of_object = map vkind (given_to false class (signature_said text).takes);
  gives = (signature_said text).gives;
}

abbrev pub call_of : Call → Calls
call_of c = record {
  of_class = kinds_of c.of_class;
  of_object = kinds_of c.of_object;
  gives = option_map kind_of c.gives;
}

-- those of each text of a constant pool, by the indices
abbrev pub AreCalls : Name → List Constant → List Call → Type 0
AreCalls class pool calls = map call_of calls ≡ map (call_said class) (pool_texts pool)

-- what a static method is given, or another
abbrev pub given_in : Bool → Calls → List VKind
given_in true c = c.of_class
given_in false c = c.of_object

-- the frame of code with so many locals, which is given these
abbrev pub frame_given : ℕ → List VKind → KFrame
frame_given many kinds = record { locals = padded many kinds; stack = [] }
