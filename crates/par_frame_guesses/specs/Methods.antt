-- A method whose code is gone through, as definitions see it.
use Rattle.std.specs.Prelude.{◌≡◌, ℕ, false, Bool, List, is_some, slice_index_or}
use Rattle.std.specs.Option.{option_map}
use Rattle.par_instr.specs.declared.instr.Instr.{Instr}
use Rattle.par_class.specs.declared.file.Catch.{Catch}
use Rattle.par_class.specs.declared.file.CodeAttr.{CodeAttr}
use Rattle.par_values.specs.Areas.{Name}
use Rattle.par_single.specs.Descriptors.{kind_of}
use Rattle.par_single.specs.Walk.{starts_at}
use Rattle.par_frame_steps.specs.par_kinds.declared.frame.VKind.{VKind}
use Rattle.par_frame_steps.specs.par_kinds.Acts.{Act}
use Rattle.par_frame_steps.specs.par_kinds.Fits.{Given}
use Rattle.par_frame_steps.specs.par_kinds.Linked.{caught_kind}
use Rattle.par_frame_steps.specs.par_kinds.Shapes as shapes
use Rattle.par_frame_steps.specs.par_kinds.Shapes.{shape_at}
use Rattle.par_frame_steps.specs.Marks.{names}
use Rattle.par_frame_guesses.specs.declared.method.Method.{Method}

abbrev pub exc_of : Method → List Name
exc_of m = names m.exceptions.now

abbrev pub act_in : Method → Instr → Act
act_in m i = shapes.act_of (option_map kind_of m.gives) (shape_at m.linked.now m.class) i

abbrev pub handler_in : Method → Catch → VKind
handler_in m c = caught_kind m.linked.now m.class c

abbrev pub code_in : Method → CodeAttr
code_in m = m.code.now

-- the frame of an offset stays as it is
abbrev pub fixed_at : Method → ℕ → Bool
fixed_at m at = slice_index_or m.fixed.now at false

-- where its instructions start, and where frames stay as they are from the start
pub record IsToldOf (m : Method) (start : Given) : Type 0 where
  pub starts : (at : ℕ) → slice_index_or m.starts.now at false ≡ starts_at m.code.now.code at
  pub fixed : (at : ℕ) → slice_index_or m.fixed.now at false ≡ is_some (start at)
