-- The labelled code of a method.
use Rattle.std.specs.Prelude.{ℕ, ◌+◌, ◌-◌, if◌then◌else◌, [], ◌++◌, map, length, take}
use Rattle.std.specs.Prelude.{replicate}
use Rattle.par_completes.specs.par_typed.declared.ty.Ty.TheVariants as ty
use Rattle.par_completes.specs.par_typed.declared.table.MethodInfo.{MethodInfo}
use Rattle.par_completes.specs.par_typed.Plain.{TSta}
use Rattle.par_code_form.specs.declared.labelled.Labelled.{Labelled}
use Rattle.par_code_form.specs.Code.{Words, body_code, body_handlers}
use Rattle.par_code_form.specs.Operands.{top}
use Rattle.par_code_form.specs.Frames.{Types, slot, frames}

-- how many locals a call sets: the receiver, where there is one, and the arguments
abbrev pub set_by_call : MethodInfo → ℕ
set_by_call m = length m.params + (if m.is_static then 0 else 1)

-- the locals in scope where a body begins
abbrev pub first_scope : MethodInfo → Types
first_scope m =
    take (set_by_call m) m.locals ++ replicate (length m.locals - set_by_call m) ty.Void

abbrev pub labelled : Words → MethodInfo → TSta → Labelled
labelled w m body = record {
  items = body_code w body;
  handlers = body_handlers w body;
  max_stack = top body;
  max_locals = length m.locals;
  start = map (slot w) (take (set_by_call m) m.locals);
  frames = frames w m.locals body 0 (first_scope m) [];
}
