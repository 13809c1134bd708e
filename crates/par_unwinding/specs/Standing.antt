-- A frame of which only is known where it stands.
use Rattle.std.specs.Prelude.{ℕ, Bool, ◌||◌, ◌==◌, List, []}
use Rattle.par_class.specs.declared.file.ClassFile.{ClassFile}
use Rattle.par_step_laws.specs.par_link.Linked.{named_at}
use Rattle.par_step_laws.specs.State.{Frame}
use Rattle.par_step_laws.specs.Handlers.{named_takes}

abbrev pub standing : (class method at : ℕ) → Frame
standing class method at =
    record { class = class; method = method; at = at; locals = []; operands = [] }

-- whether a handler of a class that names this one, or none, takes an exception of a class
abbrev pub class_takes : List ClassFile → (thrown class named : ℕ) → Bool
class_takes files thrown class named =
    named == 0 || named_takes files thrown (named_at files class named)
