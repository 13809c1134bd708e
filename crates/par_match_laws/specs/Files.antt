-- Linked class files as a program for the machine.
use Rattle.std.specs.Prelude.{ℕ, Bool, true, false, List, [], Option, Some, None}
use Rattle.par_instr.specs.Decoding.{Decoded, decoded_at}
use Rattle.par_step_laws.specs.par_class.declared.file.ClassFile.{ClassFile}
use Rattle.par_values.specs.Operations.{operation}
use Rattle.par_step_laws.specs.par_link.entry.Builtin.TheVariants as builtin
use Rattle.par_step_laws.specs.par_link.entry.Named.{Named}
use Rattle.par_step_laws.specs.par_link.entry.Named.TheVariants.{Initializer}
use Rattle.par_step_laws.specs.par_link.Linked.{named_at}
use Rattle.par_step_laws.specs.par_single.Links.{signature_said}
use Rattle.par_step_laws.specs.par_single.Walk.{stands_at}
use Rattle.par_step_laws.specs.Classes.{class_names, exception_named, exceptions}
use Rattle.par_step_laws.specs.Methods.{method_code, method_name, method_descriptor}
use Rattle.par_step_laws.specs.Links.{link_at}
use Rattle.par_step_laws.specs.State.{Frame}
use Rattle.par_step_laws.specs.Handlers.{handler_in}
use Rattle.par_step_laws.specs.Step.{called_on_object}
use Rattle.par_match_laws.specs.Engine.{Found, Program}

abbrev pub is_of_exceptions : Named → Bool
is_of_exceptions (Initializer builtin.Exception) = true
is_of_exceptions _ = false

abbrev pub index_wants : List ClassFile → ℕ → Option ℕ → Bool
index_wants files class None = false
index_wants files class (Some index) = is_of_exceptions (named_at files class index)

abbrev pub found_in : List ClassFile → ℕ → Decoded → Found
found_in files class d = record {
  op = operation (link_at files class) d.instr;
  size = d.size;
  wants_exception = index_wants files class (called_on_object d.instr);
}

abbrev pub found_of : List ClassFile → ℕ → Option Decoded → Option Found
found_of files class None = None
found_of files class (Some d) = Some (found_in files class d)

abbrev pub frame_at : ℕ → ℕ → ℕ → Frame
frame_at class method at =
    record { class = class; method = method; at = at; locals = []; operands = [] }

abbrev pub of_files : List ClassFile → Program
of_files files = record {
  names = class_names files;
  exceptions = exceptions files;
  exception_named = exception_named files;
  entry = λ class method. 0;
  found = λ class method at.
      found_of files class (decoded_at (method_code files class method).code at);
  stands = λ class method z. stands_at (method_code files class method).code z;
  handler = λ thrown class method at. handler_in files thrown (frame_at class method at);
  room = λ class method. (method_code files class method).max_stack;
  gives = λ class method. (signature_said (method_descriptor files class method)).gives;
  method_name = method_name files;
}
