-- The state of a machine: frames, static fields, objects and input lists (Java Virtual Machine
-- Specification, Java SE 7, sections 2.5 and 2.6).
use Rattle.std.specs.Prelude.{ℕ, ◌+◌, List, [], ◌∷◌, Option, Some, None, slice_get, replicate}
use Rattle.std.specs.Prelude.{length}
use Rattle.par_link.specs.par_class.declared.file.ClassFile.{ClassFile}
use Rattle.par_secrecy.specs.par_values.declared.value.MVal.{MVal}
use Rattle.par_secrecy.specs.par_values.declared.inputs.Inputs.{Inputs}
use Rattle.par_secrecy.specs.par_values.declared.inputs.ChannelInput.{ChannelInput}
use Rattle.par_secrecy.specs.par_values.Areas.{InputLists, Objects}
use Rattle.par_link.specs.par_single.Members.{own_name, method_place}
use Rattle.par_link.specs.par_single.Described.{main_member}
use Rattle.par_secrecy.specs.Subject.{given}
use Rattle.par_step_laws.specs.Methods.{method_code}
use Rattle.par_step_laws.specs.Fields.{all_statics}

pub record Frame : Type 0 where
  -- the number of its class, and of its method in that class
  pub class : ℕ
  pub method : ℕ
  -- the offset of the instruction that is next, or of the invoke that has not returned
  pub at : ℕ
  pub locals : List (Option MVal)
  -- the operand that was pushed last comes first
  pub operands : List MVal

-- the frame of the method that runs comes first
pub record State : Type 0 where
  pub frames : List Frame
  -- those of all classes, and behind them whether each lock is open
  pub statics : List MVal
  pub objects : Objects
  pub inputs : InputLists

-- a frame at the start of a method's code
abbrev pub entered : (class method : ℕ) → List (Option MVal) → Frame
entered class method locals =
    record { class = class; method = method; at = 0; locals = locals; operands = [] }

-- no object of any class
abbrev pub no_objects : List ClassFile → Objects
no_objects files = replicate (length files + 2) []

-- each input list whole
abbrev pub whole_inputs : List ChannelInput → InputLists
whole_inputs lines class name = given lines class name

-- the frame of a method that takes nothing
abbrev pub frame_of : List ClassFile → ℕ → Option ℕ → List Frame
frame_of files class None = []
frame_of files class (Some method) =
    entered class method (replicate (method_code files class method).max_locals None) ∷ []

-- the place of the method `main` of a class
abbrev pub main_place : Option ClassFile → Option ℕ
main_place None = None
main_place (Some file) = method_place file (main_member (own_name file))

-- before the first instruction of `main` of the class of this number
abbrev pub start : List ClassFile → ℕ → Inputs → State
start files class inputs = record {
  frames = frame_of files class (main_place (slice_get files class));
  statics = all_statics files;
  objects = no_objects files;
  inputs = whole_inputs inputs.channels;
}
