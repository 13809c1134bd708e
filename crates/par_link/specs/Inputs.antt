-- Which inputs fit class files.
use Rattle.std.specs.Prelude.{ℕ, Bool, not, ◌&&◌, nat_le, if◌then◌else◌, List, Option, codes}
use Rattle.std.specs.List.{list_any, position}
use Rattle.std.specs.Str.{bytes_eq}
use Rattle.par_single.specs.par_pool.declared.constant.Constant.{Constant}
use Rattle.par_single.specs.par_class.declared.file.MethodFile.{MethodFile}
use Rattle.par_single.specs.par_class.declared.file.ClassFile.{ClassFile}
use Rattle.par_single.specs.par_class.Spelling.{is_native}
use Rattle.par_inputs.specs.par_values.declared.inputs.ChannelInput.{ChannelInput}
use Rattle.par_single.specs.Descriptors.{Text}
use Rattle.par_single.specs.Members.{text_at, own_name, is_static}

-- a static native method that takes nothing and gives an int
abbrev pub is_input : List Constant → MethodFile → Bool
is_input entries m =
    is_native m.access && is_static m.access
    && bytes_eq (text_at entries m.descriptor) (codes "()I")

-- one of this name
abbrev pub is_input_of : List Constant → Text → MethodFile → Bool
is_input_of entries name m = is_input entries m && bytes_eq (text_at entries m.name) name

abbrev pub has_input_in : Text → Text → ClassFile → Bool
has_input_in class name file =
    bytes_eq (own_name file) class && list_any (is_input_of file.pool.entries name) file.methods

-- one of the files has an input channel of this class and name
abbrev pub has_input : List ClassFile → Text → Text → Bool
has_input files class name = list_any (has_input_in class name) files

-- the place of the first line whose channel none of the files has
abbrev pub first_misfit : List ClassFile → List ChannelInput → Option ℕ
first_misfit files lines = position (λ line. not (has_input files line.class line.channel)) lines

-- a place as a number of 32 bits: the last of these where it is greater
abbrev pub told_place : ℕ → ℕ
told_place place = if nat_le place 4294967295 then place else 4294967295
