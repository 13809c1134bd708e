-- The methods of a program by the number of their class and their place in its table.
use Rattle.std.specs.Prelude.{ℕ, List, [], Option, Some, None, slice_get}
use Rattle.par_link.specs.par_pool.declared.constant.Constant.{Constant}
use Rattle.par_link.specs.par_class.declared.file.CodeAttr.{CodeAttr}
use Rattle.par_link.specs.par_class.declared.file.MethodFile.{MethodFile}
use Rattle.par_link.specs.par_class.declared.file.ClassFile.{ClassFile}
use Rattle.par_secrecy.specs.par_values.Areas.{Name}
use Rattle.par_link.specs.par_single.Members.{text_at}

abbrev pub pool_of : Option ClassFile → List Constant
pool_of None = []
pool_of (Some file) = file.pool.entries

-- the constant pool of a class
abbrev pub class_pool : List ClassFile → ℕ → List Constant
class_pool files class = pool_of (slice_get files class)

abbrev pub methods_of : Option ClassFile → List MethodFile
methods_of None = []
methods_of (Some file) = file.methods

abbrev pub method_file : List ClassFile → ℕ → ℕ → Option MethodFile
method_file files class method = slice_get (methods_of (slice_get files class)) method

abbrev pub no_code : CodeAttr
no_code = record { max_stack = 0; max_locals = 0; code = []; catches = []; attributes = [] }

abbrev pub code_or_none : Option CodeAttr → CodeAttr
code_or_none None = no_code
code_or_none (Some code) = code

abbrev pub code_in : Option MethodFile → CodeAttr
code_in None = no_code
code_in (Some m) = code_or_none m.code

-- the code of a method; one without code has none
abbrev pub method_code : List ClassFile → ℕ → ℕ → CodeAttr
method_code files class method = code_in (method_file files class method)

abbrev pub name_in : List Constant → Option MethodFile → Name
name_in entries None = []
name_in entries (Some m) = text_at entries m.name

abbrev pub method_name : List ClassFile → ℕ → ℕ → Name
method_name files class method = name_in (class_pool files class) (method_file files class method)

abbrev pub descriptor_in : List Constant → Option MethodFile → Name
descriptor_in entries None = []
descriptor_in entries (Some m) = text_at entries m.descriptor

abbrev pub method_descriptor : List ClassFile → ℕ → ℕ → Name
method_descriptor files class method =
    descriptor_in (class_pool files class) (method_file files class method)
