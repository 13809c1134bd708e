-- How the members of a class file are named, which names and descriptors are right, and the method
-- with which a run begins.
use Rattle.std.specs.Prelude.{ℕ, Bool, true, false, not, ◌&&◌, ◌||◌, List, [], ◌∷◌, Option, Some}
use Rattle.std.specs.Prelude.{None, is_some, codes}
use Rattle.std.specs.List.{list_any, slice_get}
use Rattle.std.specs.Str.{bytes_eq}
use Rattle.par_class.specs.par_pool.declared.constant.Constant.{Constant}
use Rattle.par_class.specs.declared.file.FieldFile.{FieldFile}
use Rattle.par_class.specs.declared.file.MethodFile.{MethodFile}
use Rattle.par_class.specs.declared.file.ClassFile.{ClassFile}
use Rattle.par_class.specs.Spelling.{is_native}
use Rattle.par_values.specs.par_base.Names.{is_name}
use Rattle.par_single.specs.Descriptors.{Text, field_kind, method_signature}
use Rattle.par_single.specs.Members.{text_at, Member, is_static}

-- whether a name is that of a class that every program has
abbrev pub is_taken : Text → Bool
is_taken name =
    bytes_eq name (codes "ArithmeticException") || bytes_eq name (codes "NullPointerException")

-- no element passes the test of an earlier one
abbrev pub differ : {A : Type 0} → (A → A → Bool) → List A → Bool
differ same [] = true
differ same (x ∷ xs) = not (list_any (same x) xs) && differ same xs

-- a field's name and descriptor
abbrev pub field_named : List Constant → FieldFile → Member
field_named entries f =
    record {
      class = [];
      name = text_at entries f.name;
      descriptor = text_at entries f.descriptor;
    }

-- a method's name and descriptor
abbrev pub method_named : List Constant → MethodFile → Member
method_named entries m =
    record {
      class = [];
      name = text_at entries m.name;
      descriptor = text_at entries m.descriptor;
    }

-- a field has a name and the descriptor of a field
abbrev pub is_field_right : List Constant → FieldFile → Bool
is_field_right entries f =
    is_name (text_at entries f.name) && is_some (field_kind (text_at entries f.descriptor))

-- whether a descriptor is that of an input or of an output channel
abbrev pub is_of_channel : Text → Bool
is_of_channel text = bytes_eq text (codes "()I") || bytes_eq text (codes "(I)V")

-- a native method is a channel: it has a name, is static, and takes or gives an int
abbrev pub is_channel_right : List Constant → MethodFile → Bool
is_channel_right entries m =
    is_name (text_at entries m.name) && is_static m.access
    && is_of_channel (text_at entries m.descriptor)

-- a method has the descriptor of a method, and that of a channel where it is native
abbrev pub is_method_right : List Constant → MethodFile → Bool
is_method_right entries m =
    is_some (method_signature (text_at entries m.descriptor))
    && (not (is_native m.access) || is_channel_right entries m)

-- the method with which a run begins
abbrev pub main_member : Text → Member
main_member class = record { class = class; name = codes "main"; descriptor = codes "()V" }

-- a static method with code
abbrev pub is_begun_with : Option MethodFile → Bool
is_begun_with None = false
is_begun_with (Some m) = is_static m.access && not (is_native m.access)

abbrev pub method_in : ClassFile → Option ℕ → Option MethodFile
method_in file None = None
method_in file (Some place) = slice_get file.methods place
