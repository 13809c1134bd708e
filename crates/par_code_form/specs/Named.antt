-- What the numbers of a program are called in class files.
use Rattle.std.specs.Prelude.{ℕ, List, [], ◌∷◌, ◌++◌, Option, Some, None, slice_get, codes}
use Rattle.par_completes.specs.par_typed.declared.ty.Ty.{Ty}
use Rattle.par_completes.specs.par_typed.declared.ty.Ty.TheVariants as ty
use Rattle.par_completes.specs.par_typed.declared.table.FieldInfo.{FieldInfo}
use Rattle.par_completes.specs.par_typed.declared.table.ChannelInfo.{ChannelInfo}
use Rattle.par_completes.specs.par_typed.declared.table.ParamInfo.{ParamInfo}
use Rattle.par_completes.specs.par_typed.declared.table.MethodInfo.{MethodInfo}
use Rattle.par_completes.specs.par_typed.declared.table.ClassInfo.{ClassInfo}
use Rattle.par_completes.specs.par_typed.declared.table.Table.{Table}
use Rattle.par_values.specs.Areas.{Name}
use Rattle.par_code_form.specs.Code.{Words}

-- what a number names; nothing where it names nothing
abbrev pub of_class : {A : Type 0} → Option ClassInfo → (ClassInfo → List A) → List A
of_class None says = []
of_class (Some class) says = says class

abbrev pub of_field : {A : Type 0} → Option FieldInfo → (FieldInfo → List A) → List A
of_field None says = []
of_field (Some field) says = says field

abbrev pub of_channel : {A : Type 0} → Option ChannelInfo → (ChannelInfo → List A) → List A
of_channel None says = []
of_channel (Some channel) says = says channel

abbrev pub of_method : {A : Type 0} → Option MethodInfo → (MethodInfo → List A) → List A
of_method None says = []
of_method (Some method) says = says method

module _ (table : Table) where
  abbrev pub class_word : ℕ → Name
  class_word c = of_class (slice_get table.classes c) (λ class. class.name)

  -- `I`, `Z`, `LName;` or `V`; no member has the type of null
  abbrev pub descriptor : Ty → Name
  descriptor ty.Int = codes "I"
  descriptor ty.Boolean = codes "Z"
  descriptor (ty.Class c) = codes "L" ++ class_word c ++ codes ";"
  descriptor ty.Null = []
  descriptor ty.Void = codes "V"

  abbrev pub descriptors : List ParamInfo → Name
  descriptors [] = []
  descriptors (p ∷ ps) = descriptor p.ty ++ descriptors ps

  -- the types of the parameters between `(` and `)`, and the result
  abbrev pub method_descriptor : MethodInfo → Name
  method_descriptor m = codes "(" ++ descriptors m.params ++ codes ")" ++ descriptor m.result

  -- what the numbers of this program are called
  abbrev pub words_of : Words
  words_of = record {
    class = class_word;
    field = λ c f. of_class (slice_get table.classes c)
        (λ class. of_field (slice_get class.fields f) (λ field. field.name));
    field_type = λ c f. of_class (slice_get table.classes c)
        (λ class. of_field (slice_get class.fields f) (λ field. descriptor field.ty));
    channel = λ c k. of_class (slice_get table.classes c)
        (λ class. of_channel (slice_get class.channels k) (λ channel. channel.name));
    method = λ c m. of_class (slice_get table.classes c)
        (λ class. of_method (slice_get class.methods m) (λ method. method.name));
    method_type = λ c m. of_class (slice_get table.classes c)
        (λ class. of_method (slice_get class.methods m) method_descriptor);
  }
