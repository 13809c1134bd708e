-- What the numbers of a plain program are called.
use Rattle.std.proofs.Common.{◌≡◌, ℕ, ◌+◌, ◌<◌, List, [], ◌∷◌, ◌++◌, map, Option, Some, None}
use Rattle.std.proofs.Common.{slice_get}
use Rattle.std.proofs.Common.{zero, suc, Bool, true, false, arith, sym, option_map, length, refl}
use Rattle.std.proofs.Common.{ap, ◌∙◌, append_assoc}
use Rattle.std.proofs.lemmas.Option.{slice_get-map}
use Rattle.std.proofs.lemmas.List.{length-map}
use Rattle.par_erase.specs.declared.program.Plain.{Plain}
use Rattle.par_erase.specs.declared.program.PlainClass.{PlainClass}
use Rattle.par_erase.specs.declared.program.PlainField.{PlainField}
use Rattle.par_erase.specs.declared.program.PlainMethod.{PlainMethod}
use Rattle.par_erase.specs.Shown.{Name, class_info, field_info, method_info, channel_info, table_of}
use Rattle.par_erase.specs.Shown.{inputs_of, inputs_of_class}
use Rattle.par_code_form.specs.Named.{words_of, class_word, descriptor, method_descriptor}
use Rattle.par_code_form.specs.Named.{of_class, of_field, of_channel, of_method}

class_there : (p : Plain) (c : ℕ) (k : PlainClass) → slice_get p.classes c ≡ Some k
    → slice_get (table_of p).classes c ≡ Some (class_info k)
class_there p c k h = slice_get-map class_info p.classes c ∙ ap (option_map class_info) h

pub class_word_is : (p : Plain) (c : ℕ) (k : PlainClass) → slice_get p.classes c ≡ Some k
    → class_word (table_of p) c ≡ k.name
class_word_is p c k h = ap (λ o. of_class o (λ class. class.name)) (class_there p c k h)

pub field_is : (p : Plain) (c f : ℕ) (k : PlainClass) (x : PlainField)
    → slice_get p.classes c ≡ Some k → slice_get k.fields f ≡ Some x
    → (words_of (table_of p)).field c f ≡ x.name
field_is p c f k x h there =
    ap (λ o. of_class o (λ class. of_field (slice_get class.fields f) (λ field. field.name)))
    (class_there p c k h)
    ∙ ap (λ o. of_field o (λ field. field.name))
    (slice_get-map field_info k.fields f ∙ ap (option_map field_info) there)

pub field_type_is : (p : Plain) (c f : ℕ) (k : PlainClass) (x : PlainField)
    → slice_get p.classes c ≡ Some k → slice_get k.fields f ≡ Some x
    → (words_of (table_of p)).field_type c f ≡ descriptor (table_of p) x.ty
field_type_is p c f k x h there =
    ap (λ o. of_class o
    (λ class. of_field (slice_get class.fields f) (λ field. descriptor (table_of p) field.ty)))
    (class_there p c k h)
    ∙ ap (λ o. of_field o (λ field. descriptor (table_of p) field.ty))
    (slice_get-map field_info k.fields f ∙ ap (option_map field_info) there)

pub method_is : (p : Plain) (c m : ℕ) (k : PlainClass) (x : PlainMethod)
    → slice_get p.classes c ≡ Some k → slice_get k.methods m ≡ Some x
    → (words_of (table_of p)).method c m ≡ x.name
method_is p c m k x h there =
    ap (λ o. of_class o (λ class. of_method (slice_get class.methods m) (λ method. method.name)))
    (class_there p c k h)
    ∙ ap (λ o. of_method o (λ method. method.name))
    (slice_get-map method_info k.methods m ∙ ap (option_map method_info) there)

pub method_type_is : (p : Plain) (c m : ℕ) (k : PlainClass) (x : PlainMethod)
    → slice_get p.classes c ≡ Some k → slice_get k.methods m ≡ Some x
    → (words_of (table_of p)).method_type c m ≡ method_descriptor (table_of p) (method_info x)
method_type_is p c m k x h there =
    ap (λ o. of_class o
    (λ class. of_method (slice_get class.methods m) (method_descriptor (table_of p))))
    (class_there p c k h)
    ∙ ap (λ o. of_method o (method_descriptor (table_of p)))
    (slice_get-map method_info k.methods m ∙ ap (option_map method_info) there)

got_before : {X : Type 0} (xs ys : List X) (i : ℕ) (x : X) → slice_get xs i ≡ Some x
    → slice_get (xs ++ ys) i ≡ Some x
got_before [] ys i x h = absurd (cc h)
got_before (y ∷ xs) ys zero x h = h
got_before (y ∷ xs) ys (suc i) x h = got_before xs ys i x h

got_behind : {X : Type 0} (xs ys : List X) (i : ℕ)
    → slice_get (xs ++ ys) (length xs + i) ≡ slice_get ys i
got_behind [] ys i =
    let at : 0 + i ≡ i = omega arith in ap (slice_get ys) at
got_behind (x ∷ xs) ys i =
    let at : length (x ∷ xs) + i ≡ suc (length xs + i) = omega arith in
    ap (slice_get (x ∷ (xs ++ ys))) at ∙ got_behind xs ys i

pub input_is : (p : Plain) (c i : ℕ) (k : PlainClass) (x : Name)
    → slice_get p.classes c ≡ Some k → slice_get k.inputs i ≡ Some x
    → (words_of (table_of p)).channel c i ≡ x
input_is p c i k x h there =
    ap (λ o. of_class o
    (λ class. of_channel (slice_get class.channels i) (λ channel. channel.name)))
    (class_there p c k h)
    ∙ ap (λ o. of_channel o (λ channel. channel.name))
    (got_before (map (channel_info true) k.inputs) (map (channel_info false) k.outputs) i
    (channel_info true x)
    (slice_get-map (channel_info true) k.inputs i ∙ ap (option_map (channel_info true)) there))

pub output_is : (p : Plain) (c i : ℕ) (k : PlainClass) (x : Name)
    → slice_get p.classes c ≡ Some k → slice_get k.outputs i ≡ Some x
    → (words_of (table_of p)).channel c (inputs_of p c + i) ≡ x
output_is p c i k x h there =
    let at : inputs_of p c + i ≡ length (map (channel_info true) k.inputs) + i =
    ap (λ o. inputs_of_class o + i) h
    ∙ ap (λ n. n + i) (sym (length-map k.inputs (channel_info true))) in
    ap (λ o. of_class o
    (λ class. of_channel (slice_get class.channels (inputs_of p c + i)) (λ channel. channel.name)))
    (class_there p c k h)
    ∙ ap (λ n. of_channel (slice_get (class_info k).channels n) (λ channel. channel.name)) at
    ∙ ap (λ o. of_channel o (λ channel. channel.name))
    (got_behind (map (channel_info true) k.inputs) (map (channel_info false) k.outputs) i
    ∙ slice_get-map (channel_info false) k.outputs i ∙ ap (option_map (channel_info false)) there)

pub ruleset names = (
  class_word_is,
  field_is,
  field_type_is,
  method_is,
  method_type_is,
  input_is,
  output_is,
  append_assoc,
)
