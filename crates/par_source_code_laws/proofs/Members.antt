-- What an erased table has where its source has something.
use Rattle.std.proofs.Common.{◌≡◌, ℕ, zero, suc, ◌+◌, Bool, true, false, not, cond, List}
use Rattle.std.proofs.Common.{[], ◌∷◌, ◌++◌, map, length, take, Option, Some, None, refl, ap}
use Rattle.std.proofs.Common.{◌∙◌, subst, arith}
use Rattle.std.specs.Prelude.{if◌then◌else◌, slice_get, count_by}
use Rattle.std.specs.Option.{option_map}
use Rattle.std.proofs.lemmas.Option.{slice_get-map}
use Rattle.std.proofs.lemmas.List.{length-map}
use Rattle.std.proofs.lemmas.List.Sums.{sum_by-cons}
use Rattle.par_typed.specs.declared.table.ChannelInfo.{ChannelInfo}
use Rattle.par_typed.specs.declared.table.ClassInfo.{ClassInfo}
use Rattle.par_typed.specs.declared.table.FieldInfo.{FieldInfo}
use Rattle.par_typed.specs.declared.table.MethodInfo.{MethodInfo}
use Rattle.par_typed.specs.declared.table.ParamInfo.{ParamInfo}
use Rattle.par_typed.specs.declared.table.Table.{Table}
use Rattle.par_typed.specs.Members.{fields_in, channels_in, methods_in}
use Rattle.par_typed.specs.Members.{field_at, channel_at, method_at}
use Rattle.par_erase.specs.Shown.{channel_info}
use Rattle.par_erase.specs.Erased.{erased_table, erased_class, erased_field, erased_method}
use Rattle.par_erase.specs.Erased.{erased_param, erased_channels, inputs_among, outputs_among}
use Rattle.par_erase.specs.Erased.{inputs_in, input_place, output_place}

-- ---- lists

pub get_left : {A : Type 0} (xs ys : List A) (i : ℕ) (x : A) → slice_get xs i ≡ Some x
    → slice_get (xs ++ ys) i ≡ Some x
get_left [] ys i x h = absurd (cc)
get_left (z ∷ xs) ys zero x h = h
get_left (z ∷ xs) ys (suc i) x h = get_left xs ys i x h

get_right : {A : Type 0} (xs ys : List A) (i n : ℕ) → length xs + i ≡ n
    → slice_get (xs ++ ys) n ≡ slice_get ys i
get_right [] ys i n is = let e : n ≡ i = omega (arith, is) in ap (slice_get ys) e
get_right (z ∷ xs) ys i zero is = absurd (omega arith)
get_right (z ∷ xs) ys i (suc n) is = get_right xs ys i n (omega arith)

-- one more in front, or none
in_front : {A : Type 0} (b : Bool) (z : A) (xs : List A) (n k : ℕ) (x : A)
    → k ≡ cond b 1 0 + n → slice_get xs n ≡ Some x
    → slice_get (if b then z ∷ xs else xs) k ≡ Some x
in_front true z xs n k x is h =
    let e : suc n ≡ k = omega (arith, is) in subst (λ i. slice_get (z ∷ xs) i ≡ Some x) e h
in_front false z xs n k x is h =
    let e : n ≡ k = omega (arith, is) in subst (λ i. slice_get xs i ≡ Some x) e h

in_other_front : {A : Type 0} (b : Bool) (z : A) (xs : List A) (n k : ℕ) (x : A)
    → k ≡ cond (not b) 1 0 + n → slice_get xs n ≡ Some x
    → slice_get (if b then xs else z ∷ xs) k ≡ Some x
in_other_front true z xs n k x is h = in_front false z xs n k x is h
in_other_front false z xs n k x is h = in_front true z xs n k x is h

longer : {A : Type 0} (b : Bool) (z : A) (xs : List A) (n k : ℕ) → k ≡ cond b 1 0 + n
    → length xs ≡ n → length (if b then z ∷ xs else xs) ≡ k
longer true z xs n k is h = omega (arith, is, h)
longer false z xs n k is h = omega (arith, is, h)

count_more : {A : Type 0} (p : A → Bool) (x : A) (xs : List A)
    → count_by p (x ∷ xs) ≡ cond (p x) 1 0 + count_by p xs
count_more p x xs = sum_by-cons (λ x. cond (p x) 1 0) x xs

chosen : {A : Type 0} (b : Bool) (x y : A) → b ≡ true → (if b then x else y) ≡ x
chosen true x y h = refl
chosen false x y h = absurd (cc)

left_out : {A : Type 0} (b : Bool) (x y : A) → b ≡ false → (if b then x else y) ≡ y
left_out true x y h = absurd (cc)
left_out false x y h = refl

-- ---- channels

input_among : (cs : List ChannelInfo) (k : ℕ) (info : ChannelInfo) → slice_get cs k ≡ Some info
    → info.is_input ≡ true
    → slice_get (inputs_among cs) (count_by (λ channel. channel.is_input) (take k cs))
    ≡ Some info.name
input_among [] k info h is = absurd (cc)
input_among (c ∷ cs) zero info h is =
    let same : c ≡ info = cc in
    subst (λ (i : ChannelInfo). slice_get (inputs_among (c ∷ cs)) 0 ≡ Some i.name) same
    (ap (λ xs. slice_get xs 0) (chosen c.is_input (c.name ∷ inputs_among cs) (inputs_among cs)
    (ap (λ (i : ChannelInfo). i.is_input) same ∙ is)))
input_among (c ∷ cs) (suc k) info h is =
    in_front c.is_input c.name (inputs_among cs) _ _ info.name
    (count_more (λ (channel : ChannelInfo). channel.is_input) c (take k cs))
    (input_among cs k info h is)

output_among : (cs : List ChannelInfo) (k : ℕ) (info : ChannelInfo) → slice_get cs k ≡ Some info
    → info.is_input ≡ false
    → slice_get (outputs_among cs) (count_by (λ channel. not channel.is_input) (take k cs))
    ≡ Some info.name
output_among [] k info h is = absurd (cc)
output_among (c ∷ cs) zero info h is =
    let same : c ≡ info = cc in
    subst (λ (i : ChannelInfo). slice_get (outputs_among (c ∷ cs)) 0 ≡ Some i.name) same
    (ap (λ xs. slice_get xs 0) (left_out c.is_input (outputs_among cs) (c.name ∷ outputs_among cs)
    (ap (λ (i : ChannelInfo). i.is_input) same ∙ is)))
output_among (c ∷ cs) (suc k) info h is =
    in_other_front c.is_input c.name (outputs_among cs) _ _ info.name
    (count_more (λ (channel : ChannelInfo). not channel.is_input) c (take k cs))
    (output_among cs k info h is)

many_inputs : (cs : List ChannelInfo)
    → length (inputs_among cs) ≡ count_by (λ channel. channel.is_input) cs
many_inputs [] = refl
many_inputs (c ∷ cs) =
    longer c.is_input c.name (inputs_among cs) _ _
    (count_more (λ (channel : ChannelInfo). channel.is_input) c cs) (many_inputs cs)

input_of : (cs : List ChannelInfo) (k : ℕ) (info : ChannelInfo) → slice_get cs k ≡ Some info
    → info.is_input ≡ true
    → slice_get (erased_channels cs) (count_by (λ channel. channel.is_input) (take k cs))
    ≡ Some (channel_info true info.name)
input_of cs k info h is =
    let n = count_by (λ channel. channel.is_input) (take k cs) in
    get_left (map (channel_info true) (inputs_among cs))
    (map (channel_info false) (outputs_among cs)) n (channel_info true info.name)
    (slice_get-map (channel_info true) (inputs_among cs) n
    ∙ ap (option_map (channel_info true)) (input_among cs k info h is))

output_of : (cs : List ChannelInfo) (k : ℕ) (info : ChannelInfo) → slice_get cs k ≡ Some info
    → info.is_input ≡ false
    → slice_get (erased_channels cs) (count_by (λ channel. channel.is_input) cs
    + count_by (λ channel. not channel.is_input) (take k cs))
    ≡ Some (channel_info false info.name)
output_of cs k info h is =
    let n = count_by (λ channel. not channel.is_input) (take k cs) in
    let long : length (map (channel_info true) (inputs_among cs))
    ≡ count_by (λ channel. channel.is_input) cs =
    length-map (inputs_among cs) (channel_info true) ∙ many_inputs cs in
    get_right (map (channel_info true) (inputs_among cs))
    (map (channel_info false) (outputs_among cs)) n _ (ap (λ m. m + n) long)
    ∙ slice_get-map (channel_info false) (outputs_among cs) n
    ∙ ap (option_map (channel_info false)) (output_among cs k info h is)

-- ---- in a class, where there is one

field_in : (o : Option ClassInfo) (f : ℕ) (info : FieldInfo)
    → slice_get (fields_in o) f ≡ Some info
    → slice_get (fields_in (option_map erased_class o)) f ≡ Some (erased_field info)
field_in None f info h = absurd (cc)
field_in (Some class) f info h =
    slice_get-map erased_field class.fields f ∙ ap (option_map erased_field) h

method_in : (o : Option ClassInfo) (i : ℕ) (info : MethodInfo)
    → slice_get (methods_in o) i ≡ Some info
    → slice_get (methods_in (option_map erased_class o)) i ≡ Some (erased_method info)
method_in None i info h = absurd (cc)
method_in (Some class) i info h =
    slice_get-map erased_method class.methods i ∙ ap (option_map erased_method) h

input_in : (o : Option ClassInfo) (k : ℕ) (info : ChannelInfo)
    → slice_get (channels_in o) k ≡ Some info → info.is_input ≡ true
    → slice_get (channels_in (option_map erased_class o))
    (count_by (λ channel. channel.is_input) (take k (channels_in o)))
    ≡ Some (channel_info true info.name)
input_in None k info h is = absurd (cc)
input_in (Some class) k info h is = input_of class.channels k info h is

output_in : (o : Option ClassInfo) (k : ℕ) (info : ChannelInfo)
    → slice_get (channels_in o) k ≡ Some info → info.is_input ≡ false
    → slice_get (channels_in (option_map erased_class o))
    (count_by (λ channel. channel.is_input) (channels_in o)
    + count_by (λ channel. not channel.is_input) (take k (channels_in o)))
    ≡ Some (channel_info false info.name)
output_in None k info h is = absurd (cc)
output_in (Some class) k info h is = output_of class.channels k info h is

-- ---- in the table

module _ (t : Table) where
  all_classes : (c : ℕ)
      → slice_get (erased_table t).classes c ≡ option_map erased_class (slice_get t.classes c)
  all_classes c = slice_get-map erased_class t.classes c

  pub class_erased : (c : ℕ) (info : ClassInfo) → slice_get t.classes c ≡ Some info
      → slice_get (erased_table t).classes c ≡ Some (erased_class info)
  class_erased c info h = all_classes c ∙ ap (option_map erased_class) h

  pub field_erased : (c f : ℕ) (info : FieldInfo) → field_at t c f ≡ Some info
      → field_at (erased_table t) c f ≡ Some (erased_field info)
  field_erased c f info h =
      ap (λ o. slice_get (fields_in o) f) (all_classes c)
      ∙ field_in (slice_get t.classes c) f info h

  pub method_erased : (c i : ℕ) (info : MethodInfo) → method_at t c i ≡ Some info
      → method_at (erased_table t) c i ≡ Some (erased_method info)
  method_erased c i info h =
      ap (λ o. slice_get (methods_in o) i) (all_classes c)
      ∙ method_in (slice_get t.classes c) i info h

  pub input_erased : (c k : ℕ) (info : ChannelInfo) → channel_at t c k ≡ Some info
      → info.is_input ≡ true
      → channel_at (erased_table t) c (input_place t c k) ≡ Some (channel_info true info.name)
  input_erased c k info h is =
      ap (λ o. slice_get (channels_in o) (input_place t c k)) (all_classes c)
      ∙ input_in (slice_get t.classes c) k info h is

  pub output_erased : (c k : ℕ) (info : ChannelInfo) → channel_at t c k ≡ Some info
      → info.is_input ≡ false
      → channel_at (erased_table t) c (inputs_in t c + output_place t c k)
      ≡ Some (channel_info false info.name)
  output_erased c k info h is =
      ap (λ o. slice_get (channels_in o) (inputs_in t c + output_place t c k)) (all_classes c)
      ∙ output_in (slice_get t.classes c) k info h is

pub same_takes : (ps : List ParamInfo)
    → map (λ (p : ParamInfo). p.ty) (map erased_param ps) ≡ map (λ (p : ParamInfo). p.ty) ps
same_takes [] = refl
same_takes (p ∷ ps) = ap (λ us. p.ty ∷ us) (same_takes ps)
