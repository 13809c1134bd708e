-- Descriptors that the definitions are checked against: what each says, and which say nothing.
use Rattle.std.proofs.Common.{◌≡◌, List, [], ◌∷◌, Option, Some, None, refl, codes}
use Rattle.par_values.specs.declared.kind.Kind.{Kind}
use Rattle.par_values.specs.declared.kind.Kind.TheVariants.{Number, Object}
use Rattle.par_single.specs.declared.descriptor.Signature.{Signature}
use Rattle.par_single.specs.Descriptors.{kind_at, kinds_in, field_kind, method_signature}

abbrev says : List Kind → Option Kind → Option Signature
says takes gives = Some (record { takes = takes; gives = gives })

-- ---- fields

number : field_kind (codes "I") ≡ Some Number
unfolding kind_at
number = refl

truth : field_kind (codes "Z") ≡ Some Number
unfolding kind_at
truth = refl

object : field_kind (codes "LAb;") ≡ Some (Object (codes "Ab"))
unfolding kind_at
object = refl

two : field_kind (codes "II") ≡ None
unfolding kind_at
two = refl

no_field : field_kind (codes "V") ≡ None
unfolding kind_at
no_field = refl

not_closed : field_kind (codes "LAb") ≡ None
unfolding kind_at
not_closed = refl

no_name : field_kind (codes "L;") ≡ None
unfolding kind_at
no_name = refl

not_a_name : field_kind (codes "L1;") ≡ None
unfolding kind_at
not_a_name = refl

-- ---- methods

nothing : method_signature (codes "()V") ≡ says [] None
unfolding kind_at kinds_in
nothing = refl

in_order : method_signature (codes "(ILA;Z)LBc;")
    ≡ says (Number ∷ Object (codes "A") ∷ Number ∷ []) (Some (Object (codes "Bc")))
unfolding kind_at kinds_in
in_order = refl

letters_in_a_name : method_signature (codes "(LIZ;)I")
    ≡ says (Object (codes "IZ") ∷ []) (Some Number)
unfolding kind_at kinds_in
letters_in_a_name = refl

not_ended : method_signature (codes "(I") ≡ None
unfolding kind_at kinds_in
not_ended = refl

no_result : method_signature (codes "(I)") ≡ None
unfolding kind_at kinds_in
no_result = refl

nothing_as_an_argument : method_signature (codes "(V)V") ≡ None
unfolding kind_at kinds_in
nothing_as_an_argument = refl

ended_within_a_name : method_signature (codes "(LA)V") ≡ None
unfolding kind_at kinds_in
ended_within_a_name = refl

more_behind : method_signature (codes "()VV") ≡ None
unfolding kind_at kinds_in
more_behind = refl

not_begun : method_signature (codes "I)V") ≡ None
unfolding kind_at kinds_in
not_begun = refl
