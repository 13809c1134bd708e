-- Equal lines are those of equal events.
use Rattle.std.proofs.Common.{◌≡◌, ◌≢◌, ℕ, ◌<◌, ◌^◌, false, [], ◌∷◌, ◌++◌, refl, sym, ap, ap₂, ◌∙◌}
use Rattle.std.proofs.Common.{subst, arith, ℤ, codes}
use Rattle.std.specs.Prelude.{FitsSigned}
use Rattle.std.specs.Int.{w32}
use Rattle.std.specs.Fmt.{decimal, signed_decimal}
use Rattle.std.proofs.lemmas.List.{append_assoc, append_cancel_left, append_cancel_right}
use Rattle.std.proofs.lemmas.Fmt.{decimal_injective, signed_decimal_injective}
use Rattle.std.proofs.lemmas.Bool.{eqb-false}
use Rattle.par_base.specs.Names.{is_digit, IsName}
use Rattle.par_values.specs.declared.run.Val.{Val}
use Rattle.par_values.specs.declared.run.Val.TheVariants.{Int, Null, Ref}
use Rattle.par_values.specs.declared.run.Event.{Event}
use Rattle.par_values.specs.declared.run.Event.TheVariants.{Out, Set, Put, Born}
use Rattle.par_event_lines.specs.Texts.{Text, object_text, value_text, event_text}
use Rattle.par_event_lines.specs.Laws.{IsValue, IsEvent, EqualLinesAreEqualEvents}
use Rattle.par_event_lines.proofs.Cut.{Lacks, cut, not_lacked, name_lacks, no_digit, decimal_lacks}
use Rattle.par_event_lines.proofs.Cut.{short_mag, signed_lacks}

-- a member and what stands behind it
member_parts : (class name class' name' rest more : Text) → IsName class → IsName name
    → IsName class' → IsName name'
    → class ++ (46 ∷ (name ++ (32 ∷ rest))) ≡ class' ++ (46 ∷ (name' ++ (32 ∷ more)))
    → (class ≡ class') × (name ≡ name') × (rest ≡ more)
member_parts class name class' name' rest more c n c' n' e =
    let outer =
    cut 46 class class' (name ++ (32 ∷ rest)) (name' ++ (32 ∷ more)) (name_lacks 46 class refl c)
    (name_lacks 46 class' refl c') e in
    let inner =
    cut 32 name name' rest more (name_lacks 32 name refl n)
    (name_lacks 32 name' refl n') outer.behind in
    (outer.before, inner.before, inner.behind)

same_number : (m n : ℕ) → m < 2 ^ 32 → n < 2 ^ 32 → decimal m ≡ decimal n → m ≡ n
same_number m n small small' e =
    decimal_injective m n (omega (arith, small)) (omega (arith, small')) e

same_signed : (y z : ℤ) → FitsSigned w32 y → FitsSigned w32 z
    → signed_decimal y ≡ signed_decimal z → y ≡ z
same_signed y z fits fits' e = signed_decimal_injective y z (short_mag y fits) (short_mag z fits') e

object_parts : (class class' : Text) (m n : ℕ) → IsName class → IsName class' → m < 2 ^ 32
    → n < 2 ^ 32
    → object_text class m ≡ object_text class' n → (class ≡ class') × (m ≡ n)
object_parts class class' m n c c' small small' e =
    let parts =
    cut 35 class class' (decimal m) (decimal n) (name_lacks 35 class refl c)
    (name_lacks 35 class' refl c') e in
    (parts.before, same_number m n small small' parts.behind)

-- no digit is this byte
number_lacks : (c n : ℕ) → is_digit c ≡ false → n < 2 ^ 32 → Lacks c (decimal n)
number_lacks c n ends small = decimal_lacks c n (no_digit c ends) (omega (arith, small))

-- ---- values

no_object : (z : ℤ) (class : Text) (n : ℕ) → FitsSigned w32 z
    → signed_decimal z ≡ object_text class n → ⊥
no_object z class n fits e =
    let lacks : Lacks 35 (signed_decimal z) =
    signed_lacks 35 z (no_digit 35 refl) (λ f. omega (arith, f)) fits in
    not_lacked 35 class (decimal n) (subst (Lacks 35) e lacks)

no_null : (z : ℤ) → FitsSigned w32 z → signed_decimal z ≡ codes "null" → ⊥
no_null z fits e =
    let lacks : Lacks 110 (signed_decimal z) =
    signed_lacks 110 z (no_digit 110 refl) (λ f. omega (arith, f)) fits in
    (subst (Lacks 110) e lacks).0 refl

null_is_no_object : (class : Text) (n : ℕ) → codes "null" ≡ object_text class n → ⊥
null_is_no_object class n e =
    let differs : (c : ℕ) → 35 < c → c ≢ 35 = λ c less f. omega (arith, less, f) in
    let lacks : Lacks 35 (codes "null") = (
      differs 110 (omega arith),
      (differs 117 (omega arith), (differs 108 (omega arith), (differs 108 (omega arith), tt))),
    ) in
    not_lacked 35 class (decimal n) (subst (Lacks 35) e lacks)

same_value : (v w : Val) → IsValue v → IsValue w → value_text v ≡ value_text w → v ≡ w
same_value (Int y) (Int z) h k e = ap Int (same_signed y z h k e)
same_value (Int y) Null h k e = absurd (no_null y h e)
same_value (Int y) (Ref class n) h k e = absurd (no_object y class n h e)
same_value Null (Int z) h k e = absurd (no_null z k (sym e))
same_value Null Null h k e = refl
same_value Null (Ref class n) h k e = absurd (null_is_no_object class n e)
same_value (Ref class m) (Int z) h k e = absurd (no_object z class m k (sym e))
same_value (Ref class m) Null h k e = absurd (null_is_no_object class m (sym e))
same_value (Ref class m) (Ref class' n) h k e =
    let parts = object_parts class class' m n h.0 k.0 h.1 k.1 e in
    ap₂ Ref parts.0 parts.1

-- ---- events

-- the byte that a text begins with
abbrev first_byte : Text → ℕ
first_byte [] = 0
first_byte (byte ∷ text) = byte

same_out : (class channel class' channel' : Text) (y z : ℤ) → IsEvent (Out class channel y)
    → IsEvent (Out class' channel' z)
    → event_text (Out class channel y) ≡ event_text (Out class' channel' z)
    → Out class channel y ≡ Out class' channel' z
same_out class channel class' channel' y z h k e =
    let parts =
    member_parts class channel class' channel' (signed_decimal y) (signed_decimal z) h.0 h.1 k.0 k.1
    (append_cancel_left (codes "out ") _ _ e) in
    let number : y ≡ z = same_signed y z h.2 k.2 parts.2 in
    rw (parts.0, parts.1, number) refl

same_set : (class field class' field' : Text) (v w : Val) → IsEvent (Set class field v)
    → IsEvent (Set class' field' w)
    → event_text (Set class field v) ≡ event_text (Set class' field' w)
    → Set class field v ≡ Set class' field' w
same_set class field class' field' v w h k e =
    let parts =
    member_parts class field class' field' (value_text v) (value_text w) h.0 h.1 k.0 k.1
    (append_cancel_left (codes "set ") _ _ e) in
    let value : v ≡ w = same_value v w h.2 k.2 parts.2 in
    rw (parts.0, parts.1, value) refl

same_put : (class field class' field' : Text) (m n : ℕ) (v w : Val) → IsEvent (Put class m field v)
    → IsEvent (Put class' n field' w)
    → event_text (Put class m field v) ≡ event_text (Put class' n field' w)
    → Put class m field v ≡ Put class' n field' w
same_put class field class' field' m n v w h k e =
    let rest = 46 ∷ (field ++ (32 ∷ value_text v)) in
    let more = 46 ∷ (field' ++ (32 ∷ value_text w)) in
    let whole : class ++ (35 ∷ (decimal m ++ rest)) ≡ class' ++ (35 ∷ (decimal n ++ more)) =
    sym (append_assoc class (35 ∷ decimal m) rest) ∙ append_cancel_left (codes "put ") _ _ e
    ∙ append_assoc class' (35 ∷ decimal n) more in
    let outer =
    cut 35 class class' (decimal m ++ rest) (decimal n ++ more) (name_lacks 35 class refl h.0)
    (name_lacks 35 class' refl k.0) whole in
    let inner =
    cut 46 (decimal m) (decimal n) (field ++ (32 ∷ value_text v)) (field' ++ (32 ∷ value_text w))
    (number_lacks 46 m refl h.1) (number_lacks 46 n refl k.1) outer.behind in
    let behind =
    cut 32 field field' (value_text v) (value_text w) (name_lacks 32 field refl h.2)
    (name_lacks 32 field' refl k.2) inner.behind in
    let number : m ≡ n = same_number m n h.1 k.1 inner.before in
    let value : v ≡ w = same_value v w h.3 k.3 behind.behind in
    rw (outer.before, number, behind.before, value) refl

same_born : (class class' : Text) (m n : ℕ) → IsEvent (Born class m) → IsEvent (Born class' n)
    → event_text (Born class m) ≡ event_text (Born class' n) → Born class m ≡ Born class' n
same_born class class' m n h k e =
    let parts =
    object_parts class class' m n h.0 k.0 h.1 k.1 (append_cancel_left (codes "new ") _ _ e) in
    rw (parts.0, parts.1) refl

same_event : (one other : Event) → IsEvent one → IsEvent other → event_text one ≡ event_text other
    → one ≡ other
same_event (Out class channel y) (Out class' channel' z) h k e =
    same_out class channel class' channel' y z h k e
same_event (Set class field v) (Set class' field' w) h k e =
    same_set class field class' field' v w h k e
same_event (Put class m field v) (Put class' n field' w) h k e =
    same_put class field class' field' m n v w h k e
same_event (Born class m) (Born class' n) h k e = same_born class class' m n h k e
same_event one other h k e =
    absurd (eqb-false (first_byte (event_text one)) (first_byte (event_text other)) refl
    (ap first_byte e))

pub equal_lines_are_equal_events : EqualLinesAreEqualEvents
equal_lines_are_equal_events one other h k e =
    same_event one other h k
    (append_cancel_right (event_text one) (event_text other) (codes "\n") e)
