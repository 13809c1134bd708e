-- How the kinds of the arguments of a descriptor follow one another.
use Rattle.std.proofs.Common.{◌≡◌, ℕ, zero, suc, ◌+◌, ◌-◌, ◌<◌, ◌≤◌, ◌++◌, Bool, true, false}
use Rattle.std.proofs.Common.{if◌then◌else◌, ◌==◌, List, [], ◌∷◌, length, drop, Some, None, Option}
use Rattle.std.proofs.Common.{arith, refl, sym, ap, ◌∙◌}
use Rattle.std.specs.Prelude.{option_map, IfSome}
use Rattle.std.proofs.lemmas.Grind.{common_steps}
use Rattle.std.specs.List.{position}
use Rattle.par_values.specs.declared.kind.Kind.{Kind}
use Rattle.par_values.specs.declared.kind.Kind.TheVariants.{Number}
use Rattle.par_single.specs.declared.descriptor.Signature.{Signature}
use Rattle.par_single.specs.Descriptors.{Text, is_number, ends_name, object_to, kind_at, no_kinds}
use Rattle.par_single.specs.Descriptors.{kind_before, kinds_from, kinds_in, kinds_at, signature_of}
use Rattle.par_single.specs.Descriptors.{signature_with, result_kind}

-- as many bytes from its end on are the text that stands there
drop-back : (n : ℕ) (text : Text) → drop (length text - length (drop n text)) text ≡ drop n text
drop-back zero text =
    let none : length text - length text ≡ 0 = omega arith in ap (λ (m : ℕ). drop m text) none
drop-back (suc n) [] = refl
drop-back (suc n) (byte ∷ text) =
    let few : length (drop n text) ≤ length text = grind (arith, common_steps) in
    let more : suc (length text) - length (drop n text) ≡ suc (length text - length (drop n text)) =
    omega arith in
    ap (λ (m : ℕ). drop m (byte ∷ text)) more ∙ drop-back n text

-- what stands behind a kind, counted from the end
pub record Behind (text rest : Text) : Type 0 where
  pub shorter : length rest ≤ length text
  pub same : drop (length text - length rest) text ≡ rest

object_to-behind : (text : Text) (end : Option ℕ) (found : Kind × Text)
    → object_to text end ≡ Some found → Behind text found.1
object_to-behind text None found is = absurd (cc is)
object_to-behind text (Some end) found is =
    let rest : drop (end + 1) text ≡ found.1 = grind (arith, common_steps) in
    record {
      shorter = grind (arith, common_steps);
      same = cc (drop-back (end + 1) text, rest);
    }

one_of : (number class : Bool) (text : Text) (found : Kind × Text)
    → (if number then Some (Number, text)
    else if class then object_to text (position ends_name text) else None) ≡ Some found
    → Behind text found.1
one_of true class text found is =
    record { shorter = grind arith; same = grind (arith, drop-back 0 text) }
one_of false true text found is = object_to-behind text (position ends_name text) found is
one_of false false text found is = absurd (cc is)

kind_at-behind : (byte : ℕ) (text : Text) (found : Kind × Text) → kind_at (byte ∷ text) ≡ Some found
    → Behind text found.1
unfolding kind_at
kind_at-behind byte text found is =
    one_of (is_number byte) (byte == 76) text found is

kind_at-none : kind_at [] ≡ None
unfolding kind_at
kind_at-none = refl

-- bytes of an earlier descriptor are passed
kinds_in-drop : (text : Text) (n : ℕ) → kinds_in text n ≡ kinds_at (drop n text)
unfolding kinds_in
kinds_in-drop [] zero = refl
kinds_in-drop [] (suc n) = refl
kinds_in-drop (byte ∷ text) zero = refl
kinds_in-drop (byte ∷ text) (suc n) = kinds_in-drop text n

-- Behind a kind the others follow.
pub record Follow (text : Text) (kind : Kind) (rest : Text) : Type 0 where
  pub shorter : length rest < length text
  pub kinds : kinds_at text ≡ kind_before kind (kinds_at rest)

pub follow : (text : Text) (kind : Kind) (rest : Text) → Some (kind, rest) ≡ kind_at text
    → Follow text kind rest
unfolding kinds_in
follow [] kind rest is = absurd (cc (is, kind_at-none))
follow (byte ∷ text) kind rest is =
    let behind = kind_at-behind byte text (kind, rest) (sym is) in
    record {
      shorter = omega (arith, behind.shorter);
      kinds =
          ap (kinds_from (kinds_in text) byte text) (sym is)
          ∙ ap (kind_before kind) (kinds_in-drop text (length text - length rest)
          ∙ ap kinds_at behind.same);
    }

-- Where there is no kind, the arguments end.
pub ends : (text : Text) → None ≡ kind_at text → kinds_at text ≡ no_kinds text
unfolding kinds_in
ends [] is = refl
ends (byte ∷ text) is = ap (kinds_from (kinds_in text) byte text) (sym is)

-- ---- what a loop along the arguments knows

-- what stands behind the arguments
abbrev pub behind_of : Option (List Kind × Text) → Option Text
behind_of found = option_map (λ f. f.1) found

pub behind-before : (kind : Kind) (o : Option (List Kind × Text))
    → behind_of (kind_before kind o) ≡ behind_of o
behind-before kind None = refl
behind-before kind (Some found) = refl

-- kinds that are known before those that follow
abbrev pub joined : List Kind → Option (List Kind × Text) → Option (List Kind × Text)
joined kinds None = None
joined kinds (Some found) = Some (kinds ++ found.0, found.1)

pub joined-before : (kinds : List Kind) (kind : Kind) (o : Option (List Kind × Text))
    → joined kinds (kind_before kind o) ≡ joined (kinds ++ kind ∷ []) o
joined-before kinds kind None = refl
joined-before kinds kind (Some found) =
    let same : kinds ++ kind ∷ found.0 ≡ (kinds ++ kind ∷ []) ++ found.0 =
    grind (arith, common_steps) in ap (λ (k : List Kind). Some (k, found.1)) same

joined-end : (kinds : List Kind) (text : Text) (ended : Bool)
    → IfSome (joined kinds (if ended then Some ([], text) else None)) (λ found. kinds ≡ found.0)
joined-end kinds text true = grind (arith, common_steps)
joined-end kinds text false = tt

-- where none follow they are all
pub joined-no_kinds : (kinds : List Kind) (text : Text)
    → IfSome (joined kinds (no_kinds text)) (λ found. kinds ≡ found.0)
joined-no_kinds kinds [] = tt
joined-no_kinds kinds (byte ∷ text) = joined-end kinds text (byte == 41)

-- what arguments make gives what stands behind them
abbrev pub result_of : Option Text → Option (Option Kind)
result_of None = None
result_of (Some text) = result_kind text

with-gives : (takes : List Kind) (o : Option (Option Kind))
    → option_map (λ (s : Signature). s.gives) (signature_with takes o) ≡ o
with-gives takes None = refl
with-gives takes (Some gives) = refl

pub signature_gives : (o : Option (List Kind × Text))
    → option_map (λ (s : Signature). s.gives) (signature_of o) ≡ result_of (behind_of o)
signature_gives None = refl
signature_gives (Some found) = with-gives found.0 (result_kind found.1)
