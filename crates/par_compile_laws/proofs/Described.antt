-- What the descriptors of fields and methods say.
use Rattle.std.proofs.Common.{◌≡◌, ℕ, suc, ◌+◌, Bool, true, false, cond}
use Rattle.std.proofs.Common.{List, [], ◌∷◌, ◌++◌, length, map, take, drop, Some, None, refl, sym}
use Rattle.std.proofs.Common.{ap, ◌∙◌, arith, append_assoc, codes, get_or, IsTrue}
use Rattle.std.proofs.lemmas.Slice.Eq.{bytes_eq-Decides}
use Rattle.std.specs.Option.{option_map}
use Rattle.std.specs.Str.{bytes_eq}
use Rattle.std.specs.List.{position, position_from, list_all, AllByRecursion}
use Rattle.std.proofs.lemmas.List.{append-nil}
use Rattle.std.proofs.lemmas.Bool.{and_parts, and_from, or_left, eqb-true, le-leb}
use Rattle.par_base.specs.Names.{IsName, is_name, is_spelled, is_letter, is_digit, goes_on}
use Rattle.par_index.proofs.Places.{position-from}
use Rattle.par_code_form.specs.par_typed.declared.ty.Ty.{Ty}
use Rattle.par_code_form.specs.par_typed.declared.ty.Ty.TheVariants as ty
use Rattle.par_code_form.specs.par_typed.declared.table.MethodInfo.{MethodInfo}
use Rattle.par_code_form.specs.par_typed.declared.table.ParamInfo.{ParamInfo}
use Rattle.par_code_form.specs.par_typed.declared.table.Table.{Table}
use Rattle.par_values.specs.declared.kind.Kind.TheVariants.{Object}
use Rattle.par_single.specs.Descriptors.{Text, ends_name, object_to, kind_at, kind_before, kinds_at}
use Rattle.par_single.specs.Descriptors.{alone, field_kind, signature_with, signature_of}
use Rattle.par_single.specs.Descriptors.{method_signature, result_kind}
use Rattle.par_single.proofs.Following.{follow, ends}
use Rattle.par_code_form.specs.Named.{class_word, descriptor, descriptors, method_descriptor}
use Rattle.par_compile_laws.specs.DescriptorLaws.{kind_of, given_kind, IsValueType, IsResultType}
use Rattle.par_compile_laws.specs.DescriptorLaws.{HasValueTypes}
use Rattle.par_compile_laws.specs.DescriptorLaws.{FieldsAreDescribed, MethodsAreDescribed}

-- ---- a name and what ends it

-- no byte of a name ends it
goes-not-end : (byte : ℕ) → goes_on byte ≡ true → ends_name byte ≡ false
goes-not-end byte goes = in_case (ends_name byte) refl where
  in_case : (b : Bool) → ends_name byte ≡ b → b ≡ false
  in_case false is = refl
  in_case true is =
      let both : true ≡ false = sym goes ∙ ap goes_on (eqb-true byte 59 is) in absurd (cc both)

ends-behind : (k : ℕ) (name rest : Text) → list_all goes_on name ≡ true
    → position_from ends_name k (name ++ 59 ∷ rest) ≡ Some (k + length name)
ends-behind k [] rest all = let same : k ≡ k + 0 = omega arith in ap Some same
ends-behind k (byte ∷ name) rest all =
    let both = and_parts (goes_on byte) (list_all goes_on name) all in
    let same : k + 1 + length name ≡ k + suc (length name) = omega arith in
    ap (λ b. cond b (Some k) (position_from ends_name (k + 1) (name ++ 59 ∷ rest)))
    (goes-not-end byte both.0)
    ∙ ends-behind (k + 1) name rest both.1 ∙ ap Some same

spelled-goes : (name : Text) → IsTrue (is_spelled name) → list_all goes_on name ≡ true
spelled-goes [] is = refl
spelled-goes (byte ∷ rest) is =
    let both = and_parts (is_letter byte) (list_all goes_on rest) is in
    and_from (goes_on byte) (list_all goes_on rest)
    (or_left (is_letter byte) (is_digit byte) both.0) both.1

name-end : (name rest : Text) → IsName name
    → position ends_name (name ++ 59 ∷ rest) ≡ Some (length name)
name-end name rest is =
    let same : 0 + length name ≡ length name = omega arith in
    position-from ends_name (name ++ 59 ∷ rest)
    ∙ ends-behind 0 name rest (spelled-goes name is.spelled) ∙ ap Some same

is-named : (name : Text) → IsName name → is_name name ≡ true
is-named name is =
    and_from (is_spelled name) _ is.spelled
    (le-leb (length name) 64 is.short)

take-front : (xs ys : Text) → take (length xs) (xs ++ ys) ≡ xs
take-front [] ys = refl
take-front (x ∷ xs) ys = ap (λ zs. x ∷ zs) (take-front xs ys)

drop-front : (xs ys : Text) (y : ℕ) → drop (length xs + 1) (xs ++ y ∷ ys) ≡ ys
drop-front xs ys y =
    let next : length xs + 1 ≡ suc (length xs) = omega arith in
    ap (λ n. drop n (xs ++ y ∷ ys)) next ∙ behind xs
  where
    behind : (zs : Text) → drop (suc (length zs)) (zs ++ y ∷ ys) ≡ ys
    behind [] = refl
    behind (z ∷ zs) = behind zs

object-said : (name rest : Text) → IsName name
    → object_to (name ++ 59 ∷ rest) (position ends_name (name ++ 59 ∷ rest))
    ≡ Some (Object name, rest)
object-said name rest is =
    ap (object_to (name ++ 59 ∷ rest)) (name-end name rest is)
    ∙ ap (λ (n : Text). cond (is_name n)
    (Some (Object n, drop (length name + 1) (name ++ 59 ∷ rest))) None)
    (take-front name (59 ∷ rest))
    ∙ ap (λ b. cond b (Some (Object name, drop (length name + 1) (name ++ 59 ∷ rest))) None)
    (is-named name is)
    ∙ ap (λ (r : Text). Some (Object name, r)) (drop-front name rest 59)

-- ---- one type

-- where the arguments end there is no kind
no-kind : (rest : Text) → None ≡ kind_at (41 ∷ rest)
unfolding kind_at
no-kind rest = refl

-- a text with another first byte is another text
other-text : (a b : Text) → (get_or a 0 0 ≡ get_or b 0 0 → ⊥) → bytes_eq a b ≡ false
other-text a b differ = in_case (bytes_eq a b) refl where
  in_case : (t : Bool) → bytes_eq a b ≡ t → t ≡ false
  in_case false is = refl
  in_case true is =
      absurd (differ (ap (λ (x : Text). get_or x 0 0) ((bytes_eq-Decides a b).0 is)))

module _ (table : Table) where
  -- what stands behind a descriptor is left
  kind-said : (t : Ty) (rest : Text) → IsValueType table t
      → kind_at (descriptor table t ++ rest) ≡ Some (kind_of table t, rest)
  unfolding kind_at
  kind-said ty.Int rest is = refl
  kind-said ty.Boolean rest is = refl
  kind-said (ty.Class c) rest is =
      ap (λ (text : Text). object_to text (position ends_name text))
      (append_assoc (class_word table c) (59 ∷ []) rest)
      ∙ object-said (class_word table c) rest is
  kind-said ty.Null rest is = absurd is
  kind-said ty.Void rest is = absurd is

  field-said : (t : Ty) → IsValueType table t
      → field_kind (descriptor table t) ≡ Some (kind_of table t)
  field-said t is =
      ap field_kind (sym (append-nil (descriptor table t))) ∙ ap alone (kind-said t [] is)

  -- what has the kind of a field says it as a result too
  of-field : (t : Ty) → IsValueType table t → bytes_eq (descriptor table t) (codes "V") ≡ false
      → result_kind (descriptor table t) ≡ Some (Some (kind_of table t))
  of-field t is other =
      ap (λ b. cond b (Some None) (option_map Some (field_kind (descriptor table t)))) other
      ∙ ap (option_map Some) (field-said t is)

  result-said : (t : Ty) → IsResultType table t
      → result_kind (descriptor table t) ≡ Some (given_kind table t)
  result-said ty.Int is = of-field ty.Int is refl
  result-said ty.Boolean is = of-field ty.Boolean is refl
  result-said (ty.Class c) is =
      of-field (ty.Class c) is
      (other-text (descriptor table (ty.Class c)) (codes "V") (λ same. absurd (omega arith)))
  result-said ty.Null is = absurd is
  result-said ty.Void is = refl

  -- ---- the types of parameters

  kinds-said : (ps : List ParamInfo) (rest : Text)
      → AllByRecursion (λ p. IsValueType table p.ty) ps
      → kinds_at (descriptors table ps ++ 41 ∷ rest) ≡ Some (map (λ p. kind_of table p.ty) ps, rest)
  kinds-said [] rest are = ends (41 ∷ rest) (no-kind rest)
  kinds-said (p ∷ ps) rest are =
      let behind = descriptors table ps ++ 41 ∷ rest in
      ap kinds_at (append_assoc (descriptor table p.ty) (descriptors table ps) (41 ∷ rest))
      ∙ (follow (descriptor table p.ty ++ behind) (kind_of table p.ty) behind
      (sym (kind-said p.ty behind are.0))).kinds
      ∙ ap (kind_before (kind_of table p.ty)) (kinds-said ps rest are.1)

  method-said : (m : MethodInfo) → HasValueTypes table m
      → method_signature (method_descriptor table m)
      ≡ Some (record {
        takes = map (λ p. kind_of table p.ty) m.params;
        gives = given_kind table m.result;
      })
  method-said m has =
      ap (λ (text : Text). signature_of (kinds_at text))
      (append_assoc (descriptors table m.params) (41 ∷ []) (descriptor table m.result))
      ∙ ap signature_of (kinds-said m.params (descriptor table m.result) has.params)
      ∙ ap (signature_with (map (λ p. kind_of table p.ty) m.params))
      (result-said m.result has.result)

pub fields_are_described : FieldsAreDescribed
fields_are_described table t is = field-said table t is

pub methods_are_described : MethodsAreDescribed
methods_are_described table m has = method-said table m has
