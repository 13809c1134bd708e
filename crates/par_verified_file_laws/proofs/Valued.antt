-- Kinds of values of types, and what instructions ask of them.
use Rattle.std.proofs.Common.{◌≡◌, ℕ, true, false, List, [], ◌∷◌, ◌++◌}
use Rattle.std.proofs.Common.{map, reverse, refl, sym, ap, subst, ◌∙◌}
use Rattle.std.proofs.Common.{append_assoc, inl, inr}
use Rattle.std.specs.Str.{bytes_eq}
use Rattle.std.proofs.lemmas.Slice.Eq.{bytes_eq-Decides}
use mathlib.Core.List.{reverse-cons}
use Rattle.par_typed.specs.declared.ty.Ty.{Ty}
use Rattle.par_typed.specs.declared.ty.Ty.TheVariants as ty
use Rattle.par_typed.specs.Plain.{mark, TExps, NoExps, More}
use Rattle.par_values.specs.declared.kind.Kind.{Kind}
use Rattle.par_values.specs.declared.kind.Kind.TheVariants as machine
use Rattle.par_values.specs.Areas.{Name}
use Rattle.par_code_form.specs.Code.{Words, is_number}
use Rattle.par_kinds.specs.declared.frame.VKind.{VKind}
use Rattle.par_kinds.specs.declared.frame.VKind.TheVariants.{Int as AnInt}
use Rattle.par_kinds.specs.Kinds.{into, accepts}
use Rattle.par_placed_fit_laws.specs.par_evaluation_laws.Laid.{kind_of}
use Rattle.par_placed_fit_laws.specs.par_evaluation_laws.Laid as laid
use Rattle.par_placed_fit_laws.specs.Signs.{kind}
use Rattle.par_placed_fit_laws.specs.Tells.{asked, results}
use Rattle.par_placed_fit_laws.specs.par_program_laws.Types.{IsValue}

pub same_name : (name : Name) → bytes_eq name name ≡ true
same_name name = (bytes_eq-Decides name name).1 refl

pub declared_value : (t : Ty) → IsValue t → t ≡ ty.Void → ⊥
declared_value ty.Int d is = absurd (cc is)
declared_value ty.Boolean d is = absurd (cc is)
declared_value (ty.Class c) d is = absurd (cc is)
declared_value ty.Null d is = absurd d
declared_value ty.Void d is = absurd d

pub number_value : (t : Ty) → is_number t ≡ true → t ≡ ty.Void → ⊥
number_value ty.Int n is = absurd (cc is)
number_value ty.Boolean n is = absurd (cc is)
number_value (ty.Class c) n is = absurd (cc is)
number_value ty.Null n is = absurd (cc is)
number_value ty.Void n is = absurd (cc n)

-- a type that is known to be another has a value where that has
pub value_by : (t u : Ty) → t ≡ u → (u ≡ ty.Void → ⊥) → t ≡ ty.Void → ⊥
value_by t u same value is = value (sym same ∙ is)

module _ (w : Words) where
  pub value_results : (t : Ty) → (t ≡ ty.Void → ⊥) → results w t ≡ kind w t ∷ []
  value_results ty.Int v = refl
  value_results ty.Boolean v = refl
  value_results (ty.Class c) v = refl
  value_results ty.Null v = refl
  value_results ty.Void v = absurd (v refl)

  pub asked_accepts : (t : Ty) → (t ≡ ty.Void → ⊥) → accepts (asked t) (kind w t) ≡ true
  unfolding accepts
  asked_accepts ty.Int v = refl
  asked_accepts ty.Boolean v = refl
  asked_accepts (ty.Class c) v = refl
  asked_accepts ty.Null v = refl
  asked_accepts ty.Void v = absurd (v refl)

  pub any_accepts : (t : Ty) → is_number t ≡ false → (t ≡ ty.Void → ⊥)
      → accepts machine.AnyObject (kind w t) ≡ true
  unfolding accepts
  any_accepts ty.Int n v = absurd (cc n)
  any_accepts ty.Boolean n v = absurd (cc n)
  any_accepts (ty.Class c) n v = refl
  any_accepts ty.Null n v = refl
  any_accepts ty.Void n v = absurd (v refl)

  pub number_kind : (t : Ty) → is_number t ≡ true → kind w t ≡ AnInt
  number_kind ty.Int n = refl
  number_kind ty.Boolean n = refl
  number_kind (ty.Class c) n = absurd (cc n)
  number_kind ty.Null n = absurd (cc n)
  number_kind ty.Void n = absurd (cc n)

  -- a value of its own type
  own_accepts : (t : Ty) → accepts (kind_of w t) (kind w t) ≡ true
  unfolding accepts
  own_accepts ty.Int = refl
  own_accepts ty.Boolean = refl
  own_accepts (ty.Class c) = same_name (w.class c)
  own_accepts ty.Null = refl
  own_accepts ty.Void = refl

  null_accepts : (c : ℕ) → accepts (kind_of w (ty.Class c)) (kind w ty.Null) ≡ true
  unfolding accepts
  null_accepts c = refl

  pub given_accepts : (u v : Ty) → laid.Accepts u v → accepts (kind_of w u) (kind w v) ≡ true
  given_accepts u v (inl same) =
      subst (λ (t : Ty). accepts (kind_of w t) (kind w v) ≡ true) (sym same) (own_accepts v)
  given_accepts u v (inr h) =
      subst (λ (t : Ty). accepts (kind_of w t) (kind w v) ≡ true) (sym h.2)
      (subst (λ (t : Ty). accepts (kind_of w (ty.Class h.1)) (kind w t) ≡ true) (sym h.0)
      (null_accepts h.1))

  pub number_given : (u v : Ty) → laid.Accepts u v → is_number v ≡ is_number u
  number_given u v (inl same) = ap is_number (sym same)
  number_given u v (inr h) = ap is_number h.0 ∙ sym (ap is_number h.2)

  module _ (exc : List Name) (same : (k : VKind) → into exc k k ≡ true) where
    null_into : (c : ℕ) → into exc (kind w ty.Null) (kind w (ty.Class c)) ≡ true
    unfolding into
    null_into c = refl

    pub given_into : (u v : Ty) → laid.Accepts u v → into exc (kind w v) (kind w u) ≡ true
    given_into u v (inl is) =
        subst (λ (t : Ty). into exc (kind w v) (kind w t) ≡ true) (sym is) (same (kind w v))
    given_into u v (inr h) =
        subst (λ (t : Ty). into exc (kind w v) (kind w t) ≡ true) (sym h.2)
        (subst (λ (t : Ty). into exc (kind w t) (kind w (ty.Class h.1)) ≡ true) (sym h.0)
        (null_into h.1))

  -- ---- arguments, the last one first

  abbrev pub asked_of : List Ty → List Kind → List Kind
  asked_of [] ks = ks
  asked_of (u ∷ us) ks = asked_of us (kind_of w u ∷ ks)

  abbrev pub laid_of : TExps → List VKind → List VKind
  laid_of NoExps stack = stack
  laid_of (More e es) stack = laid_of es (kind w (mark e).ty ∷ stack)

  pub asked_is : (us : List Ty) (ks : List Kind)
      → reverse (map (kind_of w) us) ++ ks ≡ asked_of us ks
  asked_is [] ks = refl
  asked_is (u ∷ us) ks =
      ap (λ (x : List Kind). x ++ ks) (reverse-cons (kind_of w u) (map (kind_of w) us))
      ∙ append_assoc (reverse (map (kind_of w) us)) (kind_of w u ∷ []) ks
      ∙ asked_is us (kind_of w u ∷ ks)
