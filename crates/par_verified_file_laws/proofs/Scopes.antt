-- The locals in scope, with their declared types.
use Rattle.std.proofs.Common.{◌≡◌, ℕ, zero, suc, ◌<◌, Bool, true, false, List, [], ◌∷◌}
use Rattle.std.proofs.Common.{Option, Some, None, length, set, refl, sym, ap, subst, ◌∙◌}
use Rattle.std.proofs.Common.{inl, inr, ◌⊎◌, ◌||◌, option_map}
use Rattle.std.specs.Prelude.{slice_set, nat_eq, IsTrue}
use Rattle.std.specs.List.{slice_get}
use Rattle.std.proofs.lemmas.List.{length-set, length-map, map-set}
use Rattle.std.proofs.lemmas.Option.{slice_get-map, slice_get_within}
use Rattle.std.proofs.lemmas.Bool.Decides.{eqb_tells}
use Rattle.par_policy.specs.Numbers.{has}
use Rattle.par_typed.specs.declared.ty.Ty.{Ty}
use Rattle.par_typed.specs.declared.ty.Ty.TheVariants as ty
use Rattle.par_typed.specs.Plain.{TSta, Block, If, While, Try, Return, Break, Continue, Throw, Open}
use Rattle.par_typed.specs.Plain.{Close, SetLocal, SetStatic, SetField, Eval, When}
use Rattle.par_values.specs.Areas.{Name}
use Rattle.par_code_form.specs.Code.{Words}
use Rattle.par_code_form.specs.Frames.{Types, declared_type, with_local, scope_behind}
use Rattle.par_kinds.specs.declared.frame.VKind.{VKind}
use Rattle.par_kinds.specs.declared.frame.VKind.TheVariants.{Top as ATop}
use Rattle.par_kinds.specs.Kinds.{Into, Both, into}
use Rattle.par_placed_fit_laws.specs.par_evaluation_laws.Laid.{Layout, TypedS, behind}
use Rattle.par_placed_fit_laws.specs.par_program_laws.Locals.{IsSet}
use Rattle.par_placed_fit_laws.proofs.par_evaluation_laws.Good.{get_set, get_beside}
use Rattle.par_kinds.proofs.Lists.{both-set, both-length}
use Rattle.par_kinds.proofs.Merging.{into-same}
use Rattle.par_placed_fit_laws.specs.Signs.{kind, kinds}
use Rattle.par_verified_file_laws.specs.BodyLaws.{InScope}
use Rattle.par_kinds.proofs.Lower.{below-same}

each_same : {A : Type 0} (R : A → A → Type 0) → ((x : A) → R x x) → (xs : List A) → Both R xs xs
each_same R same [] = tt
each_same R same (x ∷ xs) = (same x, each_same R same xs)

-- one item is replaced by one that fits into it
put_both : {A : Type 0} (R : A → A → Type 0) → ((x : A) → R x x) → (xs : List A) (n : ℕ) (v : A)
    → ((u : A) → slice_get xs n ≡ Some u → R v u) → Both R (slice_set xs n v) xs
put_both R same [] n v h = tt
put_both R same (x ∷ xs) zero v h = (h x refl, each_same R same xs)
put_both R same (x ∷ xs) (suc n) v h = (same x, put_both R same xs n v h)

first_or : (p q : Bool) → IsTrue (p || q) → (p ≡ true) ⊎ IsTrue q
first_or true q h = inl refl
first_or false q h = inr h

into_top : (exc : List Name) (k : VKind) → into exc k ATop ≡ true
unfolding into
into_top exc k = refl

module _ (w : Words) (tys : ℕ → Ty) (many : ℕ) where
  pub kinds_are : (set : List ℕ) (scope : Types) → InScope tys many set scope → (x : ℕ)
      → IsSet set x → slice_get (kinds w scope) x ≡ Some (kind w (tys x))
  kinds_are set scope i x is =
      slice_get-map (kind w) scope x ∙ ap (option_map (kind w)) (i.sets x is)

  pub kinds_size : (set : List ℕ) (scope : Types) → InScope tys many set scope
      → length (kinds w scope) ≡ many
  kinds_size set scope i = length-map scope (kind w) ∙ i.size

  -- ---- a local comes into scope

  set_at : (set : List ℕ) (scope : Types) (x y : ℕ) → InScope tys many set scope → x < many
      → (nat_eq x y ≡ true) ⊎ IsSet set y
      → slice_get (slice_set scope x (tys x)) y ≡ Some (tys y)
  set_at set scope x y i lt is =
      elim (eqb_tells x y) [
        | inl same ↦
            subst (λ (z : ℕ). slice_get (slice_set scope x (tys x)) z ≡ Some (tys z)) same.1
            (get_set scope x (tys x) (subst (λ (z : ℕ). x < z) (sym i.size) lt))
        | inr apart ↦
            elim is [
              | inl e ↦ absurd (cc (e, apart.0))
              | inr before ↦
                  get_beside scope x y (tys x) (λ e. apart.1 (sym e)) ∙ i.sets y before
            ]
      ]

  own_at : (set : List ℕ) (scope : Types) (x y : ℕ) (u : Ty) → InScope tys many set scope
      → x < many → slice_get (slice_set scope x (tys x)) y ≡ Some u
      → (u ≡ ty.Void) ⊎ (u ≡ tys y)
  own_at set scope x y u i lt g =
      elim (eqb_tells x y) [
        | inl same ↦ inr (some_same u (tys y) (sym g ∙ set_at set scope x y i lt (inl same.0)))
        | inr apart ↦
            i.own y u (sym (get_beside scope x y (tys x) (λ e. apart.1 (sym e))) ∙ g)
      ]
    where
      some_same : (a b : Ty) → Some a ≡ Some b → a ≡ b
      some_same a b e = cc e

  module _ (exc : List Name) (declared : Types)
      (are : (x : ℕ) → x < many → slice_get declared x ≡ Some (tys x)) where
    type_is : (x : ℕ) → x < many → declared_type (slice_get declared x) ≡ tys x
    type_is x lt = ap declared_type (are x lt)

    pub put_scope : (set : List ℕ) (scope : Types) (x : ℕ) → x < many
        → InScope tys many set scope → InScope tys many (x ∷ set) (with_local declared x scope)
    put_scope set scope x lt i =
        subst (λ (t : Ty). InScope tys many (x ∷ set) (slice_set scope x t)) (sym (type_is x lt))
        (record {
          sets = λ y is. set_at set scope x y i lt (first_or (nat_eq x y) (has set y) is);
          own = λ y u g. own_at set scope x y u i lt g;
          size = length-set scope x (tys x) ∙ i.size;
        })

    fits_there : (set : List ℕ) (scope : Types) (x : ℕ) (u : VKind) (o : Option Ty)
        → InScope tys many set scope → slice_get scope x ≡ o → option_map (kind w) o ≡ Some u
        → into exc (kind w (declared_type (slice_get declared x))) u ≡ true
    fits_there set scope x u None i g e = absurd (cc e)
    fits_there set scope x u (Some t) i g e =
        let lt : x < many =
        subst (λ (z : ℕ). x < z) i.size (slice_get_within scope x t g) in
        let is : kind w t ≡ u = cc e in
        subst (λ (z : VKind). into exc (kind w (declared_type (slice_get declared x))) z ≡ true) is
        (elim (i.own x t g) [
          | inl void ↦
              subst (λ (z : Ty).
              into exc (kind w (declared_type (slice_get declared x))) (kind w z) ≡ true) (sym void)
              (into_top exc (kind w (declared_type (slice_get declared x))))
          | inr same ↦
              subst (λ (z : Ty).
              into exc (kind w (declared_type (slice_get declared x))) (kind w z) ≡ true)
              (type_is x lt ∙ sym same)
              (into-same exc (kind w (declared_type (slice_get declared x))))
        ])

    pub put_into : (set : List ℕ) (scope : Types) (x : ℕ) → InScope tys many set scope
        → Both (Into exc) (kinds w (with_local declared x scope)) (kinds w scope)
    put_into set scope x i =
        let t = declared_type (slice_get declared x) in
        subst (λ (ks : List VKind). Both (Into exc) ks (kinds w scope))
        (sym (map-set (kind w) scope x t))
        (put_both (Into exc) (into-same exc) (kinds w scope) x (kind w t)
        (λ u g. fits_there set scope x u (slice_get scope x) i refl
        (sym (slice_get-map (kind w) scope x) ∙ g)))

    -- what is stored fits into the local that comes into scope
    pub store_into : (scope : Types) (x : ℕ) (v : VKind) → x < many
        → into exc v (kind w (tys x)) ≡ true
        → Both (Into exc) (slice_set (kinds w scope) x v) (kinds w (with_local declared x scope))
    store_into scope x v lt ok =
        let t = declared_type (slice_get declared x) in
        subst (λ (ks : List VKind). Both (Into exc) (slice_set (kinds w scope) x v) ks)
        (sym (map-set (kind w) scope x t))
        (both-set (Into exc) (kinds w scope) (kinds w scope) x v (kind w t)
        (below-same exc (kinds w scope))
        (subst (λ (z : Ty). into exc v (kind w z) ≡ true) (sym (type_is x lt)) ok))

    -- ---- behind a statement

    pub behind_into : (s : TSta) (set : List ℕ) (scope : Types) → InScope tys many set scope
        → Both (Into exc) (kinds w (scope_behind declared s scope)) (kinds w scope)
    behind_into (Block ss at p) set scope i = below-same exc (kinds w scope)
    behind_into (If e s o at p) set scope i = below-same exc (kinds w scope)
    behind_into (While e s at p) set scope i = below-same exc (kinds w scope)
    behind_into (Try s cs at p) set scope i = below-same exc (kinds w scope)
    behind_into (Return o at p) set scope i = below-same exc (kinds w scope)
    behind_into (Break at p) set scope i = below-same exc (kinds w scope)
    behind_into (Continue at p) set scope i = below-same exc (kinds w scope)
    behind_into (Throw c at p) set scope i = below-same exc (kinds w scope)
    behind_into (Open l at p) set scope i = below-same exc (kinds w scope)
    behind_into (Close l at p) set scope i = below-same exc (kinds w scope)
    behind_into (SetLocal x q e at p) set scope i = put_into set scope x i
    behind_into (SetStatic c f e at p) set scope i = below-same exc (kinds w scope)
    behind_into (SetField o c f e at p) set scope i = below-same exc (kinds w scope)
    behind_into (Eval e at p) set scope i = below-same exc (kinds w scope)
    behind_into (When l s o at p) set scope i = below-same exc (kinds w scope)

    pub behind_size : (s : TSta) (set : List ℕ) (scope : Types) → InScope tys many set scope
        → length (kinds w (scope_behind declared s scope)) ≡ many
    behind_size s set scope i =
        both-length (Into exc) _ _ (behind_into s set scope i) ∙ kinds_size set scope i

    pub behind_scope : (lay : Layout) (room : ℕ) (result : Ty) (inside : Bool) (s : TSta)
        (set : List ℕ) (scope : Types) → TypedS lay tys many room result inside set s
        → InScope tys many set scope
        → InScope tys many (behind set s) (scope_behind declared s scope)
    unfolding TypedS
    behind_scope lay room result inside (Block ss at p) set scope t i = i
    behind_scope lay room result inside (If e s o at p) set scope t i = i
    behind_scope lay room result inside (While e s at p) set scope t i = i
    behind_scope lay room result inside (Try s cs at p) set scope t i = i
    behind_scope lay room result inside (Return o at p) set scope t i = i
    behind_scope lay room result inside (Break at p) set scope t i = i
    behind_scope lay room result inside (Continue at p) set scope t i = i
    behind_scope lay room result inside (Throw c at p) set scope t i = i
    behind_scope lay room result inside (Open l at p) set scope t i = i
    behind_scope lay room result inside (Close l at p) set scope t i = i
    behind_scope lay room result inside (SetLocal x q e at p) set scope t i =
        put_scope set scope x t.0 i
    behind_scope lay room result inside (SetStatic c f e at p) set scope t i = i
    behind_scope lay room result inside (SetField o c f e at p) set scope t i = i
    behind_scope lay room result inside (Eval e at p) set scope t i = i
    behind_scope lay room result inside (When l s o at p) set scope t i = i
