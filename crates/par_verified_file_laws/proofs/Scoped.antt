-- The locals in scope where a body begins: those that a call sets.
use Rattle.std.proofs.Common.{◌≡◌, ℕ, zero, suc, ◌+◌, ◌-◌, ◌≤◌, ◌<◌, ◌⊎◌, inl, inr, Bool, true}
use Rattle.std.proofs.Common.{false, List, [], ◌∷◌, ◌++◌, length, map, take, replicate, Option}
use Rattle.std.proofs.Common.{Some, slice_get, refl, sym, ap, subst, ◌∙◌, arith}
use Rattle.std.specs.Prelude.{nat_eq, IsTrue, if◌then◌else◌}
use Rattle.std.specs.Option.{unwrap_or}
use Rattle.std.proofs.lemmas.Bool.{or_cases, eqb-true}
use Rattle.std.proofs.lemmas.List.{length-map, map-append}
use Rattle.par_policy.specs.Numbers.{has}
use Rattle.par_typed.specs.declared.ty.Ty.{Ty}
use Rattle.par_typed.specs.declared.ty.Ty.TheVariants as ty
use Rattle.par_typed.specs.declared.table.MethodInfo.{MethodInfo}
use Rattle.par_typed.specs.Plain.{TSta}
use Rattle.par_code_form.specs.Code.{Words}
use Rattle.par_code_form.specs.Frames.{Types}
use Rattle.par_code_form.specs.Method.{first_scope, set_by_call}
use Rattle.par_placed_fit_laws.specs.par_evaluation_laws.Laid.{given_types}
use Rattle.par_program_laws.specs.Locals.{IsSet}
use Rattle.par_placed_fit_laws.specs.par_evaluation_laws.Programs.{first_set}
use Rattle.par_file_run_laws.specs.par_source_code_laws.Methods.{meth, local_type}
use Rattle.par_kinds.specs.declared.frame.VKind.{VKind}
use Rattle.par_kinds.specs.declared.frame.VKind.TheVariants.{Top as ATop}
use Rattle.par_kinds.specs.Linked.{padded}
use Rattle.par_placed_fit_laws.specs.Signs.{kind, kinds}
use Rattle.par_verified_file_laws.specs.BodyLaws.{InScope}

-- ---- lists of types

-- a list in front, and nothing of value behind it
abbrev fronted : ℕ → Types → ℕ → Types
fronted n xs m = take n xs ++ replicate m ty.Void

void_there : (m x : ℕ) (u : Ty) → slice_get (replicate m ty.Void) x ≡ Some u → u ≡ ty.Void
void_there zero x u e = absurd (cc e)
void_there (suc m) zero u e = cc e
void_there (suc m) (suc x) u e = void_there m x u e

front_there : (n : ℕ) (xs : Types) (m x : ℕ) → x < n → n ≤ length xs
    → slice_get (fronted n xs m) x ≡ slice_get xs x
front_there zero xs m x less few = absurd (omega (arith, less))
front_there (suc n) [] m x less few = absurd (omega (arith, few))
front_there (suc n) (y ∷ ys) m zero less few = refl
front_there (suc n) (y ∷ ys) m (suc x) less few =
    front_there n ys m x (omega (arith, less)) (omega (arith, few))

front_or_void : (n : ℕ) (xs : Types) (m x : ℕ) (u : Ty) → slice_get (fronted n xs m) x ≡ Some u
    → (u ≡ ty.Void) ⊎ (slice_get xs x ≡ Some u)
front_or_void zero xs m x u e = inl (void_there m x u e)
front_or_void (suc n) [] m x u e = inl (void_there m x u e)
front_or_void (suc n) (y ∷ ys) m zero u e = inr e
front_or_void (suc n) (y ∷ ys) m (suc x) u e = front_or_void n ys m x u e

many_void : (m : ℕ) → length (replicate m ty.Void) ≡ m
many_void zero = refl
many_void (suc m) = ap suc (many_void m)

front_size : (n : ℕ) (xs : Types) (m : ℕ) → n + m ≡ length xs
    → length (fronted n xs m) ≡ length xs
front_size zero xs m size = let e = many_void m in omega (arith, e, size)
front_size (suc n) [] m size = absurd (omega (arith, size))
front_size (suc n) (y ∷ ys) m size = ap suc (front_size n ys m (omega (arith, size)))

pub local_there : (xs : Types) (x : ℕ) → x < length xs → slice_get xs x ≡ Some (local_type xs x)
local_there [] x less = absurd (omega (arith, less))
local_there (y ∷ ys) zero less = refl
local_there (y ∷ ys) (suc x) less = local_there ys x (omega (arith, less))

-- a front that holds what a list holds is one of it
front_is : (us xs : Types) → length us ≤ length xs
    → ((x : ℕ) → x < length us → slice_get us x ≡ Some (local_type xs x))
    → take (length us) xs ≡ us
front_is [] xs few same = refl
front_is (u ∷ us) [] few same = absurd (omega (arith, few))
front_is (u ∷ us) (y ∷ ys) few same =
    let first : u ≡ y = cc (same 0 (omega arith)) in
    ap (λ (z : Ty). z ∷ take (length us) ys) (sym first)
    ∙ ap (λ (zs : Types). u ∷ zs)
    (front_is us ys (omega (arith, few)) (λ x less. same (suc x) (omega (arith, less))))

-- ---- what a call sets

set_below : (n x : ℕ) → IsSet (first_set n) x → x < n
set_below zero x h = absurd (cc h)
set_below (suc n) x h =
    pick (set_below n x) (or_cases (nat_eq n x) (has (first_set n) x) h)
  where
    pick : (IsSet (first_set n) x → x < n) → IsTrue (nat_eq n x) ⊎ IsTrue (has (first_set n) x)
        → x < suc n
    pick later (inl e) = let q = eqb-true n x e in omega (arith, q)
    pick later (inr r) = let q = later r in omega (arith, q)

pub call_sets : (c : ℕ) (m : MethodInfo) (body : TSta)
    → length (given_types c (meth m body)) ≡ set_by_call m
call_sets c m body = in_case m.is_static (length-map m.params (λ p. p.ty))
  where
    in_case : (b : Bool) → length (map (λ p. p.ty) m.params) ≡ length m.params
        → length (if b then map (λ p. p.ty) m.params else ty.Class c ∷ map (λ p. p.ty) m.params)
        ≡ length m.params + (if b then 0 else 1)
    in_case true e = omega (arith, e)
    in_case false e = omega (arith, e)

module _ (c : ℕ) (m : MethodInfo) (body : TSta) where
  abbrev us : Types
  us = given_types c (meth m body)

  module _ (few : length us ≤ length m.locals)
      (locals : (x : ℕ) → x < length us → slice_get us x ≡ Some (local_type m.locals x)) where
    pub in_scope : InScope (local_type m.locals) (length m.locals) (first_set (length us))
        (first_scope m)
    in_scope =
        let n = set_by_call m in
        let many : length us ≡ n = call_sets c m body in
        let fits : n ≤ length m.locals = omega (arith, many, few) in
        record {
          sets = λ x set. let less = set_below (length us) x set in
              front_there n m.locals (length m.locals - n) x (omega (arith, less, many)) fits
              ∙ local_there m.locals x (omega (arith, less, few));
          own = λ x u is. own x u (front_or_void n m.locals (length m.locals - n) x u is);
          size = front_size n m.locals (length m.locals - n) (omega (arith, fits));
        }
      where
        own : (x : ℕ) (u : Ty) → (u ≡ ty.Void) ⊎ (slice_get m.locals x ≡ Some u)
            → (u ≡ ty.Void) ⊎ (u ≡ local_type m.locals x)
        own x u (inl void) = inl void
        own x u (inr there) =
            inr (sym (ap (λ (o : Option Ty). unwrap_or o ty.Void) there))

    -- ---- their kinds

    void_kinds : (w : Words) (k : ℕ) → kinds w (replicate k ty.Void) ≡ replicate k ATop
    void_kinds w zero = refl
    void_kinds w (suc k) = ap (λ (ks : List VKind). ATop ∷ ks) (void_kinds w k)

    -- those of receiver and arguments, and any behind them
    pub scope_kinds : (w : Words)
        → kinds w (first_scope m) ≡ padded (length m.locals) (kinds w us)
    scope_kinds w =
        let n = set_by_call m in
        let many : length us ≡ n = call_sets c m body in
        let long : length (kinds w us) ≡ n = length-map us (kind w) ∙ many in
        let front : take n m.locals ≡ us =
        subst (λ (k : ℕ). take k m.locals ≡ us) many (front_is us m.locals few locals) in
        map-append (kind w) (take n m.locals) (replicate (length m.locals - n) ty.Void)
        ∙ ap (λ (ts : Types). kinds w ts ++ kinds w (replicate (length m.locals - n) ty.Void)) front
        ∙ ap (λ (ks : List VKind). kinds w us ++ ks) (void_kinds w (length m.locals - n))
        ∙ ap (λ (k : ℕ). kinds w us ++ replicate (length m.locals - k) ATop) (sym long)
