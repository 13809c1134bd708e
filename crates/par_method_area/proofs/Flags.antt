-- The numbers of the classes of exceptions, and a flag for each class.
use Rattle.std.proofs.Common.{◌≡◌, ℕ, zero, suc, ◌+◌, ◌<◌, ◌==◌, Bool, true, false, cond, ◌||◌}
use Rattle.std.proofs.Common.{List, [], ◌∷◌, slice_index_or, ap, ◌∙◌, arith}
use Rattle.std.specs.List.{list_any}
use Rattle.par_class.specs.declared.file.ClassFile.{ClassFile}
use Rattle.par_step_laws.specs.Classes.{is_exception, exceptions_from, exceptions}
use Rattle.par_method_area.specs.Classes.{exception_flags}

abbrev pub is_here : ℕ → List ℕ → Bool
is_here class classes = list_any (λ d. d == class) classes

other : (a b : ℕ) → a < b → (b == a) ≡ false
other a b less = grind arith

earlier : (k : ℕ) (files : List ClassFile) (class : ℕ) → class < k
    → is_here class (exceptions_from k files) ≡ false
unfolding exceptions_from
earlier k [] class less =
    ap (λ (b : Bool). b || ((suc k == class) || false)) (other class k less)
    ∙ ap (λ (b : Bool). b || false) (other class (suc k) (omega (arith, less)))
earlier k (f ∷ files) class less =
    in_case (is_exception f) (earlier (suc k) files class (omega (arith, less)))
  where
    in_case : (b : Bool) → is_here class (exceptions_from (suc k) files) ≡ false
        → is_here class (cond b (k ∷ exceptions_from (suc k) files) (exceptions_from (suc k) files))
        ≡ false
    in_case true later =
        ap (λ (b : Bool). b || is_here class (exceptions_from (suc k) files)) (other class k less)
        ∙ later
    in_case false later = later

told-from : (k : ℕ) (files : List ClassFile) (n class : ℕ) → class ≡ k + n
    → is_here class (exceptions_from k files) ≡ slice_index_or (exception_flags files) n false
unfolding exceptions_from
told-from k [] zero class is =
    let here : (k == class) ≡ true = grind (arith, is) in
    ap (λ (b : Bool). b || ((suc k == class) || false)) here
told-from k [] (suc zero) class is =
    let first : (k == class) ≡ false = grind (arith, is) in
    let here : (suc k == class) ≡ true = grind (arith, is) in
    ap (λ (b : Bool). b || ((suc k == class) || false)) first ∙ ap (λ (b : Bool). b || false) here
told-from k [] (suc (suc n)) class is =
    let first : (k == class) ≡ false = grind (arith, is) in
    let second : (suc k == class) ≡ false = grind (arith, is) in
    ap (λ (b : Bool). b || ((suc k == class) || false)) first ∙ ap (λ (b : Bool). b || false) second
told-from k (f ∷ files) zero class is = in_case (is_exception f) where
  here : (k == class) ≡ true
  here = grind (arith, is)

  in_case : (b : Bool) → is_here class
      (cond b (k ∷ exceptions_from (suc k) files) (exceptions_from (suc k) files)) ≡ b
  in_case true = ap (λ (b : Bool). b || is_here class (exceptions_from (suc k) files)) here
  in_case false = let less : class < suc k = omega (arith, is) in earlier (suc k) files class less
told-from k (f ∷ files) (suc n) class is =
    in_case (is_exception f) (told-from (suc k) files n class (omega (arith, is)))
  where
    first : (k == class) ≡ false
    first = grind (arith, is)

    in_case : (b : Bool) → is_here class (exceptions_from (suc k) files)
        ≡ slice_index_or (exception_flags files) n false
        → is_here class (cond b (k ∷ exceptions_from (suc k) files) (exceptions_from (suc k) files))
        ≡ slice_index_or (exception_flags files) n false
    in_case true later =
        ap (λ (b : Bool). b || is_here class (exceptions_from (suc k) files)) first ∙ later
    in_case false later = later

pub told : (files : List ClassFile) (class : ℕ)
    → is_here class (exceptions files) ≡ slice_index_or (exception_flags files) class false
told files class = told-from 0 files class class (omega arith)
