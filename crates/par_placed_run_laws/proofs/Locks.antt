-- The name of the field of a lock says the number of the lock.
use Rattle.std.proofs.Common.{◌≡◌, ℕ, ◌+◌, ◌-◌, ◌*◌, ◌/◌, ◌%◌, ◌<◌, ◌≤◌, ◌^◌, Bool, true, false}
use Rattle.std.proofs.Common.{List, []}
use Rattle.std.proofs.Common.{◌∷◌, ◌++◌, length, Some, refl, ap, ◌∙◌, length-append, arith}
use Rattle.std.specs.Prelude.{codes, nat_lt, nat_le, ◌&&◌, not, if◌then◌else◌, None}
use Rattle.std.specs.Fmt.{decimal}
use Rattle.std.specs.List.{list_all}
use Rattle.std.proofs.lemmas.Bool.{and_from, lt-ltb, le-leb, ne_eqb}
use Rattle.std.proofs.lemmas.Fmt.{decimal_by_steps}
use Rattle.std.proofs.lemmas.List.Folds.{list_all-append}
use Rattle.std.proofs.lemmas.List.Sums.{fold-append}
use Rattle.par_base.specs.Names.{is_digit}
use Rattle.par_base.specs.Numbers.{with_digit, value, has_leading_zero}
use Rattle.par_place.specs.par_code_form.par_completes.par_lexer.Pieces.{begins}
use Rattle.par_base.specs.Numbers.{is_decimal, magnitude_of}
use Rattle.par_step_laws.specs.par_link.Builtins.{lock_number}
use Rattle.par_place.specs.par_code_form.PoolNames.{lock_field}

-- digits that write a number, the first of which is no 0 but that of the number 0
record Writes (n : ℕ) (ds : List ℕ) : Type 0 where
  pub some : 0 < length ds
  pub are : list_all is_digit ds ≡ true
  pub says : value ds ≡ n
  pub first : 0 < n → begins (codes "0") ds ≡ false
  pub whole : has_leading_zero ds ≡ false

digit-is : (d : ℕ) → d < 10 → is_digit (48 + d) ≡ true
digit-is d less =
    and_from (nat_le 48 (48 + d)) (nat_le (48 + d) 57) (le-leb 48 (48 + d) (omega arith))
    (le-leb (48 + d) 57 (omega (arith, less)))

no-zero : (d : ℕ) (rest : List ℕ) → 0 < d → begins (codes "0") ((48 + d) ∷ rest) ≡ false
no-zero d rest some =
    ap (λ (b : Bool). b && true) (ne_eqb 48 (48 + d) (λ e. omega (arith, e, some)))

one : (d : ℕ) → d < 10 → Writes d ((48 + d) ∷ [])
one d less = record {
  some = omega arith;
  are = and_from (is_digit (48 + d)) true (digit-is d less) refl;
  says = omega arith;
  first = no-zero d [];
  whole = and_false (begins (codes "0") ((48 + d) ∷ []));
}
  where
    and_false : (b : Bool) → (b && false) ≡ false
    and_false true = refl
    and_false false = refl

begins-longer : (ds more : List ℕ) → 0 < length ds
    → begins (codes "0") (ds ++ more) ≡ begins (codes "0") ds
begins-longer [] more some = absurd (omega arith)
begins-longer (d ∷ ds) more some = refl

step : (n : ℕ) (ds : List ℕ) → 10 ≤ n → Writes (n / 10) ds
    → Writes n (ds ++ ((48 + n % 10) ∷ []))
step n ds ten h =
    let last = (48 + n % 10) ∷ [] in
    let first : begins (codes "0") (ds ++ last) ≡ false =
    begins-longer ds last h.some ∙ h.first (omega (arith, ten)) in
    record {
      some = omega (arith, length-append ds last);
      are =
          list_all-append is_digit ds last
          ∙ and_from (list_all is_digit ds) (list_all is_digit last) h.are
          (and_from (is_digit (48 + n % 10)) true (digit-is (n % 10) (omega arith)) refl);
      says = fold-append with_digit 0 ds last ∙ written (value ds) h.says;
      first = λ some. first;
      whole = ap (λ (b : Bool). b && nat_lt 1 (length (ds ++ last))) first;
    }
  where
    written : (v : ℕ) → v ≡ n / 10 → 10 * v + ((48 + n % 10) - 48) ≡ n
    written v e = omega (arith, e)

written : (n : ℕ) → n < 2 ^ 64 → Writes n (decimal n)
written n small = decimal_by_steps Writes one step n small

read : (l : ℕ) (ds : List ℕ) → l < 256 → Writes l ds → magnitude_of 255 ds ≡ Some l
read l ds less h =
    let decimal_ : is_decimal ds ≡ true =
    and_from (nat_lt 0 (length ds) && list_all is_digit ds) (not (has_leading_zero ds))
    (and_from (nat_lt 0 (length ds)) (list_all is_digit ds) (lt-ltb 0 (length ds) h.some) h.are)
    (ap not h.whole) in
    let small : nat_le (value ds) 255 ≡ true =
    le-leb (value ds) 255 (omega (arith, h.says, less)) in
    ap (λ (b : Bool). if b then Some (value ds) else None)
    (and_from (is_decimal ds) (nat_le (value ds) 255) decimal_ small)
    ∙ ap Some h.says

pub lock_named : (l : ℕ) → l < 256 → lock_number (lock_field l) ≡ Some l
unfolding lock_number
lock_named l less = read l (decimal l) less (written l (omega (arith, less)))
