-- The name of the field of a lock can stand in a pool.
use Rattle.std.proofs.Common.{◌≡◌, ℕ, ◌+◌, ◌%◌, ◌<◌, ◌≤◌, ◌^◌, true, List, [], ◌∷◌, ◌++◌, length}
use Rattle.std.proofs.Common.{refl, ◌∙◌, length-append, arith}
use Rattle.std.specs.Prelude.{codes, nat_lt, ◌&&◌}
use Rattle.std.specs.Fmt.{decimal}
use Rattle.std.proofs.lemmas.Bool.{and_from, lt-ltb}
use Rattle.std.proofs.lemmas.List.Folds.{list_all-append}
use Rattle.std.proofs.lemmas.Fmt.{decimal_by_steps}
use Rattle.par_pool.specs.Spelling.{is_plain, IsText}
use Rattle.par_code_form.specs.PoolNames.{lock_field}

-- a text of few plain bytes
record IsShort (n : ℕ) (text : List ℕ) : Type 0 where
  pub short : length text ≤ n + 1
  pub plain : is_plain text ≡ true

plain-append : (a b : List ℕ) → is_plain a ≡ true → is_plain b ≡ true → is_plain (a ++ b) ≡ true
plain-append a b h k =
    list_all-append (λ byte. nat_lt 0 byte && nat_lt byte 128) a b
    ∙ and_from (is_plain a) (is_plain b) h k

digit-plain : (d : ℕ) → d < 10 → is_plain ((48 + d) ∷ []) ≡ true
digit-plain d less =
    and_from (nat_lt 0 (48 + d) && nat_lt (48 + d) 128) true
    (and_from (nat_lt 0 (48 + d)) (nat_lt (48 + d) 128)
    (lt-ltb 0 (48 + d) (omega arith)) (lt-ltb (48 + d) 128 (omega (arith, less)))) refl

decimal-short : (n : ℕ) → n < 2 ^ 64 → IsShort n (decimal n)
decimal-short n small =
    decimal_by_steps IsShort
    (λ d less. record { short = omega arith; plain = digit-plain d less })
    (λ m ds ten h. record {
      short = omega (arith, length-append ds ((48 + m % 10) ∷ []), h.short);
      plain =
          plain-append ds ((48 + m % 10) ∷ []) h.plain (digit-plain (m % 10) (omega arith));
    })
    n small

pub lock_text : (lock : ℕ) → lock < 256 → IsText (lock_field lock)
lock_text lock less =
    let h = decimal-short lock (omega (arith, less)) in
    record {
      short = omega (arith, length-append (codes "L") (decimal lock), h.short, less);
      plain = plain-append (codes "L") (decimal lock) refl h.plain;
    }
