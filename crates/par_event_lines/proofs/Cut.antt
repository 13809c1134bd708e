-- Texts that are cut at a byte that does not stand before it.
use Rattle.std.proofs.Common.{◌≡◌, ◌≢◌, ℕ, ◌+◌, ◌%◌, ◌<◌, ◌^◌, suc, Bool, true, false, ◌||◌, List}
use Rattle.std.proofs.Common.{[], ◌∷◌, ◌++◌, refl, ap, ◌∙◌, arith, ℤ, pos, negsuc}
use Rattle.std.specs.Prelude.{IsTrue, FitsSigned, nat_le}
use Rattle.std.specs.Fmt.{decimal, signed_decimal}
use Rattle.std.specs.List.{list_all}
use Rattle.std.proofs.lemmas.Bool.{and_parts, and_from, le-leb}
use Rattle.std.proofs.lemmas.Fmt.{decimal_by_steps}
use Rattle.std.specs.Int.{w32}
use lib.Signed.{mag}
use Rattle.par_base.specs.Names.{is_letter, is_digit, goes_on, is_spelled, IsName}

-- no byte of the text is this one
abbrev pub Lacks : ℕ → List ℕ → Type 0
Lacks c [] = Unit {0}
Lacks c (x ∷ xs) = (x ≢ c) × Lacks c xs

pub record Parts (xs ys rest more : List ℕ) : Type 0 where
  pub before : xs ≡ ys
  pub behind : rest ≡ more

-- equal texts have equal parts before and behind the first such byte
pub cut : (c : ℕ) (xs ys rest more : List ℕ) → Lacks c xs → Lacks c ys
    → xs ++ (c ∷ rest) ≡ ys ++ (c ∷ more) → Parts xs ys rest more
cut c [] [] rest more h k e = record { before = refl; behind = let same : rest ≡ more = cc in same }
cut c [] (y ∷ ys) rest more h k e = let same : y ≡ c = cc in absurd (k.0 same)
cut c (x ∷ xs) [] rest more h k e = let same : x ≡ c = cc in absurd (h.0 same)
cut c (x ∷ xs) (y ∷ ys) rest more h k e =
    let head : x ≡ y = cc in
    let tail : xs ++ (c ∷ rest) ≡ ys ++ (c ∷ more) = cc in
    let parts = cut c xs ys rest more h.1 k.1 tail in
    record {
      before = ap (λ zs. x ∷ zs) parts.before ∙ ap (λ z. z ∷ ys) head;
      behind = parts.behind;
    }

-- a text that has the byte does not lack it
pub not_lacked : (c : ℕ) (xs rest : List ℕ) → Lacks c (xs ++ (c ∷ rest)) → ⊥
not_lacked c [] rest h = h.0 refl
not_lacked c (x ∷ xs) rest h = not_lacked c xs rest h.1

pub lacks_append : (c : ℕ) (xs ys : List ℕ) → Lacks c xs → Lacks c ys → Lacks c (xs ++ ys)
lacks_append c [] ys h k = k
lacks_append c (x ∷ xs) ys h k = (h.0, lacks_append c xs ys h.1 k)

-- ---- names

goes_on_elsewhere : (c b : ℕ) → goes_on c ≡ false → goes_on b ≡ true → b ≢ c
goes_on_elsewhere c b ends on e = let same : goes_on b ≡ goes_on c = ap goes_on e in cc

or_left : (a b : Bool) → a ≡ true → (a || b) ≡ true
or_left true b h = refl
or_left false b h = cc

rest_lacks : (c : ℕ) (bytes : List ℕ) → goes_on c ≡ false → IsTrue (list_all goes_on bytes)
    → Lacks c bytes
rest_lacks c [] ends h = tt
rest_lacks c (b ∷ bytes) ends h =
    let parts = and_parts (goes_on b) (list_all goes_on bytes) h in
    (goes_on_elsewhere c b ends parts.0, rest_lacks c bytes ends parts.1)

spelled_lacks : (c : ℕ) (name : List ℕ) → goes_on c ≡ false → IsTrue (is_spelled name)
    → Lacks c name
spelled_lacks c [] ends h = tt
spelled_lacks c (b ∷ bytes) ends h =
    let parts = and_parts (is_letter b) (list_all goes_on bytes) h in (
      goes_on_elsewhere c b ends (or_left (is_letter b) (is_digit b) parts.0),
      rest_lacks c bytes ends parts.1,
    )

-- a name has no byte that no name goes on with
pub name_lacks : (c : ℕ) (name : List ℕ) → goes_on c ≡ false → IsName name → Lacks c name
name_lacks c name ends h = spelled_lacks c name ends h.spelled

-- ---- numbers

-- the byte is no decimal digit
abbrev pub IsNoDigit : ℕ → Type 0
IsNoDigit c = (d : ℕ) → d < 10 → 48 + d ≢ c

pub no_digit : (c : ℕ) → is_digit c ≡ false → IsNoDigit c
no_digit c ends d less e =
    let in_range : is_digit (48 + d) ≡ true =
    and_from (nat_le 48 (48 + d)) (nat_le (48 + d) 57) (le-leb 48 (48 + d) (omega arith))
    (le-leb (48 + d) 57 (omega (arith, less))) in
    let same : is_digit (48 + d) ≡ is_digit c = ap is_digit e in
    cc

pub decimal_lacks : (c n : ℕ) → IsNoDigit c → n < 2 ^ 64 → Lacks c (decimal n)
decimal_lacks c n ends small =
    decimal_by_steps (λ n ds. Lacks c ds)
    (λ d less. (ends d less, tt))
    (λ m ds ten h. lacks_append c ds ((48 + m % 10) ∷ []) h (ends (m % 10) (omega arith), tt))
    n small

-- a number of 32 bits has less than 63
pub short_mag : (z : ℤ) → FitsSigned w32 z → mag z < 2 ^ 63
short_mag z h = let small : mag z < 2 ^ 31 = h.sfits in omega (arith, small)

pub signed_lacks : (c : ℕ) (z : ℤ) → IsNoDigit c → 45 ≢ c → FitsSigned w32 z
    → Lacks c (signed_decimal z)
signed_lacks c (pos n) ends sign h =
    decimal_lacks c n ends (let small = short_mag (pos n) h in omega (arith, small))
signed_lacks c (negsuc n) ends sign h = (
  sign,
  decimal_lacks c (suc n) ends (let small = short_mag (negsuc n) h in omega (arith, small)),
)
