-- Quotients of numbers of 32 bits, of which one does not fit and wraps.
use Rattle.std.proofs.Common.{◌≡◌, ℕ, zero, suc, ◌-◌, ◌/◌, ◌%◌, ◌<◌, ℤ, pos, negsuc, neg_ℤ, ap, ◌∙◌}
use Rattle.std.proofs.Common.{arith}
use Rattle.std.specs.Prelude.{FitsSigned, int_div}
use Rattle.std.specs.Int.{w32, int_wrap, cast_signed, cast_unsigned, int_wrapping_div}
use Rattle.std.proofs.Math.Nat.{div-le_self}
use Rattle.std.proofs.lemmas.Int.{to_z-of_z}

-- a number of few bits is wrapped by its bits
positive : (q : ℕ) → q < 4294967296
    → cast_signed w32 (cast_unsigned w32 (pos q)) ≡ int_wrap w32 (pos q)
unfolding int_wrap
positive q less =
    let same : q ≡ q % 4294967296 = omega arith in
    ap (λ (n : ℕ). cast_signed w32 n) same

negative : (q : ℕ) → q < 4294967296
    → cast_signed w32 (cast_unsigned w32 (neg_ℤ (pos q))) ≡ int_wrap w32 (neg_ℤ (pos q))
unfolding int_wrap
negative zero less = positive zero less
negative (suc q) less =
    let same : 4294967296 - suc q ≡ 4294967296 - 1 - q % 4294967296 = omega arith in
    ap (λ (n : ℕ). cast_signed w32 n) same

-- so is each quotient of two numbers
quotient : (a b : ℤ) → FitsSigned w32 a
    → cast_signed w32 (cast_unsigned w32 (int_div a b)) ≡ int_wrap w32 (int_div a b)
quotient (pos a) (pos b) fits = positive (a / b) (omega (arith, div-le_self a b, fits.sfits))
quotient (pos a) (negsuc b) fits =
    negative (a / suc b) (omega (arith, div-le_self a (suc b), fits.sfits))
quotient (negsuc a) (pos b) fits =
    negative (suc a / b) (omega (arith, div-le_self (suc a) b, fits.sfits))
quotient (negsuc a) (negsuc b) fits =
    positive (suc a / suc b) (omega (arith, div-le_self (suc a) (suc b), fits.sfits))

pub wrapped : (a b : ℤ) → FitsSigned w32 a → FitsSigned w32 b
    → int_wrapping_div w32 (cast_signed w32 (cast_unsigned w32 a))
    (cast_signed w32 (cast_unsigned w32 b)) ≡ int_wrap w32 (int_div a b)
wrapped a b fits bound =
    ap (λ (x : ℤ). int_wrapping_div w32 x (cast_signed w32 (cast_unsigned w32 b)))
    (to_z-of_z w32 a fits)
    ∙ ap (λ (y : ℤ). int_wrapping_div w32 a y) (to_z-of_z w32 b bound)
    ∙ quotient a b fits
