-- What is written of numbers is read as them, and what is read from bytes is written as these.
use Rattle.std.proofs.Common.{◌≡◌, ℕ, zero, suc, pos, negsuc, ◌^◌, ◌<◌, List, [], ◌∷◌, length}
use Rattle.std.proofs.Common.{get_or, FitsSigned, IsTrue, arith, refl, ap, ◌∙◌}
use Rattle.std.proofs.lemmas.Bool.Decides.{nat_tests}
use Rattle.std.proofs.lemmas.Int.{to_z-of_z, of_z-to_z, ints}
use Rattle.std.proofs.lemmas.Nat.{from_be_bytes-to_be_bytes_2, be_bytes_2}
use Rattle.std.specs.Int.{w8, w16, cast_signed, from_be_bytes, to_be_bytes}
use Rattle.par_instr.specs.Decoding.{read}
use Rattle.par_instr.specs.Laws.{AreBytes}
use Rattle.par_instr.specs.Spelling.{Form, Alone, Constant, Short, Byte, SignedByte, Index}
use Rattle.par_instr.specs.Spelling.{SignedPair, ByteAndSigned, Test, numbers, opcodes_of, place}
use Rattle.par_instr.specs.Spelling.{size, operands, is_in_range, Fit, index, signed}
use Rattle.par_instr.specs.declared.numbers.Numbers.{Numbers}
use Rattle.par_instr.specs.declared.numbers.Numbers.TheVariants as written

-- the variant with numbers of 0
abbrev pub blanked : Form → Form
blanked (Alone i) = Alone i
blanked (Constant make n) = Constant make (pos 0)
blanked (Short make n) = Short make 0
blanked (Byte make n) = Byte make 0
blanked (SignedByte make n) = SignedByte make (pos 0)
blanked (Index make n) = Index make 0
blanked (SignedPair make n) = SignedPair make (pos 0)
blanked (ByteAndSigned make n by) = ByteAndSigned make 0 (pos 0)
blanked (Test make t n) = Test make 0 (pos 0)

-- it has as many opcodes
pub blanked-opcodes : (f : Form) → opcodes_of (numbers (blanked f)) ≡ opcodes_of (numbers f)
blanked-opcodes (Alone i) = refl
blanked-opcodes (Constant make n) = refl
blanked-opcodes (Short make n) = refl
blanked-opcodes (Byte make n) = refl
blanked-opcodes (SignedByte make n) = refl
blanked-opcodes (Index make n) = refl
blanked-opcodes (SignedPair make n) = refl
blanked-opcodes (ByteAndSigned make n by) = refl
blanked-opcodes (Test make t n) = refl

-- and as many bytes of operands
pub blanked-size : (f : Form) → size (numbers (blanked f)) ≡ length (operands (numbers f))
blanked-size (Alone i) = refl
blanked-size (Constant make n) = refl
blanked-size (Short make n) = refl
blanked-size (Byte make n) = refl
blanked-size (SignedByte make n) = refl
blanked-size (Index make n) = refl
blanked-size (SignedPair make n) = refl
blanked-size (ByteAndSigned make n by) = refl
blanked-size (Test make t n) = refl

-- a number that an opcode keeps is below how many opcodes there are
pub place-below : (n : Numbers) → IsTrue (is_in_range n) → place n < opcodes_of n
place-below written.Alone range = omega arith
place-below (written.Constant (pos n)) range = grind (arith, nat_tests)
place-below (written.Constant (negsuc n)) range = grind (arith, nat_tests)
place-below (written.Short n) range = grind (arith, nat_tests)
place-below (written.Byte n) range = omega arith
place-below (written.SignedByte n) range = omega arith
place-below (written.Index n) range = omega arith
place-below (written.SignedPair n) range = omega arith
place-below (written.ByteAndSigned n by) range = omega arith
place-below (written.Test t n) range = grind (arith, nat_tests)

-- what is written is read again
pub read-back : (f : Form) → Fit (numbers f) → IsTrue (is_in_range (numbers f))
    → read (blanked f) (place (numbers f)) (operands (numbers f)) ≡ f
read-back (Alone i) fit range = refl
read-back (Constant make (pos n)) fit range = grind (arith, ints)
read-back (Constant make (negsuc n)) fit range = grind (arith, nat_tests, ints)
read-back (Short make n) fit range = refl
read-back (Byte make n) fit range = refl
read-back (SignedByte make n) fit range = grind (arith, ints, to_z-of_z)
read-back (Index make n) fit range = grind (arith, from_be_bytes-to_be_bytes_2)
read-back (SignedPair make n) fit range =
    grind (arith, ints, to_z-of_z, from_be_bytes-to_be_bytes_2)
read-back (ByteAndSigned make n by) fit range = grind (arith, ints, to_z-of_z)
read-back (Test make t n) fit range = grind (arith, ints, to_z-of_z, from_be_bytes-to_be_bytes_2)

-- what is read is written as the same place and the same bytes
pub record IsWritten (n : Numbers) (k : ℕ) (bytes : List ℕ) : Type 0 where
  pub fit : Fit n
  pub range : IsTrue (is_in_range n)
  pub place_is : place n ≡ k
  pub operands_are : operands n ≡ bytes

-- two bytes and the number that they write
pair_below : (x y : ℕ) → x < 2 ^ 8 → y < 2 ^ 8 → from_be_bytes w16 (x ∷ y ∷ []) < 2 ^ 16
pair_below x y high low = grind arith

each_below : (x y i : ℕ) → x < 2 ^ 8 → y < 2 ^ 8 → get_or (x ∷ y ∷ []) i 0 < 256
each_below x y zero high low = high
each_below x y (suc zero) high low = low
each_below x y (suc (suc i)) high low = omega arith

pair_again : (x y : ℕ) → x < 2 ^ 8 → y < 2 ^ 8 → index (from_be_bytes w16 (x ∷ y ∷ [])) ≡ x ∷ y ∷ []
pair_again x y high low = be_bytes_2 (x ∷ y ∷ []) _ refl (λ i. each_below x y i high low) refl

signed_again : (x y : ℕ) → x < 2 ^ 8 → y < 2 ^ 8
    → signed (cast_signed w16 (from_be_bytes w16 (x ∷ y ∷ []))) ≡ x ∷ y ∷ []
signed_again x y high low =
    ap (λ n. to_be_bytes w16 n) (of_z-to_z w16 (from_be_bytes w16 (x ∷ y ∷ []))
    (pair_below x y high low)) ∙ pair_again x y high low

fits_byte : (x : ℕ) → x < 2 ^ 8 → FitsSigned w8 (cast_signed w8 x)
fits_byte x small = grind (arith, ints)

fits_pair : (n : ℕ) → n < 2 ^ 16 → FitsSigned w16 (cast_signed w16 n)
fits_pair n small = grind (arith, ints)

-- where there is no byte, one byte, and where there are two
alone : (f : Form) (k : ℕ) (bytes : List ℕ) → length bytes ≡ 0
    → IsWritten (numbers (read f k [])) k [] → IsWritten (numbers (read f k bytes)) k bytes
alone f k [] many is = is
alone f k (x ∷ xs) many is = absurd (omega (arith, many))

with_one : (f : Form) (k : ℕ) (bytes : List ℕ) → length bytes ≡ 1 → AreBytes bytes
    → ((x : ℕ) → x < 2 ^ 8 → IsWritten (numbers (read f k (x ∷ []))) k (x ∷ []))
    → IsWritten (numbers (read f k bytes)) k bytes
with_one f k [] many are is = absurd (omega (arith, many))
with_one f k (x ∷ []) many are is = is x (are 0 0 (omega arith))
with_one f k (x ∷ y ∷ more) many are is = absurd (omega (arith, many))

with_two : (f : Form) (k : ℕ) (bytes : List ℕ) → length bytes ≡ 2 → AreBytes bytes
    → ((x y : ℕ) → x < 2 ^ 8 → y < 2 ^ 8
    → IsWritten (numbers (read f k (x ∷ y ∷ []))) k (x ∷ y ∷ []))
    → IsWritten (numbers (read f k bytes)) k bytes
with_two f k [] many are is = absurd (omega (arith, many))
with_two f k (x ∷ []) many are is = absurd (omega (arith, many))
with_two f k (x ∷ y ∷ []) many are is = is x y (are 0 0 (omega arith)) (are 1 0 (omega arith))
with_two f k (x ∷ y ∷ z ∷ more) many are is = absurd (omega (arith, many))

constant_written : (make : _) (n : _) (k : ℕ) → k < 7
    → IsWritten (numbers (read (Constant make n) k [])) k []
constant_written make n zero below =
    record { fit = grind (arith, ints); range = refl; place_is = refl; operands_are = refl }
constant_written make n (suc k) below =
    record {
      fit = grind (arith, ints);
      range = grind (arith, nat_tests, ints);
      place_is = grind (arith, ints);
      operands_are = refl;
    }

pub read-written : (f : Form) (k : ℕ) (bytes : List ℕ) → k < opcodes_of (numbers f)
    → length bytes ≡ size (numbers f) → AreBytes bytes
    → IsWritten (numbers (read f k bytes)) k bytes
read-written (Alone i) k bytes below many are =
    alone (Alone i) k bytes many
    (record { fit = tt; range = refl; place_is = omega arith; operands_are = refl })
read-written (Constant make n) k bytes below many are =
    alone (Constant make n) k bytes many (constant_written make n k below)
read-written (Short make n) k bytes below many are =
    alone (Short make n) k bytes many
    (record {
      fit = omega arith;
      range = grind (arith, nat_tests);
      place_is = refl;
      operands_are = refl;
    })
read-written (Byte make n) k bytes below many are =
    with_one (Byte make n) k bytes many are
    (λ x small. record { fit = small; range = refl; place_is = omega arith; operands_are = refl })
read-written (SignedByte make n) k bytes below many are =
    with_one (SignedByte make n) k bytes many are
    (λ x small. record {
      fit = fits_byte x small;
      range = refl;
      place_is = omega arith;
      operands_are = ap (λ b. b ∷ []) (of_z-to_z w8 x small);
    })
read-written (Index make n) k bytes below many are =
    with_two (Index make n) k bytes many are
    (λ x y high low. record {
      fit = pair_below x y high low;
      range = refl;
      place_is = omega arith;
      operands_are = pair_again x y high low;
    })
read-written (SignedPair make n) k bytes below many are =
    with_two (SignedPair make n) k bytes many are
    (λ x y high low. record {
      fit = fits_pair _ (pair_below x y high low);
      range = refl;
      place_is = omega arith;
      operands_are = signed_again x y high low;
    })
read-written (ByteAndSigned make n by) k bytes below many are =
    with_two (ByteAndSigned make n by) k bytes many are
    (λ x y high low. record {
      fit = (high, fits_byte y low);
      range = refl;
      place_is = omega arith;
      operands_are = ap (λ b. x ∷ b ∷ []) (of_z-to_z w8 y low);
    })
read-written (Test make t n) k bytes below many are =
    with_two (Test make t n) k bytes many are
    (λ x y high low. record {
      fit = (omega arith, fits_pair _ (pair_below x y high low));
      range =
          grind (arith, nat_tests);
      place_is = refl;
      operands_are = signed_again x y high low;
    })

-- what was read before is of no account
pub read-again : (f : Form) (k : ℕ) (before bytes : List ℕ)
    → read (read f k before) (place (numbers (read f k before))) bytes ≡ read f k bytes
read-again (Alone i) k before bytes = refl
read-again (Constant make n) zero before bytes = refl
read-again (Constant make n) (suc k) before bytes = grind (arith, ints)
read-again (Short make n) k before bytes = refl
read-again (Byte make n) k before bytes = refl
read-again (SignedByte make n) k before bytes = refl
read-again (Index make n) k before bytes = refl
read-again (SignedPair make n) k before bytes = refl
read-again (ByteAndSigned make n by) k before bytes = refl
read-again (Test make t n) k before bytes = refl

-- a variant takes as many bytes whatever is read
pub read-size : (f : Form) (k : ℕ) (bytes : List ℕ)
    → size (numbers (read f k bytes)) ≡ size (numbers f)
read-size (Alone i) k bytes = refl
read-size (Constant make n) k bytes = refl
read-size (Short make n) k bytes = refl
read-size (Byte make n) k bytes = refl
read-size (SignedByte make n) k bytes = refl
read-size (Index make n) k bytes = refl
read-size (SignedPair make n) k bytes = refl
read-size (ByteAndSigned make n by) k bytes = refl
read-size (Test make t n) k bytes = refl

-- a place among the opcodes is one that they keep
pub read-range : (f : Form) (k : ℕ) (bytes : List ℕ) → k < opcodes_of (numbers f)
    → IsTrue (is_in_range (numbers (read f k bytes)))
read-range (Alone i) k bytes below = refl
read-range (Constant make n) k bytes below = (constant_written make n k below).range
read-range (Short make n) k bytes below = grind (arith, nat_tests)
read-range (Byte make n) k bytes below = refl
read-range (SignedByte make n) k bytes below = refl
read-range (Index make n) k bytes below = refl
read-range (SignedPair make n) k bytes below = refl
read-range (ByteAndSigned make n by) k bytes below = refl
read-range (Test make t n) k bytes below = grind (arith, nat_tests)
