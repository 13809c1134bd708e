-- A name is text of ASCII.
use Rattle.std.proofs.Common.{ℕ, zero, suc, ◌<◌, List, [], ◌∷◌, arith}
use Rattle.std.specs.Prelude.{IsTrue, IsUtf8}
use Rattle.std.specs.Str.{IsAscii}
use Rattle.std.specs.List.{list_all}
use Rattle.std.proofs.lemmas.Str.{IsUtf8-from_ascii}
use Rattle.std.proofs.lemmas.Bool.{and_parts}
use Rattle.std.proofs.lemmas.Bool.Decides.{nat_tests}
use Rattle.par_base.specs.Names.{is_letter, goes_on, is_spelled, IsName}

letter_below : (byte : ℕ) → IsTrue (is_letter byte) → byte < 128
letter_below byte h = grind (arith, nat_tests, h)

below : (byte : ℕ) → IsTrue (goes_on byte) → byte < 128
below byte h = grind (arith, nat_tests, h)

all_below : (bytes : List ℕ) → IsTrue (list_all goes_on bytes) → IsAscii bytes
all_below [] h i = omega arith
all_below (byte ∷ bytes) h zero = below byte (and_parts _ _ h).0
all_below (byte ∷ bytes) h (suc i) = all_below bytes (and_parts _ _ h).1 i

name_below : (bytes : List ℕ) → IsTrue (is_spelled bytes) → IsAscii bytes
name_below [] h i = omega arith
name_below (byte ∷ bytes) h zero = letter_below byte (and_parts _ _ h).0
name_below (byte ∷ bytes) h (suc i) = all_below bytes (and_parts _ _ h).1 i

-- so that it is text
pub name_is_text : (bytes : List ℕ) → IsName bytes → IsUtf8 bytes
name_is_text bytes h = IsUtf8-from_ascii bytes (name_below bytes h.spelled)
