-- Names, and the bytes that they are spelled with.
use Rattle.std.specs.Prelude.{ℕ, ◌≤◌, List, [], ◌∷◌, Bool, false, ◌||◌, ◌&&◌, ◌==◌, nat_le, length}
use Rattle.std.specs.Prelude.{IsTrue}
use Rattle.std.specs.List.{list_all}

-- a letter of ASCII, or `_`
abbrev pub is_letter : ℕ → Bool
is_letter byte =
    (nat_le 65 byte && nat_le byte 90) || (nat_le 97 byte && nat_le byte 122) || byte == 95

-- a decimal digit
abbrev pub is_digit : ℕ → Bool
is_digit byte = nat_le 48 byte && nat_le byte 57

-- a byte that a name may go on with
abbrev pub goes_on : ℕ → Bool
goes_on byte = is_letter byte || is_digit byte

-- letters, digits and `_`, of which the first is no digit
abbrev pub is_spelled : List ℕ → Bool
is_spelled [] = false
is_spelled (byte ∷ rest) = is_letter byte && list_all goes_on rest

-- a name is spelled so, and has at most 64 bytes
pub record IsName (bytes : List ℕ) : Type 0 where
  pub spelled : IsTrue (is_spelled bytes)
  pub short : length bytes ≤ 64

-- the test whether bytes are a name
abbrev pub is_name : List ℕ → Bool
is_name bytes = is_spelled bytes && nat_le (length bytes) 64
