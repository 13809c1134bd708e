-- The test whether bytes are a name.
use Rattle.std.proofs.Common.{◌≡◌, ℕ, List, true, length, nat_le, arith}
use Rattle.std.proofs.lemmas.Bool.{and_parts}
use Rattle.std.proofs.lemmas.Bool.Decides.{nat_tests}
use Rattle.par_base.specs.Names.{is_spelled, IsName, is_name}

-- bytes that pass it are a name
pub is_name-IsName : (bytes : List ℕ) → is_name bytes ≡ true → IsName bytes
is_name-IsName bytes is =
    let parts = and_parts (is_spelled bytes) (nat_le (length bytes) 64) is in
    record { spelled = parts.0; short = grind (arith, nat_tests, parts.1) }

-- a name passes it
pub IsName-is_name : (bytes : List ℕ) → IsName bytes → is_name bytes ≡ true
IsName-is_name bytes name = grind (arith, nat_tests, name.spelled, name.short)
