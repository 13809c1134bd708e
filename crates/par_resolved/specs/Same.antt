-- Terms of policies that say the same.
use Rattle.std.specs.Prelude.{◌≡◌, Bool, IsTrue}

-- where the test passes, both come to the same, whatever they are read by
abbrev pub IsSame : {K A B : Type 0} → (K → A → B) → Bool → A → A → Type 0
IsSame {K} value test one other = IsTrue test → (k : K) → value k one ≡ value k other
