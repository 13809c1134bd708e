-- Where each item of a list stands first.
use Rattle.std.specs.Prelude.{◌≡◌, Bool, List}
use Rattle.std.specs.List.{position}
use Rattle.std.specs.HashMap.{get}
use Rattle.par_index.specs.declared.firsts.Firsts.{Firsts}

-- each item that is asked for has its first place in the list
abbrev pub AreFirst : {A : Type 0} → (A → A → Bool) → List A → Firsts A → Type 0
AreFirst {A} same xs firsts = (x : A) → get same firsts.places x ≡ position (same x) xs
