-- Completions in lists.
use Rattle.std.specs.Prelude.{ℕ, Bool, false, ◌||◌, ◌&&◌, not, List, [], ◌∷◌, map, take, drop}
use Rattle.par_program_laws.specs.Kinds.{Kind, same, Absorber, absorbed}
use Rattle.par_program_laws.specs.Rules.{Rules, Done, Part, Test, Heads, Leaves, Worths, can}
use Rattle.par_nodes.specs.declared.rule.Kind as code
use Rattle.par_nodes.specs.Seen.{seen_kind}

-- the completion is one of these
abbrev pub among : List code.Kind → Kind → Bool
among [] k = false
among (j ∷ js) k = same (seen_kind j) k || among js k

-- completions of one or of the other
abbrev pub either : (Kind → Bool) → (Kind → Bool) → Kind → Bool
either f g k = f k || g k

-- completions, where that is so
abbrev pub if_so : Bool → (Kind → Bool) → Kind → Bool
if_so b f k = b && f k

-- completions that are not absorbed
abbrev pub apart : Absorber → (Kind → Bool) → Kind → Bool
apart a f k = f k && not (absorbed a k)

-- what can be of the parts before, the latest first, in front of these
abbrev pub cans : List (List code.Kind) → List (Kind → Bool) → List (Kind → Bool)
cans [] fs = fs
cans (js ∷ parts) fs = cans parts (among js ∷ fs)

-- what can be of the parts before the place, of which the next comes last
abbrev pub coming : ℕ → List (List code.Kind) → List (Kind → Bool)
coming place parts = cans (take place parts) []

-- what can be of those from the place on
abbrev pub passed : ℕ → List (List code.Kind) → List (Kind → Bool)
passed place parts = map among (drop place parts)

-- the completions of the parts of rules, in their order
abbrev pub parts_can : Rules → List (Kind → Bool)
parts_can Done = []
parts_can (Part from absorber part more) = can part ∷ parts_can more
parts_can (Test part more) = can part ∷ parts_can more
parts_can (Heads from more) = parts_can more
parts_can (Leaves from kind more) = parts_can more
parts_can (Worths worth more) = parts_can more
