-- Which of some broken rules is the first.
use Rattle.std.specs.Prelude.{◌≡◌, ℕ, Bool, true, false, ◌||◌, ◌&&◌, nat_lt, nat_eq, if◌then◌else◌}
use Rattle.std.specs.Prelude.{List, [], ◌∷◌, Option, Some, None, fold}
use Rattle.std.specs.List.{Contains, All}
use Rattle.par_refusals.specs.declared.refusal.Refusal.{Refusal}
use Rattle.par_refusals.specs.declared.refusal.TheConstants.{LIMIT_RULE}

-- by place, then by rule, then by limit
abbrev pub comes_before : Refusal → Refusal → Bool
comes_before f g =
    nat_lt f.at g.at
    || (nat_eq f.at g.at
    && (nat_lt f.rule g.rule || (nat_eq f.rule g.rule && nat_lt f.limit g.limit)))

-- one of these broken rules, which none of them comes before
pub record IsFirst (fs : List Refusal) (f : Refusal) : Type 0 where
  pub among : Contains fs f
  pub first : All (λ g. comes_before g f ≡ false) fs

-- the same rule at the same place, and the same limit
pub record IsLevel (f g : Refusal) : Type 0 where
  pub place : f.at ≡ g.at
  pub rule : f.rule ≡ g.rule
  pub limit : f.limit ≡ g.limit

-- no rule is broken, or this is the first broken rule
abbrev pub IsAnswer : List Refusal → Option Refusal → Type 0
IsAnswer fs None = fs ≡ []
IsAnswer fs (Some f) = IsFirst fs f

-- the former one, unless the other comes before it
abbrev pub earlier : Option Refusal → Refusal → Option Refusal
earlier None g = Some g
earlier (Some f) g = if comes_before g f then Some g else Some f

-- the first of what was found before and of these
unfoldable pub first_of : Option Refusal → List Refusal → Option Refusal
first_of found fs = fold earlier found fs

-- what a pass finds where the pass before it has found nothing
unfoldable pub in_passes : List Refusal → List Refusal → List Refusal
in_passes [] later = later
in_passes (f ∷ fs) later = f ∷ fs

abbrev pub broken : ℕ → ℕ → Refusal
broken rule at = record { rule = rule; at = at; limit = 0; count = 0 }

abbrev pub exceeded : ℕ → ℕ → ℕ → Refusal
exceeded limit count at = record { rule = LIMIT_RULE; at = at; limit = limit; count = count }

-- a broken rule, where the test says so
unfoldable pub when : Bool → Refusal → List Refusal
when true f = f ∷ []
when false f = []
