-- Kinds on one another, in whole pieces and a rest.
use Rattle.std.specs.Prelude.{◌≡◌, ◌<◌, ◌≤◌, List, [], ◌∷◌, ◌++◌, length, Option, Some, None}
use Rattle.par_frame_steps.specs.declared.pile.TheConstants.{PIECE, MOST_PIECES}
use Rattle.par_place_kinds.specs.declared.kind.PlaceKind.{PlaceKind}

-- none where no list is kept
abbrev pub listed : {A : Type 0} → Option (List A) → List A
listed None = []
listed (Some all) = all

-- one piece behind another
abbrev pub joined : List (List PlaceKind) → List PlaceKind
joined [] = []
joined (p ∷ ps) = p ++ joined ps

abbrev pub AreWhole : List (List PlaceKind) → Type 0
AreWhole [] = Unit {0}
AreWhole (p ∷ ps) = (length p ≡ PIECE) × AreWhole ps

-- pieces are whole, and something stands behind them
pub record IsPiled (ps : List (List PlaceKind)) (rest : List PlaceKind) : Type 0 where
  pub whole : AreWhole ps
  pub few : length ps ≤ MOST_PIECES
  pub short : length rest ≤ PIECE
  pub behind : 0 < length ps → 0 < length rest
