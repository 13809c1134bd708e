-- Frames that are told beside those that stand.
use Rattle.std.specs.Prelude.{◌≡◌, ℕ, true, length, Some}
use Rattle.par_class.specs.declared.file.CodeAttr.{CodeAttr}
use Rattle.par_frame_moves.specs.par_kinds.Kinds.{KFrame}
use Rattle.par_kinds.specs.Passes.{Table, frame_at, is_sized}

-- each frame has its places, and stands where an instruction does
abbrev pub AreSized : CodeAttr → Table → Type 0
AreSized code t = (at : ℕ) (k : KFrame) → frame_at t at ≡ Some k → is_sized code at k ≡ true

-- frames that stand stay as they are, and those that are told have their places too
pub record Tells (code : CodeAttr) (t s : Table) : Type 0 where
  pub many : length s ≡ length t
  pub stays : (at : ℕ) (k : KFrame) → frame_at t at ≡ Some k → frame_at s at ≡ Some k
  pub sized : AreSized code t → AreSized code s
