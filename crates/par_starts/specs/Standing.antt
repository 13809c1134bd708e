-- The instruction at an offset of code.
use Rattle.std.specs.Prelude.{◌≡◌, ℕ, ◌-◌, ◌<◌, ◌≤◌, ℤ, pos, ◌+ℤ◌, List}
use Rattle.std.specs.Prelude.{length, Option, Some, None}
use Rattle.par_instr.specs.declared.instr.Instr.{Instr}
use Rattle.par_instr.specs.declared.instr.Instr.TheVariants as instr
use Rattle.par_instr.specs.Decoding.{decoded_at}
use Rattle.par_single.specs.Walk.{starts_at, stands_at}
use Rattle.par_starts.specs.declared.instructions.Standing.{Standing}

-- how far from its offset a branch goes on, 0 where an instruction is none
abbrev pub reach_of : Instr → ℤ
reach_of (instr.If test to) = to
reach_of (instr.IfIcmp test to) = to
reach_of (instr.IfAcmpeq to) = to
reach_of (instr.IfAcmpne to) = to
reach_of (instr.Goto to) = to
reach_of (instr.Ifnull to) = to
reach_of (instr.Ifnonnull to) = to
reach_of _ = pos 0

-- the instruction at an offset, with the offset behind it, and whether instructions start there and
-- at its distance
pub record Stands (code : List ℕ) (at : ℕ) (row : Standing) : Type 0 where
  pub is : decoded_at code at ≡ Some (record { instr = row.instr; size = row.next - at })
  pub forward : at < row.next
  pub within : row.next ≤ length code
  pub ahead : row.ahead ≡ starts_at code row.next
  pub aside : row.aside ≡ stands_at code (pos at +ℤ reach_of row.instr)

-- an instruction stands at an offset, or none does; of long code it may not be told
abbrev pub IsStanding : List ℕ → ℕ → Option Standing → Type 0
IsStanding code at None = length code ≤ 65535 → decoded_at code at ≡ None
IsStanding code at (Some row) = Stands code at row

-- The same, of code that is not long.
abbrev pub KnowsStanding : List ℕ → ℕ → Option Standing → Type 0
KnowsStanding code at None = decoded_at code at ≡ None
KnowsStanding code at (Some row) = (length code ≤ 65535) × Stands code at row
