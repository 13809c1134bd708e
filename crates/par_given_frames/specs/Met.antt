-- Whether the needed offsets of code are flagged.
use Rattle.std.specs.Prelude.{ℕ, ℤ, pos, negsuc, ◌+ℤ◌, ◌==◌, Bool, true, false, ◌||◌, List, length}
use Rattle.std.specs.Prelude.{Option, Some, None, slice_index_or}
use Rattle.std.specs.List.{list_all}
use Rattle.par_instr.specs.Decoding.{Decoded, decoded_at}
use Rattle.par_class.specs.declared.file.Catch.{Catch}
use Rattle.par_kinds.specs.Acts.{Flow, Onward, Jumps, Branches}
use Rattle.par_frames.specs.Needed.{needs, flow_at}

-- what is told of an offset, which may be below 0
abbrev pub told_at : (ℕ → Bool) → ℤ → Bool
told_at told (pos at) = told at
told_at told (negsuc n) = false

-- whether an offset is flagged
abbrev pub flag_at : List Bool → ℤ → Bool
flag_at flags to = told_at (λ at. slice_index_or flags at false) to

-- how far a branch goes
abbrev pub branch_of : Flow → Option ℤ
branch_of (Jumps to) = Some to
branch_of (Branches to) = Some to
branch_of flow = None

-- whether the instruction behind is the next one, or may be
abbrev pub goes_on : Flow → Bool
goes_on Onward = true
goes_on (Branches to) = true
goes_on flow = false

-- whether a branch goes to a flagged offset
abbrev pub branch_met : List Bool → ℕ → Option ℤ → Bool
branch_met flags at None = true
branch_met flags at (Some to) = flag_at flags (pos at +ℤ to)

-- whether the offset behind is flagged, where an instruction needs it
abbrev pub behind_met : List Bool → (len next : ℕ) → Flow → Bool
behind_met flags len next flow = goes_on flow || next == len || flag_at flags (pos next)

-- whether all that an instruction needs is flagged
abbrev pub met_by : List Bool → (len at : ℕ) → Option Decoded → Bool
met_by flags len at None = true
met_by flags len at (Some does) =
    list_all (flag_at flags) (needs len (flow_at does.instr) at does.size)

abbrev pub met_at : List Bool → List ℕ → ℕ → Bool
met_at flags code at = met_by flags (length code) at (decoded_at code at)

-- whether all that handlers need is
abbrev pub met_by_catches : List Bool → List Catch → Bool
met_by_catches flags catches = list_all (λ c. flag_at flags (pos c.handler)) catches
