-- What a pool has room for.
use Rattle.std.specs.Prelude.{ℕ, ◌+◌, List, ◌++◌}
use Rattle.par_pool.specs.declared.constant.Constant.{Constant}
use Rattle.par_values.specs.Areas.{Name}
use Rattle.par_framing.specs.par_frames.Room.{HasRoom}

-- so much room is left of that for more
abbrev pub Leaves : ℕ → List Name → List Constant → List Constant → Type 0
Leaves few names old new =
    (spare : ℕ) (later : List Name) → HasRoom old (few + spare) (names ++ later)
    → HasRoom new spare later
