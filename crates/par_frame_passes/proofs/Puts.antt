-- A frame that is kept, or taken.
use Rattle.std.proofs.Common.{◌≡◌, ℕ, zero, suc, ◌<◌, ◌≤◌, List, [], ◌∷◌, Option, Some, None}
use Rattle.std.proofs.Common.{length, set, get_or, refl, sym, subst, arith}
use Rattle.std.proofs.lemmas.List.{map-set, set_past, length-map}
use Rattle.std.specs.Option.{option_map}
use Rattle.par_frame_moves.specs.par_kinds.Kinds.{KFrame}
use Rattle.par_kinds.specs.Passes.{frame_at}
use Rattle.par_frame_steps.specs.declared.frame.PlaceFrame.{PlaceFrame}
use Rattle.par_frame_steps.specs.Marks.{frame_of}
use Rattle.par_frame_passes.specs.Tables.{table_of}

pub put_there : (t : List (Option PlaceFrame)) (at : ℕ) (f : PlaceFrame)
    → table_of (set t at (Some f)) ≡ set (table_of t) at (Some (frame_of f))
put_there t at f = map-set (option_map frame_of) t at (Some f)

pub put_nowhere : (t : List (Option PlaceFrame)) (at : ℕ) (k : Option KFrame) → length t ≤ at
    → set (table_of t) at k ≡ table_of t
put_nowhere t at k past =
    set_past (table_of t) at k
    (subst (λ n. n ≤ at) (sym (length-map t (option_map frame_of))) past)

pub taken_there : (t : List (Option PlaceFrame)) (at : ℕ)
    → table_of (set t at None) ≡ set (table_of t) at None
taken_there t at = map-set (option_map frame_of) t at None

-- the frame of an offset of a table
pub found_there : (t : List (Option PlaceFrame)) (at : ℕ) (d : Option PlaceFrame) → at < length t
    → option_map frame_of (get_or t at d) ≡ frame_at (table_of t) at
unfolding frame_at
found_there [] at d inside = absurd (omega (arith, inside))
found_there (None ∷ t) zero d inside = refl
found_there (Some f ∷ t) zero d inside = refl
found_there (o ∷ t) (suc at) d inside = found_there t at d (omega (arith, inside))

pub found_nowhere : (t : List (Option PlaceFrame)) (at : ℕ) → length t ≤ at
    → frame_at (table_of t) at ≡ None
unfolding frame_at
found_nowhere [] at past = refl
found_nowhere (o ∷ t) zero past = absurd (omega (arith, past))
found_nowhere (o ∷ t) (suc at) past = found_nowhere t at (omega (arith, past))

pub ruleset taken = (taken_there, put_nowhere, found_there, found_nowhere)
