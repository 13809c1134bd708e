-- The frames from which the passes start, as one after another is put in its place.
use Rattle.std.proofs.Common.{◌≡◌, ℕ, zero, suc, ◌+◌, ◌-◌, ◌<◌, ◌≤◌, ◌==◌, cond, Bool}
use Rattle.std.proofs.Common.{true, false}
use Rattle.std.proofs.Common.{List, [], ◌∷◌, ◌++◌, Option, Some, None, length, drop, set, replicate}
use Rattle.std.proofs.Common.{refl, sym}
use Rattle.std.proofs.Common.{ap, ◌∙◌, arith, get_or, drop-cons, length-set}
use Rattle.std.proofs.lemmas.Bool.{eqb-true, eq-eqb}
use Rattle.std.proofs.lemmas.List.{drop_all, length-map, replicate-append-replicate}
use Rattle.std.specs.Option.{option_map}
use Rattle.par_kinds.specs.declared.frame.PlacedFrame.{PlacedFrame}
use Rattle.par_kinds.specs.Kinds.{KFrame}
use Rattle.par_kinds.specs.Fits.{Given}
use Rattle.par_kinds.specs.Told.{as_met, told}
use Rattle.par_frame_steps.specs.declared.frame.PlaceFrame.{PlaceFrame}
use Rattle.par_frame_steps.specs.Marks.{frame_of}
use Rattle.par_frame_passes.specs.Tables.{table_of}
use Rattle.par_verify_laws.specs.par_kinds.Passes.{Table, from_start, start_table}
use Rattle.par_verify_laws.specs.Verified.{whole}
use Rattle.par_verify.specs.Starts.{told_of}

-- a table in which a frame is put is as long
pub put-many : (t u : List (Option PlaceFrame)) (at : ℕ) (o : Option KFrame)
    → table_of u ≡ set (table_of t) at o → length u ≡ length t
put-many t u at o is =
    sym (length-map u (option_map frame_of)) ∙ ap length is ∙ length-set (table_of t) at o
    ∙ length-map t (option_map frame_of)

-- frames that are the same from an offset on
pub start-same : (g h : Given) (bytes : List ℕ) (from : ℕ)
    → ((at : ℕ) → from ≤ at → g at ≡ h at) → start_table g from bytes ≡ start_table h from bytes
start-same g h [] from same = refl
start-same g h (op ∷ bytes) from same =
    ap (λ o. o ∷ start_table g (suc from) bytes) (same from (omega arith))
    ∙ ap (λ t. h from ∷ t)
    (start-same g h bytes (suc from) (λ at past. same at (omega (arith, past))))

-- frames that differ at one offset alone, the n-th from here
pub start-put : (g h : Given) (o : Option KFrame) (bytes : List ℕ) (from n at : ℕ)
    → at ≡ from + n → g at ≡ o → ((to : ℕ) → (to ≡ at → ⊥) → g to ≡ h to)
    → start_table g from bytes ≡ set (start_table h from bytes) n o
start-put g h o [] from zero at is there same = refl
start-put g h o [] from (suc n) at is there same = refl
start-put g h o (op ∷ bytes) from zero at is there same =
    let here : from ≡ at = omega (arith, is) in
    ap (λ f. f ∷ start_table g (suc from) bytes) (ap g here ∙ there)
    ∙ ap (λ t. o ∷ t)
    (start-same g h bytes (suc from)
    (λ to past. same to (λ e. omega (arith, past, e, here))))
start-put g h o (op ∷ bytes) from (suc n) at is there same =
    ap (λ f. f ∷ start_table g (suc from) bytes) (same from (λ e. omega (arith, is, e)))
    ∙ ap (λ t. h from ∷ t)
    (start-put g h o bytes (suc from) n at (omega (arith, is)) there same)

-- where none is told there is none
pub none-told : (many : ℕ) (bytes : List ℕ) (from : ℕ)
    → table_of (replicate (length bytes) None) ≡ start_table (told_of many []) from bytes
none-told many [] from = refl
none-told many (op ∷ bytes) from = ap (λ t. None ∷ t) (none-told many bytes (suc from))

-- one offset more for which there is none
pub one_none : (n : ℕ) (t u : List (Option PlaceFrame)) → t ≡ replicate n None
    → u ≡ t ++ None ∷ [] → u ≡ replicate (n + 1) None
one_none n t u is more =
    more ∙ ap (λ x. x ++ None ∷ []) is ∙ replicate-append-replicate n 1 None

-- one frame more is told, before the others
pub told-put : (many : ℕ) (f : PlacedFrame) (fs : List PlacedFrame) (bytes : List ℕ)
    → start_table (told_of many (f ∷ fs)) 0 bytes
    ≡ set (start_table (told_of many fs) 0 bytes) f.offset (Some (whole many (as_met f.frame)))
told-put many f fs bytes =
    start-put (told_of many (f ∷ fs)) (told_of many fs) (Some (whole many (as_met f.frame))) bytes 0
    f.offset f.offset (omega arith)
    (at_it (f.offset == f.offset) (eq-eqb f.offset f.offset refl))
    (λ to other. away to (f.offset == to) refl other)
  where
    at_it : (b : Bool) → b ≡ true
        → option_map (whole many) (cond b (Some (as_met f.frame)) (told fs f.offset))
        ≡ Some (whole many (as_met f.frame))
    at_it true is = refl
    at_it false is = absurd (cc is)

    away : (to : ℕ) (b : Bool) → f.offset == to ≡ b → (to ≡ f.offset → ⊥)
        → option_map (whole many) (cond b (Some (as_met f.frame)) (told fs to))
        ≡ option_map (whole many) (told fs to)
    away to true is other = absurd (other (sym (eqb-true f.offset to is)))
    away to false is other = refl

-- the frame of a call is put at the first offset
pub first_put : (first : KFrame) (given : Given) (bytes : List ℕ)
    → start_table (from_start first given) 0 bytes ≡ set (start_table given 0 bytes) 0 (Some first)
first_put first given bytes =
    start-put (from_start first given) given (Some first) bytes 0 0 0 (omega arith) refl elsewhere
  where
    elsewhere : (to : ℕ) → (to ≡ 0 → ⊥) → from_start first given to ≡ given to
    elsewhere zero other = absurd (other refl)
    elsewhere (suc to) other = refl
