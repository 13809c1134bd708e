-- The frames of placed code are few, since their offsets ascend within the longest code.
use Rattle.std.proofs.Common.{◌≡◌, ℕ, zero, suc, ◌+◌, ◌≤◌, ◌<◌, List, [], ◌∷◌, length, Some, arith}
use Rattle.std.specs.Prelude.{◌^◌, slice_get, sum_by}
use Rattle.std.specs.List.{flat_map}
use Rattle.std.proofs.lemmas.List.{length-map}
use Rattle.std.proofs.lemmas.List.Sums.{sum_by-cons}
use Rattle.par_code_form.specs.declared.item.Item.{Item}
use Rattle.par_code_form.specs.declared.item.Item.TheVariants.{Label}
use Rattle.par_code_form.specs.declared.labelled.LabelFrame.{LabelFrame}
use Rattle.par_code_form.specs.declared.labelled.Labelled.{Labelled}
use Rattle.par_code_form.specs.Placed.{offset_of, offset_at}
use Rattle.par_code_form.specs.Placeable.{MOST_BYTES, most_bytes}
use Rattle.par_code_form.specs.PlaceableFrames.{AreFramesPlaceable}
use Rattle.par_place.proofs.Sizes.{offset_is}
use Rattle.par_place.proofs.Written.{size-most}
use Rattle.par_given_frames.specs.par_kinds.declared.frame.PlacedFrame.{PlacedFrame}
use Rattle.par_given_frames.specs.par_frames.Room.{offsets}
use Rattle.par_given_frames.proofs.par_frames.Said.{few_offsets}
use Rattle.par_compile_laws.specs.Framed.{frame_at, frame_of, frames_of}
use Rattle.par_framing.proofs.Written.{frame_once}
use Rattle.par_framing.proofs.Climbing.{climbs, ascends}

-- no offset is beyond the most bytes of the items
within : (p : ℕ) (xs : List Item) (ns : List ℕ) → offset_at p xs ns ≤ sum_by most_bytes xs
within zero xs ns = omega arith
within (suc p) [] ns = omega arith
within (suc p) (x ∷ xs) [] = omega arith
within (suc p) (x ∷ xs) (n ∷ ns) =
    omega (arith, within p xs ns, size-most x n, sum_by-cons most_bytes x xs)

module _ (code : Labelled) (ns : List ℕ) (same : length code.items ≡ length ns)
    (can : AreFramesPlaceable code) (short : sum_by most_bytes code.items ≤ MOST_BYTES) where
  at_place : (p l : ℕ) (g : LabelFrame) → slice_get code.items p ≡ Some (Label l)
      → frame_at code.frames l ≡ Some g
      → (offset_of code.items ns l ≡ 0 + offset_at p code.items ns)
      × (offset_of code.items ns l ≤ MOST_BYTES)
  at_place p l g e h =
      let is = offset_is l p code.items ns e same (frame_once code can l g h) in
      (omega (arith, is), omega (arith, is, within p code.items ns, short))

  pub few_frames : length (frames_of code ns) < 2 ^ 16
  few_frames =
      let up = ascends 0 (flat_map (frame_of (offset_of code.items ns) code.frames) code.items)
      (climbs (offset_of code.items ns) code.frames 0 code.items ns same at_place) in
      let few = few_offsets 0 (offsets (frames_of code ns)) (omega arith) up in
      omega (arith, few, length-map (frames_of code ns) (λ (f : PlacedFrame). f.offset))
