-- The offsets of written frames ascend.
use Rattle.std.proofs.Common.{◌≡◌, ℕ, zero, suc, ◌+◌, ◌≤◌, Bool, true, false, List, [], ◌∷◌}
use Rattle.std.proofs.Common.{◌++◌, length, Option, Some, None, refl, ap, arith}
use Rattle.std.specs.Prelude.{◌==◌, if◌then◌else◌, slice_get, slice_index}
use Rattle.std.specs.List.{flat_map}
use Rattle.std.proofs.lemmas.Bool.{eqb-false}
use Rattle.std.proofs.lemmas.List.Elements.{All-head, All-tail}
use Rattle.std.proofs.lemmas.Option.{get_or_from_slice_get}
use Rattle.par_code_form.specs.declared.item.Item.{Item}
use Rattle.par_code_form.specs.declared.item.Item.TheVariants.{Label, Op, Const, Jump, Member}
use Rattle.par_code_form.specs.declared.item.Item.TheVariants.{ClassOp, LockOp}
use Rattle.par_code_form.specs.declared.labelled.LabelFrame.{LabelFrame}
use Rattle.par_code_form.specs.declared.labelled.Labelled.{Labelled}
use Rattle.par_kinds.specs.declared.frame.PlacedFrame.{PlacedFrame}
use Rattle.par_frames.specs.Room.{Ascend, offsets}
use Rattle.par_place.specs.par_code_form.Placed.{size, offset_of, offset_at}
use Rattle.par_place.specs.par_code_form.Placeable.{MOST_BYTES}
use Rattle.par_place.specs.par_code_form.PlaceableFrames.{AreFramesPlaceable}
use Rattle.par_place.specs.Offsets.{AreSmall}
use Rattle.par_place.proofs.Sizes.{offset_is}
use Rattle.par_compile_laws.specs.Framed.{placed_at, frame_at, frame_of, before}
use Rattle.par_compile_laws.specs.Framed.{last_ones}
use Rattle.par_compile_laws.specs.Framed.{frames_with}
use Rattle.par_framing.specs.Added.{HasLabelOffsets}
use Rattle.par_framing.proofs.Written.{frame_once}

-- offsets do not fall, from one on, and none is beyond the longest code
abbrev pub Climb : ℕ → List PlacedFrame → Type 0
Climb from [] = Unit {0}
Climb from (f ∷ fs) = (from ≤ f.offset) × (f.offset ≤ MOST_BYTES) × Climb f.offset fs

climb-lower : (from at : ℕ) (fs : List PlacedFrame) → from ≤ at → Climb at fs → Climb from fs
climb-lower from at [] le h = tt
climb-lower from at (f ∷ fs) le h = (omega (arith, le, h.0), h.1, h.2)

-- ---- of frames at one offset the last stays

ascend-before : (from : ℕ) (f : PlacedFrame) (fs : List PlacedFrame) → from ≤ f.offset
    → f.offset ≤ MOST_BYTES → Ascend f.offset (offsets fs) → Ascend from (offsets (before f fs))
ascend-before from f [] le small up = (le, omega (arith, small), tt)
ascend-before from f (g ∷ gs) le small up = choose (f.offset == g.offset) refl
  where
    above : (f.offset == g.offset) ≡ false → f.offset + 1 ≤ g.offset
    above e = let apart = eqb-false f.offset g.offset e in omega (arith, apart, up.0)

    choose : (b : Bool) → (f.offset == g.offset) ≡ b
        → Ascend from (offsets (if b then g ∷ gs else f ∷ g ∷ gs))
    choose true e = (omega (arith, le, up.0), up.1, up.2)
    choose false e = (le, omega (arith, small), (above e, up.1, up.2))

pub ascends : (from : ℕ) (fs : List PlacedFrame) → Climb from fs
    → Ascend from (offsets (last_ones fs))
ascends from [] h = tt
ascends from (f ∷ fs) h =
    ascend-before from f (last_ones fs) h.0 h.1 (ascends f.offset fs h.2)

-- ---- the offsets of labels do not fall

module _ (f : ℕ → ℕ) (frames : List LabelFrame) where
  -- a label that has a frame stands at the offset of its place
  abbrev pub StandsAt : ℕ → ℕ → LabelFrame → ℕ → Type 0
  StandsAt at l g o = (f l ≡ at + o) × (f l ≤ MOST_BYTES)

  climb-at : (at l : ℕ) (o : Option LabelFrame) (more : List PlacedFrame)
      → ((g : LabelFrame) → o ≡ Some g → StandsAt at l g 0) → Climb at more
      → Climb at (placed_at (f l) o ++ more)
  climb-at at l None more is h = h
  climb-at at l (Some g) more is h =
      let stands = is g refl in (
        omega (arith, stands.0),
        stands.1,
        climb-lower (f l) at more (omega (arith, stands.0)) h,
      )

  pub climbs : (at : ℕ) (xs : List Item) (ns : List ℕ) → length xs ≡ length ns
      → ((p l : ℕ) (g : LabelFrame) → slice_get xs p ≡ Some (Label l)
      → frame_at frames l ≡ Some g → StandsAt at l g (offset_at p xs ns))
      → Climb at (flat_map (frame_of f frames) xs)
  climbs at [] ns same is = tt
  climbs at (x ∷ xs) [] same is = absurd (omega (arith, same))
  climbs at (x ∷ xs) (n ∷ ns) same is =
      here (climb-lower at (at + size x n) (flat_map (frame_of f frames) xs) (omega arith)
      (climbs (at + size x n) xs ns (omega (arith, same))
      (λ p l g e h. let s = is (suc p) l g e h in (omega (arith, s.0), s.1)))) x refl
    where
      here : Climb at (flat_map (frame_of f frames) xs) → (y : Item) → x ≡ y
          → Climb at (frame_of f frames y ++ flat_map (frame_of f frames) xs)
      here lower (Label l) e =
          climb-at at l (frame_at frames l) (flat_map (frame_of f frames) xs)
          (λ g h. is zero l g (ap (λ (z : Item). Some z) e) h) lower
      here lower (Op i) e = lower
      here lower (Const v) e = lower
      here lower (Jump opcode l) e = lower
      here lower (Member opcode class name kind) e = lower
      here lower (ClassOp opcode class) e = lower
      here lower (LockOp opcode lock) e = lower

small-at : (offsets : List ℕ) (l o : ℕ) → AreSmall offsets → slice_get offsets l ≡ Some o
    → o ≤ MOST_BYTES
small-at [] l o h e = absurd (cc)
small-at (p ∷ ps) zero o h e =
    let same : p ≡ o = cc in
    omega (arith, same, All-head (λ (q : ℕ). q ≤ MOST_BYTES) p ps h)
small-at (p ∷ ps) (suc l) o h e =
    small-at ps l o (All-tail (λ (q : ℕ). q ≤ MOST_BYTES) p ps h) e

pub frames_ascend : (code : Labelled) (offs : List ℕ) → AreFramesPlaceable code
    → HasLabelOffsets code offs → Ascend 0 (offsets (frames_with (slice_index offs) code))
frames_ascend code offs can have =
    ascends 0 (flat_map (frame_of (slice_index offs) code.frames) code.items)
    (climbs (slice_index offs) code.frames 0 code.items have.indices have.paired at)
  where
    at : (p l : ℕ) (g : LabelFrame) → slice_get code.items p ≡ Some (Label l)
        → frame_at code.frames l ≡ Some g
        → (slice_index offs l ≡ 0 + offset_at p code.items have.indices)
        × (slice_index offs l ≤ MOST_BYTES)
    at p l g e h =
        let once = frame_once code can l g h in
        let found = have.labels l once in
        let is : slice_index offs l ≡ offset_of code.items have.indices l =
        get_or_from_slice_get offs l (offset_of code.items have.indices l) 0 found in
        let place = offset_is l p code.items have.indices e have.paired once in (
          omega (arith, is, place),
          omega (
            arith,
            is,
            small-at offs l (offset_of code.items have.indices l) have.small found,
          ),
        )
