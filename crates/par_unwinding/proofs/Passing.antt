-- Frames that an exception passes, and the one where it lands.
use Rattle.std.proofs.Common.{◌≡◌, ℕ, zero, suc, ◌<◌, List, [], ◌∷◌, length, drop, Option, Some}
use Rattle.std.proofs.Common.{None, slice_get, refl, ap, ◌∙◌, arith}
use Rattle.std.specs.Option.{option_map}
use Rattle.std.proofs.lemmas.Option.{same_Some}
use Rattle.par_class.specs.declared.file.ClassFile.{ClassFile}
use Rattle.par_step_laws.specs.Handlers.{handler_in, caught, caught_by}
use Rattle.par_stack.specs.declared.point.Point.{Point}
use Rattle.par_stack.specs.Frames.{Frame, running}
use Rattle.par_unwinding.specs.Standing.{standing}
use Rattle.par_unwinding.specs.Shown.{frame_of, frames_of}
use Rattle.par_unwinding.specs.Landing.{gone_on}

module _ (files : List ClassFile) (thrown : ℕ) where
  -- the handler of a frame that stands at a point
  abbrev handler_at : Point → Option ℕ
  handler_at p = handler_in files thrown (standing p.class p.method p.at)

  -- a frame without a handler is passed
  pub passed : (frames : List Frame) (k : ℕ) (p : Point)
      → option_map (λ (f : Frame). f.point) (slice_get frames k) ≡ Some p
      → handler_at p ≡ None
      → caught files thrown (frames_of (drop k frames))
      ≡ caught files thrown (frames_of (drop (suc k) frames))
  unfolding caught
  passed [] k p at none = absurd (cc)
  passed (f ∷ fs) zero p at none =
      ap (λ h. caught_by h (frame_of f) (frames_of fs) (caught files thrown (frames_of fs)))
      (ap handler_at (same_Some _ _ at) ∙ none)
  passed (f ∷ fs) (suc k) p at none = passed fs k p at none

  -- at the first handler it lands
  pub landed : (frames : List Frame) (k : ℕ) (p : Point) (at : ℕ)
      → option_map (λ (f : Frame). f.point) (slice_get frames k) ≡ Some p
      → handler_at p ≡ Some at
      → caught files thrown (frames_of (drop k frames)) ≡ frames_of (gone_on k at frames)
  unfolding caught
  landed [] k p at is some = absurd (cc)
  landed (f ∷ fs) zero p at is some =
      ap (λ h. caught_by h (frame_of f) (frames_of fs) (caught files thrown (frames_of fs)))
      (ap handler_at (same_Some _ _ is) ∙ some)
  landed (f ∷ fs) (suc k) p at is some = landed fs k p at is some

  -- behind all frames there is none
  pub passed_all : (frames : List Frame) (k : ℕ) → length frames ≡ k
      → caught files thrown (frames_of (drop k frames)) ≡ []
  unfolding caught
  passed_all [] zero many = refl
  passed_all [] (suc k) many = absurd (cc)
  passed_all (f ∷ fs) zero many = absurd (cc)
  passed_all (f ∷ fs) (suc k) many = passed_all fs k (omega arith)

pub there : (frames : List Frame) (k : ℕ) (p : Point)
    → option_map (λ (f : Frame). f.point) (slice_get frames k) ≡ Some p → k < length frames
there [] k p at = absurd (cc)
there (f ∷ fs) zero p at = omega arith
there (f ∷ fs) (suc k) p at = let h = there fs k p at in omega arith

-- the frame at a handler
pub point_on : (frames : List Frame) (k : ℕ) (p : Point) (at : ℕ)
    → option_map (λ (f : Frame). f.point) (slice_get frames k) ≡ Some p
    → (running (gone_on k at frames)).point ≡ record p { at = at }
point_on [] k p at is = absurd (cc)
point_on (f ∷ fs) zero p at is = ap (λ (q : Point). record q { at = at }) (same_Some _ _ is)
point_on (f ∷ fs) (suc k) p at is = point_on fs k p at is
