-- A loop that flags the offsets of frames, as long as they are placed.
use Rattle.std.proofs.Common.{◌≡◌, ℕ, zero, suc, ◌+◌, ◌<◌, ◌≤◌, ◌^◌, Bool, true, false, ◌&&◌, ◌||◌}
use Rattle.std.proofs.Common.{◌==◌, List, [], ◌∷◌, length, get_or, set, replicate, Some, None}
use Rattle.std.proofs.Common.{refl, sym, ap, ◌∙◌, arith, inl, inr, get_or-set_same}
use Rattle.std.proofs.Common.{get_or-set_other}
use Rattle.std.proofs.lemmas.Bool.{and_parts, eq-eqb, ne_eqb, cases_eq, or_left, or_right}
use Rattle.par_pool.specs.declared.constant.Constant.{Constant}
use Rattle.par_class.specs.declared.file.CodeAttr.{CodeAttr}
use Rattle.par_single.specs.Walk.{starts_at}
use Rattle.par_frame_forms.specs.declared.form.FrameForm.{FrameForm}
use Rattle.par_given_frames.specs.declared.sizes.Size.{Size}
use Rattle.par_given_frames.specs.Sizes.{size_said, is_placed, placed_first, placed, framed_first}
use Rattle.par_given_frames.specs.Sizes.{framed}
use Rattle.std.specs.Prelude.{nat_le}
use Rattle.par_given_frames.proofs.Meeting.{start_within}

-- flags that tell nothing
pub blank : (n at : ℕ) → get_or (replicate n false) at false ≡ false
blank zero at = refl
blank (suc n) zero = refl
blank (suc n) (suc at) = blank n at

-- a placed frame stands within the code
pub there : (code : CodeAttr) (s : Size) → is_placed code s ≡ true → s.offset < length code.code
there code s is =
    let first =
    and_parts (starts_at code.code s.offset && nat_le s.locals code.max_locals)
    (nat_le s.stack code.max_stack) is in
    let second =
    and_parts (starts_at code.code s.offset) (nat_le s.locals code.max_locals) first.0 in
    start_within code.code s.offset second.0

-- what the loop keeps, behind some frames
pub record Placing (code : CodeAttr) (pool : List Constant) (listed : ℕ) (forms : List FrameForm)
    (flags : List Bool) (from locals : ℕ) (rest : List FrameForm) : Type 0 where
  pub near : from ≤ 65535
  pub few : locals < 2 ^ 63
  pub placed_ : placed code pool from locals rest ≡ placed code pool 0 listed forms
  pub framed_ : (at : ℕ)
      → (get_or flags at false || framed pool from locals rest at) ≡ framed pool 0 listed forms at

module _ (code : CodeAttr) (pool : List Constant) (listed : ℕ) (forms : List FrameForm) where
  pub begins : listed < 2 ^ 63
      → Placing code pool listed forms (replicate (length code.code) false) 0 listed forms
  begins few = record {
    near = omega arith;
    few = few;
    placed_ = refl;
    framed_ = λ at. ap (λ b. b || framed pool 0 listed forms at) (blank (length code.code) at);
  }

  module _ (flags : List Bool) (from locals : ℕ) (f : FrameForm) (fs : List FrameForm)
      (p : Placing code pool listed forms flags from locals (f ∷ fs)) where
    -- no frame is said
    pub unsaid : size_said pool from locals f ≡ None → placed code pool 0 listed forms ≡ false
    unfolding placed
    unsaid e =
        sym p.placed_
        ∙ ap (placed_first code (λ next many. placed code pool next many fs)) e

    module _ (s : Size) (e : size_said pool from locals f ≡ Some s) where
      -- or one that is not placed
      pub unplaced : is_placed code s ≡ false → placed code pool 0 listed forms ≡ false
      unfolding placed
      unplaced is =
          sym p.placed_
          ∙ ap (placed_first code (λ next many. placed code pool next many fs)) e
          ∙ ap (λ b. b && placed code pool (s.offset + 1) s.locals fs) is

      flagged : s.offset < length flags → (at : ℕ)
          → (get_or (set flags s.offset true) at false || framed pool (s.offset + 1) s.locals fs at)
          ≡ (get_or flags at false
          || ((s.offset == at) || framed pool (s.offset + 1) s.locals fs at))
      flagged within at =
          elim (cases_eq at s.offset) [
            | inl same ↦
                ap (λ b. b || framed pool (s.offset + 1) s.locals fs at)
                (ap (λ (i : ℕ). get_or (set flags s.offset true) i false) same
                ∙ get_or-set_same flags s.offset true false within)
                ∙ sym (or_right (get_or flags at false)
                ((s.offset == at) || framed pool (s.offset + 1) s.locals fs at)
                (or_left (s.offset == at) (framed pool (s.offset + 1) s.locals fs at)
                (eq-eqb s.offset at (sym same))))
            | inr apart ↦
                ap (λ b. b || framed pool (s.offset + 1) s.locals fs at)
                (get_or-set_other flags s.offset at true false apart)
                ∙ sym (ap (λ b. get_or flags at false
                || (b || framed pool (s.offset + 1) s.locals fs at))
                (ne_eqb s.offset at (λ same. apart (sym same))))
          ]

      pub goes_on : length flags ≡ length code.code → length code.code ≤ 65535
          → s.locals < 2 ^ 16 → is_placed code s ≡ true
          → Placing code pool listed forms (set flags s.offset true) (s.offset + 1) s.locals fs
      unfolding placed framed
      goes_on same short most is =
          let h = there code s is in
          record {
            near = omega (arith, h, short);
            few = omega (arith, most);
            placed_ =
                sym (ap (λ b. b && placed code pool (s.offset + 1) s.locals fs) is)
                ∙ sym (ap (placed_first code (λ next many. placed code pool next many fs)) e)
                ∙ p.placed_;
            framed_ = λ at.
                flagged (omega (arith, h, same)) at
                ∙ sym (ap (λ o. get_or flags at false
                || framed_first at (λ next many. framed pool next many fs at) o) e)
                ∙ p.framed_ at;
          }

  module _ (flags : List Bool) (from locals : ℕ)
      (p : Placing code pool listed forms flags from locals []) where
    pub all-placed : true ≡ placed code pool 0 listed forms
    unfolding placed
    all-placed = p.placed_

    or-end : (b : Bool) → (b || false) ≡ b
    or-end true = refl
    or-end false = refl

    pub all-framed : (at : ℕ) → get_or flags at false ≡ framed pool 0 listed forms at
    unfolding framed
    all-framed at = sym (or-end (get_or flags at false)) ∙ p.framed_ at
