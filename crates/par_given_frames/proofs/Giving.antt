-- The attributes of code give frames where all forms are placed and all needed offsets are flagged.
use Rattle.std.proofs.Common.{◌≡◌, ℕ, ℤ, pos, negsuc, Bool, true, ◌==◌, ◌↔◌}
use Rattle.std.proofs.Common.{List, [], ◌∷◌, length, Some, None, refl, sym, ap, subst}
use Rattle.std.proofs.Common.{◌∙◌, zero, suc, inl, inr, arith}
use Rattle.std.specs.Prelude.{Contains, Err}
use Rattle.std.proofs.lemmas.Bool.{eqb-true, eq-eqb, or_cases, or_left, or_right}
use Rattle.std.proofs.lemmas.List.Elements.{All-from_recursion, recursion_from_All}
use Rattle.par_class.specs.declared.file.CodeAttr.{CodeAttr}
use Rattle.par_class.specs.declared.file.MethodFile.{MethodFile}
use Rattle.par_class.specs.declared.file.ClassFile.{ClassFile}
use Rattle.par_frame_forms.specs.declared.form.FrameForm.{FrameForm}
use Rattle.par_kinds.specs.declared.frame.PlacedFrame.{PlacedFrame}
use Rattle.par_frames.specs.Given.{on_some, start_of, frames_said, frames_given}
use Rattle.par_frames.specs.Broken.{IsPlacedIn, HasFrame}
use Rattle.par_given_frames.specs.Sizes.{framed}
use Rattle.par_given_frames.specs.Met.{told_at}
use Rattle.par_given_frames.specs.Named.{forms_given, GivesFrames}
use Rattle.par_given_frames.specs.declared.error.Unread.{Unread}
use Rattle.par_given_frames.specs.declared.error.Unread.TheVariants.{Refused, Memory}
use Rattle.par_given_frames.specs.Reads.{Fails}
use Rattle.par_given_frames.specs.Answers.{AreRight, Tells}
use Rattle.par_given_frames.proofs.Tables.{given-said}
use Rattle.par_given_frames.proofs.Counted.{stands_at, placed-are, said-are}

-- ---- a frame at an offset

first-frame : (f : PlacedFrame) (fs : List PlacedFrame) (at : ℕ) → (f.offset == at) ≡ true
    → HasFrame (f ∷ fs) (pos at)
first-frame f fs at here = record {
  frame = f;
  there = (0, omega arith, refl);
  at = ap pos (sym (eqb-true f.offset at here));
}

later-frame : (f : PlacedFrame) (fs : List PlacedFrame) (to : ℤ) → HasFrame fs to
    → HasFrame (f ∷ fs) to
later-frame f fs to h = record {
  frame = h.frame;
  there = (suc h.there.0, omega (arith, h.there.1), h.there.2);
  at = h.at;
}

stands-frame : (fs : List PlacedFrame) (at : ℕ) → stands_at fs at ≡ true → HasFrame fs (pos at)
stands-frame [] at is = absurd (cc is)
stands-frame (f ∷ fs) at is =
    elim (or_cases (f.offset == at) (stands_at fs at) is) [
      | inl here ↦ first-frame f fs at here
      | inr later ↦ later-frame f fs (pos at) (stands-frame fs at later)
    ]

frame-stands : (fs : List PlacedFrame) (f : PlacedFrame) → Contains fs f
    → stands_at fs f.offset ≡ true
frame-stands [] f (k, less, is) = absurd (omega (arith, less))
frame-stands (g ∷ fs) f (zero, less, is) =
    or_left (g.offset == f.offset) (stands_at fs f.offset)
    (eq-eqb g.offset f.offset (ap (λ (p : PlacedFrame). p.offset) is))
frame-stands (g ∷ fs) f (suc k, less, is) =
    or_right (g.offset == f.offset) (stands_at fs f.offset)
    (frame-stands fs f (k, omega (arith, less), is))

module _ (fs : List PlacedFrame) (told : ℕ → Bool)
    (alike : (at : ℕ) → told at ≡ stands_at fs at) where
  told-frame : (to : ℤ) → told_at told to ≡ true → HasFrame fs to
  told-frame (pos at) is = stands-frame fs at (sym (alike at) ∙ is)
  told-frame (negsuc n) is = absurd (cc is)

  frame-told : (to : ℤ) → HasFrame fs to → told_at told to ≡ true
  frame-told to h =
      subst (λ to. told_at told to ≡ true) (sym h.at)
      (alike h.frame.offset ∙ frame-stands fs h.frame h.there)

-- ---- all frames

module _ (file : ClassFile) (m : MethodFile) (code : CodeAttr) where
  none-given : forms_given file.pool.entries code.attributes ≡ None
      → GivesFrames file m code → ⊥
  none-given e (fs, g) =
      absurd (cc (sym (given-said file m code.attributes
      ∙ ap (λ o. on_some o (frames_said file.pool.entries 0 (start_of file m))) e) ∙ g.given))

  -- no forms are spelled, or memory ran out
  pub unspelled : (e : Unread) → Fails e (forms_given file.pool.entries code.attributes)
      → Tells (GivesFrames file m code) (Err e)
  unspelled Refused none = none-given none
  unspelled Memory wanting = tt

  module _ (forms : List FrameForm)
      (e : forms_given file.pool.entries code.attributes ≡ Some forms) where
    abbrev many : ℕ
    many = length (start_of file m)

    given-forms : frames_given file m code.attributes
        ≡ frames_said file.pool.entries 0 (start_of file m) forms
    given-forms =
        given-said file m code.attributes
        ∙ ap (λ o. on_some o (frames_said file.pool.entries 0 (start_of file m))) e

    right-give : AreRight code file.pool.entries many forms → GivesFrames file m code
    right-give right =
        let p = placed-are code file.pool.entries 0 (start_of file m) forms right.placed_ in (
          p.frames,
          record {
            given = given-forms ∙ p.said;
            placed = All-from_recursion (IsPlacedIn code) p.frames p.all;
            needed = λ to need.
                told-frame p.frames (framed file.pool.entries 0 many forms) p.at to
                (right.needed to need);
          },
        )

    given-right : GivesFrames file m code → AreRight code file.pool.entries many forms
    given-right (fs, g) =
        let is =
        said-are code file.pool.entries 0 (start_of file m) forms fs (sym given-forms ∙ g.given)
        (recursion_from_All (IsPlacedIn code) fs g.placed) in
        let p = placed-are code file.pool.entries 0 (start_of file m) forms is in
        let same : p.frames ≡ fs = cc (sym p.said ∙ sym given-forms ∙ g.given) in
        record {
          placed_ = is;
          needed = λ to need.
              frame-told p.frames (framed file.pool.entries 0 many forms) p.at to
              (subst (λ (ps : List PlacedFrame). HasFrame ps to) (sym same) (g.needed to need));
        }

    -- what is answered of the forms is the answer
    pub answered : (b : Bool) → (b ≡ true) ↔ AreRight code file.pool.entries many forms
        → (b ≡ true) ↔ GivesFrames file m code
    answered b is = (λ t. right-give (is.0 t), λ g. is.1 (given-right g))
