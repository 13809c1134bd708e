-- Forms say frames, one after another, and a table has those that were said.
use Rattle.std.proofs.Common.{◌≡◌, ℕ, ◌+◌, ◌≤◌, ◌==◌, Bool, true, false, cond, List, [], ◌∷◌}
use Rattle.std.proofs.Common.{length, replicate, set, Option, Some, None, IfSome, refl, sym, ap}
use Rattle.std.proofs.Common.{subst, ◌∙◌, arith}
use Rattle.std.specs.Option.{option_map, option_or}
use Rattle.std.proofs.lemmas.Bool.{eqb-true}
use Rattle.par_frame_forms.specs.par_pool.declared.constant.Constant.{Constant}
use Rattle.par_frame_forms.specs.declared.form.FrameForm.{FrameForm}
use Rattle.par_frame_forms.specs.Spelled.{says}
use Rattle.par_kinds.specs.declared.frame.VKind.{VKind}
use Rattle.par_kinds.specs.declared.frame.PlacedFrame.{PlacedFrame}
use Rattle.par_kinds.specs.Kinds.{KFrame}
use Rattle.par_kinds.specs.Told.{as_met, told}
use Rattle.par_given_frames.specs.par_frames.Given.{on_some, locals_said, stack_said, frames_said}
use Rattle.par_frame_steps.specs.declared.frame.PlaceFrame.{PlaceFrame}
use Rattle.par_frame_passes.specs.Tables.{table_of}
use Rattle.par_verify_laws.specs.par_kinds.Passes.{Table, start_table}
use Rattle.par_verify_laws.specs.Verified.{whole}
use Rattle.par_verify.specs.Starts.{told_of}
use Rattle.par_verify.proofs.Saying.{framed}
use Rattle.par_verify.proofs.Starting.{start-same, none-told, told-put}

-- what holds of all that are said
pub if-said : {A : Type 0} (o : Option A) (P : A → Type 0) → ((x : A) → o ≡ Some x → P x)
    → IfSome o P
if-said None P holds = tt
if-said (Some x) P holds = holds x refl

module _ (pool : List Constant) (many : ℕ) (bytes : List ℕ) (all : List PlacedFrame) where
  -- What was said is in the table, and what is left says the others.
  pub record Tells (from : ℕ) (listed : List VKind) (rest : List FrameForm) (t : Table)
      : Type 0 where
    -- the last one first
    pub back : List PlacedFrame
    pub left : List PlacedFrame
    pub said : frames_said pool from listed rest ≡ Some left
    pub table : t ≡ start_table (told_of many back) 0 bytes
    pub behind : (at : ℕ) → from ≤ at → told back at ≡ None
    pub together : (at : ℕ) → option_or (told back at) (told left at) ≡ told all at

  -- at first nothing was said
  pub begun : (start : List VKind) (forms : List FrameForm) (t : List (Option PlaceFrame))
      → t ≡ replicate (length bytes) None → frames_said pool 0 start forms ≡ Some all
      → Tells 0 start forms (table_of t)
  begun start forms t is said = record {
    back = [];
    left = all;
    said = said;
    table = ap table_of is ∙ none-told many bytes 0;
    behind = λ at past. refl;
    together = λ at. refl;
  }

  or-none : (o : Option KFrame) → o ≡ option_or o None
  or-none None = refl
  or-none (Some k) = refl

  -- at last all was
  pub ended : (from : ℕ) (listed : List VKind) (t : Table) → Tells from listed [] t
      → t ≡ start_table (told_of many all) 0 bytes
  ended from listed t tells =
      let none : [] ≡ tells.left = cc tells.said in
      tells.table
      ∙ start-same (told_of many tells.back) (told_of many all) bytes 0
      (λ at past. ap (option_map (whole many))
      (or-none (told tells.back at)
      ∙ ap (λ fs. option_or (told tells.back at) (told fs at)) none ∙ tells.together at))

  module _ (from : ℕ) (listed : List VKind) (rest : List FrameForm) (t : Table) (p : PlacedFrame)
      (past : from ≤ p.offset) (back more : List PlacedFrame)
      (behind : (at : ℕ) → from ≤ at → told back at ≡ None)
      (together : (at : ℕ) → option_or (told back at) (told (p ∷ more) at) ≡ told all at) where
    -- nothing stands behind it
    behind-it : (at : ℕ) → p.offset + 1 ≤ at → told (p ∷ back) at ≡ None
    behind-it at later = by (p.offset == at) refl where
      by : (b : Bool) → p.offset == at ≡ b → cond b (Some (as_met p.frame)) (told back at) ≡ None
      by true same = let is = eqb-true p.offset at same in absurd (omega (arith, later, is))
      by false other = behind at (omega (arith, later, past))

    -- it is the first of its offset
    with-it : (at : ℕ) → option_or (told (p ∷ back) at) (told more at) ≡ told all at
    with-it at = by (p.offset == at) refl (together at) where
      by : (b : Bool) → p.offset == at ≡ b
          → option_or (told back at) (cond b (Some (as_met p.frame)) (told more at)) ≡ told all at
          → option_or (cond b (Some (as_met p.frame)) (told back at)) (told more at) ≡ told all at
      by true same is =
          let here = eqb-true p.offset at same in
          ap (λ o. option_or o (Some (as_met p.frame)))
          (sym (behind at (omega (arith, past, here)))) ∙ is
      by false other is = is

  -- one form more is said
  pub one_more : (form : FrameForm) (rest : List FrameForm) (from at : ℕ)
      (listed locals : List VKind) (t u : Table) (frame : KFrame)
      → at ≡ from + (says [] form).delta
      → IfSome (locals_said pool listed form) (λ said. locals ≡ said)
      → IfSome (stack_said pool form) (λ said. frame ≡ framed many locals said)
      → u ≡ set t at (Some frame) → Tells from listed (form ∷ rest) t
      → Tells (at + 1) locals rest u
  one_more form rest from at listed locals t u frame there ls ss put tells =
      by (locals_said pool listed form) (stack_said pool form) ls ss tells.said
    where
      placed : List VKind → List VKind → PlacedFrame
      placed locals stack = record {
        offset = from + (says [] form).delta;
        frame = record { locals = locals; stack = stack };
      }

      next : List VKind → Option (List PlacedFrame)
      next locals = frames_said pool (from + (says [] form).delta + 1) locals rest

      then_ : (said stack : List VKind) (o : Option (List PlacedFrame)) → next said ≡ o
          → locals ≡ said
          → frame ≡ framed many locals stack
          → option_map (λ ps. placed said stack ∷ ps) o ≡ Some tells.left
          → Tells (at + 1) locals rest u
      then_ said stack None e same is left = absurd (cc left)
      then_ said stack (Some more) e same is left =
          let p : PlacedFrame = placed said stack in
          let past : from ≤ p.offset = omega arith in
          let first : p ∷ more ≡ tells.left = cc left in
          record {
            back = p ∷ tells.back;
            left = more;
            said = ap (λ n. frames_said pool (n + 1) locals rest) there ∙ ap next same ∙ e;
            table =
                put ∙ ap (λ n. set t n (Some frame)) there
                ∙ ap (λ v. set v p.offset (Some frame)) tells.table
                ∙ ap (λ k. set (start_table (told_of many tells.back) 0 bytes) p.offset (Some k))
                (is ∙ ap (λ ks. framed many ks stack) same)
                ∙ sym (told-put many p tells.back bytes);
            behind = λ n later.
                behind-it from listed rest t p past tells.back more tells.behind
                (λ m. ap (λ fs. option_or (told tells.back m) (told fs m)) first
                ∙ tells.together m) n (subst (λ m. m + 1 ≤ n) there later);
            together =
                with-it from listed rest t p past tells.back more tells.behind
                (λ m. ap (λ fs. option_or (told tells.back m) (told fs m)) first
                ∙ tells.together m);
          }

      by : (o s : Option (List VKind)) → IfSome o (λ said. locals ≡ said)
          → IfSome s (λ said. frame ≡ framed many locals said)
          → on_some (on_some o (λ ks. option_map (placed ks) s))
          (λ p. option_map (λ ps. p ∷ ps) (frames_said pool (p.offset + 1) p.frame.locals rest))
          ≡ Some tells.left
          → Tells (at + 1) locals rest u
      by None s same is left = absurd (cc left)
      by (Some said) None same is left = absurd (cc left)
      by (Some said) (Some stack) same is left =
          then_ said stack (next said) refl same is left
