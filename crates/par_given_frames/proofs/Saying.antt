-- Loops that put kinds and frames behind others.
use Rattle.std.proofs.Common.{◌≡◌, ℕ, ◌+◌, ◌-◌, ◌*◌, ◌≤◌, List, [], ◌∷◌, ◌++◌, length, Option}
use Rattle.std.proofs.Common.{Some, None, refl, sym, ap, ◌∙◌, append_assoc, length-append, arith}
use Rattle.std.proofs.lemmas.List.{append-nil}
use Rattle.std.specs.Prelude.{slice_get}
use Rattle.std.specs.Option.{option_map}
use Rattle.par_pool.specs.declared.constant.Constant.{Constant}
use Rattle.par_frame_forms.specs.declared.form.PlaceType.{PlaceType}
use Rattle.par_frame_forms.specs.declared.form.FrameForm.{FrameForm}
use Rattle.par_kinds.specs.declared.frame.VKind.{VKind}
use Rattle.par_kinds.specs.declared.frame.PlacedFrame.{PlacedFrame}
use Rattle.par_frames.specs.Names.{kind_of}
use Rattle.par_frames.specs.Given.{on_some, kinds_of, frame_said, frames_said}
use Rattle.par_given_frames.specs.Before.{from_behind, locals_of, next_from, listed_by}

-- items put behind others, one by one
pub one-behind : {X : Type 0} (front : List X) (x : X) (o : Option (List X))
    → option_map (λ more. (front ++ x ∷ []) ++ more) o
    ≡ option_map (λ more. front ++ more) (option_map (λ xs. x ∷ xs) o)
one-behind front x None = refl
one-behind {X} front x (Some xs) =
    ap (λ (ys : List X). Some ys) (append_assoc front (x ∷ []) xs)

pub none-behind : {X : Type 0} (front : List X) → option_map (λ more. front ++ more) (Some [])
    ≡ Some front
none-behind {X} front = ap (λ (ys : List X). Some ys) (append-nil front)

pub nothing-before : {X : Type 0} (o : Option (List X)) → option_map (λ more. [] ++ more) o ≡ o
nothing-before None = refl
nothing-before (Some xs) = refl

-- ---- kinds

module _ (pool : List Constant) (kinds : List VKind) (t : PlaceType) (ts : List PlaceType)
    (total : Option (List VKind)) where
  pub kind-behind : (k : VKind) → kind_of pool t ≡ Some k
      → option_map (λ more. kinds ++ more) (kinds_of pool (t ∷ ts)) ≡ total
      → option_map (λ more. (kinds ++ k ∷ []) ++ more) (kinds_of pool ts) ≡ total
  kind-behind k e so_far =
      one-behind kinds k (kinds_of pool ts)
      ∙ sym (ap (λ o. option_map (λ more. kinds ++ more)
      (on_some o (λ k. option_map (λ ks. k ∷ ks) (kinds_of pool ts)))) e)
      ∙ so_far

  pub no-kind : kind_of pool t ≡ None
      → option_map (λ more. kinds ++ more) (kinds_of pool (t ∷ ts)) ≡ total → total ≡ None
  no-kind e so_far =
      sym so_far
      ∙ ap (λ o. option_map (λ more. kinds ++ more)
      (on_some o (λ k. option_map (λ ks. k ∷ ks) (kinds_of pool ts)))) e

-- ---- frames

last-pushed : {X : Type 0} (xs : List X) (x : X)
    → slice_get (xs ++ x ∷ []) (length (xs ++ x ∷ []) - 1) ≡ Some x
last-pushed {X} xs x =
    let size : length (xs ++ x ∷ []) - 1 ≡ length xs = omega (arith, length-append xs (x ∷ [])) in
    ap (slice_get (xs ++ x ∷ [])) size ∙ at-end xs
  where
    at-end : (ys : List X) → slice_get (ys ++ x ∷ []) (length ys) ≡ Some x
    at-end [] = refl
    at-end (y ∷ ys) = at-end ys

-- what the loop keeps, behind some frames
pub record Saying (pool : List Constant) (start : List VKind) (forms : List FrameForm)
    (frames : List PlacedFrame) (rest : List FrameForm) : Type 0 where
  pub near : next_from frames + 65536 * length rest ≤ 65536 * length forms
  pub said : option_map (λ more. frames ++ more)
      (frames_said pool (next_from frames) (listed_by start frames) rest)
      ≡ frames_said pool 0 start forms

module _ (pool : List Constant) (start : List VKind) (forms : List FrameForm) where
  pub begins : Saying pool start forms [] forms
  begins = record {
    near = omega arith;
    said = nothing-before (frames_said pool 0 start forms);
  }

  module _ (frames : List PlacedFrame) (f : FrameForm) (fs : List FrameForm)
      (s : Saying pool start forms frames (f ∷ fs)) where
    unfoldable at-first : Option PlacedFrame → Option (List PlacedFrame)
    at-first o =
        option_map (λ more. frames ++ more)
        (on_some o (λ p. option_map (λ ps. p ∷ ps)
        (frames_said pool (p.offset + 1) p.frame.locals fs)))

    pub no-frame : frame_said pool (next_from frames) (listed_by start frames) f ≡ None
        → frames_said pool 0 start forms ≡ None
    unfolding at-first
    no-frame e = sym s.said ∙ ap at-first e

    pub goes_on : (p : PlacedFrame)
        → frame_said pool (next_from frames) (listed_by start frames) f ≡ Some p
        → p.offset ≤ next_from frames + 65535 → Saying pool start forms (frames ++ p ∷ []) fs
    unfolding at-first
    goes_on p e low =
        let last = last-pushed frames p in
        let next : next_from (frames ++ p ∷ []) ≡ p.offset + 1 = ap from_behind last in
        record {
          near = omega (arith, next, low, s.near);
          said =
              ap (λ (n : ℕ). option_map (λ more. (frames ++ p ∷ []) ++ more)
              (frames_said pool n (listed_by start (frames ++ p ∷ [])) fs)) next
              ∙ ap (λ o. option_map (λ more. (frames ++ p ∷ []) ++ more)
              (frames_said pool (p.offset + 1) (locals_of start o) fs)) last
              ∙ one-behind frames p (frames_said pool (p.offset + 1) p.frame.locals fs)
              ∙ sym (ap at-first e) ∙ s.said;
        }

  pub is_done : (frames : List PlacedFrame) → Saying pool start forms frames []
      → frames_said pool 0 start forms ≡ Some frames
  is_done frames s = sym s.said ∙ none-behind frames
