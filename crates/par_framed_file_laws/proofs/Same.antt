-- Frames that tell the same as others stand where these do.
use Rattle.std.proofs.Common.{◌≡◌, ◌≤◌, List, [], ◌∷◌, length, sym, ap, ◌∙◌, inl, inr, arith}
use Rattle.std.specs.Prelude.{◌⊎◌, ℤ, pos, Contains}
use Rattle.std.specs.List.{AllByRecursion, AllZip}
use Rattle.par_policy.proofs.Ordered.{Contains-nil, Contains-cons_cases, Contains-first}
use Rattle.par_policy.proofs.Ordered.{Contains-later}
use Rattle.par_class.specs.declared.file.CodeAttr.{CodeAttr}
use Rattle.par_single.specs.Walk.{starts_at}
use Rattle.par_given_frames.specs.par_kinds.declared.frame.PlacedFrame.{PlacedFrame}
use Rattle.par_given_frames.specs.par_frames.Broken.{IsPlacedIn, HasFrame}
use Rattle.par_given_frames.specs.Laws.{TellsSame, AreWithin}

-- what holds of each item
pub each-of : {A : Type 0} (P : A → Type 0) (xs : List A) → ((x : A) → Contains xs x → P x)
    → AllByRecursion P xs
each-of P [] h = tt
each-of P (x ∷ xs) h =
    (h x (Contains-first x xs), each-of P xs (λ y among. h y (Contains-later x xs y among)))

module _ (code : CodeAttr) where
  pub placed_within : (fs : List PlacedFrame) → AllByRecursion (IsPlacedIn code) fs
      → AreWithin code.max_locals fs
  placed_within [] h = tt
  placed_within (f ∷ fs) h = (h.0.locals, placed_within fs h.1)

  one_placed : (f g : PlacedFrame) → TellsSame f g → length g.frame.locals ≤ code.max_locals
      → IsPlacedIn code f → IsPlacedIn code g
  one_placed f g s few p = record {
    starts = ap (starts_at code.code) s.offset ∙ p.starts;
    locals = few;
    stack =
        let same : length g.frame.stack ≡ length f.frame.stack = ap length s.stack in
        omega (arith, same, p.stack);
  }

  pub same_placed : (fs gs : List PlacedFrame) → AllZip TellsSame fs gs
      → AreWithin code.max_locals gs → AllByRecursion (IsPlacedIn code) fs
      → AllByRecursion (IsPlacedIn code) gs
  same_placed [] [] s few h = tt
  same_placed [] (g ∷ gs) s few h = absurd s
  same_placed (f ∷ fs) [] s few h = absurd s
  same_placed (f ∷ fs) (g ∷ gs) s few h =
      (one_placed f g s.0 few.0 h.0, same_placed fs gs s.1 few.1 h.1)

pub has_same : (fs gs : List PlacedFrame) → AllZip TellsSame fs gs → (to : ℤ) → HasFrame fs to
    → HasFrame gs to
has_same [] gs s to h = absurd (Contains-nil h.frame h.there)
has_same (f ∷ fs) [] s to h = absurd s
has_same (f ∷ fs) (g ∷ gs) s to h =
    in_case (Contains-cons_cases f fs h.frame h.there) (λ more. has_same fs gs s.1 to more)
  where
    in_case : (h.frame ≡ f) ⊎ Contains fs h.frame → (HasFrame fs to → HasFrame gs to)
        → HasFrame (g ∷ gs) to
    in_case (inl is) later = record {
      frame = g;
      there = Contains-first g gs;
      at = h.at ∙ ap (λ (x : PlacedFrame). pos x.offset) is ∙ ap pos (sym s.0.offset);
    }
    in_case (inr more) later =
        let r = later (record { frame = h.frame; there = more; at = h.at }) in
        record { frame = r.frame; there = Contains-later g gs r.frame r.there; at = r.at }
