-- What fits a frame fits each frame below it.
use Rattle.std.proofs.Common.{◌≡◌, ℕ, zero, suc, Bool, true, false, not, ◌&&◌, List, []}
use Rattle.std.proofs.Common.{◌∷◌, length, drop, refl, ap, arith}
use Rattle.std.proofs.lemmas.Bool.{ltb-true, lt-ltb}
use Rattle.par_values.specs.declared.kind.Kind.{Kind}
use Rattle.par_values.specs.Areas.{Name}
use Rattle.par_kinds.specs.declared.frame.VKind.{VKind}
use Rattle.par_kinds.specs.Kinds.{KFrame, into, accepts, kind_at, Both, Front, Into}
use Rattle.par_kinds.specs.Kinds.{FrameInto}
use Rattle.par_kinds.specs.Acts.{Act, Also, ActFits, AlsoFits, Accepts, Leaves, Gives, Loads}
use Rattle.par_kinds.specs.Acts.{Copies, Stores, left_by}
use Rattle.par_kinds.specs.Acts as also
use Rattle.par_kinds.specs.Passes.{all_into, merge_all, merge_frames, frame_into}
use Rattle.par_kinds.specs.Passes.{takes_fit}
use Rattle.par_kinds.specs.Passes.{also_fits, act_fits}
use Rattle.par_kinds.proofs.Lists.{both-append, both-drop, both-set, both-length}
use Rattle.par_kinds.proofs.Merging.{into-same, into-then, into-both, accepts-less}
use Rattle.par_kinds.proofs.Merging.{throwable-less}
use Rattle.par_kinds.proofs.Merging.{exceptional-less, merge-left, merge-least}

pub all_both : (a b : Bool) → (a && b) ≡ true → (a ≡ true) × (b ≡ true)
all_both true b e = (refl, e)
all_both false b e = absurd (cc e)

pub both_all : (a b : Bool) → a ≡ true → b ≡ true → (a && b) ≡ true
both_all true b e f = f
both_all false b e f = absurd (cc e)

module _ (exc : List Name) where
  abbrev Below : List VKind → List VKind → Type 0
  Below ks ls = Both (Into exc) ks ls

  pub all-below : (ks ls : List VKind) → all_into exc ks ls ≡ true → Below ks ls
  all-below [] [] e = tt
  all-below [] (l ∷ ls) e = absurd (cc e)
  all-below (k ∷ ks) [] e = absurd (cc e)
  all-below (k ∷ ks) (l ∷ ls) e =
      let both = all_both (into exc k l) (all_into exc ks ls) e in
      (both.0, all-below ks ls both.1)

  pub below-all : (ks ls : List VKind) → Below ks ls → all_into exc ks ls ≡ true
  below-all [] [] below = refl
  below-all [] (l ∷ ls) below = absurd below
  below-all (k ∷ ks) [] below = absurd below
  below-all (k ∷ ks) (l ∷ ls) below =
      both_all (into exc k l) (all_into exc ks ls) below.0 (below-all ks ls below.1)

  pub below-same : (ks : List VKind) → Below ks ks
  below-same [] = tt
  below-same (k ∷ ks) = (into-same exc k, below-same ks)

  pub below-then : (ks ls us : List VKind) → Below ks ls → Below ls us → Below ks us
  below-then [] [] us one other = other
  below-then [] (l ∷ ls) us one other = absurd one
  below-then (k ∷ ks) [] us one other = absurd one
  below-then (k ∷ ks) (l ∷ ls) [] one other = absurd other
  below-then (k ∷ ks) (l ∷ ls) (u ∷ us) one other =
      (into-then exc k l u one.0 other.0, below-then ks ls us one.1 other.1)

  pub below-both : (ks ls : List VKind) → Below ks ls → Below ls ks → ks ≡ ls
  below-both [] [] one other = refl
  below-both [] (l ∷ ls) one other = absurd one
  below-both (k ∷ ks) [] one other = absurd one
  below-both (k ∷ ks) (l ∷ ls) one other =
      λ i. into-both exc k l one.0 other.0 i ∷ below-both ks ls one.1 other.1 i

  merged-left : (ks ls us : List VKind) → Below ks us → Below ls us → Below ks (merge_all exc ks ls)
  merged-left [] [] [] one other = tt
  merged-left [] [] (u ∷ us) one other = absurd one
  merged-left [] (l ∷ ls) [] one other = absurd other
  merged-left [] (l ∷ ls) (u ∷ us) one other = absurd one
  merged-left (k ∷ ks) ls [] one other = absurd one
  merged-left (k ∷ ks) [] (u ∷ us) one other = absurd other
  merged-left (k ∷ ks) (l ∷ ls) (u ∷ us) one other =
      (merge-left exc k l, merged-left ks ls us one.1 other.1)

  merged-least : (ks ls us : List VKind) → Below ks us → Below ls us
      → Below (merge_all exc ks ls) us
  merged-least [] [] [] one other = tt
  merged-least [] [] (u ∷ us) one other = absurd one
  merged-least [] (l ∷ ls) [] one other = absurd other
  merged-least [] (l ∷ ls) (u ∷ us) one other = absurd one
  merged-least (k ∷ ks) ls [] one other = absurd one
  merged-least (k ∷ ks) [] (u ∷ us) one other = absurd other
  merged-least (k ∷ ks) (l ∷ ls) (u ∷ us) one other =
      (merge-least exc k l u one.0 other.0, merged-least ks ls us one.1 other.1)

  -- ---- frames

  pub frame-below : (k l : KFrame) → frame_into exc k l ≡ true → FrameInto exc k l
  frame-below k l e =
      let both = all_both (all_into exc k.locals l.locals) (all_into exc k.stack l.stack) e in
      record {
        locals = all-below k.locals l.locals both.0;
        stack = all-below k.stack l.stack both.1;
      }

  pub below-frame : (k l : KFrame) → FrameInto exc k l → frame_into exc k l ≡ true
  below-frame k l h =
      both_all (all_into exc k.locals l.locals) (all_into exc k.stack l.stack)
      (below-all k.locals l.locals h.locals) (below-all k.stack l.stack h.stack)

  pub frame-then : (k l u : KFrame) → FrameInto exc k l → FrameInto exc l u → FrameInto exc k u
  frame-then k l u one other = record {
    locals = below-then k.locals l.locals u.locals one.locals other.locals;
    stack = below-then k.stack l.stack u.stack one.stack other.stack;
  }

  pub frame-least : (k l u : KFrame) → FrameInto exc k u → FrameInto exc l u
      → FrameInto exc (merge_frames exc k l) u
  frame-least k l u one other = record {
    locals = merged-least k.locals l.locals u.locals one.locals other.locals;
    stack = merged-least k.stack l.stack u.stack one.stack other.stack;
  }

  -- ---- what is asked

  kind-below : (ks ls : List VKind) (n : ℕ) → Below ks ls
      → into exc (kind_at ks n) (kind_at ls n) ≡ true
  unfolding into
  kind-below [] [] n below = refl
  kind-below [] (l ∷ ls) n below = absurd below
  kind-below (k ∷ ks) [] n below = absurd below
  kind-below (k ∷ ks) (l ∷ ls) zero below = below.0
  kind-below (k ∷ ks) (l ∷ ls) (suc n) below = kind-below ks ls n below.1

  front-below : (kinds : List Kind) (ks ls : List VKind) → Below ks ls → Front Accepts kinds ls
      → Front Accepts kinds ks
  front-below [] ks ls below front = tt
  front-below (kind ∷ kinds) [] [] below front = absurd front
  front-below (kind ∷ kinds) [] (l ∷ ls) below front = absurd below
  front-below (kind ∷ kinds) (k ∷ ks) [] below front = absurd below
  front-below (kind ∷ kinds) (k ∷ ks) (l ∷ ls) below front =
      (accepts-less exc kind k l below.0 front.0, front-below kinds ks ls below.1 front.1)

  also-below : (a : Also) (k l : KFrame) → FrameInto exc k l → AlsoFits exc a l → AlsoFits exc a k
  also-below also.Nothing k l below fits = tt
  also-below also.Throwable k l below fits =
      throwable-less exc (kind_at k.stack 0) (kind_at l.stack 0)
      (kind-below k.stack l.stack 0 below.stack) fits
  also-below also.Exceptional k l below fits =
      exceptional-less exc (kind_at k.stack 0) (kind_at l.stack 0)
      (kind-below k.stack l.stack 0 below.stack) fits
  also-below (also.Result kind) k l below fits =
      accepts-less exc kind (kind_at k.stack 0) (kind_at l.stack 0)
      (kind-below k.stack l.stack 0 below.stack) fits
  also-below (also.Local x kind) k l below fits =
      accepts-less exc kind (kind_at k.locals x) (kind_at l.locals x)
      (kind-below k.locals l.locals x below.locals) fits
  also-below (also.InRange x) k l below fits =
      let same = both-length (Into exc) k.locals l.locals below.locals in omega (arith, same, fits)

  pub act-below : (a : Act) (k l : KFrame) → FrameInto exc k l → ActFits exc a l → ActFits exc a k
  act-below a k l below fits = record {
    right = fits.right;
    takes = front-below a.takes k.stack l.stack below.stack fits.takes;
    also = also-below a.also k l below fits.also;
  }

  -- what is left is below what is left
  pub left-below : (leaves : Leaves) (n : ℕ) (k l : KFrame) → FrameInto exc k l
      → FrameInto exc (left_by leaves n k) (left_by leaves n l)
  unfolding left_by
  left-below (Gives ks) n k l below = record {
    locals = below.locals;
    stack = both-append (Into exc) ks (drop n k.stack) ks (drop n l.stack) (below-same ks)
        (both-drop (Into exc) n k.stack l.stack below.stack);
  }
  left-below (Loads x) n k l below = record {
    locals = below.locals;
    stack = (
      kind-below k.locals l.locals x below.locals,
      both-drop (Into exc) n k.stack l.stack below.stack,
    );
  }
  left-below Copies n k l below = record {
    locals = below.locals;
    stack = (
      kind-below k.stack l.stack 0 below.stack,
      (
        kind-below k.stack l.stack 0 below.stack,
        both-drop (Into exc) n k.stack l.stack below.stack,
      ),
    );
  }
  left-below (Stores x) n k l below = record {
    locals = both-set (Into exc) k.locals l.locals x (kind_at k.stack 0) (kind_at l.stack 0)
        below.locals
        (kind-below k.stack l.stack 0 below.stack);
    stack = both-drop (Into exc) n k.stack l.stack below.stack;
  }

  -- ---- decided

  takes-decided : (kinds : List Kind) (ks : List VKind) → takes_fit kinds ks ≡ true
      → Front Accepts kinds ks
  takes-decided [] ks e = tt
  takes-decided (kind ∷ kinds) [] e = absurd (cc e)
  takes-decided (kind ∷ kinds) (k ∷ ks) e =
      let both = all_both (accepts kind k) (takes_fit kinds ks) e in
      (both.0, takes-decided kinds ks both.1)

  decided-takes : (kinds : List Kind) (ks : List VKind) → Front Accepts kinds ks
      → takes_fit kinds ks ≡ true
  decided-takes [] ks front = refl
  decided-takes (kind ∷ kinds) [] front = absurd front
  decided-takes (kind ∷ kinds) (k ∷ ks) front =
      both_all (accepts kind k) (takes_fit kinds ks) front.0 (decided-takes kinds ks front.1)

  also-decided : (a : Also) (k : KFrame) → also_fits exc a k ≡ true → AlsoFits exc a k
  also-decided also.Nothing k e = tt
  also-decided also.Throwable k e = e
  also-decided also.Exceptional k e = e
  also-decided (also.Result kind) k e = e
  also-decided (also.Local x kind) k e = e
  also-decided (also.InRange x) k e = ltb-true x (length k.locals) e

  decided-also : (a : Also) (k : KFrame) → AlsoFits exc a k → also_fits exc a k ≡ true
  decided-also also.Nothing k fits = refl
  decided-also also.Throwable k fits = fits
  decided-also also.Exceptional k fits = fits
  decided-also (also.Result kind) k fits = fits
  decided-also (also.Local x kind) k fits = fits
  decided-also (also.InRange x) k fits = lt-ltb x (length k.locals) fits

  not-false : (b : Bool) → not b ≡ true → b ≡ false
  not-false false e = refl
  not-false true e = absurd (cc e)

  pub act-decided : (a : Act) (k : KFrame) → act_fits exc a k ≡ true → ActFits exc a k
  act-decided a k e =
      let all = all_both (not a.wrong && takes_fit a.takes k.stack) (also_fits exc a.also k) e in
      let two = all_both (not a.wrong) (takes_fit a.takes k.stack) all.0 in
      record {
        right = not-false a.wrong two.0;
        takes = takes-decided a.takes k.stack two.1;
        also = also-decided a.also k all.1;
      }

  pub decided-act : (a : Act) (k : KFrame) → ActFits exc a k → act_fits exc a k ≡ true
  decided-act a k fits =
      both_all (not a.wrong && takes_fit a.takes k.stack) (also_fits exc a.also k)
      (both_all (not a.wrong) (takes_fit a.takes k.stack) (ap not fits.right)
      (decided-takes a.takes k.stack fits.takes))
      (decided-also a.also k fits.also)
