-- Each written frame is one of the code's.
use Rattle.std.proofs.Common.{◌≡◌, ℕ, ◌≤◌, Bool, true, false, List, [], ◌∷◌, ◌++◌}
use Rattle.std.proofs.Common.{Option, Some, None, refl, ap, subst, ◌∙◌, arith, inl}
use Rattle.std.proofs.Common.{inr}
use Rattle.std.specs.Prelude.{◌==◌, ◌⊎◌, if◌then◌else◌, slice_index, All, Contains}
use Rattle.std.specs.List.{flat_map, AllByRecursion}
use Rattle.std.proofs.lemmas.List.{length-map}
use Rattle.std.proofs.lemmas.Option.{get_or_from_slice_get, slice_get_within}
use Rattle.std.proofs.lemmas.List.Elements.{All-contains, All-contains_itself, All-weaker}
use Rattle.std.proofs.lemmas.List.Elements.{All-from_recursion, Contains-append_left}
use Rattle.std.proofs.lemmas.List.Elements.{Contains-append_right, Contains-append_cases}
use Rattle.par_policy.proofs.Ordered.{Contains-cons_cases, Contains-nil}
use Rattle.par_values.specs.Areas.{Name}
use Rattle.par_code_form.specs.declared.item.Item.{Item}
use Rattle.par_code_form.specs.declared.item.Item.TheVariants.{Label, Op, Const, Jump, Member}
use Rattle.par_code_form.specs.declared.item.Item.TheVariants.{ClassOp, LockOp}
use Rattle.par_code_form.specs.declared.labelled.LabelFrame.{LabelFrame}
use Rattle.par_code_form.specs.declared.labelled.Labelled.{Labelled}
use Rattle.par_kinds.specs.declared.frame.PlacedFrame.{PlacedFrame}
use Rattle.par_frames.specs.Names as named
use Rattle.par_frames.specs.Names.{classes_named}
use Rattle.par_frames.specs.Room.{IsShort}
use Rattle.par_place.specs.par_code_form.Placed.{offset_of}
use Rattle.par_place.specs.par_code_form.Placeable.{StandsOnce}
use Rattle.par_place.specs.par_code_form.PlaceableFrames.{FitsFrame, AreFramesPlaceable}
use Rattle.par_place.specs.Offsets.{HasOffsets}
use Rattle.par_compile_laws.specs.Framed.{kind_of, placed, placed_at, frame_at}
use Rattle.par_compile_laws.specs.Framed.{frame_of, before}
use Rattle.par_compile_laws.specs.Framed.{last_ones, frames_with, frames_of}
use Rattle.par_compile_laws.specs.Framed.{classes_in}
use Rattle.par_compile_laws.specs.Framed.{frame_classes}
use Rattle.par_framing.specs.Joined.{HasLabel}
use Rattle.par_framing.proofs.Firsts.{label_is, frame_has}
use Rattle.par_framing.specs.Added.{HasLabelOffsets}

-- ---- the frames are the same where the offsets of their labels are

module _ (f g : ℕ → ℕ) (frames : List LabelFrame)
    (same : (l : ℕ) (h : LabelFrame) → frame_at frames l ≡ Some h → f l ≡ g l) where
  at-same : (l : ℕ) (o : Option LabelFrame) → frame_at frames l ≡ o
      → placed_at (f l) o ≡ placed_at (g l) o
  at-same l None e = refl
  at-same l (Some h) e = ap (λ (at : ℕ). placed at h ∷ []) (same l h e)

  item-same : (x : Item) → frame_of f frames x ≡ frame_of g frames x
  item-same (Label l) = at-same l (frame_at frames l) refl
  item-same (Op i) = refl
  item-same (Const v) = refl
  item-same (Jump opcode l) = refl
  item-same (Member opcode class name kind) = refl
  item-same (ClassOp opcode class) = refl
  item-same (LockOp opcode lock) = refl

  pub items_same : (xs : List Item) → flat_map (frame_of f frames) xs
      ≡ flat_map (frame_of g frames) xs
  items_same [] = refl
  items_same (x ∷ xs) =
      ap (λ fs. fs ++ flat_map (frame_of f frames) xs) (item-same x)
      ∙ ap (λ fs. frame_of g frames x ++ fs) (items_same xs)

-- the label of a frame stands once
pub frame_once : (code : Labelled) → AreFramesPlaceable code → (l : ℕ) (h : LabelFrame)
    → frame_at code.frames l ≡ Some h → StandsOnce code.items l
frame_once code can l h e =
    subst (StandsOnce code.items) (label_is code.frames l h e)
    (frame_has (λ k. StandsOnce code.items k.label) code.frames l h e
    (All-weaker (FitsFrame code) (λ k. StandsOnce code.items k.label) (λ k fits. fits.once)
    code.frames can.fit))

-- each frame has a label with an offset
pub have_labels : (code : Labelled) (offsets : List ℕ) → AreFramesPlaceable code
    → HasLabelOffsets code offsets → All (HasLabel offsets) code.frames
have_labels code offsets can have =
    All-weaker (FitsFrame code) (HasLabel offsets)
    (λ f fits. slice_get_within offsets f.label (offset_of code.items have.indices f.label)
    (have.labels f.label fits.once))
    code.frames can.fit

-- the offsets in the list are those of the definition
pub frames_same : (code : Labelled) (indices offsets : List ℕ) → AreFramesPlaceable code
    → HasOffsets code.items indices offsets
    → frames_with (slice_index offsets) code ≡ frames_of code indices
frames_same code indices offsets can have =
    ap last_ones (items_same (slice_index offsets) (offset_of code.items indices) code.frames
    (λ l h e. get_or_from_slice_get offsets l (offset_of code.items indices l) 0
    (have l (frame_once code can l h e)))
    code.items)

-- ---- what holds of each frame of the code holds of each that is written

all-joined : {A : Type 0} (P : A → Type 0) (xs ys : List A) → AllByRecursion P xs
    → AllByRecursion P ys → AllByRecursion P (xs ++ ys)
all-joined P [] ys h k = k
all-joined P (x ∷ xs) ys h k = (h.0, all-joined P xs ys h.1 k)

module _ (P : PlacedFrame → Type 0) where
  all-before : (f : PlacedFrame) (fs : List PlacedFrame) → P f → AllByRecursion P fs
      → AllByRecursion P (before f fs)
  all-before f [] p h = (p, tt)
  all-before f (g ∷ gs) p h = choose (f.offset == g.offset)
    where
      choose : (b : Bool) → AllByRecursion P (if b then g ∷ gs else f ∷ g ∷ gs)
      choose true = h
      choose false = (p, h)

  all-last : (fs : List PlacedFrame) → AllByRecursion P fs → AllByRecursion P (last_ones fs)
  all-last [] h = tt
  all-last (f ∷ fs) h = all-before f (last_ones fs) h.0 (all-last fs h.1)

  module _ (f : ℕ → ℕ) (frames : List LabelFrame)
      (each : (g : LabelFrame) → Contains frames g → P (placed (f g.label) g)) where
    all-at : (l : ℕ) (o : Option LabelFrame) → frame_at frames l ≡ o
        → AllByRecursion P (placed_at (f l) o)
    all-at l None e = tt
    all-at l (Some g) e = (
      subst (λ (k : ℕ). P (placed (f k) g)) (label_is frames l g e)
          (each g (frame_has (Contains frames) frames l g e (All-contains_itself frames))),
      tt,
    )

    all-item : (x : Item) → AllByRecursion P (frame_of f frames x)
    all-item (Label l) = all-at l (frame_at frames l) refl
    all-item (Op i) = tt
    all-item (Const v) = tt
    all-item (Jump opcode l) = tt
    all-item (Member opcode class name kind) = tt
    all-item (ClassOp opcode class) = tt
    all-item (LockOp opcode lock) = tt

    all-items : (xs : List Item) → AllByRecursion P (flat_map (frame_of f frames) xs)
    all-items [] = tt
    all-items (x ∷ xs) =
        all-joined P (frame_of f frames x) (flat_map (frame_of f frames) xs) (all-item x)
        (all-items xs)

  pub each_written : (f : ℕ → ℕ) (code : Labelled)
      → ((g : LabelFrame) → Contains code.frames g → P (placed (f g.label) g))
      → AllByRecursion P (frames_with f code)
  each_written f code each =
      all-last (flat_map (frame_of f code.frames) code.items)
      (all-items f code.frames each code.items)

-- no written frame is too long
pub all_short : (f : ℕ → ℕ) (code : Labelled) → code.max_locals ≤ 65535
    → code.max_stack ≤ 65535 → AreFramesPlaceable code → All IsShort (frames_with f code)
all_short f code locals stack can =
    All-from_recursion IsShort (frames_with f code)
    (each_written IsShort f code (λ g c. short g
    (All-contains (FitsFrame code) code.frames g can.fit c)))
  where
    short : (g : LabelFrame) → FitsFrame code g → IsShort (placed (f g.label) g)
    short g fits = record {
      locals = omega (arith, length-map g.locals kind_of, fits.few_locals, locals);
      stack = omega (arith, length-map g.stack kind_of, fits.few_operands, stack);
    }

-- ---- the classes of written frames

classes-of : (frames : List LabelFrame) (g : LabelFrame) (name : Name) → Contains frames g
    → Contains (classes_in g) name → Contains (flat_map classes_in frames) name
classes-of [] g name c h = absurd (Contains-nil g c)
classes-of (f ∷ fs) g name c h =
    at (λ later. classes-of fs g name later h) (Contains-cons_cases f fs g c)
  where
    at : (Contains fs g → Contains (flat_map classes_in fs) name) → (g ≡ f) ⊎ Contains fs g
        → Contains (classes_in f ++ flat_map classes_in fs) name
    at more (inl e) =
        Contains-append_left (classes_in f) (flat_map classes_in fs) name
        (subst (λ (k : LabelFrame). Contains (classes_in k) name) e h)
    at more (inr later) =
        Contains-append_right (classes_in f) (flat_map classes_in fs) name (more later)

abbrev HasClasses : List Name → PlacedFrame → Type 0
HasClasses names p = (name : Name) → Contains (named.classes_in p) name → Contains names name

classes-all : (names : List Name) (fs : List PlacedFrame) → AllByRecursion (HasClasses names) fs
    → (name : Name) → Contains (classes_named fs) name → Contains names name
classes-all names [] h name c = absurd (Contains-nil name c)
classes-all names (f ∷ fs) h name c =
    at (classes-all names fs h.1 name)
    (Contains-append_cases (named.classes_in f) (classes_named fs) name c)
  where
    at : (Contains (classes_named fs) name → Contains names name)
        → Contains (named.classes_in f) name ⊎ Contains (classes_named fs) name
        → Contains names name
    at more (inl here) = h.0 name here
    at more (inr later) = more later

-- they are classes of the code's frames
pub classes_written : (f : ℕ → ℕ) (code : Labelled) (name : Name)
    → Contains (classes_named (frames_with f code)) name → Contains (frame_classes code) name
classes_written f code =
    classes-all (frame_classes code) (frames_with f code)
    (each_written (HasClasses (frame_classes code)) f code
    (λ g c name h. classes-of code.frames g name c h))
