-- Placed code with its frames stays what it is while the pool grows, and names what code names.
use Rattle.std.proofs.Common.{◌≡◌, ℕ, ◌+◌, ◌≤◌, Bool, true, false, List, [], ◌∷◌, ◌++◌, length}
use Rattle.std.proofs.Common.{inl, inr, Some, refl, sym, ap, subst, ◌∙◌, arith}
use Rattle.std.specs.Prelude.{◌⊎◌, ◌||◌, if◌then◌else◌, Contains, codes}
use Rattle.std.specs.Str.{bytes_eq}
use Rattle.std.specs.List.{flat_map}
use Rattle.std.proofs.lemmas.Slice.Eq.{bytes_eq-Decides}
use Rattle.std.proofs.lemmas.List.Elements.{Contains-append_left, Contains-append_right}
use Rattle.std.proofs.lemmas.List.Elements.{Contains-append_cases, All-weaker}
use Rattle.par_policy.proofs.Ordered.{Contains-cons_cases, Contains-nil}
use Rattle.par_pool.specs.declared.constant.Constant.{Constant}
use Rattle.par_pool.specs.declared.constant.Constant.TheVariants.{Utf8}
use Rattle.par_pool.specs.Growth.{IsClassPart}
use Rattle.par_pool.proofs.Growth.{at-append}
use Rattle.par_class.specs.declared.file.Attribute.{Attribute}
use Rattle.par_class.specs.declared.file.CodeAttr.{CodeAttr}
use Rattle.par_values.specs.Areas.{Name}
use Rattle.par_code_form.specs.declared.labelled.Labelled.{Labelled}
use Rattle.par_code_form.specs.declared.labelled.LabelFrame.{LabelFrame}
use Rattle.par_code_form.specs.declared.labelled.Slot.{Slot}
use Rattle.par_code_form.specs.declared.labelled.Slot.TheVariants as slot
use Rattle.par_frame_forms.specs.declared.form.PlaceType.{PlaceType}
use Rattle.par_frame_forms.specs.declared.form.FrameForm.{FrameForm}
use Rattle.par_frame_forms.specs.Spelled.{says}
use Rattle.par_framing.specs.par_kinds.declared.frame.VKind.{VKind}
use Rattle.par_framing.specs.par_kinds.declared.frame.PlacedFrame.{PlacedFrame}
use Rattle.par_framing.specs.par_frames.Names.{whole_name, classes_of, StandsFor}
use Rattle.par_framing.specs.par_frames.Attribute.{IsAttribute, IsListed, AreSaid, first_locals}
use Rattle.par_framing.proofs.par_frames.Classes.{kind_kept}
use Rattle.par_framing.proofs.par_frames.Steps.{zip_kept}
use Rattle.par_code_form.specs.PoolNames.{full_name}
use Rattle.par_framing.specs.par_compile_laws.Framed as placed
use Rattle.par_framing.specs.par_compile_laws.Framed.{TABLE, kinds_of, frames_of, IsTable}
use Rattle.par_framing.specs.par_compile_laws.Framed.{AreAttributes}
use Rattle.par_framing.specs.par_compile_laws.Framed.{IsPlacedWith, IsFramePart, IsConstantWith}
use Rattle.par_compile_laws.specs.Constants.{slot_class, frame_classes, named, framed}
use Rattle.par_compile_laws.specs.Files.{IsCodeWith}
use Rattle.par_class.specs.Spelling.{FitsCode}
use Rattle.par_framing.specs.Added.{AddsConstants, AreSized}
use Rattle.par_compile.specs.Drafts.{CodeFits, IsShort}
use Rattle.par_compile.specs.Growing.{Extends, Stays, Grows, IsOneCode}
use Rattle.par_compile.proofs.Growing.{class_part}
use Rattle.par_compile.proofs.Placing.{constant_stays, placed_stays, fits_stays, code_short}
use Rattle.par_compile.proofs.Placing.{short_sized}

-- ---- the attribute

module _ (pool more : List Constant) where
  listed-kept : (first : List VKind) (k : VKind) (t : PlaceType) → IsListed pool first k t
      → IsListed (pool ++ more) first k t
  listed-kept first k t (inl h) = inl (kind_kept pool more k t h)
  listed-kept first k t (inr h) = inr h

  said-kept : (from : ℕ) (listed : List PlaceType) (fs : List PlacedFrame)
      (forms : List FrameForm) → AreSaid pool from listed fs forms
      → AreSaid (pool ++ more) from listed fs forms
  said-kept from listed [] forms h = h
  said-kept from listed (f ∷ fs) [] h = h
  said-kept from listed (f ∷ fs) (form ∷ forms) h = (
    h.0,
    record {
      delta = h.1.delta;
      locals = zip_kept (StandsFor pool) (StandsFor (pool ++ more)) f.frame.locals h.0.locals
          (kind_kept pool more) h.1.locals;
      stack = zip_kept (StandsFor pool) (StandsFor (pool ++ more)) f.frame.stack h.0.stack
          (kind_kept pool more) h.1.stack;
    },
    h.2,
    said-kept (f.offset + 1) (says listed form).locals fs forms h.3,
  )

  attribute-kept : (start : List VKind) (fs : List PlacedFrame) (bytes : List ℕ)
      → IsAttribute pool start fs bytes → IsAttribute (pool ++ more) start fs bytes
  attribute-kept start fs bytes h = record {
    listed = h.listed;
    forms = h.forms;
    begins =
        zip_kept (IsListed pool (first_locals fs)) (IsListed (pool ++ more) (first_locals fs))
        start h.listed (listed-kept (first_locals fs)) h.begins;
    said = said-kept 0 h.listed fs h.forms h.said;
    spelled = h.spelled;
  }

  attributes-kept : (code : Labelled) (fs : List PlacedFrame) (attributes : List Attribute)
      → AreAttributes pool code fs attributes → AreAttributes (pool ++ more) code fs attributes
  attributes-kept code [] attributes h = h
  attributes-kept code (f ∷ fs) attributes h = record {
    table = h.table;
    alone = h.alone;
    named = at-append pool more h.table.name (Utf8 TABLE) h.named;
    bytes = attribute-kept (kinds_of code.start) (f ∷ fs) h.table.bytes h.bytes;
  }

-- code in a longer pool
placed_with_stays : (frames : Bool) (a b : List Constant) → Extends a b → (code : Labelled)
    (attr : CodeAttr) → IsPlacedWith frames a code attr → IsPlacedWith frames b code attr
unfolding placed_stays
placed_with_stays frames a b e code attr h = record {
  placed_ = placed_stays a b e code (record attr { attributes = [] }) h.placed_;
  attributes =
      subst (λ (pool : List Constant).
      AreAttributes pool code (if frames then frames_of code h.placed_.indices else [])
      attr.attributes)
      (sym e.behind)
      (attributes-kept a e.more code
      (if frames then frames_of code h.placed_.indices else []) attr.attributes h.attributes);
}

-- there is at most one attribute
one_attribute : (pool : List Constant) (code : Labelled) (fs : List PlacedFrame)
    (attributes : List Attribute) → AreAttributes pool code fs attributes → length attributes ≤ 1
one_attribute pool code [] attributes h = omega (arith, ap length h)
one_attribute pool code (f ∷ fs) attributes h = omega (arith, ap length h.alone)

-- ---- what frames name

-- a class has the same full name in frames and elsewhere
whole-full : (n : Name) → whole_name n ≡ full_name n
whole-full n =
    choose (bytes_eq n (codes "ArithmeticException")) (bytes_eq n (codes "NullPointerException"))
    refl refl
  where
    choose : (a b : Bool) → bytes_eq n (codes "ArithmeticException") ≡ a
        → bytes_eq n (codes "NullPointerException") ≡ b
        → (if a then codes "java/lang/ArithmeticException"
        else if b then codes "java/lang/NullPointerException" else n)
        ≡ (if a || b then codes "java/lang/" ++ n else n)
    choose true b e f =
        ap (λ (m : Name). codes "java/lang/" ++ m)
        (sym ((bytes_eq-Decides n (codes "ArithmeticException")).0 e))
    choose false true e f =
        ap (λ (m : Name). codes "java/lang/" ++ m)
        (sym ((bytes_eq-Decides n (codes "NullPointerException")).0 f))
    choose false false e f = refl

-- a name of a class among others, by the class
record IsNamedAmong (names : List Name) (name : Name) : Type 0 where
  class : Name
  among : Contains names class
  whole : name ≡ whole_name class

among-left : (names more : List Name) (name : Name) → IsNamedAmong names name
    → IsNamedAmong (names ++ more) name
among-left names more name h = record {
  class = h.class;
  among = Contains-append_left names more h.class h.among;
  whole = h.whole;
}

among-right : (names more : List Name) (name : Name) → IsNamedAmong more name
    → IsNamedAmong (names ++ more) name
among-right names more name h = record {
  class = h.class;
  among = Contains-append_right names more h.class h.among;
  whole = h.whole;
}

slots-named : (slots : List Slot) (name : Name) → Contains (classes_of (kinds_of slots)) name
    → IsNamedAmong (flat_map slot_class slots) name
slots-named [] name c = absurd (Contains-nil name c)
slots-named (slot.Unset ∷ slots) name c = slots-named slots name c
slots-named (slot.Int ∷ slots) name c = slots-named slots name c
slots-named (slot.Null ∷ slots) name c = slots-named slots name c
slots-named (slot.Class n ∷ slots) name c =
    at (slots-named slots name)
    (Contains-cons_cases (whole_name n) (classes_of (kinds_of slots)) name c)
  where
    at : (Contains (classes_of (kinds_of slots)) name
        → IsNamedAmong (flat_map slot_class slots) name)
        → (name ≡ whole_name n) ⊎ Contains (classes_of (kinds_of slots)) name
        → IsNamedAmong (n ∷ flat_map slot_class slots) name
    at more (inl e) = record { class = n; among = (0, omega arith, refl); whole = e }
    at more (inr rest) =
        among-right (n ∷ []) (flat_map slot_class slots) name (more rest)

frame-named : (f : LabelFrame) (name : Name) → Contains (placed.classes_in f) name
    → IsNamedAmong (frame_classes f) name
frame-named f name c =
    at (Contains-append_cases (classes_of (kinds_of f.locals)) (classes_of (kinds_of f.stack))
    name c)
  where
    at : Contains (classes_of (kinds_of f.locals)) name
        ⊎ Contains (classes_of (kinds_of f.stack)) name → IsNamedAmong (frame_classes f) name
    at (inl h) =
        among-left (flat_map slot_class f.locals) (flat_map slot_class f.stack) name
        (slots-named f.locals name h)
    at (inr h) =
        among-right (flat_map slot_class f.locals) (flat_map slot_class f.stack) name
        (slots-named f.stack name h)

frames-named : (fs : List LabelFrame) (name : Name)
    → Contains (flat_map placed.classes_in fs) name
    → IsNamedAmong (flat_map frame_classes fs) name
frames-named [] name c = absurd (Contains-nil name c)
frames-named (f ∷ fs) name c =
    at (frames-named fs name)
    (Contains-append_cases (placed.classes_in f) (flat_map placed.classes_in fs) name c)
  where
    at : (Contains (flat_map placed.classes_in fs) name
        → IsNamedAmong (flat_map frame_classes fs) name)
        → Contains (placed.classes_in f) name ⊎ Contains (flat_map placed.classes_in fs) name
        → IsNamedAmong (frame_classes f ++ flat_map frame_classes fs) name
    at more (inl h) =
        among-left (frame_classes f) (flat_map frame_classes fs) name (frame-named f name h)
    at more (inr h) =
        among-right (frame_classes f) (flat_map frame_classes fs) name (more h)

-- what frames need, the code names
frame_part : (pool : List Constant) (code : Labelled) (c : Constant)
    → IsFramePart pool code c → IsOneCode code pool c
frame_part pool code c (inl e) = inl e
frame_part pool code c (inr h) =
    let n = frames-named code.frames h.0 h.1 in
    inr (framed n.class n.among
    (subst (λ (name : Name). IsClassPart pool name c) (n.whole ∙ whole-full n.class) h.2))

part-stays : (a b : List Constant) → Extends a b → (code : Labelled) (c : Constant)
    → IsFramePart a code c → IsFramePart b code c
part-stays a b e code c (inl h) = inl h
part-stays a b e code c (inr h) = inr (h.0, h.1, class_part a b e h.0 c h.2)

one-code : (frames : Bool) (a b : List Constant) → Extends a b → (code : Labelled)
    (c : Constant) → IsConstantWith frames a code c → IsOneCode code b c
one-code frames a b e code c (inl h) = inr (named (constant_stays a b e code c h))
one-code frames a b e code c (inr h) = frame_part b code c (part-stays a b e code c h.1)

pub code_grows : (frames : Bool) (a b : List Constant) (code : Labelled)
    → AddsConstants frames a b code → Grows (IsOneCode code) a b
code_grows frames a b code h = record {
  more = h.more;
  behind = h.behind;
  parts = λ later e.
      All-weaker (IsConstantWith frames b code) (IsOneCode code later)
      (λ c x. one-code frames b later e code c x) h.more h.parts;
}

-- ---- placed code in a file

pub code_stays : (frames : Bool) (pool : List Constant) (code : Labelled) (attr : CodeAttr)
    → IsPlacedWith frames pool code attr
    → Stays pool (λ q. IsCodeWith frames q (Some code) (Some attr))
code_stays frames pool code attr h =
    λ later e. placed_with_stays frames pool later e code attr h

pub placed_fits : (pool : List Constant) (attr : CodeAttr)
    → (AreSized attr.attributes → FitsCode pool attr)
    → Stays pool (λ q. CodeFits q (Some attr))
placed_fits pool attr fits =
    λ later e short. fits_stays pool attr (fits (short_sized attr.attributes short)) later e

pub placed_short : (frames : Bool) (pool : List Constant) (code : Labelled) (attr : CodeAttr)
    → IsPlacedWith frames pool code attr → (AreSized attr.attributes → FitsCode pool attr)
    → IsShort (Some attr)
placed_short frames pool code attr h fits =
    λ short. code_short pool attr (fits (short_sized attr.attributes short))
    (one_attribute pool code (if frames then frames_of code h.placed_.indices else [])
    attr.attributes h.attributes) short
