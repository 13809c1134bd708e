-- What is counted of frames is what they list, so that placed forms say placed frames.
use Rattle.std.proofs.Common.{◌≡◌, ℕ, suc, ◌+◌, ◌-◌, Bool, true, false, ◌&&◌, ◌||◌, ◌==◌, List, []}
use Rattle.std.proofs.Common.{◌∷◌, ◌++◌, length, Option, Some, None, take, refl, sym, ap, subst}
use Rattle.std.proofs.Common.{◌∙◌}
use Rattle.std.proofs.Common.{length-append, arith}
use Rattle.std.specs.Prelude.{nat_le, if◌then◌else◌}
use Rattle.std.specs.List.{list_all, list_any, AllByRecursion}
use Rattle.std.specs.Option.{option_map, is_some}
use Rattle.std.proofs.lemmas.Bool.{and_parts, and_from, leb-true, le-leb}
use Rattle.std.proofs.lemmas.Grind.{common_steps}
use Rattle.par_pool.specs.declared.constant.Constant.{Constant}
use Rattle.par_class.specs.declared.file.CodeAttr.{CodeAttr}
use Rattle.par_single.specs.Walk.{starts_at}
use Rattle.par_frame_forms.specs.declared.form.PlaceType.{PlaceType}
use Rattle.par_frame_forms.specs.declared.form.FrameForm.{FrameForm}
use Rattle.par_frame_forms.specs.declared.form.FrameForm.TheVariants.{Same, OneOperand}
use Rattle.par_frame_forms.specs.declared.form.FrameForm.TheVariants.{OneOperandFar, Cut, More}
use Rattle.par_frame_forms.specs.declared.form.FrameForm.TheVariants.{Full}
use Rattle.par_frame_forms.specs.Spelled.{says}
use Rattle.par_kinds.specs.declared.frame.VKind.{VKind}
use Rattle.par_kinds.specs.declared.frame.PlacedFrame.{PlacedFrame}
use Rattle.par_frames.specs.Names.{kind_of}
use Rattle.par_frames.specs.Given.{on_some, kinds_of, locals_said, stack_said, frame_said}
use Rattle.par_frames.specs.Given.{frames_said}
use Rattle.par_frames.specs.Broken.{IsPlacedIn}
use Rattle.par_given_frames.specs.declared.sizes.Size.{Size}
use Rattle.par_given_frames.specs.Sizes.{is_kind, counted, locals_counted, stack_counted, size_said}
use Rattle.par_given_frames.specs.Sizes.{is_placed, placed_first, placed, framed_first, framed}

abbrev many : Option (List VKind) → Option ℕ
many o = option_map (λ ks. length ks) o

one-more : (o : Option VKind) (ks : Option (List VKind)) (all : Bool) (n : ℕ)
    → many ks ≡ (if all then Some n else None)
    → many (on_some o (λ k. option_map (λ xs. k ∷ xs) ks))
    ≡ (if is_some o && all then Some (suc n) else None)
one-more None ks all n e = refl
one-more (Some k) None true n e = absurd (cc e)
one-more (Some k) None false n e = refl
one-more (Some k) (Some xs) true n e =
    let same : length xs ≡ n = cc e in ap (λ (m : ℕ). Some (suc m)) same
one-more (Some k) (Some xs) false n e = absurd (cc e)

kinds-counted : (pool : List Constant) (ts : List PlaceType)
    → many (kinds_of pool ts) ≡ counted pool ts
kinds-counted pool [] = refl
kinds-counted pool (t ∷ ts) =
    one-more (kind_of pool t) (kinds_of pool ts) (list_all (is_kind pool) ts) (length ts)
    (kinds-counted pool ts)

cut-counted : (b : Bool) (cut : ℕ) (listed : List VKind)
    → many (if b then Some (take (length listed - cut) listed) else None)
    ≡ (if b then Some (length listed - cut) else None)
cut-counted true cut listed =
    let same : length (take (length listed - cut) listed) ≡ length listed - cut =
    grind (arith, common_steps) in
    ap (λ (n : ℕ). Some n) same
cut-counted false cut listed = refl

behind-counted : (listed : List VKind) (o : Option (List VKind))
    → many (option_map (λ ks. listed ++ ks) o) ≡ option_map (λ more. length listed + more) (many o)
behind-counted listed None = refl
behind-counted listed (Some ks) = ap (λ (n : ℕ). Some n) (length-append listed ks)

locals-counted : (pool : List Constant) (listed : List VKind) (f : FrameForm)
    → many (locals_said pool listed f) ≡ locals_counted pool (length listed) f
locals-counted pool listed (Same delta) = refl
locals-counted pool listed (OneOperand delta t) = refl
locals-counted pool listed (OneOperandFar delta t) = refl
locals-counted pool listed (Cut cut delta) = cut-counted (nat_le cut (length listed)) cut listed
locals-counted pool listed (More delta ts) =
    behind-counted listed (kinds_of pool ts)
    ∙ ap (option_map (λ more. length listed + more)) (kinds-counted pool ts)
locals-counted pool listed (Full delta locals stack) = kinds-counted pool locals

stack-counted : (pool : List Constant) (f : FrameForm)
    → many (stack_said pool f) ≡ stack_counted pool f
stack-counted pool (Same delta) = refl
stack-counted pool (OneOperand delta t) = kinds-counted pool (t ∷ [])
stack-counted pool (OneOperandFar delta t) = kinds-counted pool (t ∷ [])
stack-counted pool (Cut cut delta) = refl
stack-counted pool (More delta ts) = refl
stack-counted pool (Full delta locals stack) = kinds-counted pool stack

-- what is counted of a frame
abbrev pub size_of : PlacedFrame → Size
size_of p = record {
  offset = p.offset;
  locals = length p.frame.locals;
  stack = length p.frame.stack;
}

abbrev framed_at : ℕ → Option (List VKind) → Option (List VKind) → Option PlacedFrame
framed_at at locals stack =
    on_some locals (λ ls. option_map
    (λ ss. record { offset = at; frame = record { locals = ls; stack = ss } }) stack)

abbrev sized_at : ℕ → Option ℕ → Option ℕ → Option Size
sized_at at locals stack =
    on_some locals
    (λ l. option_map (λ s. record { offset = at; locals = l; stack = s }) stack)

both-counted : (at : ℕ) (locals stack : Option (List VKind))
    → option_map size_of (framed_at at locals stack) ≡ sized_at at (many locals) (many stack)
both-counted at None stack = refl
both-counted at (Some ls) None = refl
both-counted at (Some ls) (Some ss) = refl

frame-counted : (pool : List Constant) (from : ℕ) (listed : List VKind) (f : FrameForm)
    → option_map size_of (frame_said pool from listed f) ≡ size_said pool from (length listed) f
frame-counted pool from listed f =
    both-counted (from + (says [] f).delta) (locals_said pool listed f) (stack_said pool f)
    ∙ ap (λ l. sized_at (from + (says [] f).delta) l (many (stack_said pool f)))
    (locals-counted pool listed f)
    ∙ ap (sized_at (from + (says [] f).delta) (locals_counted pool (length listed) f))
    (stack-counted pool f)

-- ---- what is placed

is-placed : (code : CodeAttr) (p : PlacedFrame) → is_placed code (size_of p) ≡ true
    → IsPlacedIn code p
is-placed code p is =
    let first =
    and_parts (starts_at code.code p.offset && nat_le (length p.frame.locals) code.max_locals)
    (nat_le (length p.frame.stack) code.max_stack) is in
    let second =
    and_parts (starts_at code.code p.offset) (nat_le (length p.frame.locals) code.max_locals)
    first.0 in
    record {
      starts = second.0;
      locals = leb-true (length p.frame.locals) code.max_locals second.1;
      stack = leb-true (length p.frame.stack) code.max_stack first.1;
    }

placed-is : (code : CodeAttr) (p : PlacedFrame) → IsPlacedIn code p
    → is_placed code (size_of p) ≡ true
placed-is code p is =
    and_from (starts_at code.code p.offset && nat_le (length p.frame.locals) code.max_locals)
    (nat_le (length p.frame.stack) code.max_stack)
    (and_from (starts_at code.code p.offset) (nat_le (length p.frame.locals) code.max_locals)
    is.starts (le-leb (length p.frame.locals) code.max_locals is.locals))
    (le-leb (length p.frame.stack) code.max_stack is.stack)

-- whether a frame stands at an offset
abbrev pub stands_at : List PlacedFrame → ℕ → Bool
stands_at fs at = list_any (λ p. p.offset == at) fs

-- forms say frames that are placed, and these stand where they are flagged
pub record ArePlaced (code : CodeAttr) (pool : List Constant) (from : ℕ) (listed : List VKind)
    (forms : List FrameForm) : Type 0 where
  pub frames : List PlacedFrame
  pub said : frames_said pool from listed forms ≡ Some frames
  pub all : AllByRecursion (IsPlacedIn code) frames
  pub at : (at : ℕ) → framed pool from (length listed) forms at ≡ stands_at frames at

module _ (code : CodeAttr) (pool : List Constant) where
  abbrev later : List FrameForm → ℕ → ℕ → Bool
  later fs next locals = placed code pool next locals fs

  first-placed : (from : ℕ) (listed : List VKind) (f : FrameForm) (fs : List FrameForm)
      (o : Option PlacedFrame) → frame_said pool from listed f ≡ o
      → placed_first code (later fs) (option_map size_of o) ≡ true
      → ((p : PlacedFrame) → placed code pool (p.offset + 1) (length p.frame.locals) fs ≡ true
      → ArePlaced code pool (p.offset + 1) p.frame.locals fs)
      → ArePlaced code pool from listed (f ∷ fs)
  unfolding framed
  first-placed from listed f fs None e is rest = absurd (cc is)
  first-placed from listed f fs (Some p) e is rest =
      let parts =
      and_parts (is_placed code (size_of p))
      (placed code pool (p.offset + 1) (length p.frame.locals) fs) is in
      let more = rest p parts.1 in
      record {
        frames = p ∷ more.frames;
        said =
            ap (λ o. on_some o (λ p. option_map (λ ps. p ∷ ps)
            (frames_said pool (p.offset + 1) p.frame.locals fs))) e
            ∙ ap (λ o. option_map (λ ps. p ∷ ps) o) more.said;
        all = (is-placed code p parts.0, more.all);
        at = λ at.
            ap (λ o. framed_first at (λ next locals. framed pool next locals fs at) o)
            (sym (frame-counted pool from listed f) ∙ ap (option_map size_of) e)
            ∙ ap (λ b. (p.offset == at) || b) (more.at at);
      }

  pub placed-are : (from : ℕ) (listed : List VKind) (forms : List FrameForm)
      → placed code pool from (length listed) forms ≡ true
      → ArePlaced code pool from listed forms
  unfolding placed framed
  placed-are from listed [] is =
      record { frames = []; said = refl; all = tt; at = λ at. refl }
  placed-are from listed (f ∷ fs) is =
      first-placed from listed f fs (frame_said pool from listed f) refl
      (subst (λ o. placed_first code (later fs) o ≡ true)
      (sym (frame-counted pool from listed f)) is)
      (λ p h. placed-are (p.offset + 1) p.frame.locals fs h)

  said-placed : (from : ℕ) (listed : List VKind) (f : FrameForm) (fs : List FrameForm)
      (ps : List PlacedFrame) (o : Option PlacedFrame)
      (more : PlacedFrame → Option (List PlacedFrame))
      → on_some o (λ p. option_map (λ qs. p ∷ qs) (more p)) ≡ Some ps
      → AllByRecursion (IsPlacedIn code) ps
      → ((p : PlacedFrame) (qs : List PlacedFrame) → more p ≡ Some qs
      → AllByRecursion (IsPlacedIn code) qs
      → placed code pool (p.offset + 1) (length p.frame.locals) fs ≡ true)
      → placed_first code (later fs) (option_map size_of o) ≡ true
  said-placed from listed f fs ps None more e all rest = absurd (cc e)
  said-placed from listed f fs ps (Some p) more e all rest = behind (more p) refl e
    where
      behind : (o : Option (List PlacedFrame)) → more p ≡ o
          → option_map (λ qs. p ∷ qs) o ≡ Some ps
          → placed_first code (later fs) (Some (size_of p)) ≡ true
      behind None is e = absurd (cc e)
      behind (Some qs) is e =
          let same : ps ≡ p ∷ qs = cc e in
          let each : AllByRecursion (IsPlacedIn code) (p ∷ qs) =
          subst (AllByRecursion (IsPlacedIn code)) same all in
          and_from (is_placed code (size_of p))
          (placed code pool (p.offset + 1) (length p.frame.locals) fs)
          (placed-is code p each.0) (rest p qs is each.1)

  pub said-are : (from : ℕ) (listed : List VKind) (forms : List FrameForm)
      (ps : List PlacedFrame) → frames_said pool from listed forms ≡ Some ps
      → AllByRecursion (IsPlacedIn code) ps → placed code pool from (length listed) forms ≡ true
  unfolding placed
  said-are from listed [] ps e all = refl
  said-are from listed (f ∷ fs) ps e all =
      subst (λ o. placed_first code (later fs) o ≡ true) (frame-counted pool from listed f)
      (said-placed from listed f fs ps (frame_said pool from listed f)
      (λ p. frames_said pool (p.offset + 1) p.frame.locals fs) e all
      (λ p qs. said-are (p.offset + 1) p.frame.locals fs qs))
