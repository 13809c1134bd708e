-- What is put one after the other is what the definition of placed frames says.
use Rattle.std.proofs.Common.{◌≡◌, ℕ, ◌+◌, ◌<◌, ◌≤◌, Bool, true, false, List, [], ◌∷◌, ◌++◌, length}
use Rattle.std.proofs.Common.{◌-◌, get_or, take, refl, sym, ap, ◌∙◌, append_assoc, arith}
use Rattle.std.specs.Prelude.{◌==◌, if◌then◌else◌}
use Rattle.std.specs.List.{flat_map}
use Rattle.std.proofs.lemmas.Bool.{eqb-true}
use Rattle.std.proofs.lemmas.List.{append-nil, take_more, take_all, flat_map_more}
use Rattle.par_kinds.specs.declared.frame.PlacedFrame.{PlacedFrame}
use Rattle.par_code_form.specs.declared.item.Item.{Item}
use Rattle.par_code_form.specs.declared.labelled.LabelFrame.{LabelFrame}
use Rattle.par_code_form.specs.declared.labelled.Labelled.{Labelled}
use Rattle.par_compile_laws.specs.Framed.{before, last_ones, frame_of, frames_with}
use Rattle.par_framing.specs.Joined.{last_at, ends_at, joined_behind, joined, added}

-- ---- a list that is cut, or is not

cut-behind : (f : PlacedFrame) (fs : List PlacedFrame) (g : PlacedFrame)
    → last_at f fs g.offset ≡ true
    → take (length fs) (f ∷ fs) ++ g ∷ [] ≡ joined_behind f fs g
cut-behind f [] g e = ap (λ (b : Bool). if b then g ∷ [] else f ∷ g ∷ []) (sym e)
cut-behind f (h ∷ hs) g e = ap (λ gs. f ∷ gs) (cut-behind h hs g e)

kept-behind : (f : PlacedFrame) (fs : List PlacedFrame) (g : PlacedFrame)
    → last_at f fs g.offset ≡ false → (f ∷ fs) ++ g ∷ [] ≡ joined_behind f fs g
kept-behind f [] g e = ap (λ (b : Bool). if b then g ∷ [] else f ∷ g ∷ []) (sym e)
kept-behind f (h ∷ hs) g e = ap (λ gs. f ∷ gs) (kept-behind h hs g e)

-- the last has the offset, and goes
cut : (fs : List PlacedFrame) (g : PlacedFrame) → ends_at fs g.offset ≡ true
    → take (length fs - 1) fs ++ g ∷ [] ≡ joined fs g
cut [] g e = absurd (cc)
cut (f ∷ fs) g e =
    let same : length (f ∷ fs) - 1 ≡ length fs = omega arith in
    ap (λ (k : ℕ). take k (f ∷ fs) ++ g ∷ []) same ∙ cut-behind f fs g e

-- the last has another offset, and stays
kept : (fs : List PlacedFrame) (g : PlacedFrame) → ends_at fs g.offset ≡ false
    → fs ++ g ∷ [] ≡ joined fs g
kept [] g e = refl
kept (f ∷ fs) g e = kept-behind f fs g e

pub replaced : (fs slice : List PlacedFrame) (n : ℕ) (b : Bool) (g : PlacedFrame)
    (new : List PlacedFrame) → slice ≡ fs → length slice ≡ n → b ≡ ends_at slice g.offset
    → b ≡ true → new ≡ take (n - 1) fs ++ g ∷ [] → new ≡ joined fs g
replaced fs slice n b g new is long e same h =
    let ends : ends_at fs g.offset ≡ true =
    ap (λ (gs : List PlacedFrame). ends_at gs g.offset) (sym is) ∙ sym e ∙ same in
    let many : n - 1 ≡ length fs - 1 =
    ap (λ (k : ℕ). k - 1) (sym long ∙ ap (λ (gs : List PlacedFrame). length gs) is) in
    h ∙ ap (λ (k : ℕ). take k fs ++ g ∷ []) many ∙ cut fs g ends

pub pushed : (fs slice : List PlacedFrame) (b : Bool) (g : PlacedFrame) (new : List PlacedFrame)
    → slice ≡ fs → b ≡ ends_at slice g.offset → b ≡ false → new ≡ fs ++ g ∷ []
    → new ≡ joined fs g
pushed fs slice b g new is e other h =
    h ∙ kept fs g (ap (λ (gs : List PlacedFrame). ends_at gs g.offset) (sym is) ∙ sym e ∙ other)

last-behind : (g : PlacedFrame) (gs : List PlacedFrame) (f : PlacedFrame) (at : ℕ)
    → f ≡ get_or (g ∷ gs) (length gs) f → (f.offset == at) ≡ last_at g gs at
last-behind g [] f at is = ap (λ (k : PlacedFrame). k.offset == at) is
last-behind g (h ∷ hs) f at is = last-behind h hs f at is

-- the last of frames, by its place
pub last_is : (fs : List PlacedFrame) (n : ℕ) (f : PlacedFrame) (at : ℕ) → length fs ≡ n + 1
    → f ≡ get_or fs n f → (f.offset == at) ≡ ends_at fs at
last_is [] n f at long is = absurd (omega (arith, long))
last_is (g ∷ gs) n f at long is =
    let same : n ≡ length gs = omega (arith, long) in
    last-behind g gs f at (is ∙ ap (λ (k : ℕ). get_or (g ∷ gs) k f) same)

-- ---- from the front, and from the back

abbrev Heads : List PlacedFrame → ℕ → Type 0
Heads [] at = ⊥
Heads (f ∷ fs) at = f.offset ≡ at

heads-either : (f g : PlacedFrame) (b : Bool) → (f.offset == g.offset) ≡ b
    → Heads (if b then g ∷ [] else f ∷ g ∷ []) f.offset
heads-either f g true e = sym (eqb-true f.offset g.offset e)
heads-either f g false e = refl

heads : (f : PlacedFrame) (fs : List PlacedFrame) (g : PlacedFrame)
    → Heads (joined_behind f fs g) f.offset
heads f [] g = heads-either f g (f.offset == g.offset) refl
heads f (h ∷ hs) g = refl

before-headed : (f : PlacedFrame) (gs : List PlacedFrame) (at : ℕ) → Heads gs at
    → before f gs ≡ (if f.offset == at then gs else f ∷ gs)
before-headed f [] at h = absurd h
before-headed f (g ∷ gs) at h =
    ap (λ (o : ℕ). if f.offset == o then g ∷ gs else f ∷ g ∷ gs) h

joined-either : (f g : PlacedFrame) (gs : List PlacedFrame) (x : PlacedFrame) (b : Bool)
    → joined (if b then g ∷ gs else f ∷ g ∷ gs) x
    ≡ (if b then joined_behind g gs x else f ∷ joined_behind g gs x)
joined-either f g gs x true = refl
joined-either f g gs x false = refl

before-joined : (f : PlacedFrame) (gs : List PlacedFrame) (x : PlacedFrame)
    → before f (joined gs x) ≡ joined (before f gs) x
before-joined f [] x = refl
before-joined f (g ∷ gs) x =
    before-headed f (joined_behind g gs x) g.offset (heads g gs x)
    ∙ sym (joined-either f g gs x (f.offset == g.offset))

last-joined : (fs : List PlacedFrame) (x : PlacedFrame)
    → last_ones (fs ++ x ∷ []) ≡ joined (last_ones fs) x
last-joined [] x = refl
last-joined (f ∷ fs) x =
    ap (λ gs. before f gs) (last-joined fs x) ∙ before-joined f (last_ones fs) x

last-added : (fs gs : List PlacedFrame) → added (last_ones fs) gs ≡ last_ones (fs ++ gs)
last-added fs [] = ap last_ones (sym (append-nil fs))
last-added fs (g ∷ gs) =
    ap (λ hs. added hs gs) (sym (last-joined fs g)) ∙ last-added (fs ++ g ∷ []) gs
    ∙ ap last_ones (append_assoc fs (g ∷ []) gs)

-- one item further
pub added_more : {A : Type 0} (F : A → List PlacedFrame) (xs : List A) (i : ℕ) (x : A)
    (old new : List PlacedFrame) → i < length xs → x ≡ get_or xs i x → new ≡ added old (F x)
    → old ≡ last_ones (flat_map F (take i xs)) → new ≡ last_ones (flat_map F (take (i + 1) xs))
added_more F xs i x old new lt is new-is h =
    new-is ∙ ap (λ fs. added fs (F x)) h ∙ last-added (flat_map F (take i xs)) (F x)
    ∙ ap last_ones (flat_map_more F [] (take i xs) x)
    ∙ ap (λ ys. last_ones (flat_map F (take i xs ++ ys))) (ap (λ y. y ∷ []) is)
    ∙ ap (λ ys. last_ones (flat_map F ys)) (sym (take_more xs i x lt))

-- all items are done
pub all_added : (code : Labelled) (f : ℕ → ℕ) (frames : List LabelFrame) (items : List Item)
    (i : ℕ) (out : List PlacedFrame) → frames ≡ code.frames → items ≡ code.items
    → length items ≤ i → out ≡ last_ones (flat_map (frame_of f frames) (take i items))
    → out ≡ frames_with f code
all_added code f frames items i out frames-is items-is le h =
    h ∙ ap (λ (xs : List Item). last_ones (flat_map (frame_of f frames) xs)) (take_all i items le)
    ∙ ap (λ (xs : List Item). last_ones (flat_map (frame_of f frames) xs)) items-is
    ∙ ap (λ (fs : List LabelFrame). last_ones (flat_map (frame_of f fs) code.items)) frames-is
