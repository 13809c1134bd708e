-- The first frame of a label.
use Rattle.std.proofs.Common.{◌≡◌, ◌≢◌, ℕ, ◌+◌, ◌-◌, ◌<◌, Bool, true, false, List, [], ◌∷◌}
use Rattle.std.proofs.Common.{length, get_or, drop, Option, Some, None, refl, sym, ap}
use Rattle.std.proofs.Common.{subst, ◌∙◌, arith}
use Rattle.std.specs.Prelude.{◌==◌, if◌then◌else◌, slice_get, All}
use Rattle.std.proofs.lemmas.Bool.{eqb-true, eq-eqb}
use Rattle.std.proofs.lemmas.List.{drop_more, drop_all}
use Rattle.std.proofs.lemmas.List.Elements.{All-head, All-tail}
use Rattle.std.proofs.lemmas.Option.{slice_get-get_or}
use Rattle.par_code_form.specs.declared.item.Item.{Item}
use Rattle.par_code_form.specs.declared.item.Item.TheVariants.{Label, Op, Const, Jump, Member}
use Rattle.par_code_form.specs.declared.item.Item.TheVariants.{ClassOp, LockOp}
use Rattle.par_code_form.specs.declared.labelled.LabelFrame.{LabelFrame}
use Rattle.par_compile_laws.specs.Framed.{placed, placed_at, frame_at, frame_of}
use Rattle.par_framing.specs.First.{AreFirst, item_frame}
use Rattle.par_framing.specs.Joined.{HasLabel}

-- ---- what is found

pub label_is : (fs : List LabelFrame) (l : ℕ) (f : LabelFrame) → frame_at fs l ≡ Some f
    → f.label ≡ l
label_is [] l f e = absurd (cc)
label_is (g ∷ gs) l f e = choose (g.label == l) refl (label_is gs l f) e
  where
    choose : (b : Bool) → (g.label == l) ≡ b → (frame_at gs l ≡ Some f → f.label ≡ l)
        → (if b then Some g else frame_at gs l) ≡ Some f → f.label ≡ l
    choose true is later h =
        let same : g ≡ f = cc in
        ap (λ (k : LabelFrame). k.label) (sym same) ∙ eqb-true g.label l is
    choose false is later h = later h

pub frame_has : (P : LabelFrame → Type 0) (fs : List LabelFrame) (l : ℕ) (f : LabelFrame)
    → frame_at fs l ≡ Some f → All P fs → P f
frame_has P [] l f e all = absurd (cc)
frame_has P (g ∷ gs) l f e all =
    choose (g.label == l) (λ h. frame_has P gs l f h (All-tail P g gs all)) e
  where
    choose : (b : Bool) → (frame_at gs l ≡ Some f → P f)
        → (if b then Some g else frame_at gs l) ≡ Some f → P f
    choose true later h = let same : g ≡ f = cc in subst P same (All-head P g gs all)
    choose false later h = later h

-- what holds of all frames holds of the first one of an item
pub item_has : (P : LabelFrame → Type 0) (fs : List LabelFrame) (x : Item) (f : LabelFrame)
    → item_frame fs x ≡ Some f → All P fs → P f
item_has P fs (Label l) f e all = frame_has P fs l f e all
item_has P fs (Op i) f e all = absurd (cc)
item_has P fs (Const v) f e all = absurd (cc)
item_has P fs (Jump opcode l) f e all = absurd (cc)
item_has P fs (Member opcode class name kind) f e all = absurd (cc)
item_has P fs (ClassOp opcode class) f e all = absurd (cc)
item_has P fs (LockOp opcode lock) f e all = absurd (cc)

-- the label of an item's frame has an offset
pub label_within : (offsets : List ℕ) (fs : List LabelFrame) (x : Item) (f : LabelFrame)
    → item_frame fs x ≡ Some f → All (HasLabel offsets) fs → f.label < length offsets
label_within offsets fs x f e all = item_has (HasLabel offsets) fs x f e all

pub item_some : (offset : ℕ → ℕ) (fs : List LabelFrame) (x : Item) (f : LabelFrame)
    → item_frame fs x ≡ Some f → frame_of offset fs x ≡ placed (offset f.label) f ∷ []
item_some offset fs (Label l) f e =
    ap (placed_at (offset l)) e
    ∙ ap (λ (k : ℕ). placed (offset k) f ∷ []) (sym (label_is fs l f e))
item_some offset fs (Op i) f e = absurd (cc)
item_some offset fs (Const v) f e = absurd (cc)
item_some offset fs (Jump opcode l) f e = absurd (cc)
item_some offset fs (Member opcode class name kind) f e = absurd (cc)
item_some offset fs (ClassOp opcode class) f e = absurd (cc)
item_some offset fs (LockOp opcode lock) f e = absurd (cc)

pub item_none : (offset : ℕ → ℕ) (fs : List LabelFrame) (x : Item) → item_frame fs x ≡ None
    → frame_of offset fs x ≡ []
item_none offset fs (Label l) e = ap (placed_at (offset l)) e
item_none offset fs (Op i) e = refl
item_none offset fs (Const v) e = refl
item_none offset fs (Jump opcode l) e = refl
item_none offset fs (Member opcode class name kind) e = refl
item_none offset fs (ClassOp opcode class) e = refl
item_none offset fs (LockOp opcode lock) e = refl

-- ---- the loop from the last frame to the first

-- so far each label has the first of the frames from a place on
pub record Marked (all : List LabelFrame) (place : ℕ) (places : List ℕ) : Type 0 where
  pub first : AreFirst all (drop place all) places
  pub within : place < length all + 1

none-behind : {A : Type 0} (xs : List A) → slice_get xs (length xs) ≡ None
none-behind [] = refl
none-behind (x ∷ xs) = none-behind xs

pub marked_none : (all : List LabelFrame) (n : ℕ) (places : List ℕ) → n ≡ length all
    → places ≡ [] → Marked all n places
marked_none all n places is none =
    subst (λ (ps : List ℕ). Marked all n ps) (sym none) (record {
      first = λ l.
          none-behind all
          ∙ ap (λ (fs : List LabelFrame). frame_at fs l)
          (sym (drop_all n all (omega (arith, is))));
      within = omega (arith, is);
    })

pub marked_last : (all : List LabelFrame) (place : ℕ) (places : List ℕ) → place ≡ 0
    → Marked all place places → AreFirst all all places
marked_last all place places none h =
    subst (λ (k : ℕ). AreFirst all (drop k all) places) none h.first

pub marked_more : (all : List LabelFrame) (place : ℕ) (f : LabelFrame) (old new : List ℕ)
    → place < length all → f ≡ get_or all place f → get_or new f.label (length all) ≡ place
    → ((l : ℕ) → l ≢ f.label → get_or new l (length all) ≡ get_or old l (length all))
    → Marked all (place + 1) old → Marked all place new
marked_more all place f old new lt is here there h = record {
  first = λ l. at l (f.label == l) refl;
  within = omega (arith, lt);
}
  where
    rest : drop place all ≡ f ∷ drop (place + 1) all
    rest =
        drop_more all place f lt
        ∙ ap (λ (g : LabelFrame). g ∷ drop (place + 1) all) (sym is)

    stands : slice_get all place ≡ Some f
    stands = slice_get-get_or all place f lt ∙ ap (λ (g : LabelFrame). Some g) (sym is)

    get : ℕ → Option LabelFrame
    get k = slice_get all k

    at : (l : ℕ) (b : Bool) → (f.label == l) ≡ b
        → slice_get all (get_or new l (length all)) ≡ frame_at (drop place all) l
    at l true same =
        ap (λ (k : ℕ). get (get_or new k (length all))) (sym (eqb-true f.label l same))
        ∙ ap get here ∙ stands
        ∙ ap (λ (b : Bool). if b then Some f else frame_at (drop (place + 1) all) l) (sym same)
        ∙ ap (λ (fs : List LabelFrame). frame_at fs l) (sym rest)
    at l false other =
        ap get (there l (λ e. absurd (cc (ap (λ (k : ℕ). k == l) (sym e), other, eq-eqb l l refl))))
        ∙ h.first l
        ∙ ap (λ (b : Bool). if b then Some f else frame_at (drop (place + 1) all) l) (sym other)
        ∙ ap (λ (fs : List LabelFrame). frame_at fs l) (sym rest)

-- one frame further to the front
pub marked_back : (all : List LabelFrame) (place : ℕ) (f : LabelFrame) (old new : List ℕ)
    → 0 < place → f ≡ get_or all (place - 1) f
    → get_or new (get_or all (place - 1) f).label (length all) ≡ place - 1
    → ((l : ℕ) → l ≢ (get_or all (place - 1) f).label
    → get_or new l (length all) ≡ get_or old l (length all))
    → Marked all place old → Marked all (place - 1) new
marked_back all place f old new some is here there h =
    let same : place ≡ (place - 1) + 1 = omega (arith, some) in
    marked_more all (place - 1) f old new (omega (arith, some, h.within)) is
    (subst (λ (g : LabelFrame). get_or new g.label (length all) ≡ place - 1) (sym is) here)
    (subst (λ (g : LabelFrame). (l : ℕ) → l ≢ g.label
    → get_or new l (length all) ≡ get_or old l (length all)) (sym is) there)
    (subst (λ (k : ℕ). Marked all k old) same h)

-- what an item puts
pub ruleset item_frames = (label_within, item_some, item_none)
