-- A frame whose locals and operands are placed one after the other.
use Rattle.std.proofs.Common.{◌≡◌, ℕ, ◌+◌, ◌≤◌, ◌<◌, ◌^◌, List, [], ◌∷◌, ◌++◌, length, get_or}
use Rattle.std.proofs.Common.{refl, sym, ap, ◌∙◌, subst, append_assoc, arith}
use Rattle.std.specs.Prelude.{Contains}
use Rattle.std.specs.List.{AllZip, AllByRecursion}
use Rattle.std.proofs.lemmas.List.Elements.{Contains-append_left}
use Rattle.std.proofs.lemmas.Slice.Zip.{AllZip-long}
use Rattle.par_frame_forms.specs.par_pool.declared.constant.Constant.{Constant}
use Rattle.par_kinds.specs.par_values.Areas.{Name}
use Rattle.par_frame_forms.specs.declared.form.PlaceType.{PlaceType}
use Rattle.par_frame_forms.specs.Spelled.{TypesFit}
use Rattle.par_kinds.specs.declared.frame.VKind.{VKind}
use Rattle.par_kinds.specs.declared.frame.PlacedFrame.{PlacedFrame}
use Rattle.par_frames.specs.declared.indexed.IndexedFrame.{IndexedFrame}
use Rattle.par_frames.specs.Names.{StandsFor, classes_of, classes_in}
use Rattle.par_frames.specs.Attribute.{AddsClasses}
use Rattle.par_frames.specs.Room.{HasRoom, IsShort, SPARE}
use Rattle.par_frames.specs.Forms.{IsIndexed, IndexedFits, last_behind, last_locals}
use Rattle.par_frames.proofs.Classes.{kind_kept, adds_among, adds_then, room_among}
use Rattle.par_frames.proofs.Steps.{zip_kept}

pub kinds_kept : (old new : List Constant) (names : List Name) → AddsClasses old new names
    → (ks : List VKind) (ts : List PlaceType) → AllZip (StandsFor old) ks ts
    → AllZip (StandsFor new) ks ts
kinds_kept old new names a ks ts h =
    zip_kept (StandsFor old) (StandsFor new) ks ts
    (λ k t r. subst (λ (pool : List Constant). StandsFor pool k t) (sym a.behind)
    (kind_kept old a.more k t r))
    h

longer-kept : (pool more : List Constant) (ks : List VKind) (ts : List PlaceType)
    → AllZip (StandsFor pool) ks ts → AllZip (StandsFor (pool ++ more)) ks ts
longer-kept pool more ks ts h =
    zip_kept (StandsFor pool) (StandsFor (pool ++ more)) ks ts (kind_kept pool more) h

pub indexed_kept : (pool more : List Constant) (f : PlacedFrame) (i : IndexedFrame)
    → IsIndexed pool f i → IsIndexed (pool ++ more) f i
indexed_kept pool more f i h = record {
  offset = h.offset;
  locals = longer-kept pool more f.frame.locals i.locals h.locals;
  stack = longer-kept pool more f.frame.stack i.stack h.stack;
}

few : (pool : List Constant) (ks : List VKind) (ts : List PlaceType)
    → AllZip (StandsFor pool) ks ts → length ks ≤ 65535 → length ts < 2 ^ 16
few pool ks ts h le = omega (arith, le, AllZip-long (StandsFor pool) ks ts h)

pub first_room : (pool : List Constant) (slice : List VKind) (f : PlacedFrame)
    → slice ≡ f.frame.locals → HasRoom pool SPARE (classes_in f)
    → HasRoom pool SPARE (classes_of slice)
first_room pool slice f e h =
    subst (λ (ks : List VKind). HasRoom pool SPARE (classes_of ks)) (sym e)
    (room_among pool SPARE (classes_of f.frame.locals) (classes_of f.frame.stack) h)

-- room for locals and operands, and then for others
pub both_room : (pool : List Constant) (s t : List VKind) (f : PlacedFrame) (spare : ℕ)
    (later : List Name) → s ≡ f.frame.locals → t ≡ f.frame.stack
    → HasRoom pool spare (classes_in f ++ later)
    → HasRoom pool spare (classes_of s ++ (classes_of t ++ later))
both_room pool s t f spare later e g h =
    subst (λ (ks : List VKind). HasRoom pool spare (classes_of ks ++ (classes_of t ++ later)))
    (sym e)
    (subst (λ (ks : List VKind).
    HasRoom pool spare (classes_of f.frame.locals ++ (classes_of ks ++ later))) (sym g)
    (subst (λ (names : List Name). HasRoom pool spare names)
    (append_assoc (classes_of f.frame.locals) (classes_of f.frame.stack) later) h))

pub second_room : (pool : List Constant) (s t : List VKind) (f : PlacedFrame)
    → s ≡ f.frame.locals → t ≡ f.frame.stack → HasRoom pool SPARE (classes_in f)
    → HasRoom pool SPARE (classes_of s ++ classes_of t)
second_room pool s t f e g h =
    subst (λ (ks : List VKind). HasRoom pool SPARE (classes_of ks ++ classes_of t)) (sym e)
    (subst (λ (ks : List VKind). HasRoom pool SPARE (classes_of f.frame.locals ++ classes_of ks))
    (sym g) h)

pub first_added : (old new : List Constant) (slice : List VKind) (f : PlacedFrame)
    → slice ≡ f.frame.locals → AddsClasses old new (classes_of slice)
    → AddsClasses old new (classes_in f)
first_added old new slice f e a =
    adds_among old new (classes_of slice) (classes_in f)
    (λ name c. Contains-append_left (classes_of f.frame.locals) (classes_of f.frame.stack) name
    (subst (λ (ks : List VKind). Contains (classes_of ks) name) e c))
    a

pub both_added : (a b c : List Constant) (s t : List VKind) (f : PlacedFrame)
    → s ≡ f.frame.locals → t ≡ f.frame.stack → AddsClasses a b (classes_of s)
    → AddsClasses b c (classes_of t) → AddsClasses a c (classes_in f)
both_added a b c s t f e g p q =
    adds_then a b c (classes_of f.frame.locals) (classes_of f.frame.stack)
    (subst (λ (ks : List VKind). AddsClasses a b (classes_of ks)) e p)
    (subst (λ (ks : List VKind). AddsClasses b c (classes_of ks)) g q)

pub indexed : (b c : List Constant) (s t : List VKind) (f : PlacedFrame)
    (locals stack : List PlaceType) → s ≡ f.frame.locals → t ≡ f.frame.stack
    → AddsClasses b c (classes_of t) → AllZip (StandsFor b) s locals
    → AllZip (StandsFor c) t stack
    → IsIndexed c f (record { offset = f.offset; locals = locals; stack = stack })
indexed b c s t f locals stack e g q p r = record {
  offset = refl;
  locals =
      subst (λ (ks : List VKind). AllZip (StandsFor c) ks locals) e
      (kinds_kept b c (classes_of t) q s locals p);
  stack = subst (λ (ks : List VKind). AllZip (StandsFor c) ks stack) g r;
}

pub indexed_fits : (b c : List Constant) (s t : List VKind) (f : PlacedFrame) (offset : ℕ)
    (locals stack : List PlaceType) → s ≡ f.frame.locals → t ≡ f.frame.stack → IsShort f
    → AllZip (StandsFor b) s locals → AllZip (StandsFor c) t stack → TypesFit locals
    → TypesFit stack
    → IndexedFits (record { offset = offset; locals = locals; stack = stack })
indexed_fits b c s t f offset locals stack e g short p r x y = record {
  few =
      few b s locals p
      (subst (λ (ks : List VKind). length ks ≤ 65535) (sym e) short.locals);
  locals = x;
  low =
      few c t stack r
      (subst (λ (ks : List VKind). length ks ≤ 65535) (sym g) short.stack);
  stack = y;
}

-- ---- the last frame

last-at : (j : IndexedFrame) (js : List IndexedFrame) (i : IndexedFrame)
    → i ≡ get_or (j ∷ js) (length js) i → i.locals ≡ last_behind j js
last-at j [] i is = ap (λ (k : IndexedFrame). k.locals) is
last-at j (k ∷ ks) i is = last-at k ks i is

pub last_is : (is : List IndexedFrame) (n : ℕ) (i : IndexedFrame) (slice : List PlaceType)
    → length is ≡ n + 1 → i ≡ get_or is n i → slice ≡ i.locals → slice ≡ last_locals is
last_is [] n i slice long at e = absurd (omega (arith, long))
last_is (j ∷ js) n i slice long at e =
    let same : n ≡ length js = omega (arith, long) in
    e ∙ last-at j js i (at ∙ ap (λ (k : ℕ). get_or (j ∷ js) k i) same)

last-pushed : (j : IndexedFrame) (js : List IndexedFrame) (i : IndexedFrame)
    → last_behind j (js ++ i ∷ []) ≡ i.locals
last-pushed j [] i = refl
last-pushed j (k ∷ ks) i = last-pushed k ks i

pushed : (is : List IndexedFrame) (i : IndexedFrame) → last_locals (is ++ i ∷ []) ≡ i.locals
pushed [] i = refl
pushed (j ∷ js) i = last-pushed j js i

-- the locals of a frame that was placed last
pub last_known : (pool : List Constant) (f : PlacedFrame) (i : IndexedFrame)
    (made more : List IndexedFrame) (slice : List VKind) → IsIndexed pool f i
    → more ≡ made ++ i ∷ [] → slice ≡ f.frame.locals
    → AllZip (StandsFor pool) slice (last_locals more)
last_known pool f i made more slice h e same =
    subst (λ (ks : List VKind). AllZip (StandsFor pool) ks (last_locals more)) (sym same)
    (subst (λ (ts : List PlaceType). AllZip (StandsFor pool) f.frame.locals ts)
    (sym (ap (λ (is : List IndexedFrame). last_locals is) e ∙ pushed made i)) h.locals)

behind-fits : (j : IndexedFrame) (js : List IndexedFrame)
    → AllByRecursion IndexedFits (j ∷ js) → TypesFit (last_behind j js)
behind-fits j [] h = h.0.locals
behind-fits j (k ∷ ks) h = behind-fits k ks h.1

last-fits : (is : List IndexedFrame) → AllByRecursion IndexedFits is → TypesFit (last_locals is)
last-fits [] h = tt
last-fits (j ∷ js) h = behind-fits j js h

pub last_fits : (slice : List PlaceType) (some is : List IndexedFrame)
    → slice ≡ last_locals some → some ≡ is → AllByRecursion IndexedFits is → TypesFit slice
last_fits slice some is e same h =
    subst (λ (ts : List PlaceType). TypesFit ts)
    (sym (e ∙ ap (λ (js : List IndexedFrame). last_locals js) same)) (last-fits is h)

pub last_stands : (pool : List Constant) (ks : List VKind) (slice : List PlaceType)
    (some is : List IndexedFrame) → slice ≡ last_locals some → some ≡ is
    → AllZip (StandsFor pool) ks (last_locals is) → AllZip (StandsFor pool) ks slice
last_stands pool ks slice some is e same h =
    subst (λ (ts : List PlaceType). AllZip (StandsFor pool) ks ts)
    (sym (e ∙ ap (λ (js : List IndexedFrame). last_locals js) same)) h
