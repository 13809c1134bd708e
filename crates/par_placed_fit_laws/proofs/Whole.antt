-- Frames that fit labelled code fit it where it is placed.
use Rattle.std.proofs.Common.{◌≡◌, ℕ, zero, suc, ◌+◌, ◌-◌, ◌≤◌, Bool, true, false, List, []}
use Rattle.std.proofs.Common.{◌∷◌, Option, Some, None, length, refl, sym, ap, subst, ◌∙◌, arith}
use Rattle.std.proofs.Common.{◌||◌}
use Rattle.std.specs.Prelude.{◌==◌, if◌then◌else◌, IsTrue, All, ℤ, pos, ◌+ℤ◌, ◌-ℤ◌, nat_le, nat_lt}
use Rattle.std.specs.Prelude.{count_by, cond}
use Rattle.std.specs.List.{slice_get, AllByRecursion, AllZip}
use Rattle.std.proofs.Math.IntN.{+ℤ_comm, -ℤ-+ℤ_cancel}
use Rattle.std.proofs.lemmas.Bool.{and_parts, leb-true, ltb-true, eqb-true}
use Rattle.std.proofs.lemmas.List.Sums.{sum_by-cons}
use Rattle.std.proofs.lemmas.List.Elements.{All-head, All-tail}
use Rattle.par_instr.specs.declared.instr.Instr.{Instr}
use Rattle.par_instr.specs.Decoding.{decoded_at}
use Rattle.par_instr.specs.Spelling.{Stands}
use Rattle.par_instr.proofs.Decodings.{decoded_at-stands}
use Rattle.par_pool.specs.declared.constant.Constant.{Constant}
use Rattle.par_class.specs.declared.file.Catch.{Catch}
use Rattle.par_class.specs.declared.file.CodeAttr.{CodeAttr}
use Rattle.par_single.specs.Walk.{starts_at}
use Rattle.par_values.specs.Areas.{Name}
use Rattle.par_code_form.specs.declared.item.Item.{Item}
use Rattle.par_code_form.specs.declared.item.Item.TheVariants.{Label, Op, Const, Jump, Member}
use Rattle.par_code_form.specs.declared.item.Item.TheVariants.{ClassOp, LockOp}
use Rattle.par_code_form.specs.declared.labelled.Handler.{Handler}
use Rattle.par_code_form.specs.declared.labelled.Labelled.{Labelled}
use Rattle.par_code_form.specs.Instructions.{instruction, is_instruction}
use Rattle.par_code_form.specs.PoolNames.{Names}
use Rattle.par_code_form.specs.Placed.{size, is_label, offset_of, offset_at, distance, IsCatch}
use Rattle.par_code_form.specs.Placed.{IsPlaced}
use Rattle.par_code_form.specs.Placeable.{FitsItem, StandsOnce, HasTarget, FitsHandler}
use Rattle.par_code_form.specs.Placeable.{IsPlaceable}
use Rattle.par_kinds.specs.declared.frame.VKind.{VKind}
use Rattle.par_kinds.specs.declared.frame.VKind.TheVariants.{Object as AnObject}
use Rattle.par_kinds.specs.Kinds.{KFrame, Each}
use Rattle.par_kinds.specs.Acts.{Act, ActFits, Flow, Onward, Jumps, Branches}
use Rattle.par_kinds.specs.Acts.{Nowhere}
use Rattle.par_kinds.specs.Acts.{left_by}
use Rattle.par_kinds.specs.Acts.{next_offsets}
use Rattle.par_kinds.specs.Fits.{around, GoesTo, CatchFits, FitsAt, Fitting}
use Rattle.par_kinds.proofs.Lower.{below-then, frame-then}
use Rattle.par_placed_fit_laws.specs.Walks.{Sign, Guard, behind_label, behind_flow, left, opened}
use Rattle.par_placed_fit_laws.specs.Walks.{goal}
use Rattle.par_placed_fit_laws.specs.Walks.{To, Onto, Branching, Does, IsHandled}
use Rattle.par_evaluation_laws.specs.par_match_laws.Labelled.{is_there}
use Rattle.par_placed_fit_laws.specs.Fits.{Fits}
use Rattle.par_placed_fit_laws.specs.Given.{aim, aimed, behind_act, given_from}
use Rattle.par_placed_fit_laws.specs.Laws.{Means}
use Rattle.par_placed_fit_laws.proofs.Along.{Walk, Agrees, Lies, split, offset_next, has_label}
use Rattle.par_placed_fit_laws.proofs.Along.{given_step, walks_does, walks_none, label_walks}
use Rattle.par_placed_fit_laws.proofs.Along.{agrees_next, arrives, at_label, catches}
use Rattle.par_placed_fit_laws.proofs.Lands.{From, past, lands_given}
use Rattle.par_placed_fit_laws.proofs.Ranges.{before, stays_within}

-- ---- lists side by side

pub zip_length : {A B : Type 0} (R : A → B → Type 0) (xs : List A) (ys : List B) → AllZip R xs ys
    → length xs ≡ length ys
zip_length R [] [] h = refl
zip_length R [] (y ∷ ys) h = absurd h
zip_length R (x ∷ xs) [] h = absurd h
zip_length R (x ∷ xs) (y ∷ ys) h = ap suc (zip_length R xs ys h.1)

zip_at : {A B : Type 0} (R : A → B → Type 0) (xs : List A) (ys : List B) (p : ℕ) (x : A) (y : B)
    → AllZip R xs ys → slice_get xs p ≡ Some x → slice_get ys p ≡ Some y → R x y
zip_at R [] ys p x y h e g = absurd (cc e)
zip_at R (a ∷ xs) [] p x y h e g = absurd h
zip_at R (a ∷ xs) (b ∷ ys) zero x y h e g =
    let one : a ≡ x = cc e in
    let two : b ≡ y = cc g in
    subst (λ z. R z y) one (subst (λ z. R a z) two h.0)
zip_at R (a ∷ xs) (b ∷ ys) (suc p) x y h e g = zip_at R xs ys p x y h.1 e g

all_at : {A : Type 0} (P : A → Type 0) (xs : List A) (p : ℕ) (x : A) → All P xs
    → slice_get xs p ≡ Some x → P x
all_at P [] p x h e = absurd (cc e)
all_at P (a ∷ xs) zero x h e =
    let one : a ≡ x = cc e in subst P one (All-head P a xs h)
all_at P (a ∷ xs) (suc p) x h e = all_at P xs p x (All-tail P a xs h) e

abbrev bit : Bool → ℕ
bit b = cond b 1 0

-- a label that stands once stands there
label_there : (l : ℕ) (xs : List Item) → 1 ≤ count_by (is_label l) xs → has_label l xs ≡ true
label_there l [] h = absurd (omega (arith, h))
label_there l (x ∷ xs) h = in_case (is_label l x) refl (label_there l xs)
  where
    in_case : (b : Bool) → is_label l x ≡ b
        → (1 ≤ count_by (is_label l) xs → has_label l xs ≡ true) → (b || has_label l xs) ≡ true
    in_case true e later = refl
    in_case false e later =
        let one = sum_by-cons (λ y. bit (is_label l y)) x xs in
        let none : bit (is_label l x) ≡ 0 = ap bit e in
        later (omega (arith, one, none, h))

-- an item that is no label is an instruction
instruction_is : (x : Item) (n : ℕ) (to : ℤ) → IsTrue (is_instruction x)
    → (i : Instr) × (instruction n to x ≡ Some i)
instruction_is (Label l) n to is = absurd (cc is)
instruction_is (Op i) n to is = (_, refl)
instruction_is (Const v) n to is = (_, refl)
instruction_is (Jump o l) n to is = (_, refl)
instruction_is (Member o c m d) n to is = (_, refl)
instruction_is (ClassOp o c) n to is = (_, refl)
instruction_is (LockOp o l) n to is = (_, refl)

distance_back : (from to : ℕ) → pos from +ℤ (pos to -ℤ pos from) ≡ pos to
distance_back from to =
    +ℤ_comm (pos from) (pos to -ℤ pos from) ∙ -ℤ-+ℤ_cancel (pos to) (pos from)

-- The laws of placed code that are used: an instruction stands in the bytes from its item's offset
-- on, the walk through the code starts there, and it has a byte.
pub record Bytes (code : Labelled) (indices : List ℕ) (bytes : List ℕ) : Type 0 where
  pub stands : (p : ℕ) (x : Item) (n : ℕ) (i : Instr) → slice_get code.items p ≡ Some x
      → slice_get indices p ≡ Some n
      → instruction n (distance (offset_of code.items indices)
      (offset_at p code.items indices) x) x ≡ Some i
      → Stands bytes (offset_at p code.items indices) i (offset_at (suc p) code.items indices)
  pub starts : (p : ℕ) (x : Item) → slice_get code.items p ≡ Some x
      → IsTrue (is_instruction x) → starts_at bytes (offset_at p code.items indices) ≡ true
  pub some : AllZip (λ x n. IsTrue (is_instruction x) → 1 ≤ size x n) code.items indices

module _ (exc : List Name) (act : Item → Act) (at : ℕ → Sign) (code : Labelled) (first : KFrame)
    (fits : Fits exc act at code first) (pool : List Constant) (attr : CodeAttr)
    (placed : IsPlaced pool code (record attr { attributes = [] })) (ok : IsPlaceable code)
    (real : Instr → Act) (handler_kind : Catch → VKind)
    (means : Means act pool code attr real handler_kind)
    (bytes : Bytes code placed.indices attr.code) where
  abbrev items : List Item
  items = code.items

  abbrev ns : List ℕ
  ns = placed.indices

  abbrev G : ℕ → Option KFrame
  G = given_from at act items ns 0 (Some first)

  abbrev many : ℕ
  many = code.max_locals

  abbrev room : ℕ
  room = code.max_stack

  abbrev Lying : Bool → KFrame → ℕ → Type 0
  Lying exact k o = Lies exc act at many room G exact k o

  long : length items ≡ length ns
  long = zip_length (Names pool) items ns placed.named

  -- ---- each instruction

  -- an instruction that finds this, at an offset
  pub record Found (o : ℕ) (k : KFrame) : Type 0 where
    pub place : ℕ
    pub item : Item
    pub index : ℕ
    pub stands : slice_get items place ≡ Some item
    pub named : slice_get ns place ≡ Some index
    pub is : IsTrue (is_instruction item)
    pub offset : offset_at place items ns ≡ o
    pub guards : List Guard
    pub does : Does exc act at many room item guards k
    pub next : (f : KFrame) → behind_flow (act item).flow (left (act item) k) ≡ Some f
        → Lying false f (o + size item index)

  loose : (b : Bool) (k : KFrame) (o : ℕ) → Lying b k o → Lying false k o
  loose b k o h = record {
    frame = h.frame;
    has = h.has;
    into_ = h.into_;
    same = λ e. absurd (cc e);
  }

  abbrev Sizes : List Item → List ℕ → Type 0
  Sizes xs ms = AllZip (λ x n. IsTrue (is_instruction x) → 1 ≤ size x n) xs ms

  -- what is given at an offset is at an instruction
  found : (xs : List Item) (ms : List ℕ) (p from : ℕ) (guards : List Guard) (m : Option KFrame)
      → length xs ≡ length ms → Sizes xs ms → From items ns xs ms p from
      → Walk exc act at many room xs guards m → Agrees exc act at many room G xs ms from m
      → (o : ℕ) (k : KFrame) → given_from at act xs ms from m o ≡ Some k → Found o k
  found [] ms p from guards m l some f w a o k g = absurd (cc g)
  found (x ∷ xs) [] p from guards m l some f w a o k g = absurd (cc g)
  found (x ∷ xs) (n ∷ ms) p from guards m l some f w a o k g =
      split
      (λ y. (IsTrue (is_instruction y) → 1 ≤ size y n) → From items ns (y ∷ xs) (n ∷ ms) p from
      → Walk exc act at many room (y ∷ xs) guards m
      → Agrees exc act at many room G (y ∷ xs) (n ∷ ms) from m
      → given_from at act (y ∷ xs) (n ∷ ms) from m o ≡ Some k → Found o k)
      (λ j some' v t b e.
      found xs ms (suc p) from (opened (at j).role guards) (behind_label (at j).frame m)
      (omega (arith, l)) some.1
      (free j xs n ms p from v)
      (label_walks exc act at many room j xs guards m t).2 b o k e)
      (λ y is some' v t b e. item y is m (some' is) v t b
      (sym (given_step exc act at many room y is xs n ms from m o) ∙ e)
      (λ u c e'. found xs ms (suc p) (from + size y n) guards _ (omega (arith, l)) some.1
      (past items ns y xs n ms p from v) u c o k e'))
      x some.0 f w a g
    where
      free : (j : ℕ) (xs : List Item) (n : ℕ) (ms : List ℕ) (p from : ℕ)
          → From items ns (Label j ∷ xs) (n ∷ ms) p from → From items ns xs ms (suc p) from
      free j xs n ms p from f =
          let r = past items ns (Label j) xs n ms p from f in
          record {
            xs_are = r.xs_are;
            ms_are = r.ms_are;
            offset = let e = r.offset in omega (arith, e);
          }

      in_case : (y : Item) → IsTrue (is_instruction y) → (f : KFrame) → 1 ≤ size y n
          → From items ns (y ∷ xs) (n ∷ ms) p from
          → Walk exc act at many room (y ∷ xs) guards (Some f)
          → Agrees exc act at many room G (y ∷ xs) (n ∷ ms) from (Some f) → (b : Bool)
          → (from == o) ≡ b
          → (if b then Some f
          else given_from at act xs ms (from + size y n) (behind_act (act y) (Some f)) o) ≡ Some k
          → (Walk exc act at many room xs guards (behind_act (act y) (Some f))
          → Agrees exc act at many room G xs ms (from + size y n) (behind_act (act y) (Some f))
          → given_from at act xs ms (from + size y n) (behind_act (act y) (Some f)) o ≡ Some k
          → Found o k) → Found o k
      in_case y is f some' v t b true eq e rest =
          let same : from ≡ o = eqb-true from o eq in
          let z : f ≡ k = cc e in
          let d = walks_does exc act at many room y is xs guards f t in
          let c = agrees_next exc act at many room G y is xs n ms from (Some f) some' b in
          subst (λ (q : ℕ). Found q k) same
          (subst (λ (h : KFrame). Found from h) z
          (record {
            place = p;
            item = y;
            index = n;
            stands = let q : 0 + p ≡ p = omega arith in
                subst (λ (r : ℕ). slice_get items r ≡ Some y) q (v.xs_are 0);
            named = let q : 0 + p ≡ p = omega arith in
                subst (λ (r : ℕ). slice_get ns r ≡ Some n) q (v.ms_are 0);
            is = is;
            offset = v.offset;
            guards = guards;
            does = d.0;
            next = λ g lies.
                loose (is_there xs) g (from + size y n)
                (arrives exc act at many room G xs ms (from + size y n) guards g
                (omega (arith, l))
                (subst (λ (r : Option KFrame). Walk exc act at many room xs guards r) lies d.1)
                (subst (λ (r : Option KFrame).
                Agrees exc act at many room G xs ms (from + size y n) r) lies c));
          }))
      in_case y is f some' v t b false eq e rest =
          rest (walks_does exc act at many room y is xs guards f t).1
          (agrees_next exc act at many room G y is xs n ms from (Some f) some' b) e

      item : (y : Item) → IsTrue (is_instruction y) → (m : Option KFrame) → 1 ≤ size y n
          → From items ns (y ∷ xs) (n ∷ ms) p from → Walk exc act at many room (y ∷ xs) guards m
          → Agrees exc act at many room G (y ∷ xs) (n ∷ ms) from m
          → (if from == o then m
          else given_from at act xs ms (from + size y n) (behind_act (act y) m) o) ≡ Some k
          → (Walk exc act at many room xs guards (behind_act (act y) m)
          → Agrees exc act at many room G xs ms (from + size y n) (behind_act (act y) m)
          → given_from at act xs ms (from + size y n) (behind_act (act y) m) o ≡ Some k
          → Found o k) → Found o k
      item y is None some' v t b e rest =
          absurd (walks_none exc act at many room y is xs guards t)
      item y is (Some f) some' v t b e rest = in_case y is f some' v t b (from == o) refl e rest

  -- ---- where branches go

  -- a frame goes on where a label stands
  to_label : (l : ℕ) (k : KFrame) → StandsOnce items l → Onto exc act at many room k (at l).frame
      → (o : ℕ) → GoesTo exc real handler_kind attr G k
      (pos o +ℤ (pos (offset_of items ns l) -ℤ pos o))
  to_label l k once onto o = by (at l).frame refl onto
    where
      by : (f : Option KFrame) → (at l).frame ≡ f → Onto exc act at many room k f
          → GoesTo exc real handler_kind attr G k
          (pos o +ℤ (pos (offset_of items ns l) -ℤ pos o))
      by None is h = absurd h
      by (Some f) is h =
          let r = at_label exc act at many room G l f is items ns 0 [] (Some first) long bytes.some
          fits.walks (λ o le. refl) (label_there l items (omega (arith, once))) in
          record {
            at = offset_of items ns l;
            is = distance_back o (offset_of items ns l);
            frame = r.frame;
            has = let z : 0 + offset_of items ns l ≡ offset_of items ns l = omega arith in
                subst (λ (q : ℕ). G q ≡ Some r.frame) z r.has;
            fits = frame-then exc k f r.frame h r.into_;
          }

  to_goal : (x : Item) (k : KFrame) (o : ℕ) → HasTarget items x
      → To exc act at many room k (goal x)
      → GoesTo exc real handler_kind attr G k
      (pos o +ℤ distance (offset_of items ns) o x)
  to_goal (Label l) k o t h = absurd h
  to_goal (Op i) k o t h = absurd h
  to_goal (Const v) k o t h = absurd h
  to_goal (Jump p l) k o t h = to_label l k t h o
  to_goal (Member p c n d) k o t h = absurd h
  to_goal (ClassOp p c) k o t h = absurd h
  to_goal (LockOp p l) k o t h = absurd h

  onward : (o s : ℕ) (k : KFrame) → Lying false k (o + s)
      → GoesTo exc real handler_kind attr G k (pos (o + s))
  onward o s k h =
      record { at = o + s; is = refl; frame = h.frame; has = h.has; fits = h.into_ }

  goes : (f : Flow) (x : Item) (k : KFrame) (o s : ℕ) → HasTarget items x
      → Branching exc act at many room f x k
      → ((g : KFrame) → behind_flow f k ≡ Some g → Lying false g (o + s))
      → Each (GoesTo exc real handler_kind attr G k)
      (next_offsets (aim (distance (offset_of items ns) o x) f) o s)
  goes Onward x k o s t b next = (onward o s k (next k refl), tt)
  goes (Jumps to) x k o s t b next = (to_goal x k o t b, tt)
  goes (Branches to) x k o s t b next = (onward o s k (next k refl), (to_goal x k o t b, tt))
  goes Nowhere x k o s t b next = tt

  -- ---- where exceptions go

  caught : (h : Handler) (c : Catch) → handler_kind c ≡ AnObject h.class
      → (o : ℕ) (k : KFrame) → G o ≡ Some k
      → IsCatch pool (offset_of items ns) h c → IsHandled exc act at many room h
      → FitsHandler items h → around o c ≡ true
      → CatchFits exc real handler_kind attr G k c
  caught h c kind o k g is d f inside_ =
      let parts = and_parts (nat_le c.start o) (nat_lt o c.end) inside_ in
      let low = leb-true c.start o parts.0 in
      let high = ltb-true o c.end parts.1 in
      let begin_is = is.start in
      let end_is = is.end in
      let locals =
      stays_within exc act at many room h.from h.to d.range d.opens (offset_of items ns h.from)
      (offset_of items ns h.to) items ns 0 [] (Some first) bytes.some fits.walks
      (before (omega arith) (omega arith)) o k g (omega (arith, low, begin_is))
      (omega (arith, high, end_is)) in
      let r = at_label exc act at many room G h.goes d.frame d.has items ns 0 [] (Some first) long
      bytes.some fits.walks (λ o le. refl)
      (label_there h.goes items (let one = f.goes_once in omega (arith, one))) in
      let same : r.frame ≡ d.frame = r.same (ap (catches exc act at many room G) d.catches) in
      record {
        frame = d.frame;
        has = let z : 0 + offset_of items ns h.goes ≡ c.handler = omega (arith, is.handler) in
            subst (λ (q : ℕ). G q ≡ Some d.frame) z (r.has ∙ ap Some same);
        locals = below-then exc k.locals d.range d.frame.locals locals d.locals;
        stack = d.operand ∙ ap (λ (v : VKind). v ∷ []) (sym kind);
      }

  all_caught : (hs : List Handler) (cs : List Catch) (o : ℕ) (k : KFrame) → G o ≡ Some k
      → AllZip (λ (h : Handler) (c : Catch). handler_kind c ≡ AnObject h.class) hs cs
      → AllZip (IsCatch pool (offset_of items ns)) hs cs
      → AllByRecursion (IsHandled exc act at many room) hs → All (FitsHandler items) hs
      → Each (λ c. around o c ≡ true → CatchFits exc real handler_kind attr G k c) cs
  all_caught [] [] o k g kinds is d f = tt
  all_caught [] (c ∷ cs) o k g kinds is d f = absurd is
  all_caught (h ∷ hs) [] o k g kinds is d f = absurd is
  all_caught (h ∷ hs) (c ∷ cs) o k g kinds is d f = (
    caught h c kinds.0 o k g is.0 d.0 (All-head (FitsHandler items) h hs f),
    all_caught hs cs o k g kinds.1 is.1 d.1 (All-tail (FitsHandler items) h hs f),
  )

  -- ---- all of it

  refits : (a : Act) (to : ℤ) (k : KFrame) → ActFits exc a k → ActFits exc (aimed to a) k
  refits a to k f = record { right = f.right; takes = f.takes; also = f.also }

  fits_at : (o : ℕ) (k : KFrame) → G o ≡ Some k → FitsAt exc real handler_kind attr G o k
  fits_at o k g =
      let r = found items ns 0 0 [] (Some first) long bytes.some
      (record {
        xs_are = λ j. let e : j + 0 ≡ j = omega arith in ap (slice_get items) e;
        ms_are = λ j. let e : j + 0 ≡ j = omega arith in ap (slice_get ns) e;
        offset = refl;
      })
      fits.walks (λ o le. refl) o k g in
      let x = r.item in
      let n = r.index in
      let to = distance (offset_of items ns) o x in
      let any = instruction_is x n to r.is in
      let i = any.0 in
      let a = act x in
      let means_ : real i ≡ aimed to a =
      means.acts x n to i (zip_at (Names pool) items ns r.place x n placed.named r.stands r.named)
      (all_at FitsItem items r.place x ok.items r.stands) any.1 in
      let stands = bytes.stands r.place x n i r.stands r.named
      (ap (λ (q : ℕ). instruction n (distance (offset_of items ns) q x) x) r.offset ∙ any.1) in
      let s = offset_at (suc r.place) items ns - offset_at r.place items ns in
      let size_is : s ≡ size x n =
      (let e = offset_next r.place items ns x n r.stands r.named in omega (arith, e)) in
      let target = all_at (HasTarget items) items r.place x ok.targets r.stands in
      record {
        locals = r.does.locals ∙ sym placed.max_locals;
        room = subst (λ (q : ℕ). length k.stack ≤ q) (sym placed.max_stack) r.does.few;
        starts = subst (λ (q : ℕ). starts_at attr.code q ≡ true) r.offset
            (bytes.starts r.place x r.stands r.is);
        does = record { instr = i; size = s };
        found = subst (λ (q : ℕ). decoded_at attr.code q ≡ Some (record { instr = i; size = s }))
            r.offset
            (decoded_at-stands attr.code (offset_at r.place items ns) i
            (offset_at (suc r.place) items ns) stands);
        fits = subst (λ (b : Act). ActFits exc b k) (sym means_) (refits a to k r.does.fits);
        goes = subst (λ (b : Act). Each (GoesTo exc real handler_kind attr G
            (left_by b.leaves (length b.takes) k)) (next_offsets b.flow o s)) (sym means_)
            (subst (λ (q : ℕ). Each (GoesTo exc real handler_kind attr G (left a k))
            (next_offsets (aim to a.flow) o q)) (sym size_is)
            (goes a.flow x (left a k) o (size x n) target r.does.goes r.next));
        caught = all_caught code.handlers attr.catches o k g means.catches placed.catches
            fits.handled ok.handlers;
      }

  pub fitting : Fitting exc real handler_kind attr G first
  fitting = record {
    begins =
        lands_given exc act at many room G items ns 0 long [] first fits.walks (λ o le. refl)
        ∙ fits.begins;
    each = fits_at;
  }
