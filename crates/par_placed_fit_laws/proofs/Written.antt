-- The frames that are written of placed code are those that are given where they stand.
use Rattle.std.proofs.Common.{◌≡◌, ℕ, suc, ◌+◌, ◌≤◌, Bool, true, false, List, [], ◌∷◌, ◌++◌}
use Rattle.std.proofs.Common.{Option, Some, None, length, refl, sym, ap, subst, ◌∙◌, arith}
use Rattle.std.specs.Prelude.{◌==◌, if◌then◌else◌, IsTrue, All}
use Rattle.std.specs.List.{slice_get, AllByRecursion, AllZip, flat_map}
use Rattle.std.proofs.lemmas.Bool.{eqb-true}
use Rattle.std.proofs.lemmas.List.Elements.{All-head, All-tail}
use Rattle.par_values.specs.Areas.{Name}
use Rattle.par_code_form.specs.declared.item.Item.{Item}
use Rattle.par_code_form.specs.declared.item.Item.TheVariants.{Label, Op, Const, Jump, Member}
use Rattle.par_code_form.specs.declared.item.Item.TheVariants.{ClassOp, LockOp}
use Rattle.par_code_form.specs.declared.labelled.LabelFrame.{LabelFrame}
use Rattle.par_code_form.specs.Instructions.{is_instruction}
use Rattle.par_code_form.specs.PoolNames.{Names}
use Rattle.par_code_form.specs.Placed.{size, offset_of}
use Rattle.par_code_form.specs.Placeable.{StandsOnce}
use Rattle.par_code_form.specs.PlaceableFrames.{FitsFrame}
use Rattle.par_place.proofs.Sizes.{offset_is}
use Rattle.par_kinds.specs.declared.frame.PlacedFrame.{PlacedFrame}
use Rattle.par_kinds.specs.Kinds.{KFrame}
use Rattle.par_kinds.specs.Acts.{Act}
use Rattle.par_compile_laws.specs.Framed.{placed, placed_at, frame_at, frame_of}
use Rattle.par_compile_laws.specs.Framed.{before, last_ones}
use Rattle.par_placed_fit_laws.specs.Walks.{Sign, Guard, behind_label, opened, lands}
use Rattle.par_placed_fit_laws.specs.Fits.{kinds_at}
use Rattle.par_placed_fit_laws.specs.Given.{behind_act, given_from}
use Rattle.par_placed_fit_laws.specs.Laws.{IsGivenAt, WrittenFramesAreGiven}
use Rattle.par_placed_fit_laws.proofs.Along.{Walk, Agrees, self, split, label_walks, walks_does}
use Rattle.par_placed_fit_laws.proofs.Along.{walks_none, agrees_next}
use Rattle.par_placed_fit_laws.proofs.Lands.{From, past, lands_here, lands_given}
use Rattle.par_placed_fit_laws.proofs.Placing.{sizes}
use Rattle.par_placed_fit_laws.proofs.Whole.{zip_length}

-- whether the first of some frames stands at an offset
abbrev stands_first : List PlacedFrame → ℕ → Bool
stands_first [] at = false
stands_first (f ∷ fs) at = f.offset == at

-- the first of a frame and others has its offset
first_before : (f : PlacedFrame) (gs : List PlacedFrame)
    → stands_first (before f gs) f.offset ≡ true
first_before f [] = self f.offset
first_before f (g ∷ gs) = in_case (f.offset == g.offset) refl
  where
    in_case : (b : Bool) → (f.offset == g.offset) ≡ b
        → stands_first (if b then g ∷ gs else f ∷ g ∷ gs) f.offset ≡ true
    in_case true is =
        subst (λ (o : ℕ). (g.offset == o) ≡ true) (sym (eqb-true f.offset g.offset is))
        (self g.offset)
    in_case false is = self f.offset

-- what holds of a frame that is kept and of others holds of all
put : (P : PlacedFrame → Type 0) (f : PlacedFrame) (gs : List PlacedFrame) → AllByRecursion P gs
    → (stands_first gs f.offset ≡ false → P f) → AllByRecursion P (before f gs)
put P f [] all h = (h refl, tt)
put P f (g ∷ gs) all h = in_case (f.offset == g.offset) refl
  where
    other : (b : Bool) → (f.offset == g.offset) ≡ false → (g.offset == f.offset) ≡ b → b ≡ false
    other false is back = refl
    other true is back =
        absurd (cc (sym is ∙ subst (λ (o : ℕ). (f.offset == o) ≡ true)
        (sym (eqb-true g.offset f.offset back)) (self f.offset)))

    in_case : (b : Bool) → (f.offset == g.offset) ≡ b
        → AllByRecursion P (if b then g ∷ gs else f ∷ g ∷ gs)
    in_case true is = all
    in_case false is = (h (other (g.offset == f.offset) is refl), all)

module _ (exc : List Name) (act : Item → Act) (at : ℕ → Sign) (many room : ℕ)
    (G : ℕ → Option KFrame) (items : List Item) (ns : List ℕ) (frames : List LabelFrame)
    (long : length items ≡ length ns)
    (framed : (l : ℕ) (f : LabelFrame) → frame_at frames l ≡ Some f
    → (at l).frame ≡ Some (kinds_at f))
    (unframed : (l : ℕ) → frame_at frames l ≡ None → (at l).frame ≡ None)
    (once : (l : ℕ) (f : LabelFrame) → frame_at frames l ≡ Some f → StandsOnce items l) where
  abbrev offset : ℕ → ℕ
  offset = offset_of items ns

  -- the frames that are written of some of the items
  abbrev listed : List Item → List PlacedFrame
  listed xs = last_ones (flat_map (frame_of offset frames) xs)

  listed_past : (y : Item) → IsTrue (is_instruction y) → (xs : List Item)
      → listed (y ∷ xs) ≡ listed xs
  listed_past (Label l) is xs = absurd (cc is)
  listed_past (Op i) is xs = refl
  listed_past (Const v) is xs = refl
  listed_past (Jump o l) is xs = refl
  listed_past (Member o c n d) is xs = refl
  listed_past (ClassOp o c) is xs = refl
  listed_past (LockOp o l) is xs = refl

  listed_by : (l : ℕ) (xs : List Item) (o : Option LabelFrame) → frame_at frames l ≡ o
      → listed (Label l ∷ xs)
      ≡ last_ones (placed_at (offset l) o ++ flat_map (frame_of offset frames) xs)
  listed_by l xs o is =
      ap (λ (f : Option LabelFrame).
      last_ones (placed_at (offset l) f ++ flat_map (frame_of offset frames) xs)) is

  -- a label with a frame has the offset at which it stands
  offset_here : (l : ℕ) (xs : List Item) (m : ℕ) (ms : List ℕ) (p from : ℕ) (f : LabelFrame)
      → frame_at frames l ≡ Some f → From items ns (Label l ∷ xs) (m ∷ ms) p from
      → offset l ≡ from
  offset_here l xs m ms p from f is v =
      let e : 0 + p ≡ p = omega arith in
      let stands = subst (λ (q : ℕ). slice_get items q ≡ Some (Label l)) e (v.xs_are 0) in
      offset_is l p items ns stands long (once l f is) ∙ v.offset

  free : (j : ℕ) (xs : List Item) (n : ℕ) (ms : List ℕ) (p from : ℕ)
      → From items ns (Label j ∷ xs) (n ∷ ms) p from → From items ns xs ms (suc p) from
  free j xs n ms p from f =
      let r = past items ns (Label j) xs n ms p from f in
      record {
        xs_are = r.xs_are;
        ms_are = r.ms_are;
        offset = let e = r.offset in omega (arith, e);
      }

  lands_label : (j : ℕ) (xs : List Item) (m : Option KFrame)
      → lands at (Label j ∷ xs) m ≡ lands at xs (behind_label (at j).frame m)
  unfolding lands
  lands_label j xs m = refl

  -- where no frame is written of an offset, its labels change nothing
  nothing_lands : (xs : List Item) (ms : List ℕ) (p from : ℕ) → length xs ≡ length ms
      → From items ns xs ms p from → stands_first (listed xs) from ≡ false
      → (m : Option KFrame) → lands at xs m ≡ m
  unfolding lands
  nothing_lands [] ms p from l v none m = refl
  nothing_lands (x ∷ xs) [] p from l v none m = absurd (omega (arith, l))
  nothing_lands (x ∷ xs) (n ∷ ms) p from l v none m =
      split
      (λ y. From items ns (y ∷ xs) (n ∷ ms) p from → stands_first (listed (y ∷ xs)) from ≡ false
      → lands at (y ∷ xs) m ≡ m)
      (λ j u h. label j (frame_at frames j) refl u h
      (λ u' h'. nothing_lands xs ms (suc p) from (omega (arith, l)) u' h' m))
      (λ y is u h. lands_here exc act at many room G y is xs m)
      x v none
    where
      label : (j : ℕ) (o : Option LabelFrame) → frame_at frames j ≡ o
          → From items ns (Label j ∷ xs) (n ∷ ms) p from
          → stands_first (listed (Label j ∷ xs)) from ≡ false
          → (From items ns xs ms (suc p) from → stands_first (listed xs) from ≡ false
          → lands at xs m ≡ m)
          → lands at (Label j ∷ xs) m ≡ m
      label j None is u h later =
          lands_label j xs m
          ∙ ap (λ (f : Option KFrame). lands at xs (behind_label f m)) (unframed j is)
          ∙ later (free j xs n ms p from u)
          (ap (λ (fs : List PlacedFrame). stands_first fs from) (sym (listed_by j xs None is)) ∙ h)
      label j (Some f) is u h later =
          let here = offset_here j xs n ms p from f is u in
          let first =
          subst (λ (o : ℕ). stands_first (before (placed (offset j) f) (listed xs)) o ≡ true) here
          (first_before (placed (offset j) f) (listed xs)) in
          absurd (cc (sym first
          ∙ ap (λ (fs : List PlacedFrame). stands_first fs from)
          (sym (listed_by j xs (Some f) is)) ∙ h))

  abbrev Sizes : List Item → List ℕ → Type 0
  Sizes xs ms = AllZip (λ x n. IsTrue (is_instruction x) → 1 ≤ size x n) xs ms

  abbrev AreGiven : List PlacedFrame → Type 0
  AreGiven fs = AllByRecursion (IsGivenAt G) fs

  listed_given : (xs : List Item) (ms : List ℕ) (p from : ℕ) (guards : List Guard)
      (m : Option KFrame) → length xs ≡ length ms → Sizes xs ms → From items ns xs ms p from
      → Walk exc act at many room xs guards m → Agrees exc act at many room G xs ms from m
      → AreGiven (listed xs)
  listed_given [] ms p from guards m l some v w a = tt
  listed_given (x ∷ xs) [] p from guards m l some v w a = absurd (omega (arith, l))
  listed_given (x ∷ xs) (n ∷ ms) p from guards m l some v w a =
      split
      (λ y. (IsTrue (is_instruction y) → 1 ≤ size y n) → From items ns (y ∷ xs) (n ∷ ms) p from
      → Walk exc act at many room (y ∷ xs) guards m
      → Agrees exc act at many room G (y ∷ xs) (n ∷ ms) from m → AreGiven (listed (y ∷ xs)))
      (λ j some' u t b. label j (frame_at frames j) refl u
      (label_walks exc act at many room j xs guards m t).2 b
      (listed_given xs ms (suc p) from (opened (at j).role guards) (behind_label (at j).frame m)
      (omega (arith, l)) some.1))
      (λ y is some' u t b. subst AreGiven (sym (listed_past y is xs))
      (instruction y is m (some' is) u t b
      (λ k. listed_given xs ms (suc p) (from + size y n) guards k (omega (arith, l)) some.1)))
      x some.0 v w a
    where
      label : (j : ℕ) (o : Option LabelFrame) → frame_at frames j ≡ o
          → From items ns (Label j ∷ xs) (n ∷ ms) p from
          → Walk exc act at many room xs (opened (at j).role guards)
          (behind_label (at j).frame m)
          → Agrees exc act at many room G xs ms from (behind_label (at j).frame m)
          → (From items ns xs ms (suc p) from
          → Walk exc act at many room xs (opened (at j).role guards)
          (behind_label (at j).frame m)
          → Agrees exc act at many room G xs ms from (behind_label (at j).frame m)
          → AreGiven (listed xs))
          → AreGiven (listed (Label j ∷ xs))
      label j None is u t b later =
          subst AreGiven (sym (listed_by j xs None is)) (later (free j xs n ms p from u) t b)
      label j (Some f) is u t b later =
          let here = offset_here j xs n ms p from f is u in
          let next = free j xs n ms p from u in
          let more : length xs ≡ length ms = omega (arith, l) in
          let lies = framed j f is in
          subst AreGiven (sym (listed_by j xs (Some f) is))
          (put (IsGivenAt G) (placed (offset j) f) (listed xs) (later next t b)
          (λ none.
          ap G here
          ∙ lands_given exc act at many room G xs ms from more (opened (at j).role guards)
          (kinds_at f)
          (subst (λ (k : Option KFrame). Walk exc act at many room xs (opened (at j).role guards)
          (behind_label k m)) lies t)
          (subst (λ (k : Option KFrame).
          Agrees exc act at many room G xs ms from (behind_label k m)) lies b)
          ∙ nothing_lands xs ms (suc p) from more next
          (ap (stands_first (listed xs)) (sym here) ∙ none) (Some (kinds_at f))))

      instruction : (y : Item) → IsTrue (is_instruction y) → (k : Option KFrame) → 1 ≤ size y n
          → From items ns (y ∷ xs) (n ∷ ms) p from → Walk exc act at many room (y ∷ xs) guards k
          → Agrees exc act at many room G (y ∷ xs) (n ∷ ms) from k
          → ((g : Option KFrame) → From items ns xs ms (suc p) (from + size y n)
          → Walk exc act at many room xs guards g
          → Agrees exc act at many room G xs ms (from + size y n) g → AreGiven (listed xs))
          → AreGiven (listed xs)
      instruction y is None some' u t b later =
          absurd (walks_none exc act at many room y is xs guards t)
      instruction y is (Some k) some' u t b later =
          later (behind_act (act y) (Some k)) (past items ns y xs n ms p from u)
          (walks_does exc act at many room y is xs guards k t).1
          (agrees_next exc act at many room G y is xs n ms from (Some k) some' b)

-- ---- of a method

-- the first frame of a label is one of all
frame_there : (P : LabelFrame → Type 0) (fs : List LabelFrame) (l : ℕ) (f : LabelFrame)
    → AllByRecursion P fs → frame_at fs l ≡ Some f → (f.label ≡ l) × P f
frame_there P [] l f all is = absurd (cc is)
frame_there P (g ∷ fs) l f all is =
    in_case (g.label == l) refl is (frame_there P fs l f all.1)
  where
    in_case : (b : Bool) → (g.label == l) ≡ b → (if b then Some g else frame_at fs l) ≡ Some f
        → (frame_at fs l ≡ Some f → (f.label ≡ l) × P f) → (f.label ≡ l) × P f
    in_case true eq e later =
        let same : g ≡ f = cc e in
        subst (λ (h : LabelFrame). (h.label ≡ l) × P h) same (eqb-true g.label l eq, all.0)
    in_case false eq e later = later e

by_recursion : {A : Type 0} (P : A → Type 0) (xs : List A) → All P xs → AllByRecursion P xs
by_recursion P [] all = tt
by_recursion P (x ∷ xs) all = (All-head P x xs all, by_recursion P xs (All-tail P x xs all))

pub written_frames_are_given : WrittenFramesAreGiven
written_frames_are_given exc act at code first fits pool attr is ok frames_ok =
    let items = code.items in
    let ns = is.indices in
    let long : length items ≡ length ns = zip_length (Names pool) items ns is.named in
    let fit = by_recursion (FitsFrame code) code.frames frames_ok.fit in
    listed_given exc act at code.max_locals code.max_stack
    (given_from at act items ns 0 (Some first)) items ns code.frames long
    (λ l f has.
    let r =
    frame_there (λ g. (at g.label).frame ≡ Some (kinds_at g)) code.frames l f fits.framed has in
    ap (λ (n : ℕ). (at n).frame) (sym r.0) ∙ r.1)
    fits.unframed
    (λ l f has. let r = frame_there (FitsFrame code) code.frames l f fit has in
    subst (StandsOnce items) r.0 r.1.once)
    items ns 0 0 [] (Some first) long (sizes items ns long ok.items)
    (record {
      xs_are = λ j. let e : j + 0 ≡ j = omega arith in ap (slice_get items) e;
      ms_are = λ j. let e : j + 0 ≡ j = omega arith in ap (slice_get ns) e;
      offset = refl;
    })
    fits.walks (λ o le. refl)
