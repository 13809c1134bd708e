-- A way that is landed in a table that is kept.
use Rattle.std.proofs.Common.{◌≡◌, ℕ, ℤ, suc, pos, negsuc, ◌==◌, ⊎_elim, Bool}
use Rattle.std.proofs.Common.{true, false, not, ◌&&◌, ◌||◌, cond, List, [], ◌∷◌, length, set}
use Rattle.std.proofs.Common.{is_some, Some, None, Option, Ok, refl, sym, ap, subst, ◌∙◌}
use Rattle.std.proofs.Common.{arith, ◌<◌, length-set}
use Rattle.std.specs.Prelude.{nat_le}
use Rattle.std.proofs.lemmas.Bool.{eqb-true, eq-eqb, le-leb}
use Rattle.par_instr.specs.declared.instr.Instr.{Instr}
use Rattle.par_class.specs.declared.file.Catch.{Catch}
use Rattle.par_class.specs.declared.file.CodeAttr.{CodeAttr}
use Rattle.par_values.specs.Areas.{Name}
use Rattle.par_single.specs.Walk.{starts_at}
use Rattle.par_frame_moves.specs.par_kinds.declared.frame.VKind.{VKind}
use Rattle.par_frame_moves.specs.par_kinds.Kinds.{KFrame, Both, Into, FrameInto, Each}
use Rattle.par_frame_moves.specs.par_kinds.Acts.{Act}
use Rattle.par_frame_moves.specs.par_kinds.Fits.{Given}
use Rattle.par_frame_moves.proofs.par_kinds.Lists.{both-length}
use Rattle.par_kinds.specs.Passes.{Table, frame_at, Way, Step, landed, landed_at}
use Rattle.par_kinds.specs.Passes.{land_to, land}
use Rattle.par_kinds.specs.Passes.{all_into, frame_into, merge_all, merge_frames}
use Rattle.par_kinds.specs.Passes.{same_lengths}
use Rattle.par_kinds.specs.Passes.{is_sized}
use Rattle.par_kinds.proofs.Lower.{all-below, below-all, below-both, frame-below}
use Rattle.par_kinds.proofs.Lower.{below-frame}
use Rattle.par_kinds.proofs.Lower.{frame-least, all_both, both_all, below-same}
use Rattle.par_kinds.proofs.Ending.{starts-within}
use Rattle.par_frame_passes.specs.Sweeps.{Calm, Fits, Met, Meets, Kept, Went}
use Rattle.par_frame_passes.specs.Tables.{NewAt}
use Rattle.par_frame_passes.specs.declared.course.Course.{Course}
use Rattle.par_frame_passes.specs.declared.course.Course.TheVariants as course
use Rattle.par_frame_passes.proofs.Tabled.{put-there, put-others, put-found}

not-true : (b : Bool) → not b ≡ false → b ≡ true
not-true true e = refl
not-true false e = absurd (cc e)

neither : (a b : Bool) → (a || b) ≡ false → (a ≡ false) × (b ≡ false)
neither false b e = (refl, e)
neither true b e = absurd (cc e)

some-there : {A : Type 0} (o : Option A) → is_some o ≡ true → (x : A) × (o ≡ Some x)
some-there None is = absurd (cc is)
some-there (Some x) is = (x, refl)

pub frame-same : (exc : List Name) (k : KFrame) → FrameInto exc k k
frame-same exc k = record { locals = below-same exc k.locals; stack = below-same exc k.stack }

merged-many : (exc : List Name) (ks ls : List VKind) → length ks ≡ length ls
    → length (merge_all exc ks ls) ≡ length ls
merged-many exc [] [] same = refl
merged-many exc [] (l ∷ ls) same = absurd (omega (arith, same))
merged-many exc (k ∷ ks) [] same = absurd (omega (arith, same))
merged-many exc (k ∷ ks) (l ∷ ls) same =
    ap suc (merged-many exc ks ls (omega (arith, same)))

module _ (exc : List Name) (act : Instr → Act) (handler_kind : Catch → VKind) (code : CodeAttr)
    (start : Given) where
  abbrev Land : Table → Way → Option Step
  Land t w = land exc act handler_kind code start t w

  -- the steps that a landing can be
  data Case (t : Table) (w : Way) (s : Step) : Type 0 where
    Stays : (at : ℕ) (l : KFrame) → w.to ≡ pos at → frame_at t at ≡ Some l
        → FrameInto exc w.frame l → (w.exact ≡ true → l.stack ≡ w.frame.stack)
        → s ≡ record { table = t; rose = false } → Case t w s
    Begins : (at : ℕ) → w.to ≡ pos at → frame_at t at ≡ None → is_sized code at w.frame ≡ true
        → s ≡ record { table = set t at (Some w.frame); rose = true } → Case t w s
    Rises : (at : ℕ) (l : KFrame) → w.to ≡ pos at → frame_at t at ≡ Some l
        → is_some (start at) ≡ false → same_lengths w.frame l ≡ true
        → s ≡ record { table = set t at (Some (merge_frames exc w.frame l)); rose = true }
        → Case t w s

  kept-case : (t : Table) (at : ℕ) (w : Way) (l : KFrame) (s : Step) → w.to ≡ pos at
      → frame_at t at ≡ Some l → landed exc act handler_kind code start t at w l ≡ Some s
      → Case t w s
  unfolding landed
  kept-case t at w l s to is =
      tests w.exact refl (all_into exc l.stack w.frame.stack) refl (frame_into exc w.frame l) refl
      (is_some (start at) || not (same_lengths w.frame l)) refl
    where
      raised : Step
      raised = record { table = set t at (Some (merge_frames exc w.frame l)); rose = true }

      still : Step
      still = record { table = t; rose = false }

      lies : (x y : Bool) → w.exact ≡ x → all_into exc l.stack w.frame.stack ≡ y
          → (x && not y) ≡ false → frame_into exc w.frame l ≡ true → w.exact ≡ true
          → l.stack ≡ w.frame.stack
      lies x y ex al test below e =
          below-both exc l.stack w.frame.stack
          (all-below exc l.stack w.frame.stack
          (al ∙ not-true y (sym (ap (λ b. b && not y) (sym ex ∙ e)) ∙ test)))
          (frame-below exc w.frame l below).stack

      tests : (x : Bool) → w.exact ≡ x → (y : Bool) → all_into exc l.stack w.frame.stack ≡ y
          → (b : Bool) → frame_into exc w.frame l ≡ b → (c : Bool)
          → (is_some (start at) || not (same_lengths w.frame l)) ≡ c
          → cond (x && not y) None (cond b (Some still) (cond c None (Some raised))) ≡ Some s
          → Case t w s
      tests true ex false al b fr c free e = absurd (cc e)
      tests true ex true al true fr c free e =
          let same : still ≡ s = cc e in
          Stays at l to is (frame-below exc w.frame l fr) (lies true true ex al refl fr) (sym same)
      tests false ex y al true fr c free e =
          let same : still ≡ s = cc e in
          Stays at l to is (frame-below exc w.frame l fr) (lies false y ex al refl fr) (sym same)
      tests true ex true al false fr true free e = absurd (cc e)
      tests false ex y al false fr true free e = absurd (cc e)
      tests true ex true al false fr false free e =
          let same : raised ≡ s = cc e in
          let both = neither (is_some (start at)) (not (same_lengths w.frame l)) free in
          Rises at l to is both.0 (not-true (same_lengths w.frame l) both.1) (sym same)
      tests false ex y al false fr false free e =
          let same : raised ≡ s = cc e in
          let both = neither (is_some (start at)) (not (same_lengths w.frame l)) free in
          Rises at l to is both.0 (not-true (same_lengths w.frame l) both.1) (sym same)

  land-case : (t : Table) (w : Way) (s : Step) → Land t w ≡ Some s → Case t w s
  land-case t w s = in_to w.to refl where
    new : (at : ℕ) → w.to ≡ pos at → frame_at t at ≡ None → (b : Bool)
        → is_sized code at w.frame ≡ b
        → cond b (Some (record { table = set t at (Some w.frame); rose = true })) None ≡ Some s
        → Case t w s
    new at to none true sized e =
        let same : record { table = set t at (Some w.frame); rose = true } ≡ s = cc e in
        Begins at to none sized (sym same)
    new at to none false sized e = absurd (cc e)

    in_at : (at : ℕ) → w.to ≡ pos at → (o : Option KFrame) → frame_at t at ≡ o
        → landed_at exc act handler_kind code start t at w o ≡ Some s → Case t w s
    in_at at to (Some l) is = kept-case t at w l s to is
    in_at at to None is = new at to is (is_sized code at w.frame) refl

    in_to : (z : ℤ) → w.to ≡ z → land_to exc act handler_kind code start t w z ≡ Some s → Case t w s
    in_to (pos at) to = in_at at to (frame_at t at) refl
    in_to (negsuc n) to = λ e. absurd (cc e)

  -- ---- frames that fit stay above

  module _ (u : Given) (fit : Fits exc act handler_kind code start u) (t : Table)
      (kept : Kept exc act handler_kind code start t) (w : Way)
      (m : Met exc act handler_kind code start u w) where
    new-lands : frame_at t m.at ≡ None
        → landed_at exc act handler_kind code start t m.at w None ≡ None → ⊥
    new-lands none refused =
        let there = (fit.fitting).each m.at m.frame m.has in
        let locals = both-length (Into exc) w.frame.locals m.frame.locals m.fits.locals in
        let stack = both-length (Into exc) w.frame.stack m.frame.stack m.fits.stack in
        let same : (length w.frame.locals == code.max_locals) ≡ true =
        eq-eqb (length w.frame.locals) code.max_locals (locals ∙ there.locals) in
        let room : nat_le (length w.frame.stack) code.max_stack ≡ true =
        le-leb (length w.frame.stack) code.max_stack (omega (arith, stack, there.room)) in
        let test : is_sized code m.at w.frame ≡ true =
        both_all (starts_at code.code m.at && (length w.frame.locals == code.max_locals))
        (nat_le (length w.frame.stack) code.max_stack)
        (both_all (starts_at code.code m.at) (length w.frame.locals == code.max_locals)
        there.starts same)
        room in
        let some : None ≡ Some (record { table = set t m.at (Some w.frame); rose = true }) =
        sym refused
        ∙ ap (λ b. cond b
        (Some (record { table = set t m.at (Some w.frame); rose = true })) None) test in
        cc some

    module _ (l : KFrame) (is : frame_at t m.at ≡ Some l) where
      above : (k : KFrame) × (u m.at ≡ Some k) × FrameInto exc l k
      above = kept.lower u fit m.at l is

      under : FrameInto exc l m.frame
      under =
          let both : Some above.0 ≡ Some m.frame = sym above.1 ∙ m.has in
          let same : above.0 ≡ m.frame = cc both in
          subst (λ (k : KFrame). FrameInto exc l k) same above.2

      exact-fits : (b : Bool) → w.exact ≡ b
          → (b && not (all_into exc l.stack w.frame.stack)) ≡ false
      exact-fits true e =
          ap not (below-all exc l.stack w.frame.stack
          (subst (λ (ks : List VKind). Both (Into exc) l.stack ks) (m.exact e) under.stack))
      exact-fits false e = refl

      first-fits : is_some (start m.at) ≡ true → frame_into exc w.frame l ≡ true
      first-fits from_start =
          let s = some-there (start m.at) from_start in
          let one : Some l ≡ Some s.0 = sym is ∙ kept.begins m.at s.0 s.1 in
          let other : Some m.frame ≡ Some s.0 = sym m.has ∙ fit.starts m.at s.0 s.1 in
          let equal : m.frame ≡ l = cc (one, other) in
          below-frame exc w.frame l (subst (λ (k : KFrame). FrameInto exc w.frame k) equal m.fits)

      lengths : same_lengths w.frame l ≡ true
      lengths =
          let a = both-length (Into exc) w.frame.locals m.frame.locals m.fits.locals in
          let b = both-length (Into exc) l.locals m.frame.locals under.locals in
          let c = both-length (Into exc) w.frame.stack m.frame.stack m.fits.stack in
          let d = both-length (Into exc) l.stack m.frame.stack under.stack in
          both_all (length w.frame.locals == length l.locals)
          (length w.frame.stack == length l.stack)
          (eq-eqb (length w.frame.locals) (length l.locals) (a ∙ sym b))
          (eq-eqb (length w.frame.stack) (length l.stack) (c ∙ sym d))

      old-lands : landed exc act handler_kind code start t m.at w l ≡ None → ⊥
      unfolding landed
      old-lands = tests (frame_into exc w.frame l) refl (is_some (start m.at)) refl where
        raised : Step
        raised = record { table = set t m.at (Some (merge_frames exc w.frame l)); rose = true }

        still : Step
        still = record { table = t; rose = false }

        exact : (b c : Bool) → (w.exact && not (all_into exc l.stack w.frame.stack)) ≡ false
        exact b c = exact-fits w.exact refl

        tests : (b : Bool) → frame_into exc w.frame l ≡ b → (c : Bool) → is_some (start m.at) ≡ c
            → cond (w.exact && not (all_into exc l.stack w.frame.stack)) None
            (cond b (Some still)
            (cond (c || not (same_lengths w.frame l)) None (Some raised))) ≡ None → ⊥
        tests true fr c st e =
            let some : Some still ≡ None =
            sym (ap (λ x. cond x None (Some still)) (exact true c)) ∙ e in
            cc some
        tests false fr true st e =
            let both : true ≡ false = sym (first-fits st) ∙ fr in cc both
        tests false fr false st e =
            let some : Some raised ≡ None =
            sym (ap (λ x. cond x None
            (cond (not (same_lengths w.frame l)) None (Some raised))) (exact false false)
            ∙ ap (λ b. cond (not b) None (Some raised)) lengths) ∙ e in
            cc some

    lands : Land t w ≡ None → ⊥
    lands refused = in_case (frame_at t m.at) refl here where
      here : landed_at exc act handler_kind code start t m.at w (frame_at t m.at) ≡ None
      here = sym (ap (land_to exc act handler_kind code start t w) m.is) ∙ refused

      in_case : (o : Option KFrame) → frame_at t m.at ≡ o
          → landed_at exc act handler_kind code start t m.at w o ≡ None → ⊥
      in_case None none = new-lands none
      in_case (Some l) is = old-lands l is

  -- ---- what is kept

  -- a frame that is put where none stays from the start is kept, if all that fit are above it
  put-kept : (t : Table) (at : ℕ) (f : KFrame) → Kept exc act handler_kind code start t
      → is_some (start at) ≡ false → is_sized code at f ≡ true
      → ((u : Given) → Fits exc act handler_kind code start u
      → (l : KFrame) × (u at ≡ Some l) × FrameInto exc f l)
      → Kept exc act handler_kind code start (set t at (Some f))
  put-kept t at f kept free sized above = record {
    many = length-set t at (Some f) ∙ kept.many;
    sized = λ n k e. ⊎_elim
        (λ h. let same : f ≡ k = cc (h.1) in
        ap (λ m. is_sized code m k) h.0 ∙ ap (is_sized code at) (sym same) ∙ sized)
        (λ h. kept.sized n k h) (put-found t at n (Some f) k e);
    begins = λ n k e. put-others t at n (Some f)
        (λ same. let both : true ≡ false =
        sym (ap is_some e) ∙ ap (λ n. is_some (start n)) same ∙ free in cc both)
        ∙ kept.begins n k e;
    lower = λ u fit n k e. ⊎_elim
        (λ h. let there = above u fit in
        let same : f ≡ k = cc (h.1) in (
          there.0,
          ap u h.0 ∙ there.1,
          subst (λ (k : KFrame). FrameInto exc k there.0) same there.2,
        ))
        (λ h. kept.lower u fit n k h) (put-found t at n (Some f) k e);
  }

  -- where a way is met it is met at its own offset
  met-there : (u : Given) (w : Way) (at : ℕ) → w.to ≡ pos at
      → Met exc act handler_kind code start u w
      → (l : KFrame) × (u at ≡ Some l) × FrameInto exc w.frame l
  met-there u w at to m =
      let same : m.at ≡ at = cc (m.is, to) in
      (m.frame, ap u (sym same) ∙ m.has, m.fits)

  free-there : (t : Table) (at : ℕ) → Kept exc act handler_kind code start t
      → frame_at t at ≡ None → is_some (start at) ≡ false
  free-there t at kept none = in_case (start at) refl where
    in_case : (o : Option KFrame) → start at ≡ o → is_some o ≡ false
    in_case None e = refl
    in_case (Some k) e =
        let both : Some k ≡ None = sym (kept.begins at k e) ∙ none in absurd (cc both)

  merged-sized : (at : ℕ) (k l : KFrame) → same_lengths k l ≡ true → is_sized code at l ≡ true
      → is_sized code at (merge_frames exc k l) ≡ true
  merged-sized at k l same sized =
      let two = all_both (length k.locals == length l.locals) (length k.stack == length l.stack)
      same in
      let locals = merged-many exc k.locals l.locals
      (eqb-true (length k.locals) (length l.locals) two.0) in
      let stack = merged-many exc k.stack l.stack
      (eqb-true (length k.stack) (length l.stack) two.1) in
      ap (λ n. starts_at code.code at && (n == code.max_locals)
      && nat_le (length (merge_all exc k.stack l.stack)) code.max_stack) locals
      ∙ ap (λ n. starts_at code.code at && (length l.locals == code.max_locals)
      && nat_le n code.max_stack) stack
      ∙ sized

  land-kept : (t : Table) (w : Way) (s : Step) → Kept exc act handler_kind code start t
      → Meets exc act handler_kind code start w → Land t w ≡ Some s
      → Kept exc act handler_kind code start s.table
  land-kept t w s kept meets is = in_case (land-case t w s is) where
    in_case : Case t w s → Kept exc act handler_kind code start s.table
    in_case (Stays at l to has fits exact same) =
        subst (Kept exc act handler_kind code start) (sym (ap (λ (s : Step). s.table) same)) kept
    in_case (Begins at to none sized same) =
        subst (Kept exc act handler_kind code start) (sym (ap (λ (s : Step). s.table) same))
        (put-kept t at w.frame kept (free-there t at kept none) sized
        (λ u fit. met-there u w at to (meets u fit)))
    in_case (Rises at l to has free many same) =
        subst (Kept exc act handler_kind code start) (sym (ap (λ (s : Step). s.table) same))
        (put-kept t at (merge_frames exc w.frame l) kept free
        (merged-sized at w.frame l many (kept.sized at l has))
        (λ u fit. let m = met-there u w at to (meets u fit) in
        let below = kept.lower u fit at l has in
        let both : Some below.0 ≡ Some m.0 = sym below.1 ∙ m.1 in
        let one : below.0 ≡ m.0 = cc both in (
          m.0,
          m.1,
          frame-least exc w.frame l m.0 m.2
              (subst (λ (k : KFrame). FrameInto exc l k) one below.2),
        )))

  -- ---- what becomes of a table

  -- where the offset is told otherwise
  module _ (at : ℕ) (w : Way) (z : ℤ) (same : z ≡ w.to) (t s : Table) where
    abbrev step : Bool → Step
    step rose = record { table = s; rose = rose }

    abbrev Becomes : Course → Type 0
    Becomes c = Went exc act handler_kind code start at (w ∷ []) t (Ok c) s

    so : (o : Option Step) → Land t (record w { to = z }) ≡ o → Land t w ≡ o
    so o is = ap (λ y. Land t (record w { to = y })) (sym same) ∙ is

    pub refused : Land t (record w { to = z }) ≡ None → Becomes course.Refused
    refused none = λ kept meets u fit. lands u fit t kept w (meets.0 u fit) (so None none)

    pub rises : (b : Bool) (n : ℕ) → Land t (record w { to = z }) ≡ Some (step b)
        → Becomes (course.Rises n)
    rises b n is = λ kept meets. land-kept t w (step b) kept meets.0 (so (Some (step b)) is)

    -- nothing rose
    pub stays : (b : Bool) → b ≡ false → Land t (record w { to = z }) ≡ Some (step b)
        → Becomes course.Calm
    stays b still got = λ kept meets.
        let done = calm (land-case t w (step false) is) in
        (land-kept t w (step false) kept meets.0 is, done.0, done.1)
      where
        is : Land t w ≡ Some (step false)
        is = so (Some (step b)) got ∙ ap (λ c. Some (step c)) still

        odd : (p : Step) → step false ≡ p → p.rose ≡ true → ⊥
        odd p same rose =
            let both : false ≡ true = ap (λ (q : Step). q.rose) same ∙ rose in cc both

        calm : Case t w (step false)
            → Calm at t s × Each (Met exc act handler_kind code start (frame_at s)) (w ∷ [])
        calm (Stays n l to has fits exact same) =
            let one : s ≡ t = ap (λ (s : Step). s.table) same in (
              record {
                stays = λ n k e. ap (λ r. frame_at r n) one ∙ e;
                ahead = λ n k below e. ap (λ r. frame_at r n) (sym one) ∙ e;
              },
              (
                record {
                  at = n;
                  is = to;
                  frame = l;
                  has = ap (λ r. frame_at r n) one ∙ has;
                  fits = fits;
                  exact = exact;
                },
                tt,
              ),
            )
        calm (Begins n to none sized same) = absurd (odd _ same refl)
        calm (Rises n l to has free many same) = absurd (odd _ same refl)

    -- a frame is new
    pub begins : (a b : Bool) → NewAt a t z at → a ≡ true → b ≡ true
        → Land t (record w { to = z }) ≡ Some (step b) → Becomes course.Calm
    begins a b is_new found risen got = λ kept meets.
        let done = calm kept (land-case t w (step true) is) in
        (land-kept t w (step true) kept meets.0 is, done.0, done.1)
      where
        is : Land t w ≡ Some (step true)
        is = so (Some (step b)) got ∙ ap (λ c. Some (step c)) risen

        new : NewAt true t w.to at
        new =
            subst (λ (y : ℤ). NewAt true t y at) same
            (subst (λ (c : Bool). NewAt c t z at) found is_new)

        apart : (n : ℕ) → w.to ≡ pos n → new.0 ≡ n
        apart n to = let both : pos new.0 ≡ pos n = sym new.1 ∙ to in cc both

        held : (n : ℕ) (l : KFrame) → w.to ≡ pos n → frame_at t n ≡ Some l → ⊥
        held n l to has =
            let both : Some l ≡ None =
            sym has ∙ ap (frame_at t) (sym (apart n to)) ∙ new.3 in cc both

        calm : Kept exc act handler_kind code start t → Case t w (step true)
            → Calm at t s × Each (Met exc act handler_kind code start (frame_at s)) (w ∷ [])
        calm kept (Stays n l to has fits exact same) =
            let both : true ≡ false = ap (λ (s : Step). s.rose) same in absurd (cc both)
        calm kept (Rises n l to has free many same) = absurd (held n l to has)
        calm kept (Begins n to none sized same) =
            let one : s ≡ set t n (Some w.frame) = ap (λ (s : Step). s.table) same in
            let two = all_both (starts_at code.code n && (length w.frame.locals == code.max_locals))
            (nat_le (length w.frame.stack) code.max_stack) sized in
            let starts = all_both (starts_at code.code n) (length w.frame.locals == code.max_locals)
            two.0 in
            let within = starts-within code.code n 0 starts.0 in
            let many = kept.many in
            let same_place = apart n to in
            let ahead : at < n = subst (λ m. at < m) same_place new.2 in (
              record {
                stays = λ m k e. ap (λ r. frame_at r m) one
                    ∙ put-others t n m (Some w.frame)
                    (λ here. let both : Some k ≡ None =
                    sym e ∙ ap (frame_at t) here ∙ none in cc both)
                    ∙ e;
                ahead = λ m k below e. ⊎_elim
                    (λ h. let here = h.0 in absurd (omega (arith, here, below, ahead)))
                    (λ h. h)
                    (put-found t n m (Some w.frame) k (ap (λ r. frame_at r m) (sym one) ∙ e));
              },
              (
                record {
                  at = n;
                  is = to;
                  frame = w.frame;
                  has = ap (λ r. frame_at r n) one
                      ∙ put-there t n (Some w.frame) (omega (arith, within, many));
                  fits = frame-same exc w.frame;
                  exact = λ e. refl;
                },
                tt,
              ),
            )
