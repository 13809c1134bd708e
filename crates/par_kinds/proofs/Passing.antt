-- Passes stay below all frames that fit; and where a pass raises nothing, the table fits.
use Rattle.std.proofs.Common.{◌≡◌, ℕ, ℤ, zero, suc, pos, ◌==◌, ◌⊎◌, inl, inr, ⊎_elim, Bool}
use Rattle.std.proofs.Common.{true, false, not, ◌&&◌, ◌||◌, cond, List, [], ◌∷◌, length, set}
use Rattle.std.proofs.Common.{is_some, Some, None, Option, refl, sym, ap, subst, ◌∙◌, arith}
use Rattle.std.specs.Prelude.{nat_le}
use Rattle.std.proofs.lemmas.Bool.{eq-eqb, le-leb}
use Rattle.par_instr.specs.declared.instr.Instr.{Instr}
use Rattle.par_instr.specs.Decoding.{decoded_at}
use Rattle.par_step_laws.specs.par_class.declared.file.Catch.{Catch}
use Rattle.par_step_laws.specs.par_class.declared.file.CodeAttr.{CodeAttr}
use Rattle.par_values.specs.Areas.{Name}
use Rattle.par_step_laws.specs.par_single.Walk.{starts_at}
use Rattle.par_kinds.specs.declared.frame.VKind.{VKind}
use Rattle.par_kinds.specs.Kinds.{KFrame, Both, Into, FrameInto, Each}
use Rattle.par_kinds.specs.Acts.{Act, left_by, next_offsets}
use Rattle.par_kinds.specs.Fits.{Given, around, GoesTo, CatchFits, Fitting}
use Rattle.par_kinds.specs.Passes.{Table, frame_at, Way, Step, landed, landed_at, land_to}
use Rattle.par_kinds.specs.Passes.{land}
use Rattle.par_kinds.specs.Passes.{land_all, and_then, rose_with, onward, handled, ways}
use Rattle.par_kinds.specs.Passes.{visit_with, visit_at, visit, pass, StartsWith, Below}
use Rattle.par_kinds.specs.Passes.{all_into}
use Rattle.par_kinds.specs.Passes.{frame_into, merge_frames, same_lengths}
use Rattle.par_kinds.proofs.Lists.{both-length, each-append}
use Rattle.par_kinds.proofs.Lower.{below-all, below-then}
use Rattle.par_kinds.proofs.Lower.{below-frame, frame-then, frame-least, act-below}
use Rattle.par_kinds.proofs.Lower.{left-below}
use Rattle.par_kinds.proofs.Lower.{decided-act, both_all, below-same}

-- a frame that is put is found at its offset alone
found-set : (t : Table) (at n : ℕ) (f k : KFrame) → frame_at (set t at (Some f)) n ≡ Some k
    → ((n ≡ at) × (k ≡ f)) ⊎ (frame_at t n ≡ Some k)
unfolding frame_at
found-set [] at n f k e = inr e
found-set (o ∷ t) zero zero f k e = inl (refl, cc e)
found-set (o ∷ t) zero (suc n) f k e = inr e
found-set (o ∷ t) (suc at) zero f k e = inr e
found-set (o ∷ t) (suc at) (suc n) f k e =
    ⊎_elim (λ h. inl (ap suc h.0, h.1)) (λ h. inr h) (found-set t at n f k e)

pub others-kept : (t : Table) (at n : ℕ) (f : KFrame) → (n ≡ at → ⊥)
    → frame_at (set t at (Some f)) n ≡ frame_at t n
unfolding frame_at
others-kept [] at n f other = refl
others-kept (o ∷ t) zero zero f other = absurd (other refl)
others-kept (o ∷ t) zero (suc n) f other = refl
others-kept (o ∷ t) (suc at) zero f other = refl
others-kept (o ∷ t) (suc at) (suc n) f other =
    others-kept t at n f (λ same. other (ap suc same))

-- where frames are that some are from the start
some-there : {A : Type 0} (o : Option A) → is_some o ≡ true → (x : A) × (o ≡ Some x)
some-there None is = absurd (cc is)
some-there (Some x) is = (x, refl)

module _ (exc : List Name) (act : Instr → Act) (handler_kind : Catch → VKind) (code : CodeAttr)
    (start u : Given) (first : KFrame) (fit : Fitting exc act handler_kind code u first)
    (begun : StartsWith start u) where
  abbrev Land : Table → Way → Option Step
  Land t w = land exc act handler_kind code start t w

  -- where a way goes on there is a frame above its own
  pub record Met (w : Way) : Type 0 where
    pub at : ℕ
    pub is : w.to ≡ pos at
    pub frame : KFrame
    pub has : u at ≡ Some frame
    pub fits : FrameInto exc w.frame frame
    pub exact : w.exact ≡ true → frame.stack ≡ w.frame.stack

  pub record Kept (t : Table) : Type 0 where
    pub below : Below exc t u
    pub begins : StartsWith start (frame_at t)

  abbrev pub Lands : Option Step → Type 0
  Lands o = (s : Step) × (o ≡ Some s) × Kept s.table

  put-kept : (t : Table) (at : ℕ) (f l : KFrame) → Kept t → is_some (start at) ≡ false → u at
      ≡ Some l
      → FrameInto exc f l → Kept (set t at (Some f))
  put-kept t at f l kept other has fits = record {
    below = λ n k e. ⊎_elim
        (λ h. (l, ap u h.0 ∙ has, subst (λ (k : KFrame). FrameInto exc k l) (sym h.1) fits))
        (λ h. kept.below n k h) (found-set t at n f k e);
    begins = λ n k e. others-kept t at n f
        (λ same. let both : true ≡ false =
        sym (ap is_some e) ∙ ap (λ n. is_some (start n)) same ∙ other in cc both)
        ∙ kept.begins n k e;
  }

  -- the way of a frame at an offset without one
  new-kept : (t : Table) (w : Way) (m : Met w) → Kept t → frame_at t m.at ≡ None
      → Lands (landed_at exc act handler_kind code start t m.at w None)
  new-kept t w m kept none =
      let there = fit.each m.at m.frame m.has in
      let locals = both-length (Into exc) w.frame.locals m.frame.locals m.fits.locals in
      let stack = both-length (Into exc) w.frame.stack m.frame.stack m.fits.stack in
      let same : (length w.frame.locals == code.max_locals) ≡ true =
      eq-eqb (length w.frame.locals) code.max_locals (locals ∙ there.locals) in
      let room : nat_le (length w.frame.stack) code.max_stack ≡ true =
      le-leb (length w.frame.stack) code.max_stack (omega (arith, stack, there.room)) in
      let test = both_all (starts_at code.code m.at && (length w.frame.locals == code.max_locals))
      (nat_le (length w.frame.stack) code.max_stack)
      (both_all (starts_at code.code m.at) (length w.frame.locals == code.max_locals) there.starts
      same)
      room in
      let other : is_some (start m.at) ≡ false = in_case (start m.at) refl in (
        record { table = set t m.at (Some w.frame); rose = true },
        ap
            (λ b. cond b
            (Some (record { table = set t m.at (Some w.frame); rose = true })) None) test,
        put-kept t m.at w.frame m.frame kept other m.has m.fits,
      )
    where
      in_case : (o : Option KFrame) → start m.at ≡ o → is_some o ≡ false
      in_case None e = refl
      in_case (Some k) e =
          let both : Some k ≡ None = sym (kept.begins m.at k e) ∙ none in absurd (cc both)

  -- the way of a frame at an offset that has one
  old-kept : (t : Table) (w : Way) (m : Met w) → Kept t → (l : KFrame) → frame_at t m.at ≡ Some l
      → Lands (landed exc act handler_kind code start t m.at w l)
  unfolding landed
  old-kept t w m kept l is = tests w.exact refl (frame_into exc w.frame l) refl where
    above : (k : KFrame) × (u m.at ≡ Some k) × FrameInto exc l k
    above = kept.below m.at l is

    same : above.0 ≡ m.frame
    same = let both : Some above.0 ≡ Some m.frame = sym above.1 ∙ m.has in cc both

    under : FrameInto exc l m.frame
    under = subst (λ (k : KFrame). FrameInto exc l k) same above.2

    exact-fits : w.exact ≡ true → all_into exc l.stack w.frame.stack ≡ true
    exact-fits e =
        below-all exc l.stack w.frame.stack
        (subst (λ (ks : List VKind). Both (Into exc) l.stack ks) (m.exact e) under.stack)

    no-other : (b : Bool) → w.exact ≡ b → (b && not (all_into exc l.stack w.frame.stack)) ≡ false
    no-other true e = ap not (exact-fits e)
    no-other false e = refl

    first-fits : is_some (start m.at) ≡ true → frame_into exc w.frame l ≡ true
    first-fits from_start =
        let s = some-there (start m.at) from_start in
        let one : Some l ≡ Some s.0 = sym is ∙ kept.begins m.at s.0 s.1 in
        let other : Some m.frame ≡ Some s.0 = sym m.has ∙ begun m.at s.0 s.1 in
        let equal : m.frame ≡ l = cc (one, other) in
        below-frame exc w.frame l (subst (λ (k : KFrame). FrameInto exc w.frame k) equal m.fits)

    lengths : same_lengths w.frame l ≡ true
    lengths =
        let a = both-length (Into exc) w.frame.locals m.frame.locals m.fits.locals in
        let b = both-length (Into exc) l.locals m.frame.locals under.locals in
        let c = both-length (Into exc) w.frame.stack m.frame.stack m.fits.stack in
        let d = both-length (Into exc) l.stack m.frame.stack under.stack in
        both_all (length w.frame.locals == length l.locals) (length w.frame.stack == length l.stack)
        (eq-eqb (length w.frame.locals) (length l.locals) (a ∙ sym b))
        (eq-eqb (length w.frame.stack) (length l.stack) (c ∙ sym d))

    raised : Step
    raised = record {
      table = set t m.at (Some (merge_frames exc w.frame l));
      rose = true;
    }

    still : Step
    still = record { table = t; rose = false }

    last : (b : Bool) → is_some (start m.at) ≡ b → frame_into exc w.frame l ≡ false
        → Lands (cond (b || not (same_lengths w.frame l)) None (Some raised))
    last true e risen =
        let both : true ≡ false = sym (first-fits e) ∙ risen in absurd (cc both)
    last false e risen = (
      raised,
      ap (λ b. cond (not b) None (Some raised)) lengths,
      put-kept t m.at (merge_frames exc w.frame l) m.frame kept e m.has
          (frame-least exc w.frame l m.frame m.fits under),
    )

    tests : (x : Bool) → w.exact ≡ x → (b : Bool) → frame_into exc w.frame l ≡ b
        → Lands (cond (x && not (all_into exc l.stack w.frame.stack)) None
        (cond b (Some still)
        (cond (is_some (start m.at) || not (same_lengths w.frame l)) None (Some raised))))
    tests x e true risen = (still, ap (λ b. cond b None (Some still)) (no-other x e), kept)
    tests x e false risen =
        let later = last (is_some (start m.at)) refl risen in (
          later.0,
          ap (λ b. cond b None
              (cond (is_some (start m.at) || not (same_lengths w.frame l)) None (Some raised)))
              (no-other x e)
              ∙ later.1,
          later.2,
        )

  -- each way is landed
  land-kept : (t : Table) (w : Way) → Met w → Kept t → Lands (Land t w)
  land-kept t w m kept =
      subst (λ (z : ℤ). Lands (land_to exc act handler_kind code start t w z)) (sym m.is)
      (in_case (frame_at t m.at) refl)
    where
      in_case : (o : Option KFrame) → frame_at t m.at ≡ o
          → Lands (landed_at exc act handler_kind code start t m.at w o)
      in_case None none = new-kept t w m kept none
      in_case (Some l) is = old-kept t w m kept l is

  rose-kept : (rose : Bool) (o : Option Step) → Lands o
      → Lands (rose_with exc act handler_kind code start rose o)
  rose-kept rose o h = (
    record h.0 { rose = rose || (h.0).rose },
    ap (rose_with exc act handler_kind code start rose) h.1,
    h.2,
  )

  then-kept : (o : Option Step) (next : Table → Option Step) → Lands o
      → ((t : Table) → Kept t → Lands (next t))
      → Lands (and_then exc act handler_kind code start o next)
  then-kept o next h each =
      let later = each (h.0).table h.2 in
      let done = rose-kept (h.0).rose (next (h.0).table) later in
      (done.0, ap (λ o. and_then exc act handler_kind code start o next) h.1 ∙ done.1, done.2)

  all-kept : (ws : List Way) (t : Table) → Each Met ws → Kept t
      → Lands (land_all exc act handler_kind code start ws t)
  all-kept [] t each kept = (record { table = t; rose = false }, refl, kept)
  all-kept (w ∷ ws) t each kept =
      then-kept (Land t w) (land_all exc act handler_kind code start ws) (land-kept t w each.0 kept)
      (λ s later. all-kept ws s each.1 later)

  -- ---- an instruction

  onward-met : (k l : KFrame) (tos : List ℤ) → FrameInto exc k l
      → Each (GoesTo exc act handler_kind code u l) tos
      → Each Met (onward exc act handler_kind code start k tos)
  onward-met k l [] below each = tt
  onward-met k l (to ∷ tos) below each =
      let g = each.0 in (
        record {
          at = g.at;
          is = g.is;
          frame = g.frame;
          has = g.has;
          fits = frame-then exc k l g.frame below g.fits;
          exact = λ e. absurd (cc e);
        },
        onward-met k l tos below each.1,
      )

  handled-met : (at : ℕ) (k l : KFrame) (cs : List Catch) → FrameInto exc k l
      → Each (λ c. around at c ≡ true → CatchFits exc act handler_kind code u l c) cs
      → Each Met (handled exc act handler_kind code start at k cs)
  unfolding handled
  handled-met at k l [] below each = tt
  handled-met at k l (c ∷ cs) below each =
      in_case (around at c) refl (handled-met at k l cs below each.1)
    where
      way : Way
      way = record {
        to = pos c.handler;
        frame = record { locals = k.locals; stack = handler_kind c ∷ [] };
        exact = true;
      }

      in_case : (b : Bool) → around at c ≡ b
          → Each Met (handled exc act handler_kind code start at k cs)
          → Each Met (cond b (way ∷ handled exc act handler_kind code start at k cs)
          (handled exc act handler_kind code start at k cs))
      in_case false e later = later
      in_case true e later =
          let h = each.0 e in (
            record {
              at = c.handler;
              is = refl;
              frame = h.frame;
              has = h.has;
              fits = record {
                locals = below-then exc k.locals l.locals h.frame.locals below.locals h.locals;
                stack = subst (λ (ks : List VKind). Both (Into exc) (handler_kind c ∷ []) ks)
                    (sym h.stack) (below-same exc (handler_kind c ∷ []));
              };
              exact = λ e. h.stack;
            },
            later,
          )

  visit-kept : (at : ℕ) (t : Table) → Kept t → Lands (visit exc act handler_kind code start at t)
  visit-kept at t kept = in_case (frame_at t at) refl where
    with-frame : (k : KFrame) → frame_at t at ≡ Some k
        → Lands (visit_with exc act handler_kind code start at k (decoded_at code.code at) t)
    with-frame k is =
        let above = kept.below at k is in
        let there = fit.each at above.0 above.1 in
        let fits = act-below exc (act there.does.instr) k above.0 above.2 there.fits in
        let test = decided-act exc (act there.does.instr) k fits in
        let d = there.does in
        let goes = onward-met (left_by (act d.instr).leaves (length (act d.instr).takes) k)
        (left_by (act d.instr).leaves (length (act d.instr).takes) above.0)
        (next_offsets (act d.instr).flow at d.size)
        (left-below exc (act d.instr).leaves (length (act d.instr).takes) k above.0 above.2)
        there.goes in
        let caught = handled-met at k above.0 code.catches above.2 there.caught in
        let met : Each Met (ways exc act handler_kind code start at d k) =
        each-append Met _ _ goes caught in
        let done = all-kept (ways exc act handler_kind code start at d k) t met kept in
        subst (λ o. Lands (visit_with exc act handler_kind code start at k o t)) (sym there.found)
        (subst (λ b. Lands (cond b
        (land_all exc act handler_kind code start (ways exc act handler_kind code start at d k) t)
        None))
        (sym test) done)

    in_case : (o : Option KFrame) → frame_at t at ≡ o
        → Lands (visit_at exc act handler_kind code start at o t)
    in_case None none = (record { table = t; rose = false }, refl, kept)
    in_case (Some k) is = with-frame k is

  -- a pass never fails, and stays below
  pub pass-kept : (ats : List ℕ) (t : Table) → Kept t
      → Lands (pass exc act handler_kind code start ats t)
  pass-kept [] t kept = (record { table = t; rose = false }, refl, kept)
  pass-kept (at ∷ ats) t kept =
      then-kept (visit exc act handler_kind code start at t)
      (pass exc act handler_kind code start ats)
      (visit-kept at t kept) (λ s later. pass-kept ats s later)
