-- Where a pass raises nothing, the table fits.
use Rattle.std.proofs.Common.{◌≡◌, ℕ, ℤ, pos, negsuc, ◌⊎◌, ⊎_elim, Bool}
use Rattle.std.proofs.Common.{true, false, not, ◌&&◌, ◌||◌, cond, List, [], ◌∷◌, ◌++◌, length, set}
use Rattle.std.proofs.Common.{is_some, Some, None, Option, refl, sym, ap, subst, ◌∙◌}
use Rattle.std.proofs.Common.{◌≤◌}
use Rattle.par_instr.specs.declared.instr.Instr.{Instr}
use Rattle.par_instr.specs.Decoding.{Decoded, decoded_at}
use Rattle.par_step_laws.specs.par_class.declared.file.Catch.{Catch}
use Rattle.par_step_laws.specs.par_class.declared.file.CodeAttr.{CodeAttr}
use Rattle.par_values.specs.Areas.{Name}
use Rattle.par_step_laws.specs.par_single.Walk.{starts_at}
use Rattle.par_kinds.specs.declared.frame.VKind.{VKind}
use Rattle.par_kinds.specs.Kinds.{KFrame, FrameInto, Each}
use Rattle.par_kinds.specs.Acts.{Act, ActFits, left_by, next_offsets}
use Rattle.par_kinds.specs.Fits.{Given, around, GoesTo, CatchFits, Fitting}
use Rattle.par_kinds.specs.Passes.{Table, frame_at, Way, Step, landed, landed_at, land_to}
use Rattle.par_kinds.specs.Passes.{land}
use Rattle.par_kinds.specs.Passes.{land_all, and_then, rose_with, onward, handled, ways}
use Rattle.par_kinds.specs.Passes.{visit_with, visit_at, visit, pass, all_into}
use Rattle.par_kinds.specs.Passes.{frame_into}
use Rattle.par_kinds.specs.Passes.{merge_frames, act_fits, same_lengths}
use Rattle.par_kinds.proofs.Lower.{all-below, below-both, frame-below, act-decided}

pub neither : (a b : Bool) → (a || b) ≡ false → (a ≡ false) × (b ≡ false)
neither false b e = (refl, e)
neither true b e = absurd (cc e)

not-true : (b : Bool) → not b ≡ false → b ≡ true
not-true true e = refl
not-true false e = absurd (cc e)

abbrev pub Among : ℕ → List ℕ → Type 0
Among n [] = ⊥
Among n (m ∷ ms) = (n ≡ m) ⊎ Among n ms

module _ (exc : List Name) (act : Instr → Act) (handler_kind : Catch → VKind) (code : CodeAttr)
    (start : Given) where
  -- a way goes on in a frame of the table
  pub record Lies (t : Table) (w : Way) : Type 0 where
    at : ℕ
    is : w.to ≡ pos at
    frame : KFrame
    has : frame_at t at ≡ Some frame
    fits : FrameInto exc w.frame frame
    exact : w.exact ≡ true → frame.stack ≡ w.frame.stack

  -- a step that raises nothing leaves the table, of which this is so
  abbrev pub Rests : Table → Type 0 → Option Step → Type 0
  Rests t P o = (s : Step) → o ≡ Some s → s.rose ≡ false → (s.table ≡ t) × P

  landed-rests : (t : Table) (at : ℕ) (w : Way) (l : KFrame) → w.to ≡ pos at → frame_at t at
      ≡ Some l
      → Rests t (Lies t w) (landed exc act handler_kind code start t at w l)
  unfolding landed
  landed-rests t at w l to is s =
      tests w.exact refl (all_into exc l.stack w.frame.stack) refl (frame_into exc w.frame l) refl
      (is_some (start at) || not (same_lengths w.frame l))
    where
      raised : Step
      raised = record { table = set t at (Some (merge_frames exc w.frame l)); rose = true }

      still : Step
      still = record { table = t; rose = false }

      lies : (x y : Bool) → w.exact ≡ x → all_into exc l.stack w.frame.stack ≡ y → (x && not y)
          ≡ false
          → frame_into exc w.frame l ≡ true → Lies t w
      lies x y ex al test below =
          let h = frame-below exc w.frame l below in
          record {
            at = at;
            is = to;
            frame = l;
            has = is;
            fits = h;
            exact = λ e. below-both exc l.stack w.frame.stack
                (all-below exc l.stack w.frame.stack
                (al ∙ not-true y (sym (ap (λ b. b && not y) (sym ex ∙ e)) ∙ test))) h.stack;
          }

      tests : (x : Bool) → w.exact ≡ x → (y : Bool) → all_into exc l.stack w.frame.stack ≡ y
          → (b : Bool) → frame_into exc w.frame l ≡ b → (c : Bool)
          → cond (x && not y) None (cond b (Some still) (cond c None (Some raised))) ≡ Some s
          → s.rose ≡ false → (s.table ≡ t) × Lies t w
      tests true ex false al b fr c e no_rise = absurd (cc e)
      tests true ex true al true fr c e no_rise =
          let same : still ≡ s = cc e in
          (sym (ap (λ (s : Step). s.table) same), lies true true ex al refl fr)
      tests false ex y al true fr c e no_rise =
          let same : still ≡ s = cc e in
          (sym (ap (λ (s : Step). s.table) same), lies false y ex al refl fr)
      tests true ex true al false fr true e no_rise = absurd (cc e)
      tests false ex y al false fr true e no_rise = absurd (cc e)
      tests true ex true al false fr false e no_rise =
          let same : raised ≡ s = cc e in
          let both : true ≡ false = ap (λ (s : Step). s.rose) same ∙ no_rise in absurd (cc both)
      tests false ex y al false fr false e no_rise =
          let same : raised ≡ s = cc e in
          let both : true ≡ false = ap (λ (s : Step). s.rose) same ∙ no_rise in absurd (cc both)

  land-rests : (t : Table) (w : Way) → Rests t (Lies t w) (land exc act handler_kind code start t w)
  land-rests t w = in_to w.to refl where
    new : (at : ℕ) (b : Bool) (s : Step)
        → cond b (Some (record { table = set t at (Some w.frame); rose = true })) None ≡ Some s
        → s.rose ≡ false → (s.table ≡ t) × Lies t w
    new at true s e no_rise =
        let same : record { table = set t at (Some w.frame); rose = true } ≡ s = cc e in
        let both : true ≡ false = ap (λ (s : Step). s.rose) same ∙ no_rise in absurd (cc both)
    new at false s e no_rise = absurd (cc e)

    in_at : (at : ℕ) → w.to ≡ pos at → (o : Option KFrame) → frame_at t at ≡ o
        → Rests t (Lies t w) (landed_at exc act handler_kind code start t at w o)
    in_at at to (Some l) is = landed-rests t at w l to is
    in_at at to None is = λ s. new at _ s

    in_to : (z : ℤ) → w.to ≡ z → Rests t (Lies t w) (land_to exc act handler_kind code start t w z)
    in_to (pos at) to = in_at at to (frame_at t at) refl
    in_to (negsuc n) to = λ s e no_rise. absurd (cc e)

  then-rests : (P Q : Type 0) (t : Table) (o : Option Step) (next : Table → Option Step)
      → Rests t P o → Rests t Q (next t)
      → Rests t (P × Q) (and_then exc act handler_kind code start o next)
  then-rests P Q t None next one other s e no_rise = absurd (cc e)
  then-rests P Q t (Some r) next one other s e no_rise = in_case (next r.table) refl e where
    in_case : (o : Option Step) → next r.table ≡ o
        → rose_with exc act handler_kind code start r.rose o ≡ Some s → (s.table ≡ t) × (P × Q)
    in_case None is e = absurd (cc e)
    in_case (Some q) is e =
        let same : record q { rose = r.rose || q.rose } ≡ s = cc e in
        let both = neither r.rose q.rose (ap (λ (s : Step). s.rose) same ∙ no_rise) in
        let first = one r refl both.0 in
        let second = other q (sym (ap next first.0) ∙ is) both.1 in
        (sym (ap (λ (s : Step). s.table) same) ∙ second.0, (first.1, second.1))

  all-rests : (ws : List Way) (t : Table)
      → Rests t (Each (Lies t) ws) (land_all exc act handler_kind code start ws t)
  all-rests [] t =
      λ s e no_rise. let same : record { table = t; rose = false } ≡ s = cc e in
      (sym (ap (λ (s : Step). s.table) same), tt)
  all-rests (w ∷ ws) t =
      then-rests (Lies t w) (Each (Lies t) ws) t (land exc act handler_kind code start t w)
      (land_all exc act handler_kind code start ws) (land-rests t w) (all-rests ws t)

  -- an instruction whose frame fits
  pub record Settled (t : Table) (at : ℕ) (k : KFrame) : Type 0 where
    does : Decoded
    found : decoded_at code.code at ≡ Some does
    fits : ActFits exc (act does.instr) k
    lies : Each (Lies t) (ways exc act handler_kind code start at does k)

  abbrev pub SettledAt : Table → ℕ → Type 0
  SettledAt t at = (k : KFrame) → frame_at t at ≡ Some k → Settled t at k

  visit-rests : (at : ℕ) (t : Table)
      → Rests t (SettledAt t at) (visit exc act handler_kind code start at t)
  visit-rests at t = in_frame (frame_at t at) refl where
    tested : (k : KFrame) (d : Decoded) → decoded_at code.code at ≡ Some d → (b : Bool)
        → act_fits exc (act d.instr) k ≡ b
        → Rests t (Settled t at k)
        (cond b (land_all exc act handler_kind code start
        (ways exc act handler_kind code start at d k) t) None)
    tested k d found false test s e no_rise = absurd (cc e)
    tested k d found true test s e no_rise =
        let done = all-rests (ways exc act handler_kind code start at d k) t s e no_rise in (
          done.0,
          record {
            does = d;
            found = found;
            fits = act-decided exc (act d.instr) k test;
            lies = done.1;
          },
        )

    in_code : (k : KFrame) (o : Option Decoded) → decoded_at code.code at ≡ o
        → Rests t (Settled t at k) (visit_with exc act handler_kind code start at k o t)
    in_code k None found s e no_rise = absurd (cc e)
    in_code k (Some d) found s e no_rise =
        tested k d found (act_fits exc (act d.instr) k) refl s e no_rise

    in_frame : (o : Option KFrame) → frame_at t at ≡ o
        → Rests t (SettledAt t at) (visit_at exc act handler_kind code start at o t)
    in_frame None is s e no_rise =
        let same : record { table = t; rose = false } ≡ s = cc e in (
          sym (ap (λ (s : Step). s.table) same),
          λ k has. let both : None ≡ Some k = sym is ∙ has in absurd (cc both),
        )
    in_frame (Some k) is s e no_rise =
        let done = in_code k (decoded_at code.code at) refl s e no_rise in (
          done.0,
          λ j has. let both : Some k ≡ Some j = sym is ∙ has in
              subst (λ (j : KFrame). Settled t at j) (cc both) done.1,
        )

  pub pass-rests : (ats : List ℕ) (t : Table)
      → Rests t (Each (SettledAt t) ats) (pass exc act handler_kind code start ats t)
  pass-rests [] t =
      λ s e no_rise. let same : record { table = t; rose = false } ≡ s = cc e in
      (sym (ap (λ (s : Step). s.table) same), tt)
  pass-rests (at ∷ ats) t =
      then-rests (SettledAt t at) (Each (SettledAt t) ats) t
      (visit exc act handler_kind code start at t)
      (pass exc act handler_kind code start ats) (visit-rests at t) (pass-rests ats t)

  among-each : (P : ℕ → Type 0) (ats : List ℕ) (n : ℕ) → Each P ats → Among n ats → P n
  among-each P [] n each is = absurd is
  among-each P (m ∷ ms) n each is =
      ⊎_elim (λ e. subst P (sym e) each.0) (λ later. among-each P ms n each.1 later) is

  -- frames of the table have the numbers of places that they need, and stand where code starts
  pub record IsSized (at : ℕ) (k : KFrame) : Type 0 where
    pub locals : length k.locals ≡ code.max_locals
    pub room : length k.stack ≤ code.max_stack
    pub starts : starts_at code.code at ≡ true

  catch-lies : (t : Table) (k : KFrame) (c : Catch) → Lies t (record {
    to = pos c.handler;
    frame = record { locals = k.locals; stack = handler_kind c ∷ [] };
    exact = true;
  }) → CatchFits exc act handler_kind code (frame_at t) k c
  catch-lies t k c w =
      let same : c.handler ≡ w.at = cc w.is in
      record {
        frame = w.frame;
        has = ap (frame_at t) same ∙ w.has;
        locals = w.fits.locals;
        stack = w.exact refl;
      }

  catches : (t : Table) (k : KFrame) (at : ℕ) (cs : List Catch)
      → Each (Lies t) (handled exc act handler_kind code start at k cs)
      → Each (λ c. around at c ≡ true → CatchFits exc act handler_kind code (frame_at t) k c) cs
  unfolding handled
  catches t k at [] each = tt
  catches t k at (c ∷ cs) each = in_case (around at c) refl each (catches t k at cs) where
    way : Way
    way = record {
      to = pos c.handler;
      frame = record { locals = k.locals; stack = handler_kind c ∷ [] };
      exact = true;
    }

    in_case : (b : Bool) → around at c ≡ b
        → Each (Lies t) (cond b (way ∷ handled exc act handler_kind code start at k cs)
        (handled exc act handler_kind code start at k cs))
        → (Each (Lies t) (handled exc act handler_kind code start at k cs)
        → Each (λ c. around at c ≡ true → CatchFits exc act handler_kind code (frame_at t) k c) cs)
        → (around at c ≡ true → CatchFits exc act handler_kind code (frame_at t) k c)
        × Each (λ c. around at c ≡ true → CatchFits exc act handler_kind code (frame_at t) k c) cs
    in_case true e each later = (λ is. catch-lies t k c each.0, later each.1)
    in_case false e each later =
        (λ is. let both : false ≡ true = sym e ∙ is in absurd (cc both), later each)

  lies-split : (t : Table) (k : KFrame) (tos : List ℤ) (at : ℕ) (cs : List Catch) (left : KFrame)
      → Each (Lies t) (onward exc act handler_kind code start left tos
      ++ handled exc act handler_kind code start at k cs)
      → Each (GoesTo exc act handler_kind code (frame_at t) left) tos
      × Each (λ c. around at c ≡ true → CatchFits exc act handler_kind code (frame_at t) k c) cs
  lies-split t k (to ∷ tos) at cs left each =
      let w = each.0 in
      let later = lies-split t k tos at cs left each.1 in (
        (record { at = w.at; is = w.is; frame = w.frame; has = w.has; fits = w.fits }, later.0),
        later.1,
      )
  lies-split t k [] at cs left each = (tt, catches t k at cs each)

  pub still-fits : (ats : List ℕ) (t : Table) (first : KFrame) (s : Step)
      → frame_at t 0 ≡ Some first
      → ((at : ℕ) (k : KFrame) → frame_at t at ≡ Some k → Among at ats × IsSized at k)
      → pass exc act handler_kind code start ats t ≡ Some s → s.rose ≡ false
      → Fitting exc act handler_kind code (frame_at t) first
  still-fits ats t first s begins covered passed no_rise = record {
    begins = begins;
    each = λ at k has.
        let settled = among-each (SettledAt t) ats at (pass-rests ats t s passed no_rise).1
        (covered at k has).0 k has in
        let size = (covered at k has).1 in
        let both = lies-split t k (next_offsets (act settled.does.instr).flow at settled.does.size)
        at
        code.catches
        (left_by (act settled.does.instr).leaves (length (act settled.does.instr).takes) k)
        settled.lies in
        record {
          locals = size.locals;
          room = size.room;
          starts = size.starts;
          does = settled.does;
          found = settled.found;
          fits = settled.fits;
          goes = both.0;
          caught = both.1;
        };
  }
