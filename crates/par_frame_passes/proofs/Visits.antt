-- One instruction of a table that is kept, and all of them.
use Rattle.std.proofs.Common.{◌≡◌, ℕ, ℤ, suc, ◌+◌, ◌≤◌, ◌==◌, ⊎_elim}
use Rattle.std.proofs.Common.{Bool, true, false, ◌&&◌, cond, List, [], ◌∷◌, ◌++◌, length}
use Rattle.std.proofs.Common.{is_some, Some, None, Ok, refl, sym, ap, subst, ◌∙◌}
use Rattle.std.proofs.Common.{arith, length-set}
use Rattle.std.specs.Prelude.{nat_le}
use Rattle.std.proofs.lemmas.Bool.{eqb-true, leb-true, le-leb, cases_lt}
use Rattle.par_instr.specs.declared.instr.Instr.{Instr}
use Rattle.par_instr.specs.Decoding.{Decoded, decoded_at}
use Rattle.par_class.specs.declared.file.Catch.{Catch}
use Rattle.par_class.specs.declared.file.CodeAttr.{CodeAttr}
use Rattle.par_values.specs.Areas.{Name}
use Rattle.par_single.specs.Walk.{starts_at}
use Rattle.par_frame_moves.specs.par_kinds.declared.frame.VKind.{VKind}
use Rattle.par_frame_moves.specs.par_kinds.Kinds.{KFrame, Both, Into, FrameInto, Each}
use Rattle.par_frame_moves.specs.par_kinds.Acts.{Act, ActFits, Flow, left_by, next_offsets}
use Rattle.par_frame_moves.specs.par_kinds.Fits.{Given, around, GoesTo, CatchFits, FitsAt}
use Rattle.par_frame_moves.proofs.par_kinds.Lists.{each-append, each-more}
use Rattle.par_kinds.specs.Passes.{Table, frame_at, Way, onward, handled, act_fits}
use Rattle.par_kinds.specs.Passes.{is_sized}
use Rattle.par_kinds.proofs.Lower.{frame-then, below-then, below-same, act-below}
use Rattle.par_kinds.proofs.Lower.{left-below}
use Rattle.par_kinds.proofs.Lower.{act-decided, decided-act, all_both}
use Rattle.par_frame_passes.specs.Sweeps.{Calm, Fits, Met, Meets, Kept, Went, Swept, Visited}
use Rattle.par_frame_passes.specs.Sweeps.{Settles}
use Rattle.par_frame_passes.specs.Tables.{Taken, taken_by, joined}
use Rattle.par_frame_passes.specs.declared.course.Course.{Course}
use Rattle.par_frame_passes.specs.declared.course.Course.TheVariants as course
use Rattle.par_frame_passes.proofs.Tabled.{put-others, put-found, found-inside}
use Rattle.par_frame_passes.proofs.Ways.{went-then, each-first, each-last}

module _ (exc : List Name) (act : Instr → Act) (handler_kind : Catch → VKind) (code : CodeAttr)
    (start : Given) where
  abbrev KeptIn : Table → Type 0
  KeptIn t = Kept exc act handler_kind code start t

  abbrev SweptTo : Table → ℕ → Type 0
  SweptTo t at = Swept exc act handler_kind code start t at

  -- ---- a frame that is taken

  module _ (fixed : Bool) (at : ℕ) (t s : Table) (is : Taken fixed at t s) where
    taken-found : (n : ℕ) (k : KFrame) → frame_at s n ≡ Some k → frame_at t n ≡ Some k
    taken-found n k e =
        ⊎_elim (λ same. ap (λ r. frame_at r n) (sym same) ∙ e)
        (λ h. ⊎_elim (λ put. absurd (cc (put.1))) (λ there. there)
        (put-found t at n None k (ap (λ r. frame_at r n) (sym h.1) ∙ e))) is

    pub taken-others : (n : ℕ) → (n ≡ at → ⊥) → frame_at s n ≡ frame_at t n
    taken-others n other =
        ⊎_elim (λ same. ap (λ r. frame_at r n) same)
        (λ h. ap (λ r. frame_at r n) h.1 ∙ put-others t at n None other) is

    taken-many : length s ≡ length t
    taken-many =
        ⊎_elim (λ same. ap length same) (λ h. ap length h.1 ∙ length-set t at None) is

    taken-kept : fixed ≡ is_some (start at) → KeptIn t → KeptIn s
    taken-kept fixes kept = record {
      many = taken-many ∙ kept.many;
      sized = λ n k e. kept.sized n k (taken-found n k e);
      begins = λ n k e. ⊎_elim (λ same. ap (λ r. frame_at r n) same ∙ kept.begins n k e)
          (λ h. ap (λ r. frame_at r n) h.1
          ∙ put-others t at n None
          (λ here. let both : false ≡ true =
          sym h.0 ∙ fixes ∙ ap (λ m. is_some (start m)) (sym here) ∙ ap is_some e in cc both)
          ∙ kept.begins n k e) is;
      lower = λ u fit n k e. kept.lower u fit n k (taken-found n k e);
    }

    -- ---- nothing there

    nothing-more : frame_at t at ≡ None → SweptTo t at → SweptTo s (suc at)
    nothing-more none swept = record {
      given = swept.given;
      holds = λ n k e. swept.holds n k (taken-found n k e);
      ahead = λ n k below e.
          taken-others n (λ here. omega (arith, below, here))
          ∙ swept.ahead n k (omega (arith, below)) e;
      fits = λ n k below e.
          ⊎_elim (λ before. swept.fits n k before e)
          (λ from. let here : at ≡ n = omega (arith, below, from) in
          let both : Some k ≡ None =
          sym (swept.ahead n k from e) ∙ ap (frame_at t) (sym here) ∙ none in absurd (cc both))
          (cases_lt n at);
    }

    pub visited-nothing : fixed ≡ is_some (start at) → frame_at t at ≡ None
        → Visited exc act handler_kind code start at t (Ok course.Calm) s
    visited-nothing fixes none = λ kept. (taken-kept fixes kept, nothing-more none)

  -- ---- frames that fit where more are given

  fits-more : (u v : Given) → ((n : ℕ) (k : KFrame) → u n ≡ Some k → v n ≡ Some k)
      → (at : ℕ) (k : KFrame) → FitsAt exc act handler_kind code u at k
      → FitsAt exc act handler_kind code v at k
  fits-more u v more at k fits = record {
    locals = fits.locals;
    room = fits.room;
    starts = fits.starts;
    does = fits.does;
    found = fits.found;
    fits = fits.fits;
    goes = each-more _ _
        (λ to g. record {
          at = g.at;
          is = g.is;
          frame = g.frame;
          has = more g.at g.frame g.has;
          fits = g.fits;
        })
        _ fits.goes;
    caught = each-more _ _
        (λ c h. λ inside. let g = h inside in
        record {
          frame = g.frame;
          has = more c.handler g.frame g.has;
          locals = g.locals;
          stack = g.stack;
        })
        _ fits.caught;
  }

  -- ---- ways that are met

  -- in frames that fit
  onward-met : (u : Given) (k l : KFrame) (tos : List ℤ) → FrameInto exc k l
      → Each (GoesTo exc act handler_kind code u l) tos
      → Each (Met exc act handler_kind code start u) (onward exc act handler_kind code start k tos)
  onward-met u k l [] below each = tt
  onward-met u k l (to ∷ tos) below each =
      let g = each.0 in (
        record {
          at = g.at;
          is = g.is;
          frame = g.frame;
          has = g.has;
          fits = frame-then exc k l g.frame below g.fits;
          exact = λ e. absurd (cc e);
        },
        onward-met u k l tos below each.1,
      )

  pub handled-met : (u : Given) (at : ℕ) (k l : KFrame) (cs : List Catch) → FrameInto exc k l
      → Each (λ c. around at c ≡ true → CatchFits exc act handler_kind code u l c) cs
      → Each (Met exc act handler_kind code start u)
      (handled exc act handler_kind code start at k cs)
  unfolding handled
  handled-met u at k l [] below each = tt
  handled-met u at k l (c ∷ cs) below each =
      in_case (around at c) refl (handled-met u at k l cs below each.1)
    where
      in_case : (b : Bool) → around at c ≡ b
          → Each (Met exc act handler_kind code start u)
          (handled exc act handler_kind code start at k cs)
          → Each (Met exc act handler_kind code start u)
          (cond b (taken_by handler_kind k c ∷ handled exc act handler_kind code start at k cs)
          (handled exc act handler_kind code start at k cs))
      in_case false e later = later
      in_case true e later =
          let h = each.0 e in (
            record {
              at = c.handler;
              is = refl;
              frame = h.frame;
              has = h.has;
              fits = record {
                locals = below-then exc k.locals l.locals h.frame.locals below.locals h.locals;
                stack = subst (λ (ks : List VKind). Both (Into exc) (handler_kind c ∷ []) ks)
                    (sym h.stack) (below-same exc (handler_kind c ∷ []));
              };
              exact = λ e. h.stack;
            },
            later,
          )

  -- and what is met goes on
  met-onward : (u : Given) (k : KFrame) (tos : List ℤ)
      → Each (Met exc act handler_kind code start u) (onward exc act handler_kind code start k tos)
      → Each (GoesTo exc act handler_kind code u k) tos
  met-onward u k [] each = tt
  met-onward u k (to ∷ tos) each =
      let w = each.0 in (
        record { at = w.at; is = w.is; frame = w.frame; has = w.has; fits = w.fits },
        met-onward u k tos each.1,
      )

  pub met-handled : (u : Given) (at : ℕ) (k : KFrame) (cs : List Catch)
      → Each (Met exc act handler_kind code start u)
      (handled exc act handler_kind code start at k cs)
      → Each (λ c. around at c ≡ true → CatchFits exc act handler_kind code u k c) cs
  unfolding handled
  met-handled u at k [] each = tt
  met-handled u at k (c ∷ cs) each = in_case (around at c) refl each (met-handled u at k cs) where
    caught : Met exc act handler_kind code start u (taken_by handler_kind k c)
        → CatchFits exc act handler_kind code u k c
    caught w =
        let same : c.handler ≡ w.at = cc w.is in
        record {
          frame = w.frame;
          has = ap u same ∙ w.has;
          locals = w.fits.locals;
          stack = w.exact refl;
        }

    in_case : (b : Bool) → around at c ≡ b
        → Each (Met exc act handler_kind code start u)
        (cond b (taken_by handler_kind k c ∷ handled exc act handler_kind code start at k cs)
        (handled exc act handler_kind code start at k cs))
        → (Each (Met exc act handler_kind code start u)
        (handled exc act handler_kind code start at k cs)
        → Each (λ c. around at c ≡ true → CatchFits exc act handler_kind code u k c) cs)
        → (around at c ≡ true → CatchFits exc act handler_kind code u k c)
        × Each (λ c. around at c ≡ true → CatchFits exc act handler_kind code u k c) cs
    in_case true e each later = (λ is. caught each.0, later each.1)
    in_case false e each later =
        (λ is. let both : false ≡ true = sym e ∙ is in absurd (cc both), later each)

  met-given : (u v : Given) → ((n : ℕ) (k : KFrame) → u n ≡ Some k → v n ≡ Some k) → (w : Way)
      → Met exc act handler_kind code start u w → Met exc act handler_kind code start v w
  met-given u v more w m = record {
    at = m.at;
    is = m.is;
    frame = m.frame;
    has = more m.at m.frame m.has;
    fits = m.fits;
    exact = m.exact;
  }

  -- ---- an instruction whose frame is there

  module _ (fixed : Bool) (at : ℕ) (t s : Table) (is : Taken fixed at t s)
      (fixes : fixed ≡ is_some (start at)) (k : KFrame) (there : frame_at t at ≡ Some k) where
    above : (u : Given) → KeptIn t → (fit : Fits exc act handler_kind code start u)
        → (l : KFrame) × FitsAt exc act handler_kind code u at l × FrameInto exc k l
    above u kept fit =
        let below = kept.lower u fit at k there in
        (below.0, (fit.fitting).each at below.0 below.1, below.2)

    pub visited-undecoded : decoded_at code.code at ≡ None
        → Visited exc act handler_kind code start at t (Ok course.Refused) s
    visited-undecoded none = λ kept u fit.
        let fits = (above u kept fit).1 in
        let both : Some fits.does ≡ None = sym fits.found ∙ none in cc both

    module _ (d : Decoded) (found : decoded_at code.code at ≡ Some d) where
      same-does : (e : Decoded) → decoded_at code.code at ≡ Some e → e ≡ d
      same-does e other = let both : Some e ≡ Some d = sym other ∙ found in cc both

      act-fits : (u : Given) → KeptIn t → Fits exc act handler_kind code start u
          → act_fits exc (act d.instr) k ≡ true
      act-fits u kept fit =
          let l = above u kept fit in
          let does = same-does (l.1).does (l.1).found in
          decided-act exc (act d.instr) k
          (act-below exc (act d.instr) k l.0 l.2
          (subst (λ (e : Decoded). ActFits exc (act e.instr) l.0) does (l.1).fits))

      pub visited-unfit : act_fits exc (act d.instr) k ≡ false
          → Visited exc act handler_kind code start at t (Ok course.Refused) s
      visited-unfit unfit = λ kept u fit.
          let both : true ≡ false = sym (act-fits u kept fit) ∙ unfit in cc both

      abbrev left : KFrame
      left = left_by (act d.instr).leaves (length (act d.instr).takes) k

      abbrev aside : List Way
      aside = handled exc act handler_kind code start at k code.catches

      abbrev ahead : List Way
      ahead =
          onward exc act handler_kind code start left (next_offsets (act d.instr).flow at d.size)

      meets : KeptIn t → Each (Meets exc act handler_kind code start) (aside ++ ahead)
      meets kept = each-all (Fits exc act handler_kind code start)
          (Met exc act handler_kind code start) (aside ++ ahead) (λ u fit. met u fit)
        where
          each-all : (P : Given → Type 0) (R : Given → Way → Type 0) (ws : List Way)
              → ((u : Given) → P u → Each (R u) ws) → Each (λ w. (u : Given) → P u → R u w) ws
          each-all P R [] each = tt
          each-all P R (w ∷ ws) each =
              (λ u p. (each u p).0, each-all P R ws (λ u p. (each u p).1))

          met : (u : Given) → Fits exc act handler_kind code start u
              → Each (Met exc act handler_kind code start u) (aside ++ ahead)
          met u fit =
              let l = above u kept fit in
              let does = same-does (l.1).does (l.1).found in
              each-append (Met exc act handler_kind code start u) aside ahead
              (handled-met u at k l.0 code.catches l.2 (l.1).caught)
              (onward-met u left (left_by (act d.instr).leaves (length (act d.instr).takes) l.0)
              (next_offsets (act d.instr).flow at d.size)
              (left-below exc (act d.instr).leaves (length (act d.instr).takes) k l.0 l.2)
              (subst (λ (e : Decoded). Each (GoesTo exc act handler_kind code u
              (left_by (act e.instr).leaves (length (act e.instr).takes) l.0))
              (next_offsets (act e.instr).flow at e.size)) does (l.1).goes))

      module _ (r : Table) (fit : act_fits exc (act d.instr) k ≡ true)
          (sized : is_sized code at k ≡ true)
          (calm : Calm at s r)
          (each : Each (Met exc act handler_kind code start (frame_at r)) (aside ++ ahead))
          (swept : SweptTo t at) where
        -- the frames that were given, and behind the instruction those that are kept
        more : Given
        more n = cond (nat_le n at) (swept.given n) (frame_at r n)

        more-before : (n : ℕ) → n ≤ at → more n ≡ swept.given n
        unfolding more
        more-before n le = ap (λ b. cond b (swept.given n) (frame_at r n)) (le-leb n at le)

        more-behind : (n : ℕ) → suc at ≤ n → more n ≡ frame_at r n
        unfolding more
        more-behind n le = in_case (nat_le n at) refl where
          in_case : (b : Bool) → nat_le n at ≡ b
              → cond b (swept.given n) (frame_at r n) ≡ frame_at r n
          in_case true e = let short = leb-true n at e in absurd (omega (arith, short, le))
          in_case false e = refl

        kept-more : (n : ℕ) (l : KFrame) → frame_at r n ≡ Some l → more n ≡ Some l
        kept-more n l e =
            ⊎_elim (λ before. more-before n (omega (arith, before))
            ∙ swept.holds n l
            (taken-found fixed at t s is n l (calm.ahead n l (omega (arith, before)) e)))
            (λ behind. more-behind n behind ∙ e) (cases_lt n (suc at))

        given-more : (n : ℕ) (l : KFrame) → swept.given n ≡ Some l → more n ≡ Some l
        given-more n l e =
            ⊎_elim (λ before. more-before n (omega (arith, before)) ∙ e)
            (λ behind. more-behind n behind
            ∙ calm.stays n l
            (taken-others fixed at t s is n (λ here. omega (arith, behind, here))
            ∙ swept.ahead n l (omega (arith, behind)) e)) (cases_lt n (suc at))

        here-fits : FitsAt exc act handler_kind code more at k
        here-fits =
            let two = all_both (starts_at code.code at && (length k.locals == code.max_locals))
            (nat_le (length k.stack) code.max_stack) sized in
            let one = all_both (starts_at code.code at) (length k.locals == code.max_locals)
            two.0 in
            let met = each-more (Met exc act handler_kind code start (frame_at r))
            (Met exc act handler_kind code start more) (met-given (frame_at r) more kept-more)
            (aside ++ ahead) each in
            record {
              locals = eqb-true (length k.locals) code.max_locals one.1;
              room = leb-true (length k.stack) code.max_stack two.1;
              starts = one.0;
              does = d;
              found = found;
              fits = act-decided exc (act d.instr) k fit;
              goes = met-onward more left (next_offsets (act d.instr).flow at d.size)
                  (each-last (Met exc act handler_kind code start more) aside ahead met);
              caught = met-handled more at k code.catches
                  (each-first (Met exc act handler_kind code start more) aside ahead met);
            }

        one-more : SweptTo r (suc at)
        one-more = record {
          given = more;
          holds = kept-more;
          ahead = λ n l below e. sym (more-behind n below) ∙ e;
          fits = λ n l below e.
              ⊎_elim (λ before. fits-more swept.given more given-more n l
              (swept.fits n l before (sym (more-before n (omega (arith, before))) ∙ e)))
              (λ from. let here : at ≡ n = omega (arith, below, from) in
              let held : Some l ≡ Some k =
              sym (swept.ahead n l from (sym (more-before n (omega (arith, below))) ∙ e))
              ∙ ap (frame_at t) (sym here) ∙ there in
              let same : k ≡ l = cc held in
              subst (λ m. FitsAt exc act handler_kind code more m l) here
              (subst (λ (j : KFrame). FitsAt exc act handler_kind code more at j) same here-fits))
              (cases_lt n at);
        }

      went-visited : (c : Course) (r : Table) → act_fits exc (act d.instr) k ≡ true
          → Went exc act handler_kind code start at (aside ++ ahead) s (Ok c) r
          → Visited exc act handler_kind code start at t (Ok c) r
      went-visited course.Refused r fit went = λ kept.
          went (taken-kept fixed at t s is fixes kept) (meets kept)
      went-visited course.Calm r fit went = λ kept.
          let done = went (taken-kept fixed at t s is fixes kept) (meets kept) in
          (done.0, one-more r fit (kept.sized at k there) done.1 done.2)
      went-visited (course.Rises n) r fit went = λ kept.
          went (taken-kept fixed at t s is fixes kept) (meets kept)

      -- the handlers are gone to, and then it goes on with what is left
      pub visited-gone : act_fits exc (act d.instr) k ≡ true → (l : KFrame) → l ≡ left
          → (f : Flow) → f ≡ (act d.instr).flow → (q r : Table) (a b : Course)
          → Went exc act handler_kind code start at aside s (Ok a) q
          → Went exc act handler_kind code start at
          (onward exc act handler_kind code start l (next_offsets f at d.size)) q (Ok b) r
          → Visited exc act handler_kind code start at t (Ok (joined a b)) r
      visited-gone fit l is_left f is_flow q r a b one other =
          went-visited (joined a b) r fit
          (went-then exc act handler_kind code start at aside ahead s q r a b one
          (subst (λ (j : KFrame). Went exc act handler_kind code start at
          (onward exc act handler_kind code start j (next_offsets (act d.instr).flow at d.size))
          q (Ok b) r) is_left
          (subst (λ (g : Flow). Went exc act handler_kind code start at
          (onward exc act handler_kind code start l (next_offsets g at d.size))
          q (Ok b) r) is_flow other)))

      abbrev On : List Way → Table → Course → Table → Type 0
      On ws t c s = Went exc act handler_kind code start at ws t (Ok c) s

      -- what the handlers make of a table holds of what the instruction makes of it, if it stays
      -- where a table is calm
      pub visited-then : (l : KFrame) → l ≡ left → (f : Flow) → f ≡ (act d.instr).flow
          → (q r : Table) (a b : Course) → joined a b ≡ course.Calm → On aside s a q
          → On (onward exc act handler_kind code start l (next_offsets f at d.size)) q b r
          → KeptIn t → (P : Table → Type 0)
          → (a ≡ course.Calm → KeptIn s → Each (Meets exc act handler_kind code start) aside → P q)
          → (Calm at q r → P q → P r) → P r
      visited-then l is_left f is_flow q r course.Refused b calm one other kept P made on =
          absurd (cc calm)
      visited-then l is_left f is_flow q r (course.Rises n) course.Refused calm one other kept P
          made on = absurd (cc calm)
      visited-then l is_left f is_flow q r (course.Rises n) course.Calm calm one other kept P
          made on = absurd (cc calm)
      visited-then l is_left f is_flow q r (course.Rises n) (course.Rises m) calm one other kept P
          made on = absurd (cc calm)
      visited-then l is_left f is_flow q r course.Calm b calm one other kept P made on =
          let from = taken-kept fixed at t s is fixes kept in
          let aside_meets =
          each-first (Meets exc act handler_kind code start) aside ahead (meets kept) in
          let ahead_meets =
          each-last (Meets exc act handler_kind code start) aside ahead (meets kept) in
          let first = one from aside_meets in
          let then : On ahead q course.Calm r =
          subst (λ (j : KFrame). On
          (onward exc act handler_kind code start j (next_offsets (act d.instr).flow at d.size))
          q course.Calm r) is_left
          (subst (λ (g : Flow). On
          (onward exc act handler_kind code start l (next_offsets g at d.size))
          q course.Calm r) is_flow
          (subst (λ (c : Course). On
          (onward exc act handler_kind code start l (next_offsets f at d.size)) q c r) calm other))
          in
          on (then first.0 ahead_meets).1 (made refl from aside_meets)

  -- ---- all instructions

  -- at the beginning nothing was gone through
  pub swept-none : (t : Table) → SweptTo t 0
  swept-none t = record {
    given = frame_at t;
    holds = λ n k e. e;
    ahead = λ n k below e. e;
    fits = λ n k below e. absurd (omega (arith, below));
  }

  -- and at the end all frames fit
  pub swept-all : (t : Table) (at : ℕ) (first : KFrame) → start 0 ≡ Some first → KeptIn t
      → length code.code ≤ at → SweptTo t at → Settles exc act handler_kind code start true
  swept-all t at first begins kept past swept = (
    swept.given,
    record {
      first = first;
      fitting = record {
        begins = swept.holds 0 first (kept.begins 0 first begins);
        each = λ n k e.
            ⊎_elim (λ before. swept.fits n k before e)
            (λ behind. let inside = found-inside t n k (swept.ahead n k behind e) in
            let many = kept.many in absurd (omega (arith, past, behind, inside, many)))
            (cases_lt n at);
      };
      starts = λ n k e. swept.holds n k (kept.begins n k e);
    },
  )

  -- ---- steps of the way

  -- a table, and where nothing rose what was gone through
  abbrev pub Gone : Table → Bool → ℕ → Type 0
  Gone t again at = KeptIn t × (again ≡ false → SweptTo t at)

  -- the same of what is told otherwise
  gone-moved : (t s : Table) (a b : Bool) (m n : ℕ) → s ≡ t → b ≡ a → n ≡ m → Gone t a m
      → Gone s b n
  gone-moved t s a b m n tables marks places gone =
      subst (λ (r : Table). Gone r b n) (sym tables)
      (subst (λ (c : Bool). Gone t c n) (sym marks)
      (subst (λ (l : ℕ). Gone t a l) (sym places) gone))

  pub gone-anew : (t s : Table) (b : Bool) (n : ℕ) → s ≡ t → n ≡ 0 → KeptIn t → Gone s b n
  gone-anew t s b n tables begins kept =
      gone-moved t s b b 0 n tables refl begins (kept, λ none. swept-none t)

  pub gone-calm : (t r s : Table) (a b : Bool) (at n : ℕ)
      → Visited exc act handler_kind code start at t (Ok course.Calm) r
      → s ≡ r → b ≡ a → n ≡ at + 1 → Gone t a at → Gone s b n
  gone-calm t r s a b at n visited tables marks places gone =
      let done = visited gone.0 in
      let behind : n ≡ suc at = omega (arith, places) in
      gone-moved r s a b (suc at) n tables marks behind (done.0, λ none. done.1 (gone.1 none))

  pub gone-back : (t r s : Table) (a b : Bool) (at n : ℕ) (to : ℕ)
      → Visited exc act handler_kind code start at t (Ok (course.Rises to)) r
      → s ≡ r → b ≡ true → Gone t a at → Gone s b n
  gone-back t r s a b at n to visited tables marks gone =
      gone-moved r s true b n n tables marks refl
      (visited gone.0, λ none. let both : true ≡ false = none in absurd (cc both))
