-- Handlers that have met the locals of a frame.
use Rattle.std.proofs.Common.{◌≡◌, ℕ, suc, ◌+◌, ◌<◌, ◌≤◌, Bool, true, false, cond, List, [], ◌∷◌}
use Rattle.std.proofs.Common.{◌++◌, length, take, get_or, set, Some, None, Option, Ok, refl, sym}
use Rattle.std.proofs.Common.{ap, subst, ◌∙◌, arith, length-set, ⊎_elim}
use Rattle.std.specs.Prelude.{nat_le, nat_lt}
use Rattle.std.specs.Option.{option_map}
use Rattle.std.proofs.lemmas.Bool.{leb-true, ltb-true, le-leb, lt-ltb, cases_lt}
use Rattle.std.proofs.lemmas.List.{take_more, take_all, get_or-set_same, get_or-set_other}
use Rattle.par_instr.specs.declared.instr.Instr.{Instr}
use Rattle.par_class.specs.declared.file.Catch.{Catch}
use Rattle.par_class.specs.declared.file.CodeAttr.{CodeAttr}
use Rattle.par_values.specs.Areas.{Name}
use Rattle.par_frame_moves.specs.par_kinds.declared.frame.VKind.{VKind}
use Rattle.par_frame_moves.specs.par_kinds.Kinds.{KFrame, Each, Both, Into}
use Rattle.par_frame_moves.specs.par_kinds.Acts.{Act}
use Rattle.par_frame_moves.specs.par_kinds.Fits.{Given, around, CatchFits}
use Rattle.par_frame_moves.proofs.par_kinds.Lists.{each-append, each-more}
use Rattle.par_kinds.specs.Passes.{Table, frame_at, handled}
use Rattle.par_kinds.proofs.Lower.{all_both, both_all, all-below, below-then}
use Rattle.par_frame_passes.specs.Sparing.{Apart, AreMarked, IsBelow, Spares, SparesApart}
use Rattle.par_frame_passes.specs.Sparing.{SparesBehind}
use Rattle.par_frame_passes.specs.Sweeps.{Calm, Met, Meets, Kept, Went}
use Rattle.par_frame_passes.specs.Tables.{Taken}
use Rattle.par_frame_passes.specs.declared.course.Course.{Course}
use Rattle.par_frame_passes.specs.declared.course.Course.TheVariants as course
use Rattle.par_frame_passes.proofs.Landed.{frame-same}
use Rattle.par_frame_passes.proofs.Ways.{went-none}
use Rattle.par_frame_passes.proofs.Visits.{handled-met, met-handled, taken-others}

-- ---- offsets that are marked

-- an offset that is not marked once another is, is another, and was not marked
unmarked : (marks : List Bool) (to at : ℕ) → at < length marks
    → get_or (set marks to true) at false ≡ false
    → (to ≡ at → ⊥) × (get_or marks at false ≡ false)
unmarked marks to at inside free =
    (apart, sym (get_or-set_other marks to at true false other) ∙ free)
  where
    apart : to ≡ at → ⊥
    apart same =
        let there : get_or (set marks to true) at false ≡ true =
        ap (λ n. get_or (set marks n true) at false) same
        ∙ get_or-set_same marks at true false inside in
        let both : true ≡ false = sym there ∙ free in cc both

    other : at ≡ to → ⊥
    other same = apart (sym same)

pub marked-none : (cs : List Catch) (marks : List Bool) → AreMarked (take 0 cs) (length marks) marks
marked-none cs marks = (refl, λ at inside free. tt)

pub marked-more : (cs : List Catch) (i : ℕ) (d : Catch) (many : ℕ) (marks : List Bool)
    → i < length cs → AreMarked (take i cs) many marks
    → AreMarked (take (i + 1) cs) many
    (set (set marks (get_or cs i d).start true) (get_or cs i d).handler true)
marked-more cs i d many marks inside are = (
  length-set (set marks c.start true) c.handler true ∙ length-set marks c.start true ∙ are.0,
  λ at within free.
      let first : at < length marks = subst (λ n. at < n) (sym are.0) within in
      let then : at < length (set marks c.start true) =
      subst (λ n. at < n) (sym (length-set marks c.start true)) first in
      let handler = unmarked (set marks c.start true) c.handler at then free in
      let begin = unmarked marks c.start at first handler.1 in
      subst (Each (Apart at)) (sym (take_more cs i d inside))
      (each-append (Apart at) (take i cs) (c ∷ []) (are.1 at within begin.1)
      ((begin.0, handler.0), tt)),
)
  where
    c : Catch
    c = get_or cs i d

pub marked-all : (cs : List Catch) (i many : ℕ) (marks : List Bool) → length cs ≤ i
    → AreMarked (take i cs) many marks → AreMarked cs many marks
marked-all cs i many marks past are =
    subst (λ ds. AreMarked ds many marks) (take_all i cs past) are

module _ (exc : List Name) (act : Instr → Act) (handler_kind : Catch → VKind)
    (code : CodeAttr) where
  abbrev Takes : Table → KFrame → Catch → Type 0
  Takes t k c = CatchFits exc act handler_kind code (frame_at t) k c

  abbrev SparesIn : ℕ → Table → Option KFrame → Type 0
  SparesIn at t o = Spares exc act handler_kind code at t o

  -- a handler of one table takes a frame in another that has its frame
  takes-on : (t s : Table) (k : KFrame) (c : Catch)
      → ((l : KFrame) → frame_at t c.handler ≡ Some l → frame_at s c.handler ≡ Some l)
      → Takes t k c → Takes s k c
  takes-on t s k c on h = record {
    frame = h.frame;
    has = on h.frame h.has;
    locals = h.locals;
    stack = h.stack;
  }

  -- ---- from one offset to the next

  around-is : (at : ℕ) (c : Catch) → around at c ≡ true → (c.start ≤ at) × (at < c.end)
  around-is at c is =
      let both = all_both (nat_le c.start at) (nat_lt at c.end) is in
      (leb-true c.start at both.0, ltb-true at c.end both.1)

  is-around : (at : ℕ) (c : Catch) → c.start ≤ at → at < c.end → around at c ≡ true
  is-around at c from to =
      both_all (nat_le c.start at) (nat_lt at c.end) (le-leb c.start at from) (lt-ltb at c.end to)

  -- those around an offset at which none begins were around it before
  pub spares-here : (at : ℕ) (t : Table) (o p : Option KFrame) (b : Bool) (many : ℕ)
      (marks : List Bool) → AreMarked code.catches many marks → at < many
      → b ≡ get_or marks at false → p ≡ cond b None o
      → SparesBehind exc act handler_kind code at t o
      → SparesApart exc act handler_kind code at t p
  spares-here at t o p b many marks are inside is same behind =
      subst (SparesApart exc act handler_kind code at t) (sym same) (in_case b o is behind)
    where
      all : (k : KFrame) (cs : List Catch) → Each (Apart at) cs
          → Each (λ c. c.start < at → at < c.end → Takes t k c) cs
          → Each (λ c. around at c ≡ true → Takes t k c × (c.handler ≡ at → ⊥)) cs
      all k [] apart each = tt
      all k (c ∷ cs) apart each = (
        λ e. let places = around-is at c e in
            let before : c.start < at = begun places.0 (apart.0).0 in
            (each.0 before places.1, (apart.0).1),
        all k cs apart.1 each.1,
      )
        where
          strictly : (m n : ℕ) → m ≤ n → (m ≡ n → ⊥) → m < n
          strictly m n le other =
              ⊎_elim (λ lt. lt) (λ ge. absurd (other (omega (arith, le, ge)))) (cases_lt m n)

          begun : c.start ≤ at → (c.start ≡ at → ⊥) → c.start < at
          begun le other = strictly c.start at le other

      in_case : (b : Bool) (o : Option KFrame) → b ≡ get_or marks at false
          → SparesBehind exc act handler_kind code at t o
          → SparesApart exc act handler_kind code at t (cond b None o)
      in_case true o is behind = tt
      in_case false None is behind = tt
      in_case false (Some k) is behind = all k code.catches (are.1 at inside (sym is)) behind

  -- and those around the next offset, that began before it, are around this one
  pub spares-next : (at : ℕ) (t : Table) (o : Option KFrame) → SparesIn at t o
      → SparesBehind exc act handler_kind code (suc at) t o
  spares-next at t None each = tt
  spares-next at t (Some k) each =
      each-more (λ c. around at c ≡ true → Takes t k c)
      (λ c. c.start < suc at → suc at < c.end → Takes t k c)
      (λ c h from to. h (is-around at c (omega (arith, from)) (omega (arith, to))))
      code.catches each

  -- what is told otherwise
  pub spares-on : (at n : ℕ) (t s : Table) (o p : Option KFrame) → s ≡ t → p ≡ o → n ≡ at + 1
      → SparesIn at t o → SparesBehind exc act handler_kind code n s p
  spares-on at n t s o p tables frames places spares =
      let behind : n ≡ suc at = omega (arith, places) in
      subst (λ (r : Table). SparesBehind exc act handler_kind code n r p) (sym tables)
      (subst (λ (q : Option KFrame). SparesBehind exc act handler_kind code n t q) (sym frames)
      (subst (λ (l : ℕ). SparesBehind exc act handler_kind code l t o) (sym behind)
      (spares-next at t o spares)))

  pub spares-none : (at : ℕ) (t : Table) (o : Option KFrame) → o ≡ None
      → SparesBehind exc act handler_kind code at t o
  spares-none at t o none =
      subst (λ (q : Option KFrame). SparesBehind exc act handler_kind code at t q) (sym none) tt

  -- ---- other tables

  pub spares-calm : (n at : ℕ) (t s : Table) (o : Option KFrame) → Calm n t s → SparesIn at t o
      → SparesIn at s o
  spares-calm n at t s None calm each = tt
  spares-calm n at t s (Some k) calm each =
      each-more (λ c. around at c ≡ true → Takes t k c) (λ c. around at c ≡ true → Takes s k c)
      (λ c h e. takes-on t s k c (calm.stays c.handler) (h e)) code.catches each

  module _ (start : Given) where
    pub spares-taken : (fixed : Bool) (at : ℕ) (t s : Table) (o : Option KFrame)
        → Taken fixed at t s → SparesApart exc act handler_kind code at t o → SparesIn at s o
    spares-taken fixed at t s None is each = tt
    spares-taken fixed at t s (Some k) is each =
        each-more (λ c. around at c ≡ true → Takes t k c × (c.handler ≡ at → ⊥))
        (λ c. around at c ≡ true → Takes s k c)
        (λ c h e. takes-on t s k c
        (λ l there. taken-others exc act handler_kind code start fixed at t s is c.handler (h e).1
        ∙ there) (h e).0)
        code.catches each

    -- ---- frames that are met

    -- locals below those that were met need no second look
    pub spared-went : (at : ℕ) (t : Table) (o : Option KFrame) (b : Bool) (k : KFrame)
        → IsBelow exc b k.locals o → b ≡ true → SparesIn at t o
        → Went exc act handler_kind code start at
        (handled exc act handler_kind code start at k code.catches) t (Ok course.Calm) t
    spared-went at t o false k below is each =
        let both : false ≡ true = is in absurd (cc both)
    spared-went at t None true k below is each = absurd below
    spared-went at t (Some f) true k below is each = λ kept meets. (
      kept,
      record { stays = λ n l e. e; ahead = λ n l under e. e },
      handled-met exc act handler_kind code start (frame_at t) at k k code.catches
          (frame-same exc k)
          (each-more (λ c. around at c ≡ true → Takes t f c) (λ c. around at c ≡ true → Takes t k c)
          (λ c h e. let got = h e in
          record {
            frame = got.frame;
            has = got.has;
            locals = below-then exc k.locals f.locals got.frame.locals
                (all-below exc k.locals f.locals below) got.locals;
            stack = got.stack;
          }) code.catches each),
    )

    -- no handlers
    pub none-went : (at : ℕ) (t : Table) (k : KFrame) (cs : List Catch) → length cs ≡ 0
        → Went exc act handler_kind code start at
        (handled exc act handler_kind code start at k cs) t (Ok course.Calm) t
    unfolding handled
    none-went at t k [] none = went-none exc act handler_kind code start at t
    none-went at t k (c ∷ cs) none = absurd (omega (arith, none))

    -- handlers that were met need no second look
    pub met-spares : (at : ℕ) (t s : Table) (k j : KFrame) → j.locals ≡ k.locals
        → Kept exc act handler_kind code start t
        → Each (Meets exc act handler_kind code start)
        (handled exc act handler_kind code start at k code.catches)
        → Went exc act handler_kind code start at
        (handled exc act handler_kind code start at k code.catches) t (Ok course.Calm) s
        → SparesIn at s (Some j)
    met-spares at t s k j same kept meets went =
        each-more (λ c. around at c ≡ true → Takes s k c) (λ c. around at c ≡ true → Takes s j c)
        (λ c h e. let got = h e in
        record {
          frame = got.frame;
          has = got.has;
          locals = subst (λ (ks : List VKind). Both (Into exc) ks got.frame.locals) (sym same)
              got.locals;
          stack = got.stack;
        }) code.catches
        (met-handled exc act handler_kind code start (frame_at s) at k code.catches
        (went kept meets).2)
