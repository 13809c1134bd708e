-- The broken rules of least facts are those that all closed facts break.
use Rattle.std.proofs.Common.{◌≡◌, ◌≤◌, ℕ, Bool, true, false, not, Option, Some, None, List, []}
use Rattle.std.proofs.Common.{◌∷◌, ◌++◌, suc, length, refl, sym, ap, subst, ◌∙◌, ⊎_elim}
use Rattle.std.specs.Prelude.{Contains, IsTrue}
use Rattle.std.proofs.lemmas.Bool.{false≢true}
use Rattle.std.proofs.lemmas.List.Elements.{All-contains, Contains-append_cases}
use Rattle.std.proofs.lemmas.List.Elements.{Contains-append_left, Contains-append_right}
use Rattle.par_policy.proofs.Ordered.{Contains-nil, Contains-cons_cases, Contains-first}
use Rattle.par_policy.proofs.Ordered.{Contains-later}
use Rattle.par_typed.specs.declared.table.Table.{Table}
use Rattle.par_refusals.specs.declared.refusal.Refusal.{Refusal}
use Rattle.par_refusals.specs.First.{broken, comes_before, when, IsAnswer}
use Rattle.par_typed.specs.declared.program.TBody.{TBody}
use Rattle.par_typed.specs.declared.program.Typed.{Typed}
use Rattle.par_typed.specs.Shown.{bodies}
use Rattle.par_typed.specs.Plain.{Body}
use Rattle.par_asked.specs.par_program_laws.Lattice.{numbers}
use Rattle.par_asked.specs.par_program_laws.Facts.{Facts}
use Rattle.par_asked.specs.par_program_laws.Declares.{declares}
use Rattle.par_asked.proofs.par_pass_laws.Along.{closed_along, stand_for}
use Rattle.par_asked.specs.par_check_laws.Asked.{Check}
use Rattle.par_asked.specs.par_check_laws.Checks.{checks}
use Rattle.par_asked.specs.par_check_laws.Verdict.{among, KeepsNumbered, IsAccepted, IsBroken}
use Rattle.par_asked.proofs.par_check_laws.Kept.{keep_accept, meant, kept}
use Rattle.par_asked.proofs.par_check_laws.Failed.{fail_refuse}
use Rattle.par_refusals.proofs.First.{answered}
use Rattle.par_check.specs.Told.{AreBroken, AreAllBroken, HaveTold}
use Rattle.par_asked.specs.par_check_laws.Right.{AreRight, AreAllRight}
use Rattle.par_check.specs.Judged.{IsVerdict}
use Rattle.par_asked.specs.par_check_laws.Accepted.{MOST_BODIES, AreAllKept}
use Rattle.par_check.specs.Accepted.{AreKept}
use Rattle.par_asked.specs.par_check_laws.Accepted.{IsAcceptedBy}

-- ---- one list of rules

-- a rule of the list that is not kept, and what is told of it
record Breaks (Keeps : Check → Type 0) (cs : List Check) (r : Refusal) : Type 0 where
  check : Check
  there : Contains cs check
  fails : Keeps check → ⊥
  is : r ≡ broken check.rule check.at

later : (Keeps : Check → Type 0) (c : Check) (cs : List Check) (r : Refusal) → Breaks Keeps cs r
    → Breaks Keeps (c ∷ cs) r
later Keeps c cs r b = record
    { check = b.check; there = Contains-later c cs b.check b.there; fails = b.fails; is = b.is }

module _ (Keeps : Check → Type 0) where
  one_breaks : (c : Check) (cs : List Check) (kept : Bool) (rest : List Refusal)
      → (Keeps c → IsTrue kept) → ((r : Refusal) → Contains rest r → Breaks Keeps cs r)
      → (r : Refusal) → Contains (when (not kept) (broken c.rule c.at) ++ rest) r
      → Breaks Keeps (c ∷ cs) r
  unfolding when
  one_breaks c cs true rest decides more r told = later Keeps c cs r (more r told)
  one_breaks c cs false rest decides more r told =
      ⊎_elim
      (λ is. record {
        check = c;
        there = Contains-first c cs;
        fails = λ k. false≢true (decides k);
        is = is;
      })
      (λ in_rest. later Keeps c cs r (more r in_rest))
      (Contains-cons_cases (broken c.rule c.at) rest r told)

  -- what is told is broken
  told_breaks : (cs : List Check) (told : List Refusal) → AreBroken Keeps cs told → (r : Refusal)
      → Contains told r → Breaks Keeps cs r
  unfolding AreBroken
  told_breaks [] told h r in_told = absurd (Contains-nil r (subst (λ rs. Contains rs r) h in_told))
  told_breaks (c ∷ cs) told (kept, decides, (rest, h, e)) r in_told =
      one_breaks c cs kept rest decides.1 (told_breaks cs rest h) r
      (subst (λ rs. Contains rs r) e in_told)

  one_tells : (c : Check) (kept : Bool) (rest : List Refusal) → (IsTrue kept → Keeps c)
      → (Keeps c → ⊥)
      → Contains (when (not kept) (broken c.rule c.at) ++ rest) (broken c.rule c.at)
  unfolding when
  one_tells c true rest decides fails = absurd (fails (decides refl))
  one_tells c false rest decides fails = Contains-first (broken c.rule c.at) rest

  -- what is broken is told
  tells : (cs : List Check) (told : List Refusal) → AreBroken Keeps cs told → (c : Check)
      → Contains cs c → (Keeps c → ⊥) → Contains told (broken c.rule c.at)
  unfolding AreBroken
  tells [] told h c there fails = absurd (Contains-nil c there)
  tells (x ∷ xs) told (kept, decides, (rest, h, e)) c there fails =
      subst (λ rs. Contains rs (broken c.rule c.at)) (sym e)
      (⊎_elim
      (λ is. subst (λ y. Contains (when (not kept) (broken x.rule x.at) ++ rest)
      (broken y.rule y.at)) (sym is)
      (one_tells x kept rest decides.0 (subst (λ y. Keeps y → ⊥) is fails)))
      (λ in_xs. Contains-append_right (when (not kept) (broken x.rule x.at)) rest
      (broken c.rule c.at) (tells xs rest h c in_xs fails))
      (Contains-cons_cases x xs c there))

  one_silent : (c : Check) (kept : Bool) (rest : List Refusal) → (IsTrue kept → Keeps c)
      → when (not kept) (broken c.rule c.at) ++ rest ≡ [] → Keeps c × (rest ≡ [])
  unfolding when
  one_silent c true rest decides e = (decides refl, e)
  one_silent c false rest decides e = cc

  -- where nothing is told all rules are kept
  silent : (cs : List Check) (told : List Refusal) → AreBroken Keeps cs told → told ≡ []
      → (c : Check) → Contains cs c → Keeps c
  unfolding AreBroken
  silent [] told h none c there = absurd (Contains-nil c there)
  silent (x ∷ xs) told (kept, decides, (rest, h, e)) none c there =
      let both = one_silent x kept rest decides.0 (sym e ∙ none) in
      ⊎_elim (λ is. subst Keeps (sym is) both.0) (λ in_xs. silent xs rest h both.1 c in_xs)
      (Contains-cons_cases x xs c there)

-- ---- all bodies

-- all closed facts of some body break the rule, and nothing else is told of it
record IsBrokenIn (table : Table) (bs : List Body) (r : Refusal) : Type 0 where
  body : Body
  there : Contains bs body
  breaks : IsBroken table body r.rule r.at
  alone : r ≡ broken r.rule r.at

in_later : (table : Table) (b : Body) (bs : List Body) (r : Refusal) → IsBrokenIn table bs r
    → IsBrokenIn table (b ∷ bs) r
in_later table b bs r h = record {
  body = h.body;
  there = Contains-later b bs h.body h.there;
  breaks = h.breaks;
  alone = h.alone;
}

here : (table : Table) (b : Body) (bs : List Body) (f : Facts numbers) → AreRight table b f
    → (r : Refusal)
    → Breaks (KeepsNumbered table f) (checks table b) r → IsBrokenIn table (b ∷ bs) r
here table b bs f right r h =
    let of : IsBrokenIn table (b ∷ bs) (broken h.check.rule h.check.at) = record {
      body = b;
      there = Contains-first b bs;
      breaks = fail_refuse table b f right.least h.check h.there h.fails;
      alone = refl;
    } in
    subst (IsBrokenIn table (b ∷ bs)) (sym h.is) of

all_told_break : (table : Table) (bs : List Body) (fs : List (Facts numbers)) (told : List Refusal)
    → AreAllBroken table bs fs told → AreAllRight table bs fs
    → (r : Refusal) → Contains told r → IsBrokenIn table bs r
unfolding AreAllBroken
all_told_break table [] fs told h right r there = absurd
    (Contains-nil r (subst (λ rs. Contains rs r) h there))
all_told_break table (b ∷ bs) [] told h right r there = absurd right
all_told_break table (b ∷ bs) (f ∷ fs) told (own, breaks, (rest, h, e)) right r there =
    ⊎_elim
    (λ in_own. here table b bs f right.0 r
    (told_breaks (KeepsNumbered table f) (checks table b) own breaks r in_own))
    (λ in_rest. in_later table b bs r (all_told_break table bs fs rest h right.1 r in_rest))
    (Contains-append_cases own rest r (subst (λ rs. Contains rs r) e there))

-- what all closed facts break, these facts do
fails_here : (table : Table) (b : Body) (f : Facts numbers) → AreRight table b f
    → (own : List Refusal) → AreBroken (KeepsNumbered table f) (checks table b) own
    → (rule at : ℕ) → IsBroken table b rule at → Contains own (broken rule at)
fails_here table b f right own breaks rule at h =
    let fails = h (meant table f)
    (closed_along (among table) (stand_for table.policies) f (declares table) b right.closed) in
    let told = tells (KeepsNumbered table f) (checks table b) own breaks fails.check fails.asked
    (λ k. fails.broken (kept table f fails.check k)) in
    subst (λ n. Contains own (broken n at)) fails.rule_is
    (subst (λ n. Contains own (broken fails.check.rule n)) fails.at_is told)

all_tell : (table : Table) (bs : List Body) (fs : List (Facts numbers)) (told : List Refusal)
    → AreAllBroken table bs fs told → AreAllRight table bs fs
    → (b : Body) (rule at : ℕ) → Contains bs b → IsBroken table b rule at
    → Contains told (broken rule at)
unfolding AreAllBroken
all_tell table [] fs told h right b rule at there breaks = absurd (Contains-nil b there)
all_tell table (x ∷ xs) [] told h right b rule at there breaks = absurd right
all_tell table (x ∷ xs) (f ∷ fs) told (own, of_own, (rest, h, e)) right b rule at there breaks =
    subst (λ rs. Contains rs (broken rule at)) (sym e)
    (⊎_elim
    (λ is. Contains-append_left own rest (broken rule at)
    (fails_here table x f right.0 own of_own rule at
    (subst (λ y. IsBroken table y rule at) is breaks)))
    (λ in_xs. Contains-append_right own rest (broken rule at)
    (all_tell table xs fs rest h right.1 b rule at in_xs breaks))
    (Contains-cons_cases x xs b there))

both_none : (own rest : List Refusal) → own ++ rest ≡ [] → (own ≡ []) × (rest ≡ [])
both_none [] rest e = (refl, e)
both_none (r ∷ own) rest e = cc

all_silent : (table : Table) (bs : List Body) (fs : List (Facts numbers)) (told : List Refusal)
    → AreAllBroken table bs fs told → AreAllRight table bs fs
    → told ≡ [] → (b : Body) → Contains bs b → IsAccepted table b
unfolding AreAllBroken
all_silent table [] fs told h right none b there = absurd (Contains-nil b there)
all_silent table (x ∷ xs) [] told h right none b there = absurd right
all_silent table (x ∷ xs) (f ∷ fs) told (own, of_own, (rest, h, e)) right none b there =
    let both = both_none own rest (sym e ∙ none) in
    let first = keep_accept table x f right.0.closed
    (silent (KeepsNumbered table f) (checks table x) own of_own both.0) in
    ⊎_elim (λ is. subst (IsAccepted table) (sym is) first)
    (λ in_xs. all_silent table xs fs rest h right.1 both.1 b in_xs)
    (Contains-cons_cases x xs b there)

-- the answer of what is told is the verdict
pub judged : (table : Table) (bs : List Body) (fs : List (Facts numbers)) (told : List Refusal)
    (o : Option Refusal)
    → AreAllBroken table bs fs told → IsAnswer told o → AreAllRight table bs fs
    → IsVerdict table bs o
judged table bs fs told None h none right = all_silent table bs fs told h right none
judged table bs fs told (Some r) h answer right =
    let broken_in = all_told_break table bs fs told h right r answer.among in record {
      body = broken_in.body;
      there = broken_in.there;
      breaks = broken_in.breaks;
      alone = broken_in.alone;
      first = λ b rule at there breaks.
          All-contains (λ g. comes_before g r ≡ false) told (broken rule at) answer.first
          (all_tell table bs fs told h right b rule at there breaks);
    }

-- where nothing is told all facts keep all rules
pub all_kept : (table : Table) (bs : List Body) (fs : List (Facts numbers)) (told : List Refusal)
    → AreAllBroken table bs fs told → AreAllRight table bs fs
    → told ≡ [] → AreAllKept table bs fs
unfolding AreAllBroken
all_kept table [] fs told h right none = tt
all_kept table (b ∷ bs) [] told h right none = absurd right
all_kept table (b ∷ bs) (f ∷ fs) told (own, of_own, (rest, h, e)) right none =
    let both = both_none own rest (sym e ∙ none) in (
      silent (KeepsNumbered table f) (checks table b) own of_own both.0,
      all_kept table bs fs rest h
          right.1 both.1,
    )

-- facts of which nothing is told
pub accepted_by : (typed : Typed) (bs : List TBody) (fs gs : List (Facts numbers))
    (told : List Refusal) → bs ≡ typed.bodies → fs ≡ gs → length typed.bodies ≤ MOST_BODIES
    → length gs ≡ length typed.bodies → AreAllRight typed.table (bodies typed.bodies) gs
    → AreAllBroken typed.table (bodies bs) fs told → told ≡ []
    → IsAcceptedBy typed gs
accepted_by typed bs fs gs told same alike few many right breaks none =
    let here = subst
    (λ (hs : List (Facts numbers)). AreAllBroken typed.table (bodies typed.bodies) hs told)
    alike
    (subst (λ (xs : List TBody). AreAllBroken typed.table (bodies xs) fs told) same breaks) in
    record {
      few = few;
      many = many;
      right = right;
      kept = all_kept typed.table (bodies typed.bodies) gs told
          here right none;
    }

-- what is told of a program, where nothing was noted before
pub told_so : (table t : Table) (bs cs : List TBody) (old new o : Option Refusal) → t ≡ table
    → cs ≡ bs → old ≡ None → o ≡ new → HaveTold t (bodies cs) old new
    → HaveTold table (bodies bs) None o
told_so table t bs cs old new o tables same none is told =
    subst (λ (x : Table). HaveTold x (bodies bs) None o) tables
    (subst (λ (xs : List TBody). HaveTold t (bodies xs) None o) same
    (subst (λ x. HaveTold t (bodies cs) x o) none
    (subst (HaveTold t (bodies cs) old) (sym is) told)))

-- what is told of all bodies is the verdict
pub verdict_told : (table : Table) (bs : List Body) (o : Option Refusal) → HaveTold table bs None o
    → IsVerdict table bs o
verdict_told table bs o told =
    judged table bs told.facts told.told o told.are
    (subst (IsAnswer told.told) (sym told.is) (answered told.told)) told.right

as_many : (bs : List TBody) → length (bodies bs) ≡ length bs
as_many [] = refl
as_many (b ∷ bs) = ap suc (as_many bs)

-- and where that is nothing, some facts keep all rules
pub kept_by_some : (typed : Typed) (o : Option Refusal) → length typed.bodies ≤ MOST_BODIES
    → HaveTold typed.table (bodies typed.bodies) None o → o ≡ None
    → (fs : List (Facts numbers)) × IsAcceptedBy typed fs
kept_by_some typed o few told none =
    let silent : told.told ≡ [] =
    subst (IsAnswer told.told) (sym told.is ∙ none) (answered told.told) in (
      told.facts,
      record {
        few = few;
        many = told.many ∙ as_many typed.bodies;
        right = told.right;
        kept =
            all_kept typed.table (bodies typed.bodies) told.facts told.told told.are told.right
            silent;
      },
    )

body_kept : (table : Table) (bs : List Body) (fs : List (Facts numbers)) → AreAllRight table bs fs
    → AreAllKept table bs fs → (b : Body) → Contains bs b
    → (f : Facts numbers) × AreKept table b f
body_kept table [] fs right kept b there = absurd (Contains-nil b there)
body_kept table (x ∷ xs) [] right kept b there = absurd right
body_kept table (x ∷ xs) (f ∷ fs) right kept b there =
    ⊎_elim
    (λ is. subst (λ y. (g : Facts numbers) × AreKept table y g) (sym is)
    (f, record { right = right.0; kept = kept.0 }))
    (λ in_xs. body_kept table xs fs right.1 kept.1 b in_xs)
    (Contains-cons_cases x xs b there)

-- each body of an accepted program has such facts
pub each_kept : (typed : Typed) (fs : List (Facts numbers)) → IsAcceptedBy typed fs → (b : Body)
    → Contains (bodies typed.bodies) b
    → (f : Facts numbers) × AreKept typed.table b f
each_kept typed fs accepted =
    body_kept typed.table (bodies typed.bodies) fs accepted.right accepted.kept
