-- Rules that fail are told, and what is told fails.
use Rattle.std.proofs.Common.{◌≡◌, ◌⊎◌, ℕ, Bool, true, false, not, Option, Some, None, List, []}
use Rattle.std.proofs.Common.{◌∷◌, ◌++◌, inl, inr, refl, sym, subst, ap, ◌∙◌, ⊎_elim}
use Rattle.std.specs.Prelude.{Contains, IsTrue}
use Rattle.std.proofs.lemmas.Bool.{false≢true}
use Rattle.std.proofs.lemmas.List.Elements.{All-contains, Contains-append_cases}
use Rattle.std.proofs.lemmas.List.Elements.{Contains-append_left, Contains-append_right}
use Rattle.par_policy.proofs.Ordered.{Contains-nil, Contains-cons_cases, Contains-first}
use Rattle.par_policy.proofs.Ordered.{Contains-later}
use Rattle.par_bits.specs.Sets.{Set}
use Rattle.par_typed.specs.declared.table.Table.{Table}
use Rattle.par_refusals.specs.declared.refusal.Refusal.{Refusal}
use Rattle.par_refusals.specs.First.{broken, comes_before, when, first_of, IsAnswer}
use Rattle.par_typed.specs.Plain.{Body}
use Rattle.par_refusals.proofs.First.{first_of_append, first_of_none}
use Rattle.par_program_laws.specs.Lattice.{numbers}
use Rattle.par_program_laws.specs.Facts.{Facts}
use Rattle.par_infer.specs.par_check_laws.Asked.{Check}
use Rattle.par_infer.specs.par_check_laws.Checks.{checks}
use Rattle.par_check.specs.par_check_laws.Right.{AreRight, AreAllRight}
use Rattle.par_check.specs.Told.{AreBroken}
use Rattle.par_check.proofs.Told.{Goes, Noted}
use Rattle.par_infer.specs.Laws.{AreAll, KeepOthers, KeepsOther, KeepsReplaced, is_bound}
use Rattle.par_infer.proofs.Choices.{by_cases}
use Rattle.par_infer.specs.Judged.{AreAllFailed, IsJudged}

-- ---- noted body by body

pub ends_all : (All : List Refusal → Type 0) (table : Table) (σ : ℕ → Set)
    (fs : List (Facts numbers)) (old now : Option Refusal)
    → Goes All (AreAllFailed table σ [] fs) old now → Noted All old now
unfolding AreAllFailed
ends_all All table σ fs old now goes = subst (Noted All old) (first_of_none now) (goes [] refl)

pub goes_on_all : (All : List Refusal → Type 0) (table : Table) (σ : ℕ → Set) (b : Body)
    (bs : List Body) (f : Facts numbers) (fs : List (Facts numbers)) (old now new : Option Refusal)
    → Noted (AreBroken (KeepsOther table σ f) (checks table b)) now new
    → Goes All (AreAllFailed table σ (b ∷ bs) (f ∷ fs)) old now
    → Goes All (AreAllFailed table σ bs fs) old new
unfolding AreAllFailed
goes_on_all All table σ b bs f fs old now new own goes rest h =
    let noted = goes (own.told ++ rest) (own.told, own.are, (rest, h, refl)) in
    subst (Noted All old)
    (first_of_append now own.told rest ∙ ap (λ o. first_of o rest) (sym own.is)) noted

-- ---- one list of rules

-- a rule of the list that is not kept, and what is told of it
record Breaks (Keeps : Check → Type 0) (cs : List Check) (r : Refusal) : Type 0 where
  check : Check
  there : Contains cs check
  fails : Keeps check → ⊥
  is : r ≡ broken check.rule check.at

later : (Keeps : Check → Type 0) (c : Check) (cs : List Check) (r : Refusal) → Breaks Keeps cs r
    → Breaks Keeps (c ∷ cs) r
later Keeps c cs r b = record
    { check = b.check; there = Contains-later c cs b.check b.there; fails = b.fails; is = b.is }

module _ (Keeps : Check → Type 0) where
  one_breaks : (c : Check) (cs : List Check) (kept : Bool) (rest : List Refusal)
      → (Keeps c → IsTrue kept) → ((r : Refusal) → Contains rest r → Breaks Keeps cs r)
      → (r : Refusal) → Contains (when (not kept) (broken c.rule c.at) ++ rest) r
      → Breaks Keeps (c ∷ cs) r
  unfolding when
  one_breaks c cs true rest decides more r told = later Keeps c cs r (more r told)
  one_breaks c cs false rest decides more r told =
      ⊎_elim
      (λ is. record {
        check = c;
        there = Contains-first c cs;
        fails = λ k. false≢true (decides k);
        is = is;
      })
      (λ in_rest. later Keeps c cs r (more r in_rest))
      (Contains-cons_cases (broken c.rule c.at) rest r told)

  -- what is told is broken
  told_breaks : (cs : List Check) (told : List Refusal) → AreBroken Keeps cs told → (r : Refusal)
      → Contains told r → Breaks Keeps cs r
  unfolding AreBroken
  told_breaks [] told h r in_told = absurd (Contains-nil r (subst (λ rs. Contains rs r) h in_told))
  told_breaks (c ∷ cs) told (kept, decides, (rest, h, e)) r in_told =
      one_breaks c cs kept rest decides.1 (told_breaks cs rest h) r
      (subst (λ rs. Contains rs r) e in_told)

  one_told : (c : Check) (kept : Bool) (rest : List Refusal) → (IsTrue kept → Keeps c)
      → Contains (when (not kept) (broken c.rule c.at) ++ rest) (broken c.rule c.at) ⊎ Keeps c
  unfolding when
  one_told c true rest decides = inr (decides refl)
  one_told c false rest decides = inl (Contains-first (broken c.rule c.at) rest)

  -- each rule is told or kept
  told_or_kept : (cs : List Check) (told : List Refusal) → AreBroken Keeps cs told → (c : Check)
      → Contains cs c → Contains told (broken c.rule c.at) ⊎ Keeps c
  unfolding AreBroken
  told_or_kept [] told h c there = absurd (Contains-nil c there)
  told_or_kept (x ∷ xs) told (kept, decides, (rest, h, e)) c there =
      subst (λ rs. Contains rs (broken c.rule c.at) ⊎ Keeps c) (sym e)
      (⊎_elim
      (λ is. subst (λ y. Contains (when (not kept) (broken x.rule x.at) ++ rest)
      (broken y.rule y.at) ⊎ Keeps y) (sym is) (one_told x kept rest decides.0))
      (λ in_xs. ⊎_elim
      (λ in_rest. inl (Contains-append_right (when (not kept) (broken x.rule x.at)) rest
      (broken c.rule c.at) in_rest))
      (λ k. inr k) (told_or_kept xs rest h c in_xs))
      (Contains-cons_cases x xs c there))

-- ---- all bodies

module _ (table : Table) (σ : ℕ → Set) where
  -- some other rule of some body fails, and is told so
  record FailsIn (bs : List Body) (r : Refusal) : Type 0 where
    body : Body
    facts : Facts numbers
    there : Contains bs body
    right : AreRight table body facts
    check : Check
    asked : Contains (checks table body) check
    other : is_bound table check ≡ false
    fails : KeepsReplaced table σ facts check → ⊥
    is : r ≡ broken check.rule check.at

  fails_later : (b : Body) (bs : List Body) (r : Refusal) → FailsIn bs r → FailsIn (b ∷ bs) r
  fails_later b bs r h = record {
    body = h.body;
    facts = h.facts;
    there = Contains-later b bs h.body h.there;
    right = h.right;
    check = h.check;
    asked = h.asked;
    other = h.other;
    fails = h.fails;
    is = h.is;
  }

  fails_here : (b : Body) (bs : List Body) (f : Facts numbers) (r : Refusal) → AreRight table b f
      → Breaks (KeepsOther table σ f) (checks table b) r → FailsIn (b ∷ bs) r
  fails_here b bs f r right h = record {
    body = b;
    facts = f;
    there = Contains-first b bs;
    right = right;
    check = h.check;
    asked = h.there;
    other =
        by_cases (is_bound table h.check) (is_bound table h.check ≡ false)
        (λ e. absurd (h.fails (λ d. absurd (false≢true (sym d ∙ e))))) (λ e. e);
    fails = λ k. h.fails (λ d. k);
    is = h.is;
  }

  all_told_fail : (bs : List Body) (fs : List (Facts numbers)) (told : List Refusal)
      → AreAllFailed table σ bs fs told → AreAllRight table bs fs → (r : Refusal)
      → Contains told r → FailsIn bs r
  unfolding AreAllFailed
  all_told_fail [] fs told h right r there =
      absurd (Contains-nil r (subst (λ rs. Contains rs r) h there))
  all_told_fail (b ∷ bs) [] told h right r there = absurd right
  all_told_fail (b ∷ bs) (f ∷ fs) told (own, breaks, (rest, h, e)) right r there =
      ⊎_elim
      (λ in_own. fails_here b bs f r right.0
      (told_breaks (KeepsOther table σ f) (checks table b) own breaks r in_own))
      (λ in_rest. fails_later b bs r (all_told_fail bs fs rest h right.1 r in_rest))
      (Contains-append_cases own rest r (subst (λ rs. Contains rs r) e there))

  -- each rule is told or kept
  abbrev AreToldOrKept : List Refusal → Body → Facts numbers → Type 0
  AreToldOrKept told b f =
      (c : Check) → Contains (checks table b) c
      → Contains told (broken c.rule c.at) ⊎ KeepsOther table σ f c

  more_told : (own rest : List Refusal) (bs : List Body) (fs : List (Facts numbers))
      → AreAll (AreToldOrKept rest) bs fs → AreAll (AreToldOrKept (own ++ rest)) bs fs
  more_told own rest [] fs h = tt
  more_told own rest (b ∷ bs) [] h = absurd h
  more_told own rest (b ∷ bs) (f ∷ fs) h = (
    λ c asked. ⊎_elim
        (λ t. inl (Contains-append_right own rest (broken c.rule c.at) t)) (λ k. inr k)
        (h.0 c asked),
    more_told own rest bs fs h.1,
  )

  all_told_or_kept : (bs : List Body) (fs : List (Facts numbers)) (told : List Refusal)
      → AreAllFailed table σ bs fs told → AreAllRight table bs fs
      → AreAll (AreToldOrKept told) bs fs
  unfolding AreAllFailed
  all_told_or_kept [] fs told h right = tt
  all_told_or_kept (b ∷ bs) [] told h right = absurd right
  all_told_or_kept (b ∷ bs) (f ∷ fs) told (own, breaks, (rest, h, e)) right =
      subst (λ ts. AreAll (AreToldOrKept ts) (b ∷ bs) (f ∷ fs)) (sym e)
      ((
        λ c asked. ⊎_elim
            (λ t. inl (Contains-append_left own rest (broken c.rule c.at) t)) (λ k. inr k)
            (told_or_kept (KeepsOther table σ f) (checks table b) own breaks c asked),
        more_told own rest bs fs (all_told_or_kept bs fs rest h right.1),
      ))

  all_map : (P Q : Body → Facts numbers → Type 0) → ((b : Body) (f : Facts numbers) → P b f → Q b f)
      → (bs : List Body) (fs : List (Facts numbers)) → AreAll P bs fs → AreAll Q bs fs
  all_map P Q g [] fs h = tt
  all_map P Q g (b ∷ bs) [] h = absurd h
  all_map P Q g (b ∷ bs) (f ∷ fs) h = (g b f h.0, all_map P Q g bs fs h.1)

  kept_of : (told : List Refusal) → told ≡ [] → (b : Body) (f : Facts numbers)
      → AreToldOrKept told b f → KeepOthers table σ b f
  kept_of told none b f h c asked other =
      ⊎_elim
      (λ t. absurd (Contains-nil (broken c.rule c.at)
      (subst (λ ts. Contains ts (broken c.rule c.at)) none t)))
      (λ k. k other) (h c asked)

  -- the answer of what is told is the verdict
  pub judged : (bs : List Body) (fs : List (Facts numbers)) (told : List Refusal)
      (o : Option Refusal) → AreAllFailed table σ bs fs told → IsAnswer told o
      → AreAllRight table bs fs → IsJudged table bs fs σ o
  judged bs fs told None h none right =
      all_map (AreToldOrKept told) (KeepOthers table σ) (kept_of told none) bs fs
      (all_told_or_kept bs fs told h right)
  judged bs fs told (Some r) h answer right =
      let fails = all_told_fail bs fs told h right r answer.among in record {
        body = fails.body;
        facts = fails.facts;
        there = fails.there;
        right = fails.right;
        check = fails.check;
        asked = fails.asked;
        other = fails.other;
        fails = fails.fails;
        is = fails.is;
        before =
            all_map (AreToldOrKept told) _
            (λ b f all c asked other. ⊎_elim
            (λ t. inl (All-contains (λ g. comes_before g r ≡ false) told (broken c.rule c.at)
            answer.first t))
            (λ k. inr (k other)) (all c asked))
            bs fs (all_told_or_kept bs fs told h right);
      }
