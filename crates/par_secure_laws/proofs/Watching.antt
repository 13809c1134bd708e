-- Facts that are kept, as one observer meets them.
use Rattle.std.proofs.Common.{◌≡◌, ℕ, Bool, ⊎_elim, Option, Some, None, List, []}
use Rattle.std.proofs.Common.{◌∷◌}
use Rattle.std.proofs.Common.{◌++◌, refl, ap, subst}
use Rattle.std.specs.Prelude.{IsTrue, map, All, Contains, nat_eq}
use Rattle.std.specs.List.{range_with_len}
use Rattle.std.proofs.lemmas.Bool.{eqb-true}
use Rattle.std.proofs.lemmas.List.Elements.{All-append, All-nil, All-cons}
use Rattle.par_policy.specs.declared.clauses.Clause.{Clause}
use Rattle.par_policy.specs.Numbers.{has, within}
use Rattle.par_policy.proofs.Members.{within-from_All, Contains-from_has}
use Rattle.par_policy.proofs.Ordered.{Contains-first, Contains-later}
use Rattle.par_policy.proofs.Filtered.{Contains-from_filter}
use Rattle.par_bits.specs.Sets.{Set, IsWithin, union}
use Rattle.par_typed.specs.declared.table.Table.{Table}
use Rattle.par_typed.specs.Plain.{Body}
use Rattle.par_program_laws.specs.Lattice.{Lattice, IsSeenBelow, joined, numbers}
use Rattle.par_program_laws.specs.Ranges.{MOST}
use Rattle.par_program_laws.specs.Ways as ways
use Rattle.par_program_laws.specs.Ways.{Flows, MayFlow}
use Rattle.par_program_laws.specs.Facts.{Facts}
use Rattle.par_program_laws.specs.Rules.{way, Holds}
use Rattle.par_pass_laws.proofs.Along.{StandsFor, stand_for, as_facts, as_all, as_may, as_way}
use Rattle.par_pass_laws.proofs.Along.{way_lower}
use Rattle.par_pass_laws.proofs.Order.{union_l, union_r}
use Rattle.par_check_laws.specs.Asked as ask
use Rattle.par_check_laws.specs.Asked.{Condition, Check}
use Rattle.par_check_laws.specs.Checks.{checks}
use Rattle.par_check_laws.specs.Keeps.{Satisfies, locks_in}
use Rattle.par_check_laws.specs.Verdict.{KeepsNumbered, given}
use Rattle.par_secrecy.specs.Runs.{Witnessed}
use Rattle.par_secrecy.specs.Shown.{Observer}
use Rattle.par_alike.specs.Watched.{watched}
use Rattle.par_pass_laws.proofs.Along.{and_l, and_r}
use Rattle.std.proofs.lemmas.Bool.{and_from}
use Rattle.par_alike.proofs.LockSets.{or_cases}
use Rattle.par_alike.proofs.States.{Watch, Explained}
use Rattle.par_secure_laws.specs.Release.{IsRelease}
use Rattle.par_secure_laws.proofs.Points.{Demand, Kept, AllKept}
use Rattle.par_secure_laws.specs.Explained.{IsPair, Explains}

-- facts over sets of numbers are closed as facts of one observer
pub watched_stands : (table : List (List Clause)) (o : Observer) → StandsFor (watched table o)
unfolding stand_for
watched_stands table o = record {
  meant = λ s. joined table s o.actor o.locks;
  refl = λ p h. h;
  trans = λ p q r f g h. f (g h);
  both = λ p q r s f g h. and_from p q (f (and_l r s h)) (g (and_r r s h));
  order = λ s t h. (stand_for table).order s t h o.actor o.locks;
  join = λ s t. (stand_for table).join s t o.actor o.locks;
  least = λ p h. refl;
  given = λ n. (stand_for table).given n o.actor o.locks;
}

-- ---- locks

-- each of those within is one of the others
pub within_has : (inner outer : List ℕ) → IsTrue (within inner outer) → (l : ℕ)
    → IsTrue (has inner l) → IsTrue (has outer l)
within_has [] outer w l h = absurd cc
within_has (m ∷ ms) outer w l h =
    ⊎_elim (λ e. subst (λ z. IsTrue (has outer z)) (eqb-true m l e)
    (and_l (has outer m) (within ms outer) w))
    (λ e. within_has ms outer (and_r (has outer m) (within ms outer) w) l e)
    (or_cases (nat_eq m l) (has ms l) h)

-- what holds of each holds of all
each : (P : ℕ → Type 0) (xs : List ℕ) → ((n : ℕ) → Contains xs n → P n) → All P xs
each P [] f = All-nil P
each P (x ∷ xs) f =
    All-cons P x xs (f x (Contains-first x xs)) (each P xs (λ n h. f n (Contains-later x xs n h)))

-- locks that the observer has anyway
pub had : (o : Observer) (w : Set) → ((l : ℕ) → IsTrue (w l) → IsTrue (has o.locks l))
    → IsTrue (within (o.locks ++ locks_in w) o.locks)
had o w h =
    within-from_All (o.locks ++ locks_in w) o.locks
    (All-append (Contains o.locks) o.locks (locks_in w)
    (each (Contains o.locks) o.locks (λ n i. i))
    (each (Contains o.locks) (locks_in w)
    (λ n i. Contains-from_has o.locks n
    (h n (Contains-from_filter w (range_with_len 0 MOST) n i).1))))

-- ---- releases

-- A node under a rule on releases goes to the policy of this number, has a value that this tells
-- of, and knows no locks but some of these to be open.
pub record Releases (table : Table) (bs : List Body) (fs : List (Facts numbers)) (o : Observer)
    (policy : ℕ) (sees : Bool) (locks : Set) : Type 0 where
  pub body : Body
  pub facts : Facts numbers
  pub pair : IsPair body facts bs fs
  pub check : Check
  pub asked : Contains (checks table body) check
  pub rule : IsRelease check.rule
  pub value : ℕ
  pub condition : check.condition ≡ ask.Released value policy
  pub seen : IsTrue (joined table.policies (facts value).value o.actor o.locks) → IsTrue sees
  pub at : ways.Way numbers
  pub spot : way numbers (facts check.spot.point).entry (map facts check.spot.parts)
      check.spot.from ≡ Some at
  pub within : IsWithin at.locks locks

-- an observer of a program with facts
abbrev pub watch : Table → List Body → List (Facts numbers) → Observer → Watch
watch table bs fs o = record { table = table; observer = o; Release = Releases table bs fs o }

-- what explains a difference for the observer explains it
pub explains : (table : Table) (bs : List Body) (fs : List (Facts numbers)) (o : Observer)
    (x y : Witnessed) → Explained (watch table bs fs o) x y → Explains table bs fs o x y
explains table bs fs o x y r = record {
  body = r.node.body;
  facts = r.node.facts;
  pair = r.node.pair;
  check = r.node.check;
  asked = r.node.asked;
  rule = r.node.rule;
  value = r.node.value;
  policy = r.to;
  condition = r.node.condition;
  seen = r.seen;
  unseen = λ h. r.hidden (r.node.seen h);
  at = r.node.at;
  spot = r.node.spot;
  one_open = λ l i. r.left l (r.node.within l i);
  other_open = λ l i. r.right l (r.node.within l i);
}

-- ---- checks, of the facts of a body

module _ (table : Table) (bs : List Body) (fs : List (Facts numbers)) (o : Observer) (b : Body)
    (f : Facts numbers) (pair : IsPair b f bs fs) where
  abbrev pub on : Watch
  on = watch table bs fs o

  abbrev pub W : Lattice
  W = watched table.policies o

  abbrev pub M : StandsFor W
  M = watched_stands table.policies o

  abbrev pub meant : Facts W
  meant = as_facts W M f

  -- the facts of parts
  parts_meant : (ps : List ℕ) → as_all W M (map f ps) ≡ map meant ps
  parts_meant [] = refl
  parts_meant (p ∷ ps) = ap (λ fs. meant p ∷ fs) (parts_meant ps)

  -- a larger set of numbers stands for a higher policy
  in_order : (s t : Set) → IsWithin s t
      → IsSeenBelow (joined table.policies s) (joined table.policies t)
  unfolding stand_for
  in_order s t h = (stand_for table.policies).order s t h

  -- the way at the spot of a check, with facts over sets of numbers
  abbrev way_at : Check → Option (ways.Way numbers)
  way_at c = way numbers (f c.spot.point).entry (map f c.spot.parts) c.spot.from

  -- a rule on a release that is asked of the facts
  released : (c : Check) → Contains (checks table b) c → (w : ways.Way numbers) (x : ways.Way W)
      → Flows W x (as_way W M w) → way_at c ≡ Some w → (v p : ℕ) → c.condition ≡ ask.Released v p
      → IsRelease c.rule → Releases table bs fs o p (meant v).value x.locks
  unfolding watched_stands joined
  released c asked w x h at v p is rule = record {
    body = b;
    facts = f;
    pair = pair;
    check = c;
    asked = asked;
    rule = rule;
    value = v;
    condition = is;
    seen = λ k. k;
    at = w;
    spot = at;
    within = h.lands.locks;
  }

  -- a condition that the facts satisfy holds for the observer
  demanded : (c : Check) → Contains (checks table b) c → (w : ways.Way numbers) (x : ways.Way W)
      → Flows W x (as_way W M w) → way_at c ≡ Some w → (k : Condition) → c.condition ≡ k
      → Satisfies numbers (joined table.policies) (given table) f w k → Demand on meant c.rule x k
  unfolding watched_stands joined
  demanded c asked w x h at (ask.Open locks) is k = λ n i. h.lands.locks n (k n i)
  demanded c asked w x h at (ask.Released v p) is k = released c asked w x h at v p is
  demanded c asked w x h at (ask.Worth v p) is k = λ vis. k o.actor o.locks vis
  demanded c asked w x h at (ask.Joined v p) is k =
      λ vis.
      let all = k o.actor o.locks vis in
      and_from (joined table.policies (f v).value o.actor o.locks) x.context
      (in_order (f v).value (union (f v).value w.context) (union_l (f v).value w.context) o.actor
      o.locks all)
      (h.context
      (in_order w.context (union (f v).value w.context) (union_r (f v).value w.context) o.actor
      o.locks all))
  demanded c asked w x h at (ask.Context p) is k = λ vis. h.context (k o.actor o.locks vis)
  demanded c asked w x h at (ask.Effect e p) is k = λ vis. k o.actor o.locks vis
  demanded c asked w x h at (ask.Among locks those) is k = k
  demanded c asked w x h at ask.Never is k = absurd k

  -- at a spot that is reached
  holds : (c : Check) → Contains (checks table b) c
      → (y : Option (ways.Way numbers)) (z : Option (ways.Way W)) → MayFlow W z (as_may W M y)
      → way_at c ≡ y → Holds numbers y
      (λ w. Satisfies numbers (joined table.policies) (given table) f w c.condition)
      → Holds W z (λ x. Demand on meant c.rule x c.condition)
  holds c asked y None h at k = tt
  holds c asked None (Some x) h at k = absurd h
  holds c asked (Some w) (Some x) h at k = demanded c asked w x h at c.condition refl k

  -- a check that the facts keep they keep for the observer
  kept_for : (c : Check) → Contains (checks table b) c → KeepsNumbered table f c → Kept on meant c
  kept_for c asked k =
      let lower = way_lower W M (f c.spot.point).entry (map f c.spot.parts) c.spot.from in
      holds c asked (way_at c)
      (way W (meant c.spot.point).entry (map meant c.spot.parts) c.spot.from)
      (subst
      (λ fs. MayFlow W (way W (meant c.spot.point).entry fs c.spot.from) (as_may W M (way_at c)))
      (parts_meant c.spot.parts) lower) refl k

  -- what the facts keep they keep for the observer
  pub all_kept : (cs : List Check)
      → ((c : Check) → Contains cs c → Contains (checks table b) c × KeepsNumbered table f c)
      → AllKept on meant cs
  all_kept [] h = tt
  all_kept (c ∷ cs) h =
      let i = h c (Contains-first c cs) in
      (kept_for c i.0 i.1, all_kept cs (λ x i. h x (Contains-later c cs x i)))
