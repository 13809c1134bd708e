-- Facts of parts, the latest first, and the ways that come of them.
use Rattle.std.proofs.Common.{◌≡◌, ℕ, zero, suc, ◌+◌, ◌-◌, ◌<◌, ◌≤◌, cond, Option, Some, None, List}
use Rattle.std.proofs.Common.{[], ◌∷◌, ◌++◌, length, get_or, set, refl, sym, ap, ◌∙◌, arith, ⊎_elim}
use Rattle.std.proofs.lemmas.Bool.{eq-eqb}
use Rattle.std.proofs.Math.Path.{fun_ext}
use Rattle.std.proofs.lemmas.Bool.Decides.{eqb_tells}
use Rattle.par_bits.specs.Sets.{has, none, adding}
use Rattle.par_program_laws.specs.Lattice.{numbers}
use Rattle.par_program_laws.specs.Facts.{Fact, blank}
use Rattle.par_program_laws.specs.Ranges.{MOST, AreLocks, IsFromInRange}
use Rattle.par_program_laws.specs.Rules.{From, part_at, way, worth}
use Rattle.par_program_laws.specs.Ways.{Way, moved, put, assigned, raised, shut, opened}
use Rattle.par_policy.specs.Numbers.{has as is_among}
use Rattle.par_nodes.specs.declared.rule.Locks.{Locks}
use Rattle.par_nodes.specs.declared.rule.Locks.TheVariants.{Kept, Nothing, One, All}
use Rattle.par_nodes.specs.declared.rule.Origin.{Origin}
use Rattle.par_nodes.specs.declared.rule.Kind.{Kind}
use Rattle.par_nodes.specs.declared.rule.Start.{Start}
use Rattle.par_nodes.specs.declared.rule.Start.TheVariants as start
use Rattle.par_nodes.specs.declared.rule.Worth.{Worth}
use Rattle.par_nodes.specs.declared.rule.Worth.TheVariants as code_worth
use Rattle.par_nodes.specs.Seen.{seen_kind, seen_origin, seen_start, seen_worth}
use Rattle.par_nodes.specs.Seen as step
use Rattle.par_pass_laws.specs.par_except.Seen.{locals}
use Rattle.par_ways.specs.declared.fact.Fact as code
use Rattle.par_ways.specs.Seen.{seen_fact, latest_first}
use Rattle.par_ways.specs.Changes.{seen_locks, assigned_by, tested_by, raised_by, shut_by}
use Rattle.par_ways.specs.Changes.{opened_by, HaveRange, HasPolicy, HasLocal}

pub latest_push : (fs : List code.Fact) (f : code.Fact) (gs : List (Fact numbers))
    → latest_first (fs ++ f ∷ []) gs ≡ seen_fact f ∷ latest_first fs gs
latest_push [] f gs = refl
latest_push (x ∷ fs) f gs = latest_push fs f (seen_fact x ∷ gs)

behind : (fs : List code.Fact) (gs : List (Fact numbers)) (n m : ℕ) → n ≡ length fs + m
    → part_at numbers (latest_first fs gs) n ≡ part_at numbers gs m
behind [] gs n m e = let g : n ≡ m = omega (arith, e) in ap (part_at numbers gs) g
behind (x ∷ fs) gs n m e =
    let g : n ≡ length fs + suc m = omega (arith, e) in behind fs (seen_fact x ∷ gs) n (suc m) g

pub latest_at : (fs : List code.Fact) (gs : List (Fact numbers)) (n i : ℕ) (f : code.Fact)
    → n + i + 1 ≡ length fs → f ≡ get_or fs i f
    → part_at numbers (latest_first fs gs) n ≡ seen_fact f
latest_at [] gs n i f e q = absurd (omega (arith, e))
latest_at (x ∷ fs) gs n zero f e q = let g : n ≡ length fs + 0 = omega (arith, e) in
    behind fs (seen_fact x ∷ gs) n 0 g ∙ ap seen_fact (sym q)
latest_at (x ∷ fs) gs n (suc i) f e q =
    let g : n + i + 1 ≡ length fs = omega (arith, e) in latest_at fs (seen_fact x ∷ gs) n i f g q

none_at : (n : ℕ) → part_at numbers [] n ≡ blank numbers
none_at n = refl

pub latest_past : (fs : List code.Fact) (n : ℕ) → length fs ≤ n
    → part_at numbers (latest_first fs []) n ≡ blank numbers
latest_past fs n h = past (n - length fs) (omega (arith, h)) where
  past : (m : ℕ) → n ≡ length fs + m → part_at numbers (latest_first fs []) n ≡ blank numbers
  past m e = behind fs [] n m e ∙ none_at m

-- one step after the other, where there is a way and where there is none
module _ (o : Option (Way numbers)) (fs : List (Fact numbers)) where
  assigned_some : (c : Option (ℕ × ℕ)) (from : From) (w : Way numbers)
      → way numbers o fs from ≡ Some w
      → way numbers o fs (step.assigned c from) ≡ Some (assigned_by c fs w)
  unfolding way
  assigned_some None from w h = h
  assigned_some (Some x) from w h =
      ap (moved numbers (assigned numbers x.0 (part_at numbers fs x.1).value)) h

  tested_some : (c : Option ℕ) (from : From) (w : Way numbers) → way numbers o fs from ≡ Some w
      → way numbers o fs (step.tested c from) ≡ Some (tested_by c fs w)
  unfolding way
  tested_some None from w h = h
  tested_some (Some part) from w h =
      ap (moved numbers (raised numbers (part_at numbers fs part).value)) h

  raised_some : (c : Option ℕ) (from : From) (w : Way numbers) → way numbers o fs from ≡ Some w
      → way numbers o fs (step.raised c from) ≡ Some (raised_by c w)
  unfolding way
  raised_some None from w h = h
  raised_some (Some policy) from w h = ap (moved numbers (raised numbers (adding none policy))) h

  shut_some : (c : Locks) (from : From) (w : Way numbers) → way numbers o fs from ≡ Some w
      → way numbers o fs (step.shut c from) ≡ Some (shut_by (seen_locks c) w)
  unfolding way
  shut_some Kept from w h = h
  shut_some Nothing from w h = ap (moved numbers (shut numbers none)) h
  shut_some (One lock) from w h = ap (moved numbers (shut numbers (adding none lock))) h
  shut_some (All set) from w h = ap (moved numbers (shut numbers (is_among set.now))) h

  opened_some : (c : Locks) (from : From) (w : Way numbers) → way numbers o fs from ≡ Some w
      → way numbers o fs (step.opened c from) ≡ Some (opened_by (seen_locks c) w)
  unfolding way
  opened_some Kept from w h = h
  opened_some Nothing from w h = ap (moved numbers (opened numbers none)) h
  opened_some (One lock) from w h = ap (moved numbers (opened numbers (adding none lock))) h
  opened_some (All set) from w h = ap (moved numbers (opened numbers (is_among set.now))) h

  pub origin_some : (g : Origin) (w : Way numbers) → way numbers o fs (seen_start g.start) ≡ Some w
      → way numbers o fs (seen_origin g)
      ≡ Some (opened_by (seen_locks g.opened)
      (shut_by (seen_locks g.shut)
      (raised_by g.raised (tested_by g.tested fs (assigned_by g.assigned fs w)))))
  origin_some g w h =
      opened_some g.opened _ _ (shut_some g.shut _ _
      (raised_some g.raised _ _ (tested_some g.tested _ _ (assigned_some g.assigned _ w h))))

  assigned_none : (c : Option (ℕ × ℕ)) (from : From) → way numbers o fs from ≡ None
      → way numbers o fs (step.assigned c from) ≡ None
  unfolding way
  assigned_none None from h = h
  assigned_none (Some x) from h =
      ap (moved numbers (assigned numbers x.0 (part_at numbers fs x.1).value)) h

  tested_none : (c : Option ℕ) (from : From) → way numbers o fs from ≡ None
      → way numbers o fs (step.tested c from) ≡ None
  unfolding way
  tested_none None from h = h
  tested_none (Some part) from h =
      ap (moved numbers (raised numbers (part_at numbers fs part).value)) h

  raised_none : (c : Option ℕ) (from : From) → way numbers o fs from ≡ None
      → way numbers o fs (step.raised c from) ≡ None
  unfolding way
  raised_none None from h = h
  raised_none (Some policy) from h = ap (moved numbers (raised numbers (adding none policy))) h

  shut_none : (c : Locks) (from : From) → way numbers o fs from ≡ None
      → way numbers o fs (step.shut c from) ≡ None
  unfolding way
  shut_none Kept from h = h
  shut_none Nothing from h = ap (moved numbers (shut numbers none)) h
  shut_none (One lock) from h = ap (moved numbers (shut numbers (adding none lock))) h
  shut_none (All set) from h = ap (moved numbers (shut numbers (is_among set.now))) h

  opened_none : (c : Locks) (from : From) → way numbers o fs from ≡ None
      → way numbers o fs (step.opened c from) ≡ None
  unfolding way
  opened_none Kept from h = h
  opened_none Nothing from h = ap (moved numbers (opened numbers none)) h
  opened_none (One lock) from h = ap (moved numbers (opened numbers (adding none lock))) h
  opened_none (All set) from h = ap (moved numbers (opened numbers (is_among set.now))) h

  pub origin_none : (g : Origin) → way numbers o fs (seen_start g.start) ≡ None
      → way numbers o fs (seen_origin g) ≡ None
  origin_none g h =
      opened_none g.opened _ (shut_none g.shut _
      (raised_none g.raised _ (tested_none g.tested _ (assigned_none g.assigned _ h))))

-- the steps are in range
pub record AreStepsInRange (n : ℕ) (g : Origin) : Type 0 where
  pub assigned : HasLocal n g.assigned
  pub raised : HasPolicy g.raised
  pub shut : HaveRange (seen_locks g.shut)
  pub opened : HaveRange (seen_locks g.opened)

module _ (n : ℕ) where
  opened_range : (c : Locks) (from : From) → IsFromInRange n (step.opened c from)
      → HaveRange (seen_locks c) × IsFromInRange n from
  unfolding IsFromInRange
  opened_range Kept from h = (tt, h)
  opened_range Nothing from h = (h.0, h.1)
  opened_range (One lock) from h = (h.0, h.1)
  opened_range (All set) from h = (h.0, h.1)

  shut_range : (c : Locks) (from : From) → IsFromInRange n (step.shut c from)
      → HaveRange (seen_locks c) × IsFromInRange n from
  unfolding IsFromInRange
  shut_range Kept from h = (tt, h)
  shut_range Nothing from h = (h.0, h.1)
  shut_range (One lock) from h = (h.0, h.1)
  shut_range (All set) from h = (h.0, h.1)

  raised_range : (c : Option ℕ) (from : From) → IsFromInRange n (step.raised c from)
      → HasPolicy c × IsFromInRange n from
  unfolding IsFromInRange
  raised_range None from h = (tt, h)
  raised_range (Some policy) from h = (h.0, h.1)

  tested_range : (c : Option ℕ) (from : From) → IsFromInRange n (step.tested c from)
      → IsFromInRange n from
  unfolding IsFromInRange
  tested_range None from h = h
  tested_range (Some part) from h = h

  assigned_range : (c : Option (ℕ × ℕ)) (from : From) → IsFromInRange n (step.assigned c from)
      → HasLocal n c
  unfolding IsFromInRange
  assigned_range None from h = tt
  assigned_range (Some x) from h = h.0

  pub steps_range : (g : Origin) → IsFromInRange n (seen_origin g) → AreStepsInRange n g
  steps_range g h =
      let a = opened_range g.opened _ h in
      let b = shut_range g.shut _ a.1 in
      let c = raised_range g.raised _ b.1 in
      record {
        assigned = assigned_range g.assigned _ (tested_range g.tested _ c.1);
        raised = c.0;
        shut = b.0;
        opened = a.0;
      }

-- a lock among others that are in range
pub one_lock : (lock : ℕ) → AreLocks (adding none lock) → lock < MOST
one_lock lock h = h lock (eq-eqb lock lock refl)

-- policies of locals, with another one
set_here : (ss : List ℕ) (i s : ℕ) → i < length ss → locals (set ss i s) i ≡ has s
unfolding locals
set_here [] i s h = absurd (omega (arith, h))
set_here (x ∷ ss) zero s h = refl
set_here (x ∷ ss) (suc i) s h = set_here ss i s (omega (arith, h))

set_there : (ss : List ℕ) (i k s : ℕ) → (k ≡ i → ⊥) → locals (set ss i s) k ≡ locals ss k
unfolding locals
set_there [] i k s n = refl
set_there (x ∷ ss) zero zero s n = absurd (n refl)
set_there (x ∷ ss) zero (suc k) s n = refl
set_there (x ∷ ss) (suc i) zero s n = refl
set_there (x ∷ ss) (suc i) (suc k) s n = set_there ss i k s (λ e. n (ap suc e))

pub set_put : (ss : List ℕ) (i s : ℕ) → i < length ss
    → locals (set ss i s) ≡ put numbers (locals ss) i (has s)
set_put ss i s h = fun_ext (λ k.
    ⊎_elim
    (λ e. ap (locals (set ss i s)) e.1 ∙ set_here ss i s h
    ∙ sym (ap (λ t. cond t (has s) (locals ss k)) e.0))
    (λ e. set_there ss i k s e.1 ∙ sym (ap (λ t. cond t (has s) (locals ss k)) e.0))
    (eqb_tells k i))

-- where a way starts
module _ (o : Option (Way numbers)) (fs : List (Fact numbers)) where
  pub starts_entry : (s : Start) → s ≡ start.Entry → o ≡ way numbers o fs (seen_start s)
  unfolding way
  starts_entry s e = sym (ap (λ x. way numbers o fs (seen_start x)) e)

  pub starts_after : (s : Start) (n : ℕ) (k : Kind) → s ≡ start.After n k
      → (part_at numbers fs n).exit (seen_kind k) ≡ way numbers o fs (seen_start s)
  unfolding way
  starts_after s n k e = sym (ap (λ x. way numbers o fs (seen_start x)) e)

  pub given_worth : (v : Worth) (p : ℕ) → v ≡ code_worth.Given p
      → adding none p ≡ worth numbers o fs (seen_worth v)
  unfolding worth
  given_worth v p e = sym (ap (λ x. worth numbers o fs (seen_worth x)) e)

  pub value_worth : (v : Worth) (n : ℕ) → v ≡ code_worth.Value n
      → (part_at numbers fs n).value ≡ worth numbers o fs (seen_worth v)
  unfolding worth
  value_worth v n e = sym (ap (λ x. worth numbers o fs (seen_worth x)) e)

pub held_worth : (w : Way numbers) (fs : List (Fact numbers)) (v : Worth) (x : ℕ)
    → v ≡ code_worth.Held x → w.env x ≡ worth numbers (Some w) fs (seen_worth v)
unfolding worth
held_worth w fs v x e = sym (ap (λ z. worth numbers (Some w) fs (seen_worth z)) e)
