-- The exits of a method, from its checks.
use Rattle.std.proofs.Common.{◌≡◌, ℕ, Bool, true, false, ⊎_elim, Option, Some, None, List, []}
use Rattle.std.proofs.Common.{◌∷◌, refl, sym, subst, length, if◌then◌else◌}
use Rattle.std.specs.Prelude.{IsTrue, nat_eq, nat_lt}
use Rattle.std.proofs.lemmas.Bool.{cases_Bool, eqb-true}
use Rattle.par_policy.specs.Numbers.{has}
use Rattle.par_bits.specs.Sets.{IsWithin}
use Rattle.par_program_laws.specs.Kinds as kind
use Rattle.par_program_laws.specs.Kinds.{Kind}
use Rattle.par_program_laws.specs.Facts.{Facts}
use Rattle.par_program_laws.specs.Declares.{Thrown as DThrown}
use Rattle.par_program_laws.specs.Declares.{Method}
use Rattle.par_program_laws.specs.Rules as rules
use Rattle.par_program_laws.specs.Rules.{From, Entry, After, Tested, node, Rules, Node}
use Rattle.par_program_laws.specs.Kinds.{Next, Loop, Catches, Absorber}
use Rattle.par_program_laws.specs.Rules.{can}
use Rattle.par_alike.specs.par_check_laws.Checks as checks
use Rattle.par_run_laws.specs.Tasks.{Thrown}
use Rattle.par_alike.proofs.LockSets.{or_cases}
use Rattle.par_alike.proofs.States.{Watch, Sees, Way, exits, lattice, ranged}
use Rattle.par_secure_laws.proofs.Points.{AllKept, holds_is, kept_app, unranged}
use Rattle.par_alike.proofs.Leaves.{Throws, first_of, later_of}
use Rattle.par_alike.proofs.Calls.{Ends}

module _ (on : Watch) where
  module _ (a : Facts (lattice on)) where
    -- ---- the exits of a method, from its checks
    -- what is thrown has a declared policy that is above its context
    thrown_kept : (c p at : ℕ) (z : Way on) (ts : List DThrown)
        → AllKept on a (checks.throws_checks at p ts) → (a p).exit (kind.Throw c) ≡ Some z
        → IsTrue (checks.is_thrown ts c)
        → (q : ℕ) × Throws ts c q × (Sees on q → IsTrue z.context)
    unfolding rules.way
    thrown_kept c p at z [] k e h = absurd cc
    thrown_kept c p at z (t ∷ ts) k e h =
        ⊎_elim (λ i.
        let same = eqb-true t.class c i in (
          t.policy,
          subst (λ y. Throws (t ∷ ts) y t.policy) same (first_of t ts),
          holds_is on a ((a p).exit (kind.Throw t.class)) z
              (λ w. Sees on t.policy → IsTrue w.context)
              (subst (λ y. (a p).exit (kind.Throw y) ≡ Some z) (sym same) e) k.0,
        )) (λ i. let r = thrown_kept c p at z ts k.1 e i in (r.0, later_of t ts c r.0 r.1, r.2))
        (or_cases (nat_eq t.class c) (checks.is_thrown ts c) h)

    -- no other class is thrown
    undeclared_kept : (c p at : ℕ) (z : Way on) (cs : List ℕ)
        → AllKept on a (checks.undeclared_checks at p cs) → (a p).exit (kind.Throw c) ≡ Some z
        → IsTrue (has cs c) → ⊥
    unfolding rules.way
    undeclared_kept c p at z [] k e h = absurd cc
    undeclared_kept c p at z (x ∷ xs) k e h =
        ⊎_elim (λ i. holds_is on a ((a p).exit (kind.Throw x)) z (λ w. ⊥)
        (subst (λ y. (a p).exit (kind.Throw y) ≡ Some z) (sym (eqb-true x c i)) e) k.0)
        (λ i. undeclared_kept c p at z xs k.1 e i) (or_cases (nat_eq x c) (has xs c) h)

    ranged_lt : (c : ℕ) (x : Option (Way on)) (v : Way on) → ranged on (Thrown c) x ≡ Some v
        → nat_lt c (length on.table.classes) ≡ true
    ranged_lt c x v e = go (nat_lt c (length on.table.classes)) e
      where
        go : (b : Bool) → (if b then x else None) ≡ Some v → b ≡ true
        go true e = refl
        go false e = absurd cc

    -- the exits of a method keep what calls ask of them
    pub ends_of : (m : Method) (at p : ℕ)
        → ((c : ℕ) → nat_lt c (length on.table.classes) ≡ true
        → checks.is_thrown m.throws c ≡ false
        → IsTrue (has (checks.others m.throws (length on.table.classes)) c))
        → AllKept on a (checks.method_checks on.table m at p) → (a p).exit kind.Break ≡ None
        → (a p).exit kind.Continue ≡ None → Ends on m (exits on a p)
    unfolding rules.way
    ends_of m at p listed k nb nc =
        let ks = kept_app on a (checks.throws_checks at p m.throws)
        (checks.undeclared_checks at p (checks.others m.throws (length on.table.classes)))
        k.1.1 in
        record {
          opens =
              λ z e. holds_is on a ((a p).exit kind.Normal) z (λ w. IsWithin m.opens w.locks) e
              k.0;
          opens_returned =
              λ z e. holds_is on a ((a p).exit kind.Return) z (λ w. IsWithin m.opens w.locks) e
              k.1.0;
          broken = nb;
          continued = nc;
          throws =
              λ c z e.
              let there = unranged on a (Thrown c) _ z e in
              ⊎_elim (λ i. thrown_kept c p at z m.throws ks.0 there i)
              (λ i. absurd
              (undeclared_kept c p at z (checks.others m.throws (length on.table.classes)) ks.1
              there (listed c (ranged_lt c _ z e) i))) (cases_Bool (checks.is_thrown m.throws c));
        }
