-- Sets of numbers below sets of numbers, and below policies by who sees them.
use Rattle.std.proofs.Common.{ℕ, Bool, true, false, ◌||◌, ◌&&◌, List, refl, sym, subst}
use Rattle.std.specs.Prelude.{IsTrue, slice_get}
use Rattle.std.proofs.lemmas.Bool.{eqb-true}
use Rattle.par_except.specs.par_policy.declared.clauses.Clause.{Clause}
use Rattle.par_bits.specs.Sets.{Set, IsWithin, none, union, adding}
use Rattle.par_except.specs.par_program_laws.Lattice.{Seen, seen_by, IsSeenBelow, numbers, policies}
use Rattle.par_except.specs.par_program_laws.Lattice.{unseen}
use Rattle.par_pass_laws.specs.Low.{Stands}
use Rattle.par_pass_laws.specs.Seens.{given_of, seen_as}
use Rattle.par_pass_laws.proofs.Order.{sub_trans, union_l, union_r, union_least, sub_refl}

pub among : Stands numbers
among = record {
  IsUnder = IsWithin;
  least = λ p n h. cc;
  both = union_least;
  joined =
      λ s t p q f g. union_least s t (union p q) (sub_trans s p (union p q) f (union_l p q))
      (sub_trans t q (union p q) g (union_r p q));
  up = sub_trans;
  given = λ n. sub_refl (adding none n);
}

-- each policy of the set is below
abbrev pub AreSeenBelow : List (List Clause) → Set → Seen → Type 0
AreSeenBelow table s p = (n : ℕ) → IsTrue (s n) → IsSeenBelow (seen_by (slice_get table n)) p

pub in_either : (b c : Bool) (C : Type 0) → (IsTrue b → C) → (IsTrue c → C) → IsTrue (b || c) → C
in_either true c C f g h = f refl
in_either false c C f g h = g h

pub in_both_l : (b c : Bool) → IsTrue (b && c) → IsTrue b
in_both_l true c h = refl
in_both_l false c h = cc

pub in_both_r : (b c : Bool) → IsTrue (b && c) → IsTrue c
in_both_r true c h = h
in_both_r false c h = cc

unfoldable pub seen : (table : List (List Clause)) → Stands (policies table)
seen table = record {
  IsUnder = AreSeenBelow table;
  least = λ p n h. cc;
  both =
      λ s t p f g n. in_either (s n) (t n) (IsSeenBelow (seen_by (slice_get table n)) p)
      (f n) (g n);
  joined =
      λ s t p q f g n. in_either (s n) (t n)
      (IsSeenBelow (seen_by (slice_get table n)) (λ actor locks. p actor locks && q actor locks))
      (λ h actor locks k. f n h actor locks (in_both_l (p actor locks) (q actor locks) k))
      (λ h actor locks k. g n h actor locks (in_both_r (p actor locks) (q actor locks) k));
  up = λ s p q f g n h actor locks k. f n h actor locks (g actor locks k);
  given =
      λ m n h. subst (λ j. IsSeenBelow (seen_by (slice_get table j)) (seen_by (slice_get table m)))
      (sym (eqb-true n m h)) (λ actor locks k. k);
}

-- each policy of the set is below, whichever policies have the numbers
abbrev pub AreBelow : List Seen → Set → Seen → Type 0
AreBelow ps s p = (n : ℕ) → IsTrue (s n) → IsSeenBelow (given_of ps n) p

unfoldable pub stands : (ps : List Seen) → Stands (seen_as ps)
stands ps = record {
  IsUnder = AreBelow ps;
  least = λ p n h. cc;
  both = λ s t p f g n. in_either (s n) (t n) (IsSeenBelow (given_of ps n) p) (f n) (g n);
  joined =
      λ s t p q f g n. in_either (s n) (t n)
      (IsSeenBelow (given_of ps n) (λ actor locks. p actor locks && q actor locks))
      (λ h actor locks k. f n h actor locks (in_both_l (p actor locks) (q actor locks) k))
      (λ h actor locks k. g n h actor locks (in_both_r (p actor locks) (q actor locks) k));
  up = λ s p q f g n h actor locks k. f n h actor locks (g actor locks k);
  given =
      λ m n h. subst (λ j. IsSeenBelow (given_of ps j) (given_of ps m))
      (sym (eqb-true n m h)) (λ actor locks k. k);
}

pub alone : Stands unseen
alone = record {
  IsUnder = λ s p. Unit {0};
  least = λ p. tt;
  both = λ s t p f g. tt;
  joined = λ s t p q f g. tt;
  up = λ s p q f g. tt;
  given = λ n. tt;
}
