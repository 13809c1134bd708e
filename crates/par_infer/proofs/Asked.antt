-- What rules compare, and sets that gain it.
use Rattle.std.proofs.Common.{◌≡◌, ℕ, ◌<◌, Bool, true, false, ◌||◌, ◌&&◌, List, ◌∷◌}
use Rattle.std.proofs.Common.{Option, Some, None, length, set, refl, sym, ap, subst}
use Rattle.std.proofs.Common.{◌∙◌, eq-eqb}
use Rattle.std.specs.Prelude.{IsTrue, nat_eq}
use Rattle.std.proofs.lemmas.Bool.{eqb-true}
use Rattle.std.proofs.lemmas.List.{get_or-set_same, get_or-set_other, length-set}
use Rattle.par_policy.proofs.Ordered.{Contains-first, Contains-later}
use Rattle.par_bits.specs.Sets.{Set, has, none}
use Rattle.par_program_laws.specs.Lattice.{numbers}
use Rattle.par_program_laws.specs.Ways.{Way}
use Rattle.par_program_laws.specs.Facts.{Facts}
use Rattle.par_check.specs.par_check_laws.Asked.{Condition, Open, Released, Worth, Joined}
use Rattle.par_check.specs.par_check_laws.Asked.{Context}
use Rattle.par_check.specs.par_check_laws.Asked.{Effect, Among}
use Rattle.par_check.specs.par_check_laws.Asked as asked
use Rattle.par_check.specs.par_check_laws.Asked.{Never}
use Rattle.par_asked.specs.declared.check.Check.{Check}
use Rattle.par_asked.specs.Seen.{seen_check, seen_condition}
use Rattle.par_flow.specs.declared.known.Known.{Known}
use Rattle.par_flow.specs.Standing.{Standing, standing, stands}
use Rattle.par_check.specs.Meets.{value_of}
use Rattle.par_check.specs.Spots.{at_spot}
use Rattle.par_reached.specs.Reached.{set_at}
use Rattle.par_infer.specs.Keeps.{limit}
use Rattle.par_infer.specs.Bounds.{compared_at, is_at}
use Rattle.par_infer.specs.Collected.{compared_of, asked_of, Gains, HaveSmallEffects}
use Rattle.par_infer.proofs.Choices.{by_cases}
use Rattle.par_infer.proofs.Replaced.{clash}

-- ---- one rule

compared_there : Facts numbers → Option Standing → Condition → Set
compared_there f None c = none
compared_there f (Some s) c = compared_of (value_of f c) s.context c

compared_is : (f : Facts numbers) (o : Option (Way numbers)) (c : Condition)
    → compared_there f (standing o) c ≡ compared_at f o c
unfolding compared_there
compared_is f None c = refl
compared_is f (Some w) (Open locks) = refl
compared_is f (Some w) (Released v p) = refl
compared_is f (Some w) (Worth v p) = refl
compared_is f (Some w) (Joined v p) = refl
compared_is f (Some w) (Context p) = refl
compared_is f (Some w) (Effect e p) = refl
compared_is f (Some w) (Among locks those) = refl
compared_is f (Some w) Never = refl

asked_is : (f : Facts numbers) (c : Check)
    → compared_there f (at_spot f c.point c.way) (seen_condition c.condition)
    ≡ asked_of f (seen_check c)
unfolding at_spot
asked_is f c = compared_is f _ (seen_condition c.condition)

pub asked_unreached : (f : Facts numbers) (c : Check) → stands None ≡ at_spot f c.point c.way
    → none ≡ asked_of f (seen_check c)
unfolding compared_there
asked_unreached f c e =
    ap (λ o. compared_there f o (seen_condition c.condition)) e ∙ asked_is f c

pub asked_reached : (f : Facts numbers) (c : Check) (k : Known) (value : Set)
    → stands (Some k) ≡ at_spot f c.point c.way → value ≡ value_of f (seen_condition c.condition)
    → compared_of value (has k.context) (seen_condition c.condition) ≡ asked_of f (seen_check c)
unfolding compared_there
asked_reached f c k value e v =
    ap (λ s. compared_of s (has k.context) (seen_condition c.condition)) v
    ∙ ap (λ o. compared_there f o (seen_condition c.condition)) e ∙ asked_is f c

-- ---- sets

or_none : (a : Bool) → a ≡ (a || false)
or_none true = refl
or_none false = refl

or_three : (a b c : Bool) → (a || (b || c)) ≡ ((a || b) || c)
or_three true b c = refl
or_three false b c = refl

pub gains_nothing : (is : Set) (old now : List ℕ) (more : ℕ → Set) → now ≡ old
    → ((i n : ℕ) → IsTrue (is i) → more i n ≡ false) → Gains is old now more
gains_nothing is old now more e f = record {
  size = ap length e;
  gained = λ i n h.
      ap (λ ys. set_at ys i n) e ∙ or_none (set_at old i n)
      ∙ ap (λ b. set_at old i n || b) (sym (f i n h));
}

-- a rule with no limit, or with another one
pub no_limit : (is : Set) (c : Condition) (m : Set) → limit c ≡ None → (i n : ℕ) → IsTrue (is i)
    → (is_at (limit c) i && m n) ≡ false
no_limit is c m e i n h = ap (λ o. is_at o i && m n) e

pub other_limit : (is : Set) (c : Condition) (m : Set) (p : ℕ) → limit c ≡ Some p → is p ≡ false
    → (i n : ℕ) → IsTrue (is i) → (is_at (limit c) i && m n) ≡ false
other_limit is c m p e out i n h =
    ap (λ o. is_at o i && m n) e
    ∙ by_cases (nat_eq p i) ((nat_eq p i && m n) ≡ false)
    (λ q. absurd (clash (sym out ∙ subst (λ j. is j ≡ true) (sym (eqb-true p i q)) h)))
    (λ q. ap (λ b. b && m n) q)

pub gains_one : (is : Set) (c : Condition) (m : Set) (p x : ℕ) (old now : List ℕ)
    → limit c ≡ Some p → p < length old → now ≡ set old p x
    → ((n : ℕ) → has x n ≡ (set_at old p n || m n))
    → Gains is old now (λ i n. is_at (limit c) i && m n)
gains_one is c m p x old now e l same f = record {
  size = ap length same ∙ length-set old p x;
  gained = λ i n h.
      by_cases (nat_eq p i) (set_at now i n ≡ (set_at old i n || (is_at (limit c) i && m n)))
      (λ q.
      ap (λ ys. set_at ys i n) same
      ∙ subst (λ j. set_at (set old p x) j n ≡ (set_at old j n || m n)) (eqb-true p i q)
      (ap (λ y. has y n) (get_or-set_same old p x 0 l) ∙ f n)
      ∙ ap (λ b. set_at old i n || (b && m n)) (sym q ∙ ap (λ o. is_at o i) (sym e)))
      (λ q.
      ap (λ ys. set_at ys i n) same
      ∙ ap (λ y. has y n)
      (get_or-set_other old p i x 0 (λ r. clash (sym q ∙ eq-eqb p i (sym r))))
      ∙ or_none (set_at old i n)
      ∙ ap (λ b. set_at old i n || (b && m n)) (sym q ∙ ap (λ o. is_at o i) (sym e)));
}

-- what is noted so far, and what is left, is all
pub record Adds (is : Set) (whole left : ℕ → Set) (old now : List ℕ) : Type 0 where
  pub size : length now ≡ length old
  pub same : (i n : ℕ) → IsTrue (is i)
      → (set_at now i n || left i n) ≡ (set_at old i n || whole i n)

pub adds_start : (is : Set) (whole : ℕ → Set) (old : List ℕ) → Adds is whole whole old old
adds_start is whole old = record { size = refl; same = λ i n h. refl }

pub adds_on : (is : Set) (whole more left : ℕ → Set) (old now next : List ℕ)
    → Adds is whole (λ i n. more i n || left i n) old now → Gains is now next more
    → Adds is whole left old next
adds_on is whole more left old now next g e = record {
  size = e.size ∙ g.size;
  same = λ i n h.
      ap (λ b. b || left i n) (e.gained i n h)
      ∙ sym (or_three (set_at now i n) (more i n) (left i n)) ∙ g.same i n h;
}

pub adds_end : (is : Set) (whole left : ℕ → Set) (old now : List ℕ) → Adds is whole left old now
    → ((i n : ℕ) → left i n ≡ false) → Gains is old now whole
adds_end is whole left old now g f = record {
  size = g.size;
  gained = λ i n h.
      or_none (set_at now i n) ∙ ap (λ b. set_at now i n || b) (sym (f i n)) ∙ g.same i n h;
}

-- effects that are small in a list are in what is left
pub rest_small : (cs xs : List asked.Check) (c : asked.Check) → HaveSmallEffects cs
    → cs ≡ c ∷ xs → HaveSmallEffects xs
rest_small cs xs c f e d m =
    subst (λ ys. HaveSmallEffects ys) e f d (Contains-later c xs d m)

pub first_small : (cs xs : List asked.Check) (c : asked.Check) → HaveSmallEffects cs
    → cs ≡ c ∷ xs → (e p : ℕ) → c.condition ≡ Effect e p → e < 256
first_small cs xs c f e = subst (λ ys. HaveSmallEffects ys) e f c (Contains-first c xs)
