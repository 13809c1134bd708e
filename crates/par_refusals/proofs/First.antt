-- Laws of the first broken rule.
use Rattle.std.proofs.Common.{◌≡◌, ◌++◌, List, [], ◌∷◌, Option, Some, None, Bool, true, false, not}
use Rattle.std.proofs.Common.{Contains, refl, sym, subst, arith, ⊎_elim}
use Rattle.std.specs.Prelude.{fold, cond}
use Rattle.std.proofs.lemmas.List.Sums.{fold-append}
use Rattle.std.proofs.lemmas.List.Elements.{All-nil, All-cons, All-head, All-tail}
use Rattle.std.proofs.lemmas.List.Elements.{Contains-push, Contains-append_left}
use Rattle.std.proofs.lemmas.List.Elements.{Contains-append_right, Contains-append_cases}
use Rattle.std.proofs.lemmas.Bool.Decides.{nat_tests}
use Rattle.par_refusals.specs.declared.refusal.Refusal.{Refusal}
use Rattle.par_refusals.specs.First.{comes_before, earlier, first_of, in_passes, when, IsAnswer}
use Rattle.par_refusals.specs.First.{IsFirst}

-- no rule is among none
none_among : (f : Refusal) → Contains [] f → ⊥
none_among f (k, short, at) = omega arith

-- nothing more is broken
pub first_of_none : (o : Option Refusal) → first_of o [] ≡ o
unfolding first_of
first_of_none o = refl

-- the first of two lists is found one list after the other
pub first_of_append : (o : Option Refusal) (fs gs : List Refusal)
    → first_of o (fs ++ gs) ≡ first_of (first_of o fs) gs
unfolding first_of
first_of_append o fs gs = fold-append earlier o fs gs

pub ruleset firsts = (first_of_none, first_of_append)

-- one broken rule is kept unless the former comes before it
pub noted : (o : Option Refusal) (f : Refusal) → first_of o (f ∷ []) ≡ earlier o f
unfolding first_of
noted o f = refl

pub ruleset notes = (first_of_none, noted)

pub fails : (f : Refusal) → when (not false) f ≡ f ∷ []
unfolding when
fails f = refl

pub holds : (f : Refusal) → when (not true) f ≡ []
unfolding when
holds f = refl

pub ruleset tests = (first_of_none, fails, holds)

-- the later pass counts where the first has found nothing
pub passes_on : (gs : List Refusal) → in_passes [] gs ≡ gs
unfolding in_passes
passes_on gs = refl

pub stops : (f : Refusal) (fs gs : List Refusal) → in_passes (f ∷ fs) gs ≡ f ∷ fs
unfolding in_passes
stops f fs gs = refl

-- what is before one that r is not behind, r is behind
skipped : (f g r : Refusal)
    → comes_before g f ≡ true → comes_before g r ≡ false → comes_before f r ≡ false
skipped f g r h k = grind (arith, nat_tests)

-- not to come before goes on from one to the next
behind : (f g r : Refusal)
    → comes_before g f ≡ false → comes_before f r ≡ false → comes_before g r ≡ false
behind f g r h k = grind (arith, nat_tests)

not_itself : (f : Refusal) → comes_before f f ≡ false
not_itself f = grind (arith, nat_tests)

abbrev NotBefore : Refusal → Refusal → Type 0
NotBefore f g = comes_before g f ≡ false

-- something is kept of a first rule and of what follows, and it is the first of all
record Keeps (f : Refusal) (fs : List Refusal) (o : Option Refusal) : Type 0 where
  kept : Refusal
  is : o ≡ Some kept
  first : IsFirst (f ∷ fs) kept

-- a rule in front does not matter, where what is kept of the others comes before it
in_front : (f g : Refusal) (gs : List Refusal) (o : Option Refusal) (k : Keeps g gs o)
    → comes_before f k.kept ≡ false → Keeps f (g ∷ gs) o
in_front f g gs o k h = record {
  kept = k.kept;
  is = k.is;
  first = record {
    among = Contains-append_right (f ∷ []) (g ∷ gs) k.kept k.first.among;
    first = All-cons (NotBefore k.kept) f (g ∷ gs) h k.first.first;
  };
}

-- nor does one behind the first
second_place : (f g : Refusal) (gs : List Refusal) (o : Option Refusal) (k : Keeps f gs o)
    → comes_before g k.kept ≡ false → Keeps f (g ∷ gs) o
second_place f g gs o k h =
    let left = Contains-append_left (f ∷ []) (g ∷ gs) k.kept in
    let right = Contains-append_right (f ∷ g ∷ []) gs k.kept in
    let fits = All-head (NotBefore k.kept) f gs k.first.first in
    let rest = All-tail (NotBefore k.kept) f gs k.first.first in
    let behind_g = All-cons (NotBefore k.kept) g gs h rest in
    record {
      kept = k.kept;
      is = k.is;
      first = record {
        among = ⊎_elim left right (Contains-append_cases (f ∷ []) gs k.kept k.first.among);
        first = All-cons (NotBefore k.kept) f (g ∷ gs) fits behind_g;
      };
    }

-- one rule more, by whether it comes before what was kept
one_more : (f g : Refusal) (gs : List Refusal) (b : Bool) → comes_before g f ≡ b
    → Keeps g gs (fold earlier (Some g) gs) → Keeps f gs (fold earlier (Some f) gs)
    → Keeps f (g ∷ gs) (fold earlier (cond b (Some g) (Some f)) gs)
one_more f g gs true h k l =
    let fits = All-head (NotBefore k.kept) g gs k.first.first in
    in_front f g gs _ k (skipped f g k.kept h fits)
one_more f g gs false h k l =
    let fits = All-head (NotBefore l.kept) f gs l.first.first in
    second_place f g gs _ l (behind f g l.kept h fits)

keeps : (f : Refusal) (fs : List Refusal) → Keeps f fs (fold earlier (Some f) fs)
keeps f [] = record {
  kept = f;
  is = refl;
  first = record {
    among = Contains-push [] f;
    first = All-cons (NotBefore f) f [] (not_itself f) (All-nil (NotBefore f));
  };
}
keeps f (g ∷ gs) = one_more f g gs (comes_before g f) refl (keeps g gs) (keeps f gs)

-- what is kept of all broken rules is the answer
pub answered : (fs : List Refusal) → IsAnswer fs (first_of None fs)
unfolding first_of
answered [] = refl
answered (f ∷ fs) = let k = keeps f fs in subst (IsAnswer (f ∷ fs)) (sym k.is) k.first

-- where the first pass finds something, its first rule is the first of both passes
pub first_stops : (fs gs : List Refusal) (f : Refusal) → IsFirst fs f → IsFirst (in_passes fs gs) f
unfolding in_passes
first_stops [] gs f h = absurd (none_among f h.among)
first_stops (g ∷ fs) gs f h = h

-- where it finds nothing, the answer of the second is that of both
pub answer_passes_on : (fs gs : List Refusal) (o : Option Refusal)
    → fs ≡ [] → IsAnswer gs o → IsAnswer (in_passes fs gs) o
unfolding in_passes
answer_passes_on fs gs o e h = subst (λ xs. IsAnswer (in_passes xs gs) o) (sym e) h
