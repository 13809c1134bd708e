-- Which locks each form of a statement asks for.
use Rattle.std.proofs.Common.{◌≡◌, ℕ, ◌+◌, ◌<◌, ◌≤◌, Bool, true, false, ◌||◌, ◌⊎◌, inl, inr}
use Rattle.std.proofs.Common.{List, [], length, get_or, drop, Option, refl, ap, sym}
use Rattle.std.specs.Prelude.{IsTrue, nat_eq}
use Rattle.std.proofs.lemmas.Bool.{or_left, or_right, eqb-true, eq-eqb}
use Rattle.par_typed.specs.par_policy.Numbers.{has, Gains}
use Rattle.par_typed.proofs.par_policy.Members.{Contains-from_has, has-from_Contains}
use Rattle.par_typed.specs.declared.program.TBody.{TBody}
use Rattle.par_typed.specs.Plain.{TExp, MayTExp}
use Rattle.par_typed.specs.Plain.{TSta, Block, If, While, Try, Return, Break, Continue, Throw, Open}
use Rattle.par_typed.specs.Plain.{Close, SetLocal, SetStatic, SetField, Eval, When}
use Rattle.par_typed.specs.Plain.{MayTSta, NoElse, Otherwise, TStas, End, Then, TCatches, NoCatch}
use Rattle.par_typed.specs.Plain.{Catch}
use Rattle.par_typed.specs.Shown as typed
use Rattle.par_typed.proofs.Shown.{doings as typed_doings}
use Rattle.par_erase.specs.Asked.{Locks, none, only, either, asks, else_asks, all_ask, catches_ask}
use Rattle.par_erase.specs.Asked.{asked_in}
use Rattle.par_erase.proofs.ExprForms.{left_more, left_none}

-- ---- sets of locks

or_assoc : (a b c : Bool) → ((a || b) || c) ≡ (a || (b || c))
or_assoc true b c = refl
or_assoc false b c = refl

or_false : (b : Bool) → (b || false) ≡ b
or_false true = refl
or_false false = refl

pub either_assoc : (p q r : Locks) → either (either p q) r ≡ either p (either q r)
unfolding either
either_assoc p q r = λ i lock. or_assoc (p lock) (q lock) (r lock) i

pub either_none : (p : Locks) → either p none ≡ p
unfolding either none
either_none p = λ i lock. or_false (p lock) i

pub none_either : (p : Locks) → either none p ≡ p
unfolding either none
none_either p = refl

pub none_has : has [] ≡ none
unfolding none
none_has = refl

one_of : (a b : Bool) → IsTrue (a || b) → IsTrue a ⊎ IsTrue b
one_of true b h = inl refl
one_of false b h = inr h

same_truth : (a b : Bool) → (IsTrue a → IsTrue b) → (IsTrue b → IsTrue a) → a ≡ b
same_truth true b f g = sym (f refl)
same_truth false true f g = g refl
same_truth false false f g = refl

-- a lock more in the set
pub gained : (old new : List ℕ) (lock : ℕ) → Gains old new lock
    → has new ≡ either (has old) (only lock)
unfolding either only
gained old new lock gains =
    λ i l. same_truth (has new l) (has old l || nat_eq lock l)
    (λ h. elim ((gains l).0 (Contains-from_has new l h)) [
      | inl was ↦ or_left (has old l) _ (has-from_Contains old l was)
      | inr is ↦ or_right (has old l) _ (eq-eqb lock l (sym is))
    ])
    (λ h. elim (one_of (has old l) (nat_eq lock l) h) [
      | inl was ↦ has-from_Contains new l ((gains l).1 (inl (Contains-from_has old l was)))
      | inr is ↦ has-from_Contains new l ((gains l).1 (inr (sym (eqb-true lock l is))))
    ]) i

-- ---- statements

pub asks_block : (ss : TStas) (at p : ℕ) → asks (Block ss at p) ≡ all_ask ss
unfolding asks
asks_block ss at p = refl

pub asks_if : (e : TExp) (s : TSta) (o : MayTSta) (at p : ℕ)
    → asks (If e s o at p) ≡ either (asks s) (else_asks o)
unfolding asks
asks_if e s o at p = refl

pub asks_while : (e : TExp) (s : TSta) (at p : ℕ) → asks (While e s at p) ≡ asks s
unfolding asks
asks_while e s at p = refl

pub asks_try : (s : TSta) (cs : TCatches) (at p : ℕ)
    → asks (Try s cs at p) ≡ either (asks s) (catches_ask cs)
unfolding asks
asks_try s cs at p = refl

pub asks_return : (o : MayTExp) (at p : ℕ) → asks (Return o at p) ≡ none
unfolding asks
asks_return o at p = refl

pub asks_break : (at p : ℕ) → asks (Break at p) ≡ none
unfolding asks
asks_break at p = refl

pub asks_continue : (at p : ℕ) → asks (Continue at p) ≡ none
unfolding asks
asks_continue at p = refl

pub asks_throw : (c at p : ℕ) → asks (Throw c at p) ≡ none
unfolding asks
asks_throw c at p = refl

pub asks_open : (l at p : ℕ) → asks (Open l at p) ≡ none
unfolding asks
asks_open l at p = refl

pub asks_close : (l at p : ℕ) → asks (Close l at p) ≡ none
unfolding asks
asks_close l at p = refl

pub asks_set_local : (x : ℕ) (q : Option ℕ) (e : TExp) (at p : ℕ)
    → asks (SetLocal x q e at p) ≡ none
unfolding asks
asks_set_local x q e at p = refl

pub asks_set_static : (c f : ℕ) (e : TExp) (at p : ℕ) → asks (SetStatic c f e at p) ≡ none
unfolding asks
asks_set_static c f e at p = refl

pub asks_set_field : (o : TExp) (c f : ℕ) (e : TExp) (at p : ℕ)
    → asks (SetField o c f e at p) ≡ none
unfolding asks
asks_set_field o c f e at p = refl

pub asks_eval : (e : TExp) (at p : ℕ) → asks (Eval e at p) ≡ none
unfolding asks
asks_eval e at p = refl

pub asks_when : (l : ℕ) (s : TSta) (o : MayTSta) (at p : ℕ)
    → asks (When l s o at p) ≡ either (only l) (either (asks s) (else_asks o))
unfolding asks
asks_when l s o at p = refl

pub else_none : else_asks NoElse ≡ none
unfolding else_asks
else_none = refl

pub else_some : (s : TSta) → else_asks (Otherwise s) ≡ asks s
unfolding else_asks
else_some s = refl

pub all_end : all_ask End ≡ none
unfolding all_ask
all_end = refl

pub all_then : (s : TSta) (ss : TStas) → all_ask (Then s ss) ≡ either (asks s) (all_ask ss)
unfolding all_ask
all_then s ss = refl

pub catches_none : catches_ask NoCatch ≡ none
unfolding catches_ask
catches_none = refl

pub catches_some : (c : ℕ) (s : TSta) (cs : TCatches)
    → catches_ask (Catch c s cs) ≡ either (asks s) (catches_ask cs)
unfolding catches_ask
catches_some c s cs = refl

-- what is left of the bodies
pub bodies_left : (bs : List TBody) (i : ℕ) (b : TBody) → i < length bs → b ≡ get_or bs i b
    → asked_in (typed.bodies (drop i bs))
    ≡ either (asks (typed.does b.body)) (asked_in (typed.bodies (drop (i + 1) bs)))
bodies_left bs i b lt is = ap (λ xs. asked_in (typed.bodies xs)) (left_more bs i b lt is)

pub no_bodies_left : (bs : List TBody) (i : ℕ) → length bs ≤ i
    → asked_in (typed.bodies (drop i bs)) ≡ none
no_bodies_left bs i le = ap (λ xs. asked_in (typed.bodies xs)) (left_none bs i le)

-- locks that are asked for, put together
pub ruleset joins = (
  either_assoc,
  either_none,
  none_either,
  none_has,
  gained,
)

-- what stands behind `else`, or nothing
pub ruleset elses = (else_none, else_some, joins)

-- one statement or one catch of a row
pub ruleset rows = (all_end, all_then, catches_none, catches_some, joins)

-- each kind of statement
pub ruleset gathers = (
  typed_doings,
  asks_block,
  asks_if,
  asks_while,
  asks_try,
  asks_return,
  asks_break,
  asks_continue,
  asks_throw,
  asks_open,
  asks_close,
  asks_set_local,
  asks_set_static,
  asks_set_field,
  asks_eval,
  asks_when,
  joins,
)
