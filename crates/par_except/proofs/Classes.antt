-- Throws by class: joined, and without a class.
use Rattle.std.proofs.Common.{◌≡◌, ℕ, Bool, true, false, cond, nat_eq, Option, Some, None, List, []}
use Rattle.std.proofs.Common.{◌∷◌, ◌++◌, refl, sym, ap, ◌∙◌}
use Rattle.std.proofs.lemmas.Bool.{eqb-true}
use Rattle.std.proofs.Common.{eq-eqb}
use Rattle.par_program_laws.specs.Lattice.{numbers}
use Rattle.par_program_laws.specs.Ways as rules
use Rattle.par_except.specs.Joins.{may_join}
use Rattle.par_program_laws.specs.Kinds as kind
use Rattle.par_program_laws.specs.Kinds.{Kind, same}
use Rattle.par_except.specs.declared.ways.Ways.{Ways}
use Rattle.par_except.specs.Seen.{may_see}
use Rattle.par_except.specs.Exits.{Throw, thrown, seen_throws, exit, AreOnce}
use Rattle.par_except.specs.Throws.{each, joined, joined_with, unless, apart_from, but, both}

Way : Type 0
Way = rules.Way numbers

or_else : Option (rules.Way numbers) → Option (rules.Way numbers) → Option (rules.Way numbers)
or_else None p = p
or_else (Some w) p = Some w

append_case : (b : Bool) (w : rules.Way numbers) (o p : Option (rules.Way numbers))
    → cond b (Some w) (or_else o p) ≡ or_else (cond b (Some w) o) p
unfolding or_else
append_case true w o p = refl
append_case false w o p = refl

thrown_append : (xs ys : List Throw) (k : ℕ)
    → thrown (xs ++ ys) k ≡ or_else (thrown xs k) (thrown ys k)
unfolding or_else
thrown_append [] ys k = refl
thrown_append (x ∷ xs) ys k =
    ap (cond (nat_eq x.0 k) (Some x.1)) (thrown_append xs ys k)
    ∙ append_case (nat_eq x.0 k) x.1 (thrown xs k) (thrown ys k)

may_joined : Option (rules.Way numbers) → Option (rules.Way numbers) → Option (rules.Way numbers)
may_joined None p = None
may_joined (Some w) p = Some (joined w p)

joined_case : (b : Bool) (other : List Throw) (t : Throw) (k : ℕ) (o : Option (rules.Way numbers))
    → nat_eq t.0 k ≡ b → cond b (Some (joined t.1 (thrown other t.0)))
    (may_joined o (thrown other k)) ≡ may_joined (cond b (Some t.1) o) (thrown other k)
unfolding may_joined
joined_case true other t k o e = ap (λ j. Some (joined t.1 (thrown other j))) (eqb-true t.0 k e)
joined_case false other t k o e = refl

joined_at : (other one : List Throw) (k : ℕ)
    → thrown (each (joined_with other) one) k ≡ may_joined (thrown one k) (thrown other k)
unfolding may_joined
joined_at other [] k = refl
joined_at other (t ∷ ts) k =
    ap (cond (nat_eq t.0 k) (Some (joined t.1 (thrown other t.0)))) (joined_at other ts k)
    ∙ joined_case (nat_eq t.0 k) other t k (thrown ts k) refl

no_some : {X : Type 0} (w : rules.Way numbers) → Some w ≡ None → X
no_some w e = cc

apart_case : (b : Bool) (o : Option (rules.Way numbers)) (t : Throw) (k : ℕ) (xs : List Throw)
    (p : Option (rules.Way numbers)) → nat_eq t.0 k ≡ b → (b ≡ true → o ≡ None) → thrown xs k ≡ p
    → thrown (unless o t ++ xs) k ≡ cond b (Some t.1) p
apart_case b None t k xs p e f h =
    ap (λ c. cond c (Some t.1) (thrown xs k)) e ∙ ap (cond b (Some t.1)) h
apart_case true (Some w) t k xs p e f h = no_some w (f refl)
apart_case false (Some w) t k xs p e f h = h

apart_at : (one other : List Throw) (k : ℕ) → thrown one k ≡ None
    → thrown (each (apart_from one) other) k ≡ thrown other k
apart_at one [] k n = refl
apart_at one (t ∷ ts) k n =
    apart_case (nat_eq t.0 k) (thrown one t.0) t k (each (apart_from one) ts) (thrown ts k) refl
    (λ b. ap (thrown one) (eqb-true t.0 k b) ∙ n) (apart_at one ts k n)

gone_case : (b : Bool) (o : Option (rules.Way numbers)) (t : Throw) (k : ℕ) (xs : List Throw)
    → nat_eq t.0 k ≡ b → (o ≡ None → b ≡ false) → thrown xs k ≡ None
    → thrown (unless o t ++ xs) k ≡ None
gone_case true None t k xs e f h = let g : true ≡ false = f refl in cc
gone_case false None t k xs e f h = ap (λ c. cond c (Some t.1) (thrown xs k)) e ∙ h
gone_case b (Some w) t k xs e f h = h

-- a class of the first list is not among the others
gone_at : (one other : List Throw) (k : ℕ) (w : rules.Way numbers) → thrown one k ≡ Some w
    → thrown (each (apart_from one) other) k ≡ None
gone_at one [] k w n = refl
gone_at one (t ∷ ts) k w n =
    gone_case (nat_eq t.0 k) (thrown one t.0) t k (each (apart_from one) ts) refl
    (λ o. differs (nat_eq t.0 k) refl o) (gone_at one ts k w n) where
      differs : (b : Bool) → nat_eq t.0 k ≡ b → thrown one t.0 ≡ None → b ≡ false
      differs true e o = no_some w (sym n ∙ ap (thrown one) (sym (eqb-true t.0 k e)) ∙ o)
      differs false e o = refl

-- a class that is not in a list is not in what is made of it
apart_none : (one other : List Throw) (k : ℕ) → thrown other k ≡ None
    → thrown (each (apart_from one) other) k ≡ None
apart_none one [] k n = refl
apart_none one (t ∷ ts) k n =
    none_case (nat_eq t.0 k) (thrown one t.0) refl n (λ m. apart_none one ts k m)
  where
    none_case : (b : Bool) (o : Option (rules.Way numbers)) → nat_eq t.0 k ≡ b
        → cond (nat_eq t.0 k) (Some t.1) (thrown ts k) ≡ None
        → (thrown ts k ≡ None → thrown (each (apart_from one) ts) k ≡ None)
        → thrown (unless o t ++ each (apart_from one) ts) k ≡ None
    none_case true o e m ih = no_some t.1 (sym (ap (λ c. cond c (Some t.1) (thrown ts k)) e) ∙ m)
    none_case false None e m ih =
        ap (λ c. cond c (Some t.1) (thrown (each (apart_from one) ts) k)) e
        ∙ ih (sym (ap (λ c. cond c (Some t.1) (thrown ts k)) e) ∙ m)
    none_case false (Some w) e m ih = ih (sym (ap (λ c. cond c (Some t.1) (thrown ts k)) e) ∙ m)

both_case : (o p q : Option (rules.Way numbers)) → (o ≡ None → q ≡ p)
    → or_else (may_joined o p) q ≡ may_join o p
unfolding or_else may_joined
both_case None p q f = f refl
both_case (Some w) None q f = refl
both_case (Some w) (Some x) q f = refl

-- class by class
pub both_at : (one other : List Throw) (k : ℕ)
    → thrown (both one other) k ≡ may_join (thrown one k) (thrown other k)
both_at one other k =
    thrown_append (each (joined_with other) one) (each (apart_from one) other) k
    ∙ ap (λ o. or_else o (thrown (each (apart_from one) other) k)) (joined_at other one k)
    ∙ both_case (thrown one k) (thrown other k) (thrown (each (apart_from one) other) k)
    (λ n. apart_at one other k n)

joined_once : (other one : List Throw) → AreOnce one → AreOnce (each (joined_with other) one)
unfolding may_joined
joined_once other [] h = tt
joined_once other (t ∷ ts) h = (
  joined_at other ts t.0 ∙ ap (λ o. may_joined o (thrown other t.0)) h.0,
  joined_once other ts h.1,
)

apart_once : (one other : List Throw) → AreOnce other → AreOnce (each (apart_from one) other)
apart_once one [] h = tt
apart_once one (t ∷ ts) h =
    once_case (thrown one t.0) (apart_none one ts t.0 h.0) (apart_once one ts h.1)
  where
    once_case : (o : Option (rules.Way numbers)) → thrown (each (apart_from one) ts) t.0 ≡ None
        → AreOnce (each (apart_from one) ts) → AreOnce (unless o t ++ each (apart_from one) ts)
    once_case None n m = (n, m)
    once_case (Some w) n m = m

append_once : (xs ys : List Throw) → AreOnce xs → AreOnce ys
    → ((k : ℕ) (w : rules.Way numbers) → thrown xs k ≡ Some w → thrown ys k ≡ None)
    → AreOnce (xs ++ ys)
unfolding or_else
append_once [] ys h m f = m
append_once (x ∷ xs) ys h m f = (
  thrown_append xs ys x.0 ∙ ap (λ o. or_else o (thrown ys x.0)) h.0
      ∙ f x.0 x.1 (ap (λ b. cond b (Some x.1) (thrown xs x.0)) (eq-eqb x.0 x.0 refl)),
  append_once xs ys h.1 m (λ k w e. later (nat_eq x.0 k) k w refl e),
) where
  later : (b : Bool) (k : ℕ) (w : rules.Way numbers) → nat_eq x.0 k ≡ b → thrown xs k ≡ Some w
      → thrown ys k ≡ None
  later true k w e g = f k x.1 (ap (λ b. cond b (Some x.1) (thrown xs k)) e)
  later false k w e g = f k w (ap (λ b. cond b (Some x.1) (thrown xs k)) e ∙ g)

pub both_once : (one other : List Throw) → AreOnce one → AreOnce other → AreOnce (both one other)
unfolding may_joined
both_once one other h m =
    append_once (each (joined_with other) one) (each (apart_from one) other)
    (joined_once other one h) (apart_once one other m)
    (λ k w e. from (thrown one k) k w refl (sym (joined_at other one k) ∙ e)) where
      from : (o : Option (rules.Way numbers)) (k : ℕ) (w : rules.Way numbers) → thrown one k ≡ o
          → may_joined (thrown one k) (thrown other k) ≡ Some w
          → thrown (each (apart_from one) other) k ≡ None
      from None k w n e = no_some w (sym (sym (ap (λ p. may_joined p (thrown other k)) n) ∙ e))
      from (Some x) k w n e = gone_at one other k x n

-- without a class
but_case : (b c d : Bool) (t : Throw) (xs : List Throw) (k : ℕ) (p : Option (rules.Way numbers))
    → nat_eq t.0 k ≡ d → (b ≡ true → d ≡ c) → (d ≡ true → c ≡ true → b ≡ true)
    → thrown xs k ≡ cond c None p
    → thrown (cond b [] (t ∷ []) ++ xs) k ≡ cond c None (cond d (Some t.1) p)
but_case true true d t xs k p e f g h = h
but_case true false d t xs k p e f g h = h ∙ ap (λ x. cond x (Some t.1) p) (sym (f refl))
but_case false c d t xs k p e f g h =
    ap (λ x. cond x (Some t.1) (thrown xs k)) e ∙ ap (cond d (Some t.1)) h ∙ swap c d g
  where
    swap : (c d : Bool) → (d ≡ true → c ≡ true → false ≡ true)
        → cond d (Some t.1) (cond c None p) ≡ cond c None (cond d (Some t.1) p)
    swap true true g = let x : false ≡ true = g refl refl in cc
    swap true false g = refl
    swap false d g = refl

none_kept : (b : Bool) (o : Option (rules.Way numbers)) → o ≡ None → cond b None o ≡ None
none_kept true o e = refl
none_kept false o e = e

pub but_at : (class : ℕ) (ts : List Throw) (k : ℕ)
    → thrown (each (but class) ts) k ≡ cond (nat_eq class k) None (thrown ts k)
but_at class [] k = sym (none_kept (nat_eq class k) None refl)
but_at class (t ∷ ts) k =
    but_case (nat_eq t.0 class) (nat_eq class k) (nat_eq t.0 k) t (each (but class) ts) k
    (thrown ts k) refl
    (λ b. ap (λ j. nat_eq j k) (eqb-true t.0 class b))
    (λ d c. eq-eqb t.0 class (eqb-true t.0 k d ∙ sym (eqb-true class k c)))
    (but_at class ts k)

pub but_once : (class : ℕ) (ts : List Throw) → AreOnce ts → AreOnce (each (but class) ts)
but_once class [] h = tt
but_once class (t ∷ ts) h =
    once_case (nat_eq t.0 class)
    (but_at class ts t.0 ∙ none_kept (nat_eq class t.0) (thrown ts t.0) h.0) (but_once class ts h.1)
  where
    once_case : (b : Bool) → thrown (each (but class) ts) t.0 ≡ None → AreOnce (each (but class) ts)
        → AreOnce (cond b [] (t ∷ []) ++ each (but class) ts)
    once_case true n m = m
    once_case false n m = (n, m)

-- the exits of other kinds are as they were
pub but_exits : (class : ℕ) (one other : Ways) → (other.normal ≡ one.normal) → (other.ret ≡ one.ret)
    → (other.brk ≡ one.brk) → (other.cont ≡ one.cont)
    → seen_throws other.throws ≡ each (but class) (seen_throws one.throws)
    → (k : Kind) → exit other k ≡ cond (same (kind.Throw class) k) None (exit one k)
but_exits class one other n r b c t kind.Normal = ap may_see n
but_exits class one other n r b c t kind.Return = ap may_see r
but_exits class one other n r b c t kind.Break = ap may_see b
but_exits class one other n r b c t kind.Continue = ap may_see c
but_exits class one other n r b c t (kind.Throw k) =
    ap (λ ts. thrown ts k) t ∙ but_at class (seen_throws one.throws) k
