-- Ways as they are kept, and those of a longer list of environments.
use Rattle.std.proofs.Common.{◌≡◌, ℕ, zero, suc, Bool, true, false, not, cond, Option, Some, None}
use Rattle.std.proofs.Common.{List, [], ◌∷◌, ◌++◌, get_or, refl, sym, ap, ◌∙◌, subst}
use Rattle.std.specs.Prelude.{is_some, nat_eq}
use Rattle.std.proofs.Math.Path.{fun_ext}
use Rattle.std.proofs.lemmas.Nat.Bits.{bit_at-zero}
use Rattle.std.proofs.lemmas.Bool.{eqb-true, eqb-false, ne_eqb}
use Rattle.par_bits.specs.Sets.{has, none}
use Rattle.par_program_laws.specs.Lattice.{numbers}
use Rattle.par_program_laws.specs.Ways.{Way}
use Rattle.par_program_laws.specs.Kinds as kind
use Rattle.par_program_laws.specs.Kinds.{Kind, Throw, same}
use Rattle.par_locks.specs.par_except.Seen.{locals, seen}
use Rattle.par_locks.specs.par_except.declared.way.Way as code
use Rattle.par_locks.specs.par_pass_laws.Exits.{Exit, at}
use Rattle.par_envs.specs.Same.{AreSame}
use Rattle.par_envs.specs.Numbered.{Extends, Names}
use Rattle.par_flow.specs.declared.kept.KeptWay.{KeptWay}
use Rattle.par_flow.specs.declared.kept.KeptWays.{KeptWays}
use Rattle.par_flow.specs.Kept.{exit_of, ShowsWay, ShowThrows, AreOnce, MayShow, thrown}

none_is : none ≡ has 0
unfolding has
none_is = fun_ext λ n. sym (ap (λ d. nat_eq d 1) (bit_at-zero n))

locals_at : (env : List ℕ) (i : ℕ) → locals env i ≡ has (get_or env i 0)
unfolding locals
locals_at [] i = none_is
locals_at (s ∷ ss) zero = refl
locals_at (s ∷ ss) (suc i) = locals_at ss i

same_locals : (d e : List ℕ) → AreSame d e → locals d ≡ locals e
same_locals d e s = fun_ext λ i. locals_at d i ∙ ap has (s i) ∙ sym (locals_at e i)

-- a way with the number that its environment got
pub shows_named : (es : List (List ℕ)) (k : KeptWay) (w : code.Way) → k.context ≡ w.context
    → k.locks ≡ w.locks → Names es k.env w.env → ShowsWay es k (seen w)
shows_named es k w c l n = (n.0, n.1, let e = same_locals n.0 w.env n.2 in cc)

pub still_shows : (es fs : List (List ℕ)) → Extends es fs → (k : KeptWay) (w : Way numbers)
    → ShowsWay es k w → ShowsWay fs k w
still_shows es fs x k w s = (s.0, x k.env s.0 s.1, s.2)

pub may_still : (es fs : List (List ℕ)) → Extends es fs
    → (k : Option KeptWay) (o : Option (Way numbers)) → MayShow es k o → MayShow fs k o
may_still es fs x None None h = tt
may_still es fs x None (Some w) h = h
may_still es fs x (Some k) None h = h
may_still es fs x (Some k) (Some w) h = still_shows es fs x k w h

pub extends_all : (es fs gs : List (List ℕ)) → Extends es fs → Extends fs gs → Extends es gs
extends_all es fs gs x y i e h = y i e (x i e h)

abbrev pub or_else : {A : Type 0} → Option A → Option A → Option A
or_else None o = o
or_else (Some x) o = Some x

-- one more exit, behind the others
at_more : (xs : List Exit) (x : Exit) (k : Kind)
    → at (xs ++ x ∷ []) k ≡ or_else (at xs k) (at (x ∷ []) k)
at_more [] x k = refl
at_more (y ∷ xs) x k = by (same y.kind k) (at_more xs x k) where
  by : (b : Bool) → at (xs ++ x ∷ []) k ≡ or_else (at xs k) (at (x ∷ []) k)
      → cond b (Some y.way) (at (xs ++ x ∷ []) k)
      ≡ or_else (cond b (Some y.way) (at xs k)) (at (x ∷ []) k)
  by true h = refl
  by false h = h

pub thrown_more : (ts : List (ℕ × KeptWay)) (t : ℕ × KeptWay) (class : ℕ)
    → thrown (ts ++ t ∷ []) class ≡ or_else (thrown ts class) (thrown (t ∷ []) class)
thrown_more [] t class = refl
thrown_more (y ∷ ts) t class = by (nat_eq y.0 class) (thrown_more ts t class) where
  by : (b : Bool) → thrown (ts ++ t ∷ []) class ≡ or_else (thrown ts class) (thrown (t ∷ []) class)
      → cond b (Some y.1) (thrown (ts ++ t ∷ []) class)
      ≡ or_else (cond b (Some y.1) (thrown ts class)) (thrown (t ∷ []) class)
  by true h = refl
  by false h = h

no_throw : (x : Exit) (class : ℕ) → same x.kind (Throw class) ≡ false
    → at (x ∷ []) (Throw class) ≡ None
no_throw x class e = ap (λ b. cond b (Some x.way) None) e

with_none : {A : Type 0} (o p : Option A) → p ≡ None → or_else o p ≡ o
with_none None p e = e
with_none (Some x) p e = refl

module _ (es fs : List (List ℕ)) (more : Extends es fs) (ts : List (ℕ × KeptWay)) (xs : List Exit)
    (x : Exit) (shown : (class : ℕ) → MayShow es (thrown ts class) (at xs (Throw class))) where
  -- an exit that is no throw
  pub throws_same : ((class : ℕ) → same x.kind (Throw class) ≡ false) → (class : ℕ)
      → MayShow fs (thrown ts class) (at (xs ++ x ∷ []) (Throw class))
  throws_same n class =
      subst (MayShow fs (thrown ts class))
      (sym (at_more xs x (Throw class) ∙ with_none _ _ (no_throw x class (n class))))
      (may_still es fs more (thrown ts class) (at xs (Throw class)) (shown class))

  module _ (of : ℕ) (is : x.kind ≡ Throw of) where
    at_class : (class : ℕ) → at (x ∷ []) (Throw class) ≡ cond (nat_eq of class) (Some x.way) None
    at_class class = ap (λ k. cond (same k (Throw class)) (Some x.way) None) is

    -- a throw of a class that has one
    pub throws_held : (k : KeptWay) → thrown ts of ≡ Some k → (class : ℕ)
        → MayShow fs (thrown ts class) (at (xs ++ x ∷ []) (Throw class))
    throws_held k h class =
        subst (MayShow fs (thrown ts class)) (sym (at_more xs x (Throw class)))
        (by (thrown ts class) (at xs (Throw class)) (nat_eq of class) (at_class class)
        (λ e. ap (thrown ts) (sym (eqb-true of class e)) ∙ h)
        (may_still es fs more _ _ (shown class)))
      where
        by : (o : Option KeptWay) (p : Option (Way numbers)) (b : Bool)
            → at (x ∷ []) (Throw class) ≡ cond b (Some x.way) None → (b ≡ true → o ≡ Some k)
            → MayShow fs o p → MayShow fs o (or_else p (at (x ∷ []) (Throw class)))
        by o (Some w) b e f m = m
        by (Some j) None b e f m = absurd m
        by None None true e f m = absurd (let g : None ≡ Some k = f refl in cc)
        by None None false e f m = subst (MayShow fs None) (sym e) tt

    -- the first throw of its class
    pub throws_more : (k : KeptWay) → thrown ts of ≡ None → ShowsWay fs k x.way → (class : ℕ)
        → MayShow fs (thrown (ts ++ (of, k) ∷ []) class) (at (xs ++ x ∷ []) (Throw class))
    throws_more k h s class =
        subst (λ o. MayShow fs o (at (xs ++ x ∷ []) (Throw class)))
        (sym (thrown_more ts (of, k) class))
        (subst (MayShow fs (or_else (thrown ts class) (thrown ((of, k) ∷ []) class)))
        (sym (at_more xs x (Throw class)))
        (by (thrown ts class) (at xs (Throw class)) (nat_eq of class) (at_class class)
        (may_still es fs more _ _ (shown class))))
      where
        by : (o : Option KeptWay) (p : Option (Way numbers)) (b : Bool)
            → at (x ∷ []) (Throw class) ≡ cond b (Some x.way) None → MayShow fs o p
            → MayShow fs (or_else o (cond b (Some k) None))
            (or_else p (at (x ∷ []) (Throw class)))
        by (Some j) (Some w) b e m = m
        by (Some j) None b e m = absurd m
        by None (Some w) b e m = absurd m
        by None None true e m = subst (MayShow fs (Some k)) (sym e) s
        by None None false e m = subst (MayShow fs None) (sym e) tt

-- what a test says of an option
pub none_of : (o : Option KeptWay) (r : Bool) → is_some o ≡ not r → r ≡ true → o ≡ None
none_of None r e h = refl
none_of (Some k) r e h = absurd (let g : true ≡ false = e ∙ ap not h in cc)

pub some_of : (o : Option KeptWay) (r : Bool) → is_some o ≡ not r → r ≡ false
    → (k : KeptWay) × (o ≡ Some k)
some_of None r e h = absurd (let g : false ≡ true = e ∙ ap not h in cc)
some_of (Some k) r e h = (k, refl)

-- the exits, kind by kind
pub all_exits : (es : List (List ℕ)) (xs : List Exit) (w : KeptWays)
    → MayShow es w.normal (at xs kind.Normal) → MayShow es w.ret (at xs kind.Return)
    → MayShow es w.brk (at xs kind.Break)
    → MayShow es w.cont (at xs kind.Continue) → ShowThrows es w.throws xs → (k : Kind)
    → MayShow es (exit_of w k) (at xs k)
all_exits es xs w n r b c t kind.Normal = n
all_exits es xs w n r b c t kind.Return = r
all_exits es xs w n r b c t kind.Break = b
all_exits es xs w n r b c t kind.Continue = c
all_exits es xs w n r b c t (kind.Throw class) = t class

apart : (b : Bool) (x : KeptWay) (o : Option KeptWay) → cond b (Some x) o ≡ None
    → (b ≡ false) × (o ≡ None)
apart true x o e = absurd (let g : Some x ≡ None = e in cc)
apart false x o e = (refl, e)

both_none : (o p : Option KeptWay) → o ≡ None → p ≡ None → or_else o p ≡ None
both_none None p e f = f
both_none (Some x) p e f = e

-- one more throw, of another class
pub once_more : (ts : List (ℕ × KeptWay)) (class : ℕ) (k : KeptWay) → thrown ts class ≡ None
    → AreOnce ts → AreOnce (ts ++ (class, k) ∷ [])
once_more [] class k n o = (refl, tt)
once_more (t ∷ ts) class k n o =
    let h = apart (nat_eq t.0 class) t.1 (thrown ts class) n in
    let other : nat_eq class t.0 ≡ false =
    ne_eqb class t.0 (λ e. eqb-false t.0 class h.0 (sym e)) in (
      thrown_more ts (class, k) t.0 ∙ both_none _ _ o.0 (ap (λ b. cond b (Some k) None) other),
      once_more ts class k h.1 o.1,
    )
