-- Lists of exits, below the exits of a fact over a lattice.
use Rattle.std.proofs.Common.{◌≡◌, Bool, true, false, cond, Option, Some, None, List, [], ◌∷◌, refl}
use Rattle.std.proofs.Common.{sym, subst}
use Rattle.par_bits.specs.Sets.{Set, union}
use Rattle.par_except.specs.par_program_laws.Lattice.{Lattice}
use Rattle.par_except.specs.par_program_laws.Kinds.{Kind, Normal, same, normal}
use Rattle.par_except.specs.par_program_laws.Ways as rules
use Rattle.par_except.specs.par_program_laws.Ways.{MayRaise}
use Rattle.par_except.specs.par_program_laws.Rules.{Holds}
use Rattle.par_except.specs.Joins.{join}
use Rattle.par_pass_laws.specs.Exits.{Way, Exit, at, add, all, leaving, contexts, with_context}
use Rattle.par_pass_laws.specs.Exits.{restored}
use Rattle.par_pass_laws.specs.Exits.{leave}
use Rattle.par_pass_laws.specs.Low.{Stands, MayLand, MayFlow}
use Rattle.par_pass_laws.proofs.Order.{same_true}
use Rattle.par_pass_laws.proofs.Under.{may_land, flow_up, may_join_land, may_join}

module _ (Q : Lattice) (S : Stands Q) (f : Kind → Option (rules.Way Q)) where
  -- a normal exit lands, the others flow
  pub record Lies (x : Exit) : Type 0 where
    pub lands : MayLand Q S (Some x.way) (f x.kind)
    pub flows : normal x.kind ≡ false → MayFlow Q S (Some x.way) (f x.kind)

  abbrev pub AllLie : List Exit → Type 0
  AllLie [] = Unit {0}
  AllLie (x ∷ xs) = Lies x × AllLie xs

  abbrev pub Below : List Exit → Type 0
  Below [] = Unit {0}
  Below (x ∷ xs) = MayFlow Q S (Some x.way) (f x.kind) × Below xs

  lies_joined : (x y : Exit) → x.kind ≡ y.kind → Lies x → Lies y
      → Lies (record x { way = join x.way y.way })
  lies_joined x y e p q = record {
    lands =
        may_join_land Q S x.way y.way (f x.kind) p.lands
        (subst (λ k. MayLand Q S (Some y.way) (f k)) (sym e) q.lands);
    flows =
        λ n. may_join Q S x.way y.way (f x.kind) (p.flows n)
        (subst (λ k. MayFlow Q S (Some y.way) (f k)) (sym e)
        (q.flows (subst (λ k. normal k ≡ false) e n)));
  }

  add_case : (b : Bool) (y x : Exit) (xs zs : List Exit) → same x.kind y.kind ≡ b → Lies y → Lies x
      → AllLie xs → AllLie zs → AllLie (cond b (record x { way = join x.way y.way } ∷ xs) (x ∷ zs))
  add_case true y x xs zs e p q h k = (lies_joined x y (same_true _ _ e) q p, h)
  add_case false y x xs zs e p q h k = (q, k)

  lie_add : (y : Exit) (xs : List Exit) → Lies y → AllLie xs → AllLie (add y xs)
  lie_add y [] p h = (p, tt)
  lie_add y (x ∷ xs) p h =
      add_case (same x.kind y.kind) y x xs (add y xs) refl p h.0 h.1 (lie_add y xs p h.1)

  pub lie_all : (xs ys : List Exit) → AllLie xs → AllLie ys → AllLie (all xs ys)
  lie_all [] ys h k = k
  lie_all (x ∷ xs) ys h k = lie_all xs (add x ys) h.1 (lie_add x ys h.0 k)

  pub lie_landed : (o : Option Way) → MayLand Q S o (f Normal) → AllLie (leave o Normal)
  lie_landed None h = tt
  lie_landed (Some w) h = (record { lands = h; flows = λ n. cc }, tt)

  pub lie_left : (o : Option Way) (k : Kind) → MayFlow Q S o (f k) → AllLie (leave o k)
  lie_left None k h = tt
  lie_left (Some w) k h = (record { lands = may_land Q S (Some w) (f k) h; flows = λ n. h }, tt)

  leaving_case : (b : Bool) (x : Exit) (zs : List Exit) → (b ≡ false → Lies x) → AllLie zs
      → AllLie (cond b zs (x ∷ zs))
  leaving_case true x zs p h = h
  leaving_case false x zs p h = (p refl, h)

  contexts_case : (b : Bool) (x : Exit) (c : Set) (d : Q.Policy) → same x.kind Normal ≡ b → Lies x
      → ((k : Kind) → normal k ≡ false → MayRaise Q (f k) d) → S.IsUnder c d
      → S.IsUnder (cond b c (union c x.way.context)) d
  contexts_case true x c d e p r h = h
  contexts_case false x c d e p r h =
      S.both c x.way.context d h (context_of (f x.kind) (p.flows e) (r x.kind e))
    where
      context_of : (o : Option (rules.Way Q)) → MayFlow Q S (Some x.way) o → MayRaise Q o d
          → S.IsUnder x.way.context d
      context_of None h k = absurd h
      context_of (Some y) h k = S.up _ _ _ h.context k

  contexts_below : (c : Set) (d : Q.Policy) (xs : List Exit) → AllLie xs
      → ((k : Kind) → normal k ≡ false → MayRaise Q (f k) d) → S.IsUnder c d
      → S.IsUnder (contexts c xs) d
  contexts_below c d [] h r s = s
  contexts_below c d (x ∷ xs) h r s =
      contexts_below (cond (same x.kind Normal) c (union c x.way.context)) d xs h.1 r
      (contexts_case (same x.kind Normal) x c d refl h.0 r s)

  with_case : (b : Bool) (x : Exit) (c : Set) → same x.kind Normal ≡ b → Lies x
      → Holds Q (f Normal) (λ z. S.IsUnder c z.context)
      → MayFlow Q S (Some (cond b (record x { way = record x.way { context = c } }) x).way)
      (f (cond b (record x { way = record x.way { context = c } }) x).kind)
  with_case true x c e p s =
      flow_at (f x.kind) p.lands
      (subst (λ k. Holds Q (f k) (λ z. S.IsUnder c z.context)) (sym (same_true _ _ e)) s)
    where
      flow_at : (o : Option (rules.Way Q)) → MayLand Q S (Some x.way) o
          → Holds Q o (λ z. S.IsUnder c z.context)
          → MayFlow Q S (Some (record x.way { context = c })) o
      flow_at None h k = absurd h
      flow_at (Some y) h k = record { context = k; lands = record { env = h.env; locks = h.locks } }
  with_case false x c e p s = p.flows e

  with_below : (c : Set) (xs : List Exit) → AllLie xs
      → Holds Q (f Normal) (λ z. S.IsUnder c z.context) → Below (with_context c xs)
  with_below c [] h s = tt
  with_below c (x ∷ xs) h s = (with_case (same x.kind Normal) x c refl h.0 s, with_below c xs h.1 s)

  pub restored_below : (w : Way) (o : Option (rules.Way Q)) (xs : List Exit)
      → MayFlow Q S (Some w) o → Holds Q (f Normal)
      (λ z. MayRaise Q o z.context × ((k : Kind) → normal k ≡ false → MayRaise Q (f k) z.context))
      → AllLie xs → Below (restored w xs)
  restored_below w o xs e r h = with_below (contexts w.context xs) xs h (all_at (f Normal) r) where
    entered : (o : Option (rules.Way Q)) (c : Q.Policy) → MayFlow Q S (Some w) o → MayRaise Q o c
        → S.IsUnder w.context c
    entered None c h k = absurd h
    entered (Some y) c h k = S.up _ _ _ h.context k

    all_at : (n : Option (rules.Way Q))
        → Holds Q n (λ z. MayRaise Q o z.context
        × ((k : Kind) → normal k ≡ false → MayRaise Q (f k) z.context))
        → Holds Q n (λ z. S.IsUnder (contexts w.context xs) z.context)
    all_at None r = tt
    all_at (Some z) r = contexts_below w.context z.context xs h r.1 (entered o z.context e r.0)

  at_case : (b : Bool) (x : Exit) (k : Kind) (o : Option Way) → same x.kind k ≡ b
      → MayFlow Q S (Some x.way) (f x.kind) → MayFlow Q S o (f k)
      → MayFlow Q S (cond b (Some x.way) o) (f k)
  at_case true x k o e p h = subst (λ k. MayFlow Q S (Some x.way) (f k)) (same_true _ _ e) p
  at_case false x k o e p h = h

  pub at_below : (xs : List Exit) → Below xs → (k : Kind) → MayFlow Q S (at xs k) (f k)
  at_below [] h k = tt
  at_below (x ∷ xs) h k = at_case (same x.kind k) x k (at xs k) refl h.0 (at_below xs h.1 k)

module _ (Q : Lattice) (S : Stands Q) where
  -- the exits of a part that leave the whole
  pub lie_leaving : (f g : Kind → Option (rules.Way Q)) (absorbs : Kind → Bool) (xs : List Exit)
      → Below Q S g xs → ((k : Kind) → absorbs k ≡ false → rules.MayFlow Q (g k) (f k))
      → AllLie Q S f (leaving absorbs xs)
  lie_leaving f g absorbs [] h l = tt
  lie_leaving f g absorbs (x ∷ xs) h l =
      leaving_case Q S f (absorbs x.kind) x (leaving absorbs xs)
      (λ e. let m = flow_up Q S (Some x.way) (g x.kind) (f x.kind) h.0 (l x.kind e) in
      record { lands = may_land Q S (Some x.way) (f x.kind) m; flows = λ n. m })
      (lie_leaving f g absorbs xs h.1 l)
