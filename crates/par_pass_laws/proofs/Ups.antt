-- Lists of exits: what goes in flows into what comes out.
use Rattle.std.proofs.Common.{◌≡◌, Bool, true, false, cond, Option, Some, None, List, [], ◌∷◌, refl}
use Rattle.std.proofs.Common.{sym, ap, ◌∙◌, subst}
use Rattle.par_bits.specs.Sets.{Set, IsWithin, union}
use Rattle.par_except.specs.par_program_laws.Lattice.{numbers}
use Rattle.par_except.specs.par_program_laws.Kinds.{Kind, Normal, same, normal}
use Rattle.par_except.specs.par_program_laws.Ways.{MayFlow, MayLand, MayRaise}
use Rattle.par_except.specs.par_program_laws.Rules.{Holds}
use Rattle.par_except.specs.Joins.{join}
use Rattle.par_pass_laws.specs.Exits.{Way, Exit, at, add, all, leaving, contexts, with_context}
use Rattle.par_pass_laws.specs.Exits.{restored}
use Rattle.par_pass_laws.proofs.Order.{sub_refl, sub_trans, union_l, union_r, flows_refl, may_refl}
use Rattle.par_pass_laws.proofs.Order.{may_trans, land_trans, join_l, join_r, same_true, same_refl}

-- what a list of exits has, the list that is made of it has
up_at : (b c : Bool) (x y : Way) (o p : Option Way) → MayFlow numbers o p
    → MayFlow numbers (cond c (Some x) o) (cond b (cond c (Some (join x y)) o) (cond c (Some x) p))
up_at true true x y o p h = join_l x y
up_at true false x y o p h = may_refl o
up_at false true x y o p h = flows_refl x
up_at false false x y o p h = h

at_cond : (b : Bool) (xs ys : List Exit) (k : Kind)
    → at (cond b xs ys) k ≡ cond b (at xs k) (at ys k)
at_cond true xs ys k = refl
at_cond false xs ys k = refl

up_add : (y : Exit) (xs : List Exit) (k : Kind) → MayFlow numbers (at xs k) (at (add y xs) k)
up_add y [] k = tt
up_add y (x ∷ xs) k =
    subst (λ o. MayFlow numbers (cond (same x.kind k) (Some x.way) (at xs k)) o)
    (sym (at_cond (same x.kind y.kind) (record x { way = join x.way y.way } ∷ xs) (x ∷ add y xs) k))
    (up_at (same x.kind y.kind) (same x.kind k) x.way y.way (at xs k) (at (add y xs) k)
    (up_add y xs k))

own_at : (b c : Bool) (x y : Way) (o p : Option Way) → (b ≡ true → c ≡ true)
    → (b ≡ false → c ≡ false) → MayFlow numbers (Some y) p
    → MayFlow numbers (Some y) (cond b (cond c (Some (join x y)) o) (cond c (Some x) p))
own_at true true x y o p f g h = join_r x y
own_at true false x y o p f g h = let e : false ≡ true = f refl in cc
own_at false true x y o p f g h = let e : true ≡ false = g refl in cc
own_at false false x y o p f g h = h

up_own : (y : Exit) (xs : List Exit) → MayFlow numbers (Some y.way) (at (add y xs) y.kind)
up_own y [] =
    subst (λ b. MayFlow numbers (Some y.way) (cond b (Some y.way) None)) (sym (same_refl y.kind))
    (flows_refl y.way)
up_own y (x ∷ xs) =
    subst (λ o. MayFlow numbers (Some y.way) o)
    (sym (at_cond (same x.kind y.kind) (record x { way = join x.way y.way } ∷ xs)
    (x ∷ add y xs) y.kind))
    (own_at (same x.kind y.kind) (same x.kind y.kind) x.way y.way (at xs y.kind)
    (at (add y xs) y.kind) (λ e. e) (λ e. e) (up_own y xs))

pub up_r : (xs ys : List Exit) (k : Kind) → MayFlow numbers (at ys k) (at (all xs ys) k)
up_r [] ys k = may_refl (at ys k)
up_r (x ∷ xs) ys k =
    may_trans (at ys k) (at (add x ys) k) (at (all xs (add x ys)) k) (up_add x ys k)
    (up_r xs (add x ys) k)

up_case : (b : Bool) (x : Exit) (o p : Option Way) (k : Kind) → same x.kind k ≡ b
    → (x.kind ≡ k → MayFlow numbers (Some x.way) p) → MayFlow numbers o p
    → MayFlow numbers (cond b (Some x.way) o) p
up_case true x o p k e m h = m (same_true x.kind k e)
up_case false x o p k e m h = h

pub up_l : (xs ys : List Exit) (k : Kind) → MayFlow numbers (at xs k) (at (all xs ys) k)
up_l [] ys k = tt
up_l (x ∷ xs) ys k =
    up_case (same x.kind k) x (at xs k) (at (all xs (add x ys)) k) k refl
    (λ e. may_trans (Some x.way) (at (add x ys) k) (at (all xs (add x ys)) k)
    (subst (λ j. MayFlow numbers (Some x.way) (at (add x ys) j)) e (up_own x ys))
    (up_r xs (add x ys) k))
    (up_l xs (add x ys) k)

leaving_at : (b c : Bool) (x : Exit) (xs : List Exit) (k : Kind) (o : Option Way)
    → same x.kind k ≡ c → (c ≡ true → b ≡ false) → at xs k ≡ o
    → at (cond b xs (x ∷ xs)) k ≡ cond c (Some x.way) o
leaving_at true true x xs k o e f h = let g : true ≡ false = f refl in cc
leaving_at true false x xs k o e f h = h
leaving_at false c x xs k o e f h =
    ap (λ d. cond d (Some x.way) (at xs k)) e ∙ ap (cond c (Some x.way)) h

pub at_leaving : (absorbs : Kind → Bool) (xs : List Exit) (k : Kind) → absorbs k ≡ false
    → at (leaving absorbs xs) k ≡ at xs k
at_leaving absorbs [] k n = refl
at_leaving absorbs (x ∷ xs) k n =
    leaving_at (absorbs x.kind) (same x.kind k) x (leaving absorbs xs) k (at xs k) refl
    (λ e. ap absorbs (same_true x.kind k e) ∙ n) (at_leaving absorbs xs k n)

-- the exits with another context of the normal one
with_at : (b : Bool) (x : Exit) (c : Set) (k : Kind) (o p : Option Way) → same x.kind Normal ≡ b
    → normal k ≡ false → o ≡ p → cond
    (same (cond b (record x { way = record x.way { context = c } }) x).kind k)
    (Some (cond b (record x { way = record x.way { context = c } }) x).way) o
    ≡ cond (same x.kind k) (Some x.way) p
with_at true x c k o p e n h = other (same x.kind k) refl where
  other : (d : Bool) → same x.kind k ≡ d
      → cond d (Some (record x.way { context = c })) o ≡ cond d (Some x.way) p
  other true g = let m : normal k ≡ true = ap normal (sym (same_true x.kind k g)) ∙ e in cc
  other false g = h
with_at false x c k o p e n h = ap (cond (same x.kind k) (Some x.way)) h

at_with : (c : Set) (xs : List Exit) (k : Kind) → normal k ≡ false
    → at (with_context c xs) k ≡ at xs k
at_with c [] k n = refl
at_with c (x ∷ xs) k n =
    with_at (same x.kind Normal) x c k (at (with_context c xs) k) (at xs k) refl n
    (at_with c xs k n)

with_land : (b : Bool) (x : Exit) (c : Set) (o p : Option Way) → same x.kind Normal ≡ b
    → MayLand numbers o p → MayLand numbers (cond b (Some x.way) o)
    (cond (same (cond b (record x { way = record x.way { context = c } }) x).kind Normal)
    (Some (cond b (record x { way = record x.way { context = c } }) x).way) p)
with_land true x c o p e h =
    subst (λ d. MayLand numbers (Some x.way) (cond d (Some (record x.way { context = c })) p))
    (sym e) (record { env = λ i. sub_refl (x.way.env i); locks = sub_refl x.way.locks })
with_land false x c o p e h = subst (λ d. MayLand numbers o (cond d (Some x.way) p)) (sym e) h

land_with : (c : Set) (xs : List Exit)
    → MayLand numbers (at xs Normal) (at (with_context c xs) Normal)
land_with c [] = tt
land_with c (x ∷ xs) =
    with_land (same x.kind Normal) x c (at xs Normal) (at (with_context c xs) Normal) refl
    (land_with c xs)

with_has : (b : Bool) (x : Exit) (c : Set) (p : Option Way) → same x.kind Normal ≡ b
    → Holds numbers p (λ z. z.context ≡ c)
    → Holds numbers
    (cond (same (cond b (record x { way = record x.way { context = c } }) x).kind Normal)
    (Some (cond b (record x { way = record x.way { context = c } }) x).way) p) (λ z. z.context ≡ c)
with_has true x c p e h =
    subst (λ d. Holds numbers (cond d (Some (record x.way { context = c })) p) (λ z. z.context ≡ c))
    (sym e) refl
with_has false x c p e h =
    subst (λ d. Holds numbers (cond d (Some x.way) p) (λ z. z.context ≡ c)) (sym e) h

has_context : (c : Set) (xs : List Exit)
    → Holds numbers (at (with_context c xs) Normal) (λ z. z.context ≡ c)
has_context c [] = tt
has_context c (x ∷ xs) =
    with_has (same x.kind Normal) x c (at (with_context c xs) Normal) refl (has_context c xs)

first_case : (b : Bool) (x : Way) (c : Set) → IsWithin c (cond b c (union c x.context))
first_case true x c = sub_refl c
first_case false x c = union_l c x.context

contexts_first : (c : Set) (xs : List Exit) → IsWithin c (contexts c xs)
contexts_first c [] = sub_refl c
contexts_first c (x ∷ xs) =
    let d = cond (same x.kind Normal) c (union c x.way.context) in
    sub_trans c d (contexts d xs) (first_case (same x.kind Normal) x.way c) (contexts_first d xs)

raise_at : (b d : Bool) (x : Way) (o : Option Way) (c e : Set) → (d ≡ true → b ≡ false)
    → IsWithin (cond b c (union c x.context)) e → MayRaise numbers o e
    → MayRaise numbers (cond d (Some x) o) e
raise_at true true x o c e f s h = let g : true ≡ false = f refl in cc
raise_at false true x o c e f s h =
    sub_trans x.context (union c x.context) e (union_r c x.context) s
raise_at b false x o c e f s h = h

contexts_has : (c : Set) (xs : List Exit) (k : Kind) → normal k ≡ false
    → MayRaise numbers (at xs k) (contexts c xs)
contexts_has c [] k n = tt
contexts_has c (x ∷ xs) k n =
    let d = cond (same x.kind Normal) c (union c x.way.context) in
    raise_at (same x.kind Normal) (same x.kind k) x.way (at xs k) c (contexts d xs)
    (λ e. ap normal (same_true x.kind k e) ∙ n) (contexts_first d xs) (contexts_has d xs k n)

pub up_restored : (w : Way) (xs : List Exit) (o : Option Way) (k : Kind) → normal k ≡ false
    → MayFlow numbers o (at xs k) → MayFlow numbers o (at (restored w xs) k)
up_restored w xs o k n h =
    subst (MayFlow numbers o) (sym (at_with (contexts w.context xs) xs k n)) h

pub land_restored : (w : Way) (xs : List Exit) (o : Option Way) → MayLand numbers o (at xs Normal)
    → MayLand numbers o (at (restored w xs) Normal)
land_restored w xs o h =
    land_trans o (at xs Normal) (at (restored w xs) Normal) h (land_with (contexts w.context xs) xs)

pub restores : (w : Way) (xs : List Exit)
    → Holds numbers (at (restored w xs) Normal)
    (λ z. IsWithin w.context z.context
    × ((k : Kind) → normal k ≡ false → MayRaise numbers (at (restored w xs) k) z.context))
restores w xs = each (at (restored w xs) Normal) (has_context (contexts w.context xs) xs) where
  each : (o : Option Way) → Holds numbers o (λ z. z.context ≡ contexts w.context xs)
      → Holds numbers o (λ z. IsWithin w.context z.context
      × ((k : Kind) → normal k ≡ false → MayRaise numbers (at (restored w xs) k) z.context))
  each None h = tt
  each (Some z) h = (
    subst (IsWithin w.context) (sym h) (contexts_first w.context xs),
    λ k n. subst (λ o. MayRaise numbers o z.context) (sym (at_with (contexts w.context xs) xs k n))
        (subst (MayRaise numbers (at xs k)) (sym h) (contexts_has w.context xs k n)),
  )
