-- Agreement is kept where a lock is opened or closed, a field of an object is written, and where a
-- method is entered and left.
use Rattle.par_evaluation_laws.specs.Laid.{HasOwn, IsLock, IsMade}
use Rattle.std.proofs.Common.{◌≡◌, ℕ, ◌<◌, Bool, true, false, not, ◌&&◌, ◌||◌, List, [], ◌∷◌, inl}
use Rattle.std.proofs.Common.{inr, ◌⊎◌}
use Rattle.std.proofs.Common.{length, Option, Some, refl, ap, sym, ◌∙◌, subst, arith}
use Rattle.std.specs.Prelude.{pos, ◌==◌, nat_lt, slice_set, nat_eq, if◌then◌else◌}
use Rattle.std.specs.List.{slice_get}
use Rattle.std.proofs.lemmas.List.{length-set}
use Rattle.std.proofs.lemmas.Option.{slice_get_within}
use Rattle.std.proofs.lemmas.Bool.{cases_eq, eq-eqb, ne_eqb, eqb-true, cond-true, lt-ltb}
use Rattle.par_policy.specs.Numbers.{has}
use Rattle.par_run_laws.specs.par_typed.declared.ty.Ty.{Ty}
use Rattle.par_run_laws.specs.par_typed.declared.table.Table.{Table}
use Rattle.par_run_laws.specs.par_values.declared.value.MVal.{MVal}
use Rattle.par_run_laws.specs.par_values.declared.value.MVal.TheVariants as value
use Rattle.par_run_laws.specs.par_values.Areas.{Areas, local_value, list_or_none, objects_of}
use Rattle.par_run_laws.specs.par_values.Areas.{object_at}
use Rattle.par_run_laws.specs.par_values.Areas as areas
use Rattle.par_run_laws.specs.State.{State, put, set_field, open_lock, close_lock, opened, closed}
use Rattle.par_run_laws.specs.State.{restored}
use Rattle.par_run_laws.specs.Values.{truth}
use Rattle.par_match_laws.specs.par_code_form.Code.{Words}
use Rattle.par_match_laws.specs.Labelled.{Naming}
use Rattle.par_evaluation_laws.specs.Laid.{Layout, moved, HasType}
use Rattle.par_program_laws.specs.Locals.{IsSet}
use Rattle.par_evaluation_laws.specs.Agreement.{Lays, Fine}
use Rattle.par_evaluation_laws.proofs.Good.{typed_on, get_set, get_beside, put_here, put_beside}

-- ---- locks

or_here : (a b r : Bool) → a ≡ b → (a || r) ≡ (b || (a || r))
or_here true true r e = refl
or_here false false r e = refl
or_here true false r e = cc
or_here false true r e = cc

eq_sym : (a b : ℕ) → nat_eq a b ≡ nat_eq b a
eq_sym a b = pick (cases_eq a b)
  where
    pick : (a ≡ b) ⊎ (a ≡ b → ⊥) → nat_eq a b ≡ nat_eq b a
    pick (inl e) = eq-eqb a b e ∙ sym (eq-eqb b a (sym e))
    pick (inr n) = ne_eqb a b n ∙ sym (ne_eqb b a (λ e. n (sym e)))

or_swap : (a b c : Bool) → (a || (b || c)) ≡ (b || (a || c))
or_swap true true c = refl
or_swap true false c = refl
or_swap false b c = refl

-- a lock more
has_opened : (l k : ℕ) (ls : List ℕ) → has (opened l ls) k ≡ (nat_eq l k || has ls k)
has_opened l k [] = refl
has_opened l k (m ∷ ms) = pick (has_opened l k ms) (l == m) refl (nat_lt l m)
  where
    pick : has (opened l ms) k ≡ (nat_eq l k || has ms k) → (b : Bool) → (l == m) ≡ b → (d : Bool)
        → has (if b then m ∷ ms else if d then l ∷ m ∷ ms else m ∷ opened l ms) k
        ≡ (nat_eq l k || (nat_eq m k || has ms k))
    pick ih true e d = or_here (nat_eq m k) (nat_eq l k) (has ms k) (ap (λ x. nat_eq x k)
        (sym (eqb-true l m e)))
    pick ih false e true = refl
    pick ih false e false =
        ap (λ z. nat_eq m k || z) ih ∙ or_swap (nat_eq m k) (nat_eq l k) (has ms k)

-- a lock less
has_closed : (l k : ℕ) (ls : List ℕ) → has (closed l ls) k ≡ (not (nat_eq l k) && has ls k)
has_closed l k [] = nothing (nat_eq l k)
  where
    nothing : (b : Bool) → false ≡ (not b && false)
    nothing true = refl
    nothing false = refl
has_closed l k (m ∷ ms) = pick (has_closed l k ms) (cases_eq m l)
  where
    beside : (a b r : Bool) → (a ≡ true → b ≡ true → ⊥) → (b || (not a && r)) ≡ (not a && (b || r))
    beside true true r n = absurd (n refl refl)
    beside true false r n = refl
    beside false b r n = refl

    gone : (a b r : Bool) → a ≡ b → (not a && r) ≡ (not a && (b || r))
    gone true true r e = refl
    gone false false r e = refl
    gone true false r e = cc
    gone false true r e = cc

    pick : has (closed l ms) k ≡ (not (nat_eq l k) && has ms k) → (m ≡ l) ⊎ (m ≡ l → ⊥)
        → has (closed l (m ∷ ms)) k ≡ (not (nat_eq l k) && (nat_eq m k || has ms k))
    pick ih (inl e) =
        ap (λ b. has (if b then m ∷ closed l ms else closed l ms) k) (ap not (eq-eqb m l e)) ∙ ih
        ∙ gone (nat_eq l k) (nat_eq m k) (has ms k) (ap (λ x. nat_eq x k) (sym e))
    pick ih (inr n) =
        ap (λ b. has (if b then m ∷ closed l ms else closed l ms) k) (ap not (ne_eqb m l n))
        ∙ ap (λ z. nat_eq m k || z) ih
        ∙ beside (nat_eq l k) (nat_eq m k) (has ms k) (λ e f. n (eqb-true m k f
        ∙ sym (eqb-true l k e)))

module _ (env : Naming) (w : Words) (lay : Layout) (t : Table) (lays : Lays env w lay t) (tys : ℕ
    → Ty) (many : ℕ) (base : ℕ → ℕ) where
  -- the open locks change as the field of a lock does
  lock_put : (set : List ℕ) (s : State) (a : Areas) (l : ℕ) (b : Bool) (locks : List ℕ)
      → IsLock lay l
      → has locks l ≡ b → ((k : ℕ) → (k ≡ l → ⊥) → has locks k ≡ has s.locks k)
      → Fine env w lay t tys many base set s a
      → Fine env w lay t tys many base set (record s { locks = locks })
      (areas.set_static (lay.lock_at l) (truth b) a)
  lock_put set s a l b locks is now old h = record {
    size = h.size;
    locals_are = h.locals_are;
    statics_are = λ c f u own. let g = h.statics_are c f u own in (
      get_beside a.statics (lay.lock_at l) (lay.static_at c f) (truth b)
          (λ e. lays.lock_beside c f l u own is e) ∙ g.0,
      g.1,
    );
    many_are = h.many_are;
    there = h.there;
    fields_are = h.fields_are;
    grown = h.grown;
    inputs_are = h.inputs_are;
    locks_are = λ k is'. pick k is' (cases_eq k l);
  }
    where
      pick : (k : ℕ) → IsLock lay k → (k ≡ l) ⊎ (k ≡ l → ⊥)
          → slice_get (slice_set a.statics (lay.lock_at l) (truth b))
          (lay.lock_at k) ≡ Some (truth (has locks k))
      pick k is' (inl e) =
          ap (λ k. slice_get (slice_set a.statics (lay.lock_at l) (truth b)) (lay.lock_at k)) e
          ∙ get_set a.statics (lay.lock_at l) (truth b)
          (slice_get_within a.statics (lay.lock_at l) _ (h.locks_are l is))
          ∙ ap (λ x. Some (truth x)) (sym now) ∙ ap (λ k. Some (truth (has locks k))) (sym e)
      pick k is' (inr n) =
          get_beside a.statics (lay.lock_at l) (lay.lock_at k) (truth b)
          (λ e. n (lays.lock_one k l is' is e))
          ∙ h.locks_are k is' ∙ ap (λ x. Some (truth x)) (sym (old k n))

  pub open_fit : (set : List ℕ) (s : State) (a : Areas) (l : ℕ) → IsLock lay l
      → Fine env w lay t tys many base set s a
      → Fine env w lay t tys many base set (open_lock l s) (areas.set_static (lay.lock_at l)
      (value.Int (pos 1)) a)
  open_fit set s a l is h =
      lock_put set s a l true (opened l s.locks) is
      (has_opened l l s.locks ∙ ap (λ b. b || has s.locks l) (eq-eqb l l refl))
      (λ k n. has_opened l k s.locks ∙ ap (λ b. b || has s.locks k) (ne_eqb l k (λ e. n (sym e)))) h

  pub close_fit : (set : List ℕ) (s : State) (a : Areas) (l : ℕ) → IsLock lay l
      → Fine env w lay t tys many base set s a
      → Fine env w lay t tys many base set (close_lock l s) (areas.set_static (lay.lock_at l)
      (value.Int (pos 0)) a)
  close_fit set s a l is h =
      lock_put set s a l false (closed l s.locks) is
      (has_closed l l s.locks ∙ ap (λ b. not b && has s.locks l) (eq-eqb l l refl))
      (λ k n. has_closed l k s.locks ∙ ap (λ b. not b && has s.locks k)
      (ne_eqb l k (λ e. n (sym e)))) h

  -- ---- fields of objects

  abbrev Row : Areas → ℕ → List (List MVal)
  Row a c = list_or_none (slice_get a.objects (lay.number c))

  module _ (set : List ℕ) (s : State) (a : Areas) (c n f : ℕ) (u : Ty) (v : MVal)
      (own : HasOwn lay c f u) (made : IsMade lay c)
      (lt : n < s.births c) (ht : HasType lay s.births u v)
      (h : Fine env w lay t tys many base set s a) where
    abbrev s' : State
    s' = record s { fields = put s.fields c (put (s.fields c) n (put (s.fields c n) f v)) }

    abbrev object : List MVal
    object = slice_set (list_or_none (slice_get (Row a c) n)) (lay.field_at c f) (moved lay v)

    abbrev row : List (List MVal)
    row = slice_set (Row a c) n object

    abbrev a2 : Areas
    a2 = areas.set_field (lay.number c) n (lay.field_at c f) (moved lay v) a

    own_row : list_or_none (slice_get (slice_set a.objects (lay.number c) row) (lay.number c)) ≡ row
    own_row = ap list_or_none (get_set a.objects (lay.number c) row (h.there c made))

    other_row : (d : ℕ) → IsMade lay d → (d ≡ c → ⊥)
        → slice_get (slice_set a.objects (lay.number c) row)
        (lay.number d) ≡ slice_get a.objects (lay.number d)
    other_row d m apart = get_beside a.objects (lay.number c)
        (lay.number d) row (λ e. apart (lays.number_one d c m made e))

    many' : (d : ℕ) → IsMade lay d → (d ≡ c) ⊎ (d ≡ c → ⊥)
        → length (list_or_none (slice_get (slice_set a.objects (lay.number c) row)
        (lay.number d))) ≡ s.births d
    many' d m (inl e) =
        ap (λ d. length (list_or_none (slice_get (slice_set a.objects (lay.number c) row)
        (lay.number d)))) e
        ∙ ap length own_row ∙ length-set (Row a c) n object ∙ h.many_are c made
        ∙ ap s.births (sym e)
    many' d m (inr ne) = ap (λ o. length (list_or_none o)) (other_row d m ne) ∙ h.many_are d m

    inside : n < length (Row a c)
    inside = let e = h.many_are c made in omega (arith, e, lt)

    abbrev FieldIs : List (List MVal) → ℕ → ℕ → ℕ → Ty → MVal → Type 0
    FieldIs r d k g z x =
        (slice_get (list_or_none (slice_get r k))
        (lay.field_at d g) ≡ Some (moved lay x)) × HasType lay s.births z x

    -- in the row of the class
    at_own : (k g : ℕ) (z : Ty) → HasOwn lay c g z → k < s.births c → (k ≡ n) ⊎ (k ≡ n → ⊥)
        → (g ≡ f) ⊎ (g ≡ f → ⊥)
        → FieldIs row c k g z (put (s.fields c) n (put (s.fields c n) f v) k g)
    at_own k g z own' lt' (inl e) (inl e') =
        let p : put (s.fields c) n (put (s.fields c n) f v) k g ≡ v =
        ap (λ (q : ℕ → MVal). q g) (put_here (s.fields c) n (put (s.fields c n) f v) k e)
        ∙ put_here (s.fields c n) f v g e' in
        let same : z ≡ u = lays.own_typed c f z u (subst (λ g. HasOwn lay c g z) e' own') own in
        let was = (h.fields_are c n f u own made lt).0 in (
          ap (λ k. slice_get (list_or_none (slice_get row k)) (lay.field_at c g)) e
              ∙ ap (λ o. slice_get (list_or_none o) (lay.field_at c g))
              (get_set (Row a c) n object inside)
              ∙ ap (λ g. slice_get object (lay.field_at c g)) e'
              ∙ get_set (list_or_none (slice_get (Row a c) n)) (lay.field_at c f) (moved lay v)
              (slice_get_within _ (lay.field_at c f) _ was)
              ∙ ap (λ x. Some (moved lay x)) (sym p),
          subst (λ x. HasType lay s.births z x) (sym p) (subst (λ u. HasType lay s.births u v)
              (sym same) ht),
        )
    at_own k g z own' lt' (inl e) (inr ne) =
        let p : put (s.fields c) n (put (s.fields c n) f v) k g ≡ s.fields c k g =
        ap (λ (q : ℕ → MVal). q g) (put_here (s.fields c) n (put (s.fields c n) f v) k e)
        ∙ put_beside (s.fields c n) f g v ne
        ∙ ap (λ k. s.fields c k g) (sym e) in
        let was = h.fields_are c k g z own' made lt' in (
          ap (λ k. slice_get (list_or_none (slice_get row k)) (lay.field_at c g)) e
              ∙ ap (λ o. slice_get (list_or_none o) (lay.field_at c g))
              (get_set (Row a c) n object inside)
              ∙ get_beside (list_or_none (slice_get (Row a c) n)) (lay.field_at c f)
              (lay.field_at c g) (moved lay v) (λ q. ne (lays.own_one c g f z u own' own q))
              ∙ ap (λ k. slice_get (list_or_none (slice_get (Row a c) k)) (lay.field_at c g))
              (sym e)
              ∙ was.0 ∙ ap (λ x. Some (moved lay x)) (sym p),
          subst (λ x. HasType lay s.births z x) (sym p) was.1,
        )
    at_own k g z own' lt' (inr ne) o =
        let p : put (s.fields c) n (put (s.fields c n) f v) k g ≡ s.fields c k g =
        ap (λ (q : ℕ → MVal). q g) (put_beside (s.fields c) n k (put (s.fields c n) f v) ne) in
        let was = h.fields_are c k g z own' made lt' in (
          ap (λ o. slice_get (list_or_none o) (lay.field_at c g))
              (get_beside (Row a c) n k object ne)
              ∙ was.0 ∙ ap (λ x. Some (moved lay x)) (sym p),
          subst (λ x. HasType lay s.births z x) (sym p) was.1,
        )

    field' : (d k g : ℕ) (z : Ty) → HasOwn lay d g z → IsMade lay d → k < s.births d
        → (d ≡ c) ⊎ (d ≡ c → ⊥)
        → FieldIs (list_or_none (slice_get (slice_set a.objects (lay.number c) row)
        (lay.number d))) d k g z (s'.fields d k g)
    field' d k g z own' m lt' (inl e) =
        let p : s'.fields d ≡ put (s.fields c) n (put (s.fields c n) f v) =
        put_here s.fields c (put (s.fields c) n (put (s.fields c n) f v)) d e in
        let b = ap s.births e in
        let q = at_own k g z (subst (λ d. HasOwn lay d g z) e own') (omega (arith, b, lt'))
        (cases_eq k n) (cases_eq g f) in (
          ap (λ d. slice_get (list_or_none (slice_get (list_or_none (slice_get (slice_set a.objects
              (lay.number c) row) (lay.number d))) k)) (lay.field_at d g)) e
              ∙ ap (λ r. slice_get (list_or_none (slice_get r k)) (lay.field_at c g)) own_row
              ∙ q.0 ∙ ap (λ (x : ℕ → ℕ → MVal). Some (moved lay (x k g))) (sym p),
          subst (λ (x : ℕ → ℕ → MVal). HasType lay s.births z (x k g)) (sym p) q.1,
        )
    field' d k g z own' m lt' (inr ne) =
        let p : s'.fields d ≡ s.fields d = put_beside s.fields c d (put (s.fields c) n (put
        (s.fields c n) f v)) ne in
        let was = h.fields_are d k g z own' m lt' in (
          ap (λ o. slice_get (list_or_none (slice_get (list_or_none o) k)) (lay.field_at d g))
              (other_row d m ne) ∙ was.0
              ∙ ap (λ (x : ℕ → ℕ → MVal). Some (moved lay (x k g))) (sym p),
          subst (λ (x : ℕ → ℕ → MVal). HasType lay s.births z (x k g)) (sym p) was.1,
        )

    pub field_fit : Fine env w lay t tys many base set (set_field c n f v s) a2
    field_fit =
        subst (λ s2. Fine env w lay t tys many base set s2 a2)
        (sym (cond-true (nat_lt n (s.births c)) s' s (lt-ltb n (s.births c) lt)))
        (record {
          size = h.size;
          locals_are = h.locals_are;
          statics_are = h.statics_are;
          grown = h.grown;
          inputs_are = h.inputs_are;
          locks_are = h.locks_are;
          many_are = λ d m. many' d m (cases_eq d c);
          there = λ d m. let e = length-set a.objects (lay.number c) row in let g = h.there d m in
              omega (arith, e, g);
          fields_are = λ d k g z own' m lt'. field' d k g z own' m lt' (cases_eq d c);
        })

-- ---- methods

module _ (env : Naming) (w : Words) (lay : Layout) (t : Table) where
  -- a called method begins
  pub entered_fit : (tys : ℕ → Ty) (many : ℕ) (base : ℕ → ℕ) (set : List ℕ) (tys' : ℕ
      → Ty) (many' : ℕ) (set' : List ℕ)
      (s : State) (a : Areas) (locals : ℕ → MVal) (result : MVal) (held : List (Option MVal))
      (ops : List MVal)
      → length held ≡ many'
      → ((x : ℕ) → IsSet set' x → (local_value (slice_get held x) ≡ Some (moved lay (locals x))) ×
      HasType lay s.births (tys' x) (locals x))
      → Fine env w lay t tys many base set s a
      → Fine env w lay t tys' many' s.births set' (restored locals result s)
      (record a { locals = held; operands = ops })
  entered_fit tys many base set tys' many' set' s a locals result held ops size are h = record {
    size = size;
    locals_are = are;
    statics_are = h.statics_are;
    many_are = h.many_are;
    there = h.there;
    fields_are = h.fields_are;
    grown = λ c. omega arith;
    locks_are = h.locks_are;
    inputs_are = h.inputs_are;
  }

  -- back in the caller, which has its locals
  pub left_fit : (tys : ℕ → Ty) (many : ℕ) (base : ℕ → ℕ) (set : List ℕ) (tys' : ℕ
      → Ty) (many' : ℕ) (set' : List ℕ)
      (s s' : State) (a a' : Areas) (result : MVal) (ops : List MVal)
      → Fine env w lay t tys many base set s a → Fine env w lay t tys' many' s.births set' s' a'
      → Fine env w lay t tys many base set (restored s.locals result s')
      (record a' { locals = a.locals; operands = ops })
  left_fit tys many base set tys' many' set' s s' a a' result ops h h' = record {
    size = h.size;
    locals_are = λ x is. let g = h.locals_are x is in (
      g.0,
      typed_on lay s.births s'.births (tys x)
          (s.locals x) h'.grown g.1,
    );
    statics_are = h'.statics_are;
    many_are = h'.many_are;
    there = h'.there;
    fields_are = h'.fields_are;
    grown = λ c. let g = h.grown c in let k = h'.grown c in omega (arith, g, k);
    locks_are = h'.locks_are;
    inputs_are = h'.inputs_are;
  }
