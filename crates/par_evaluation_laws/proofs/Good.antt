-- States of a source run and of the machine that agree.
use Rattle.par_evaluation_laws.specs.Agreement.{Lays, Fine}
use Rattle.par_evaluation_laws.specs.Laid.{HasOwn, HasStatic, IsInput, IsMade, IsThrown}
use Rattle.std.proofs.Common.{◌≡◌, ℕ, zero, suc, ◌+◌, ◌≤◌, ◌<◌, Bool, true, false, ◌&&◌, ◌||◌, cond}
use Rattle.std.proofs.Common.{List, [], ◌∷◌, ◌++◌, inl, inr, ◌⊎◌}
use Rattle.std.proofs.Common.{length, Some, map, refl, ap, sym, ◌∙◌, subst, arith, IsTrue}
use Rattle.std.specs.Prelude.{◌==◌, slice_set}
use Rattle.std.specs.List.{slice_get}
use Rattle.std.proofs.lemmas.List.{length-set}
use Rattle.std.proofs.lemmas.Option.{slice_get_within}
use Rattle.std.specs.Str.{bytes_eq}
use Rattle.std.proofs.lemmas.Bool.{cases_eq, eq-eqb, ne_eqb, eqb-true, cond-true, cond-false}
use Rattle.par_policy.specs.Numbers.{has}
use Rattle.std.proofs.lemmas.Slice.Eq.{bytes_eq-Decides}
use Rattle.par_run_laws.specs.par_typed.declared.ty.Ty.{Ty}
use Rattle.par_run_laws.specs.par_typed.declared.ty.Ty.TheVariants as ty
use Rattle.par_run_laws.specs.par_typed.declared.table.Table.{Table}
use Rattle.par_run_laws.specs.par_values.declared.kind.Kind.{Kind}
use Rattle.par_run_laws.specs.par_values.declared.kind.Kind.TheVariants as kind
use Rattle.par_run_laws.specs.Values.{truth}
use Rattle.par_run_laws.specs.par_values.declared.value.MVal.{MVal}
use Rattle.par_run_laws.specs.par_values.declared.value.MVal.TheVariants as value
use Rattle.par_run_laws.specs.par_values.Areas.{Name, Areas, InputLists, Objects, fits, first_value}
use Rattle.par_run_laws.specs.par_values.Areas.{local_value}
use Rattle.par_run_laws.specs.par_values.Areas.{objects_of, list_or_none, value_or_null}
use Rattle.par_run_laws.specs.par_values.Areas.{class_named}
use Rattle.par_run_laws.specs.par_values.Areas.{taken_from}
use Rattle.par_run_laws.specs.par_values.Areas.{left}
use Rattle.par_run_laws.specs.par_values.Areas as areas
use Rattle.par_run_laws.specs.State.{State, put, set_local, set_static, with_object, take_input}
use Rattle.par_run_laws.specs.Names as names
use Rattle.par_match_laws.specs.Labelled.{Naming}
use Rattle.par_match_laws.specs.par_code_form.Code.{Words, is_number}
use Rattle.par_evaluation_laws.specs.Laid.{Layout, moved, HasType, kind_of}
use Rattle.par_program_laws.specs.Locals.{IsSet}

abbrev pub Grows : State → State → Type 0
Grows s u = (c : ℕ) → s.births c ≤ u.births c

pub grows_same : (s : State) → Grows s s
grows_same s c = omega arith

pub grows_on : (s u v : State) → Grows s u → Grows u v → Grows s v
grows_on s u v h k c = let a = h c in let b = k c in omega arith

module _ (lay : Layout) where
  -- with more objects
  pub typed_on : (b d : ℕ → ℕ) (u : Ty) (v : MVal) → ((c : ℕ) → b c ≤ d c) → HasType lay b u v
      → HasType lay d u v
  typed_on b d ty.Int (value.Int n) h k = tt
  typed_on b d ty.Int value.Null h k = absurd k
  typed_on b d ty.Int (value.Ref c n) h k = absurd k
  typed_on b d ty.Boolean (value.Int n) h k = tt
  typed_on b d ty.Boolean value.Null h k = absurd k
  typed_on b d ty.Boolean (value.Ref c n) h k = absurd k
  typed_on b d (ty.Class e) (value.Int n) h k = absurd k
  typed_on b d (ty.Class e) value.Null h k = tt
  typed_on b d (ty.Class e) (value.Ref c n) h k = let g = h c in let l = k.2 in (
    k.0,
    k.1,
    omega
        arith,
  )
  typed_on b d ty.Null (value.Int n) h k = absurd k
  typed_on b d ty.Null value.Null h k = tt
  typed_on b d ty.Null (value.Ref c n) h k = absurd k
  typed_on b d ty.Void v h k = tt

  -- a number is one in both
  pub number_is : (b : ℕ → ℕ) (u : Ty) (v : MVal) → is_number u ≡ true → HasType lay b u v
      → v ≡ value.Int (areas.number_of v)
  number_is b ty.Int (value.Int n) e h = refl
  number_is b ty.Int value.Null e h = absurd h
  number_is b ty.Int (value.Ref c n) e h = absurd h
  number_is b ty.Boolean (value.Int n) e h = refl
  number_is b ty.Boolean value.Null e h = absurd h
  number_is b ty.Boolean (value.Ref c n) e h = absurd h
  number_is b (ty.Class d) v e h = cc
  number_is b ty.Null v e h = cc
  number_is b ty.Void v e h = cc

  -- null, or an object
  pub data IsReference : MVal → Type 0 where
    Nothing : IsReference value.Null
    Object : (c n : ℕ) → IsMade lay c → IsReference (value.Ref c n)

  pub reference_is : (b : ℕ → ℕ) (u : Ty) (v : MVal) → is_number u ≡ false → (u ≡ ty.Void → ⊥)
      → HasType lay b u v
      → IsReference v
  reference_is b ty.Int v e n h = cc
  reference_is b ty.Boolean v e n h = cc
  reference_is b (ty.Class d) (value.Int x) e n h = absurd h
  reference_is b (ty.Class d) value.Null e n h = Nothing
  reference_is b (ty.Class d) (value.Ref c x) e n h = Object c x h.1
  reference_is b ty.Null (value.Int x) e n h = absurd h
  reference_is b ty.Null value.Null e n h = Nothing
  reference_is b ty.Null (value.Ref c x) e n h = absurd h
  reference_is b ty.Void v e n h = absurd (n refl)

  pub any_fits : (ns : List Name) (v : MVal) → IsReference v
      → fits ns kind.AnyObject (moved lay v) ≡ true
  any_fits ns (value.Int n) r = elim r [ ]
  any_fits ns value.Null Nothing = refl
  any_fits ns (value.Ref c n) (Object d x m) = refl

-- what is read at a place that was written, and at another
pub get_set : {X : Type 0} (xs : List X) (i : ℕ) (x : X) → i < length xs
    → slice_get (slice_set xs i x) i ≡ Some x
get_set [] i x lt = absurd (omega arith)
get_set (y ∷ xs) zero x lt = refl
get_set (y ∷ xs) (suc i) x lt = get_set xs i x (omega arith)

pub get_beside : {X : Type 0} (xs : List X) (i j : ℕ) (x : X) → (j ≡ i → ⊥)
    → slice_get (slice_set xs i x) j ≡ slice_get xs j
get_beside [] i j x apart = refl
get_beside (y ∷ xs) zero zero x apart = absurd (apart refl)
get_beside (y ∷ xs) zero (suc j) x apart = refl
get_beside (y ∷ xs) (suc i) zero x apart = refl
get_beside (y ∷ xs) (suc i) (suc j) x apart = get_beside xs i j x (λ e. apart (ap suc e))

module _ (env : Naming) (w : Words) (lay : Layout) (t : Table) (lays : Lays env w lay t) where
  -- one object more of another class changes nothing that is known
  pub born_thrown : (tys : ℕ → Ty) (many : ℕ) (base : ℕ
      → ℕ) (set : List ℕ) (s : State) (a : Areas) (x : ℕ) → IsThrown lay x
      → Fine env w lay t tys many base set s a
      → Fine env w lay t tys many base set s (areas.with_object (lay.number x) [] a)
  born_thrown tys many base set s a x is h =
      let beside : (c : ℕ) → IsMade lay c
      → slice_get (areas.with_object (lay.number x) [] a).objects (lay.number c) ≡ slice_get
      a.objects (lay.number c) =
      λ c m. get_beside a.objects (lay.number x) (lay.number c) _ (lays.apart c x m is) in
      record {
        size = h.size;
        locals_are = h.locals_are;
        statics_are = h.statics_are;
        many_are = λ c m. ap (λ o. length (list_or_none o)) (beside c m) ∙ h.many_are c m;
        there = λ c m. let e = length-set a.objects (lay.number x)
            (objects_of (lay.number x) a ++ [] ∷ []) in let g = h.there c m in omega (arith, e, g);
        fields_are = λ c n f u own m lt. let g = h.fields_are c n f u own m lt in (
          ap (λ o. slice_get (list_or_none (slice_get (list_or_none o) n)) (lay.field_at c f))
              (beside c m) ∙ g.0,
          g.1,
        );
        grown = h.grown;
        locks_are = h.locks_are;
        inputs_are = h.inputs_are;
      }

  cond_in : {X : Type 0} (b : Bool) (x x' y : X) → (b ≡ true → x ≡ x') → cond b x y ≡ cond b x' y
  cond_in true x x' y h = h refl
  cond_in false x x' y h = refl

  -- a number is taken on both sides
  pub taken_fit : (tys : ℕ → Ty) (many : ℕ) (base : ℕ
      → ℕ) (set : List ℕ) (s : State) (a : Areas) (c k : ℕ) → IsInput lay c k
      → Fine env w lay t tys many base set s a
      → Fine env w lay t tys many base set (take_input c k s) (areas.take_input (w.class c)
      (w.channel c k) a)
  taken_fit tys many base set s a c k is h = record {
    size = h.size;
    locals_are = h.locals_are;
    statics_are = h.statics_are;
    many_are = h.many_are;
    there = h.there;
    fields_are = h.fields_are;
    grown = h.grown;
    locks_are = h.locks_are;
    inputs_are = λ d j is'. pick d j is' (d == c) refl;
  }
    where
      pick : (d j : ℕ) → IsInput lay d j → (x : Bool) → (d == c) ≡ x
          → taken_from (w.class c) (w.channel c k) a.inputs (w.class d)
          (w.channel d j) ≡ (take_input c k s).inputs d j
      pick d j is' true e =
          let l = a.inputs (w.class d) (w.channel d j) in
          subst (λ z. cond (bytes_eq (w.class d) (w.class c) && bytes_eq (w.channel d j)
          (w.channel c k)) (left l) l
          ≡ (cond z (put (s.inputs c) k (left (s.inputs c k))) (s.inputs d)) j) (sym e)
          (ap (λ z. cond z (left l) l) (lays.in_one c k d j is is' ∙ ap (λ z. z && (j == k)) e)
          ∙ ap (λ l. cond (j == k) (left l) l) (h.inputs_are d j is')
          ∙ ap (λ d. cond (j == k) (left (s.inputs d j)) (s.inputs d j)) (eqb-true d c e)
          ∙ cond_in (j == k) (left (s.inputs c j)) (left (s.inputs c k)) (s.inputs c j)
          (λ q. ap (λ j. left (s.inputs c j)) (eqb-true j k q)))
      pick d j is' false e =
          let l = a.inputs (w.class d) (w.channel d j) in
          subst (λ z. cond (bytes_eq (w.class d) (w.class c) && bytes_eq (w.channel d j)
          (w.channel c k)) (left l) l
          ≡ (cond z (put (s.inputs c) k (left (s.inputs c k))) (s.inputs d)) j) (sym e)
          (ap (λ z. cond z (left l) l) (lays.in_one c k d j is is' ∙ ap (λ z. z && (j == k)) e)
          ∙ h.inputs_are d j is')

  pub class_fits : (b : ℕ → ℕ) (d : ℕ) (v : MVal) → HasType lay b (ty.Class d) v
      → fits env.names (kind.Object (w.class d)) (moved lay v) ≡ true
  class_fits b d (value.Int n) h = absurd h
  class_fits b d value.Null h = refl
  class_fits b d (value.Ref c n) h =
      ap (λ x. bytes_eq x (w.class d)) (lays.number_named c h.1)
      ∙ ap (λ c. bytes_eq (w.class c) (w.class d)) h.0
      ∙ (bytes_eq-Decides (w.class d) (w.class d)).1 refl

  pub kind_fits : (b : ℕ → ℕ) (u : Ty) (v : MVal) → (u ≡ ty.Void → ⊥) → HasType lay b u v
      → fits env.names (kind_of w u) (moved lay v) ≡ true
  kind_fits b ty.Int (value.Int n) n' h = refl
  kind_fits b ty.Int value.Null n' h = absurd h
  kind_fits b ty.Int (value.Ref c n) n' h = absurd h
  kind_fits b ty.Boolean (value.Int n) n' h = refl
  kind_fits b ty.Boolean value.Null n' h = absurd h
  kind_fits b ty.Boolean (value.Ref c n) n' h = absurd h
  kind_fits b (ty.Class d) v n' h = class_fits b d v h
  kind_fits b ty.Null (value.Int n) n' h = absurd h
  kind_fits b ty.Null value.Null n' h = refl
  kind_fits b ty.Null (value.Ref c n) n' h = absurd h
  kind_fits b ty.Void v n' h = absurd (n' refl)

get_old : {X : Type 0} (xs : List X) (y : X) (n : ℕ) → n < length xs
    → slice_get (xs ++ y ∷ []) n ≡ slice_get xs n
get_old [] y n lt = absurd (omega arith)
get_old (x ∷ xs) y zero lt = refl
get_old (x ∷ xs) y (suc n) lt = get_old xs y n (omega arith)

get_new : {X : Type 0} (xs : List X) (y : X) (n : ℕ) → n ≡ length xs
    → slice_get (xs ++ y ∷ []) n ≡ Some y
get_new [] y zero e = refl
get_new [] y (suc n) e = absurd (omega arith)
get_new (x ∷ xs) y zero e = absurd (omega arith)
get_new (x ∷ xs) y (suc n) e = get_new xs y n (omega arith)

length_one : {X : Type 0} (xs : List X) (y : X) → length (xs ++ y ∷ []) ≡ length xs + 1
length_one [] y = refl
length_one (x ∷ xs) y = let e = length_one xs y in omega (arith, e)

pub put_here : {A : Type 0} (f : ℕ → A) (x : ℕ) (v : A) (y : ℕ) → y ≡ x → put f x v y ≡ v
put_here f x v y e = cond-true (y == x) v (f y) (eq-eqb y x e)

pub put_beside : {A : Type 0} (f : ℕ → A) (x y : ℕ) (v : A) → (y ≡ x → ⊥) → put f x v y ≡ f y
put_beside f x y v apart = cond-false (y == x) v (f y) (ne_eqb y x apart)

module _ (env : Naming) (w : Words) (lay : Layout) (t : Table) (lays : Lays env w lay t) where
  pub born_grows : (c : ℕ) (s : State) (values : ℕ → MVal) → Grows s (with_object c values s)
  born_grows c s values d = pick (cases_eq d c)
    where
      pick : (d ≡ c) ⊎ (d ≡ c → ⊥) → s.births d ≤ put s.births c (s.births c + 1) d
      pick (inl e) = let g = put_here s.births c (s.births c + 1) d e in let h = ap s.births e in
          omega (arith, g, h)
      pick (inr n) = let g = put_beside s.births c d (s.births c + 1) n in omega (arith, g)

  -- an object is born on both sides
  module _ (tys : ℕ → Ty) (many : ℕ) (base : ℕ → ℕ) (set : List ℕ) (s : State) (a : Areas)
      (c : ℕ) (made : IsMade lay c) (fields : List Kind)
      (firsts : (f : ℕ) (ty : Ty) → HasOwn lay c f ty → slice_get (map first_value fields)
      (lay.field_at c f) ≡ Some (moved lay (names.first_field t c f)))
      (h : Fine env w lay t tys many base set s a) where
    abbrev s' : State
    s' = with_object c (names.first_field t c) s

    abbrev row : List (List MVal)
    row = objects_of (lay.number c) a ++ map first_value fields ∷ []

    abbrev objects' : Objects
    objects' = slice_set a.objects (lay.number c) row

    own_row : list_or_none (slice_get objects' (lay.number c)) ≡ row
    own_row = ap list_or_none (get_set a.objects (lay.number c) row (h.there c made))

    other_row : (d : ℕ) → IsMade lay d → (d ≡ c → ⊥)
        → slice_get objects' (lay.number d) ≡ slice_get a.objects (lay.number d)
    other_row d m apart = get_beside a.objects (lay.number c)
        (lay.number d) row (λ e. apart (lays.number_one d c m made e))

    born_many : (d : ℕ) → IsMade lay d → (d ≡ c) ⊎ (d ≡ c → ⊥)
        → length (list_or_none (slice_get objects' (lay.number d))) ≡ put s.births c (s.births c +
        1) d
    born_many d m (inl e) =
        ap (λ d. length (list_or_none (slice_get objects' (lay.number d)))) e ∙ ap length own_row
        ∙ length_one (objects_of (lay.number c) a) (map first_value fields)
        ∙ ap (λ n. n + 1) (h.many_are c made)
        ∙ sym (put_here s.births c (s.births c + 1) d e)
    born_many d m (inr n) =
        ap (λ o. length (list_or_none o)) (other_row d m n) ∙ h.many_are d m
        ∙ sym (put_beside s.births c d (s.births c + 1) n)

    abbrev FieldIs : ℕ → ℕ → ℕ → Ty → Type 0
    FieldIs d n f u =
        (slice_get (list_or_none (slice_get (list_or_none (slice_get objects' (lay.number d))) n))
        (lay.field_at d f)
        ≡ Some (moved lay (s'.fields d n f))) × HasType lay s'.births u (s'.fields d n f)

    born_own : (n f : ℕ) (u : Ty) → HasOwn lay c f u → n < s.births c + 1
        → (n ≡ s.births c) ⊎ (n ≡ s.births c → ⊥)
        → (slice_get (list_or_none (slice_get row n))
        (lay.field_at c f) ≡ Some (moved lay (put (s.fields c) (s.births c)
        (names.first_field t c) n f)))
        × HasType lay s'.births u (put (s.fields c) (s.births c) (names.first_field t c) n f)
    born_own n f u own lt (inl e) =
        let p : put (s.fields c) (s.births c)
        (names.first_field t c) n ≡ names.first_field t c = put_here (s.fields c)
        (s.births c) (names.first_field t c) n e in (
          ap (λ o. slice_get (list_or_none o) (lay.field_at c f))
              (get_new (objects_of (lay.number c) a) (map first_value fields) n (e
              ∙ sym (h.many_are c made)))
              ∙ firsts f u own ∙ ap (λ (g : ℕ → MVal). Some (moved lay (g f))) (sym p),
          subst (λ (g : ℕ → MVal). HasType lay s'.births u (g f)) (sym p)
              (lays.first_typed c f u s'.births own),
        )
    born_own n f u own lt (inr ne) =
        let p : put (s.fields c) (s.births c)
        (names.first_field t c) n ≡ s.fields c n = put_beside (s.fields c)
        (s.births c) n (names.first_field t c) ne in
        let below : n < s.births c = grind (arith, lt, ne) in
        let m = h.many_are c made in
        let g = h.fields_are c n f u own made below in (
          ap (λ o. slice_get (list_or_none o) (lay.field_at c f))
              (get_old (objects_of (lay.number c) a)
              (map first_value fields) n (omega (arith, m, below)))
              ∙ g.0 ∙ ap (λ (g : ℕ → MVal). Some (moved lay (g f))) (sym p),
          subst (λ (g : ℕ → MVal). HasType lay s'.births u (g f)) (sym p)
              (typed_on lay s.births s'.births u (s.fields c n f)
              (born_grows c s (names.first_field t c)) g.1),
        )

    born_field : (d n f : ℕ) (u : Ty) → HasOwn lay d f u → IsMade lay d
        → n < put s.births c (s.births c + 1) d → (d ≡ c) ⊎ (d ≡ c → ⊥) → FieldIs d n f u
    born_field d n f u own m lt (inl e) =
        let b = put_here s.births c (s.births c + 1) d e in
        let p : put s.fields c (put (s.fields c) (s.births c)
        (names.first_field t c)) d ≡ put (s.fields c) (s.births c) (names.first_field t c) =
        put_here s.fields c (put (s.fields c) (s.births c) (names.first_field t c)) d e in
        let g = born_own n f u (subst (λ d. HasOwn lay d f u) e own) (omega (arith, b, lt))
        (cases_eq n (s.births c)) in (
          ap (λ d. slice_get (list_or_none (slice_get (list_or_none (slice_get objects' (lay.number
              d))) n)) (lay.field_at d f)) e
              ∙ ap (λ r. slice_get (list_or_none (slice_get r n)) (lay.field_at c f)) own_row ∙ g.0
              ∙ ap (λ (g : ℕ → ℕ → MVal). Some (moved lay (g n f))) (sym p),
          subst (λ (g : ℕ → ℕ → MVal). HasType lay s'.births u (g n f)) (sym p) g.1,
        )
    born_field d n f u own m lt (inr ne) =
        let b = put_beside s.births c d (s.births c + 1) ne in
        let p : put s.fields c (put (s.fields c) (s.births c)
        (names.first_field t c)) d ≡ s.fields d =
        put_beside s.fields c d (put (s.fields c) (s.births c) (names.first_field t c)) ne in
        let g = h.fields_are d n f u own m (omega (arith, b, lt)) in (
          ap (λ o. slice_get (list_or_none (slice_get (list_or_none o) n)) (lay.field_at d f))
              (other_row d m ne) ∙ g.0
              ∙ ap (λ (g : ℕ → ℕ → MVal). Some (moved lay (g n f))) (sym p),
          subst (λ (g : ℕ → ℕ → MVal). HasType lay s'.births u (g n f)) (sym p)
              (typed_on lay s.births s'.births u (s.fields d n f)
              (born_grows c s (names.first_field t c)) g.1),
        )

    pub born_fit : Fine env w lay t tys many base set (with_object c (names.first_field t c) s)
        (areas.with_object (lay.number c) (map first_value fields) a)
    born_fit =
        let grows = born_grows c s (names.first_field t c) in
        record {
          size = h.size;
          locals_are = λ x is. let g = h.locals_are x is in (
            g.0,
            typed_on lay s.births s'.births
                (tys x) (s.locals x) grows g.1,
          );
          statics_are = λ d f u is. let g = h.statics_are d f u is in (
            g.0,
            typed_on lay s.births
                s'.births u (s.statics d f) grows g.1,
          );
          many_are = λ d m. born_many d m (cases_eq d c);
          there = λ d m. let e = length-set a.objects (lay.number c) row in let g = h.there d m in
              omega (arith, e, g);
          fields_are = λ d n f u own m lt. born_field d n f u own m lt (cases_eq d c);
          grown = λ d. let g = h.grown d in let r = grows d in omega (arith, g, r);
          locks_are = h.locks_are;
          inputs_are = h.inputs_are;
        }

module _ (env : Naming) (w : Words) (lay : Layout) (t : Table) (lays : Lays env w lay t) (tys : ℕ
    → Ty) (many : ℕ) (base : ℕ → ℕ) where
  -- fewer locals that are set
  pub fit_less : (set set' : List ℕ) (s : State) (a : Areas) → ((x : ℕ) → IsSet set' x
      → IsSet set x)
      → Fine env w lay t tys many base set s a → Fine env w lay t tys many base set' s a
  fit_less set set' s a sub h = record {
    size = h.size;
    locals_are = λ x is. h.locals_are x (sub x is);
    statics_are = h.statics_are;
    many_are = h.many_are;
    there = h.there;
    fields_are = h.fields_are;
    grown = h.grown;
    locks_are = h.locks_are;
    inputs_are = h.inputs_are;
  }

  set_or : (b r : Bool) → IsTrue (b || r) → (b ≡ true) ⊎ IsTrue r
  set_or true r h = inl refl
  set_or false r h = inr h

  -- a local is set on both sides
  pub set_fit : (set : List ℕ) (s : State) (a : Areas) (x : ℕ) (v : MVal) → x < many
      → HasType lay s.births (tys x) v
      → Fine env w lay t tys many base set s a
      → Fine env w lay t tys many base (x ∷ set) (set_local x v s)
      (areas.set_local x (moved lay v) a)
  set_fit set s a x v lt ht h = record {
    size = length-set a.locals x (Some (moved lay v)) ∙ h.size;
    locals_are = λ y is. pick y is (cases_eq y x);
    statics_are = h.statics_are;
    many_are = h.many_are;
    there = h.there;
    fields_are = h.fields_are;
    grown = h.grown;
    locks_are = h.locks_are;
    inputs_are = h.inputs_are;
  }
    where
      old : (y : ℕ) → (y ≡ x → ⊥) → (x == y ≡ true) ⊎ IsSet set y → IsSet set y
      old y ne (inl e) = absurd (ne (sym (eqb-true x y e)))
      old y ne (inr is) = is

      pick : (y : ℕ) → IsSet (x ∷ set) y → (y ≡ x) ⊎ (y ≡ x → ⊥)
          → (local_value (slice_get (slice_set a.locals x (Some (moved lay v))) y) ≡ Some (moved
          lay (put s.locals x v y)))
          × HasType lay s.births (tys y) (put s.locals x v y)
      pick y is (inl e) =
          let p = put_here s.locals x v y e in
          let z = h.size in (
            ap (λ y. local_value (slice_get (slice_set a.locals x (Some (moved lay v))) y)) e
                ∙ ap local_value (get_set a.locals x (Some (moved lay v)) (omega (arith, lt, z)))
                ∙ ap (λ v. Some (moved lay v)) (sym p),
            subst (λ v. HasType lay s.births (tys y) v) (sym p)
                (subst (λ y. HasType lay s.births (tys y) v) (sym e) ht),
          )
      pick y is (inr ne) =
          let p = put_beside s.locals x y v ne in
          let g = h.locals_are y (old y ne (set_or (x == y) (has set y) is)) in (
            ap local_value (get_beside a.locals x y (Some (moved lay v)) ne) ∙ g.0
                ∙ ap (λ v. Some (moved lay v)) (sym p),
            subst (λ v. HasType lay s.births (tys y) v) (sym p) g.1,
          )

  -- a static field is set on both sides
  pub static_fit : (set : List ℕ) (s : State) (a : Areas) (c f : ℕ) (u : Ty) (v : MVal)
      → HasStatic lay c f u → HasType lay s.births u v
      → Fine env w lay t tys many base set s a
      → Fine env w lay t tys many base set (set_static c f v s)
      (areas.set_static (lay.static_at c f) (moved lay v) a)
  static_fit set s a c f u v is ht h = record {
    size = h.size;
    locals_are = h.locals_are;
    statics_are = λ d g z is'. pick d g z is' (cases_eq d c) (cases_eq g f);
    many_are = h.many_are;
    there = h.there;
    fields_are = h.fields_are;
    grown = h.grown;
    locks_are = λ l is'. get_beside a.statics (lay.static_at c f) (lay.lock_at l) (moved lay v)
        (λ e. lays.lock_beside c f l u is is' (sym e)) ∙ h.locks_are l is';
    inputs_are = h.inputs_are;
  }
    where
      within : lay.static_at c f < length a.statics
      within = slice_get_within a.statics (lay.static_at c f) _ (h.statics_are c f u is).0

      apart : (d g : ℕ) (z : Ty) → HasStatic lay d g z → (lay.static_at d g ≡ lay.static_at c f
          → ⊥) → put s.statics c (put (s.statics c) f v) d g ≡ s.statics d g
          → (slice_get (slice_set a.statics (lay.static_at c f) (moved lay v))
          (lay.static_at d g) ≡ Some (moved lay (put s.statics c (put (s.statics c) f v) d g)))
          × HasType lay s.births z (put s.statics c (put (s.statics c) f v) d g)
      apart d g z is' ne e =
          let q = h.statics_are d g z is' in (
            get_beside a.statics (lay.static_at c f) (lay.static_at d g) (moved lay v) ne ∙ q.0
                ∙ ap (λ v. Some (moved lay v)) (sym e),
            subst (λ v. HasType lay s.births z v) (sym e) q.1,
          )

      pick : (d g : ℕ) (z : Ty) → HasStatic lay d g z → (d ≡ c) ⊎ (d ≡ c → ⊥) → (g ≡ f) ⊎ (g ≡ f
          → ⊥)
          → (slice_get (slice_set a.statics (lay.static_at c f) (moved lay v))
          (lay.static_at d g) ≡ Some (moved lay (put s.statics c (put (s.statics c) f v) d g)))
          × HasType lay s.births z (put s.statics c (put (s.statics c) f v) d g)
      pick d g z is' (inl e) (inl e') =
          let p : put s.statics c (put (s.statics c) f v) d g ≡ v = ap (λ (q : ℕ
          → MVal). q g) (put_here s.statics c (put (s.statics c) f v) d e)
          ∙ put_here (s.statics c) f v g e' in
          let same : z ≡ u = lays.static_typed c f z u (subst (λ d. HasStatic lay d f z) e (subst
          (λ g. HasStatic lay d g z) e' is')) is in (
            ap (λ d. slice_get (slice_set a.statics (lay.static_at c f) (moved lay v))
                (lay.static_at d g)) e
                ∙ ap (λ g. slice_get (slice_set a.statics (lay.static_at c f) (moved lay v))
                (lay.static_at c g)) e'
                ∙ get_set a.statics (lay.static_at c f) (moved lay v) within
                ∙ ap (λ v. Some (moved lay v)) (sym p),
            subst (λ v. HasType lay s.births z v) (sym p) (subst (λ u. HasType lay s.births u v)
                (sym same) ht),
          )
      pick d g z is' (inl e) (inr ne) =
          apart d g z is' (λ q. ne (lays.static_one d g c f z u is' is q).1)
          (ap (λ (q : ℕ → MVal). q g) (put_here s.statics c (put (s.statics c) f v) d e)
          ∙ put_beside (s.statics c) f g v ne ∙ ap (λ d. s.statics d g) (sym e))
      pick d g z is' (inr ne) o =
          apart d g z is' (λ q. ne (lays.static_one d g c f z u is' is q).0)
          (ap (λ (q : ℕ → MVal). q g) (put_beside s.statics c d (put (s.statics c) f v) ne))

module _ (env : Naming) (w : Words) (lay : Layout) (t : Table) (lays : Lays env w lay t) where
  -- an event shows the same on both sides
  pub value_shown : (b : ℕ → ℕ) (u : Ty) (v : MVal) → HasType lay b u v → (u ≡ ty.Void → ⊥)
      → areas.shown_value env.names (moved lay v) ≡ Rattle.par_run_laws.specs.Values.shown_value t v
  value_shown b u (value.Int n) h nv = refl
  value_shown b u value.Null h nv = refl
  value_shown b ty.Int (value.Ref c n) h nv = absurd h
  value_shown b ty.Boolean (value.Ref c n) h nv = absurd h
  value_shown b (ty.Class d) (value.Ref c n) h nv =
      ap (λ x. Rattle.par_run_laws.specs.par_values.declared.run.Val.TheVariants.Ref x n)
      (lays.number_named c h.1)
      ∙ ap (λ o. Rattle.par_run_laws.specs.Values.shown_object o n) (sym (lays.class_named c h.1))
  value_shown b ty.Null (value.Ref c n) h nv = absurd h
  value_shown b ty.Void (value.Ref c n) h nv = absurd (nv refl)
