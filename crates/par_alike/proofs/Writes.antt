-- Births, writes to fields, and outputs.
use Rattle.std.proofs.Common.{sym}
use Rattle.std.proofs.Common.{◌≡◌, ℕ, Bool, true, false, ◌⊎◌, inl, inr, ⊎_elim, Option, Some}
use Rattle.std.proofs.Common.{None, refl, ap, subst, if◌then◌else◌, ◌+◌}
use Rattle.std.specs.Prelude.{IsTrue, nat_lt, slice_get}
use Rattle.std.proofs.lemmas.Bool.{cases_Bool}
use Rattle.par_values.specs.declared.run.Event.{Event}
use Rattle.par_values.specs.declared.run.Event.TheVariants.{Out, Set as SetEvent, Put, Born}
use Rattle.par_values.specs.declared.value.MVal.{MVal}
use Rattle.par_values.specs.declared.value.MVal.TheVariants as value
use Rattle.par_values.specs.Areas.{number_of}
use Rattle.par_run_laws.specs.Names.{Name, made_named, field_named, channel_named}
use Rattle.par_run_laws.specs.State.{State, put, set_static, set_field, with_object}
use Rattle.par_run_laws.specs.Names.{first_field, first_in, first_held, first_value}
use Rattle.par_typed.specs.declared.ty.Ty.{Ty}
use Rattle.par_typed.specs.declared.ty.Ty.TheVariants as ty
use Rattle.par_typed.specs.declared.table.FieldInfo.{FieldInfo}
use Rattle.par_typed.specs.declared.table.ClassInfo.{ClassInfo}
use Rattle.par_run_laws.specs.Values.{shown_value, object_number}
use Rattle.par_run_laws.specs.Meaning.{outputs, born, writes_static, writes_field}
use Rattle.par_run_laws.specs.Tasks.{Normal, nothing}
use Rattle.par_typed.specs.Members.{field_at}
use Rattle.par_program_laws.specs.BodyNames.{IsField}
use Rattle.par_alike.proofs.Leaves.{Level, Sound, keeps_level, like_level, step_named}
use Rattle.par_alike.proofs.Leaves.{tail_named}
use Rattle.par_alike.proofs.States.{HasPolicy}
use Rattle.par_alike.proofs.States.{Watch, Any, BodyFlowsTo, Exits, Explained, Frame, IsMade}
use Rattle.par_alike.proofs.States.{Like, Made, Same, Sees, Values, Way, Writes, blind}
use Rattle.par_alike.proofs.States.{declared, lattice, same_back, same_here, same_on}
use Rattle.par_alike.proofs.Puts.{object_keep, object_like, put2_keep, put2_like, put3_keep}
use Rattle.par_alike.proofs.Puts.{put3_like, put_all, put_keep, put_like}
use Rattle.par_alike.proofs.OneRun.{Tail, tail_change, tail_emit, tail_normal}
use Rattle.par_alike.proofs.TwoRuns.{Step, step_change, step_emit, step_normal}

module _ (on : Watch) where
  module _ (sound : Sound on) where
    -- births
    born_level : (c : ℕ) (s : State) → Level on s (with_object c (first_field on.table c) s)
    born_level c s = record { locals = refl; result = refl; locks = refl }

    pub first_made : (c f : ℕ) → IsMade on (first_field on.table c f)
    first_made c f = in_class (slice_get on.table.classes c)
      where
        of_type : (t : Ty) → IsMade on (first_value t)
        of_type ty.Int = tt
        of_type ty.Boolean = tt
        of_type (ty.Class c) = tt
        of_type ty.Null = tt
        of_type ty.Void = tt

        held : (h : Option FieldInfo) → IsMade on (first_held h)
        held None = tt
        held (Some h) = of_type h.ty

        in_class : (h : Option ClassInfo) → IsMade on (first_in h f)
        in_class None = tt
        in_class (Some h) = held (slice_get h.fields f)

    born_made : (c : ℕ) (s : State) → Made on s → Made on (with_object c (first_field on.table c) s)
    born_made c s m = record {
      locals = m.locals;
      result = m.result;
      statics = m.statics;
      fields =
          λ i n f. put_all (λ h. (n f : ℕ) → IsMade on (h n f)) s.fields c _ i
          (λ n f. put_all (λ h. (f : ℕ) → IsMade on (h f)) (s.fields c) (s.births c)
          (first_field on.table c) n (first_made c) (λ n f. m.fields c n f) f) m.fields n f;
    }

    -- a birth that is not seen
    pub tail_born : {g : Frame} {z : Way on} {x : Exits on} (c : ℕ) (name : Name)
        → made_named on.table c ≡ Some name → Writes on g z ((declared on).birth c)
        → BodyFlowsTo on z (x Normal) → Tail on g z x (born on.table c name)
    tail_born {g} {z} {x} c name is wr q = record {
      at =
          λ w s t f n ys b op r h.
          (tail_emit on (Born name (t.births c)) ((declared on).birth c)
          (sound.born c name is (t.births c)) wr
          (tail_change on z (with_object c (first_field on.table c))
          (λ b t op. keeps_level on g z t (with_object c (first_field on.table c) t)
          (born_level c t) (born_made c t)
          (record {
            statics = λ c f p. refl;
            fields =
                λ i j e p m. object_keep t.fields c (t.births c) (first_field on.table c) i m j
                (λ p1. blind on g z ((declared on).birth c) wr b
                (subst (λ i. Sees on ((declared on).birth i)) p1 (sound.births i j e p)));
            births =
                λ i p. put_keep t.births c (t.births c + 1) i
                (λ p1. absurd
                (blind on g z ((declared on).birth c) wr b
                (subst (λ i. Sees on ((declared on).birth i)) p1 p)));
            inputs = λ i j e p. refl;
            locks = λ l p e v. refl;
          })) (tail_normal on (value.Ref c (t.births c)) (name, is) q))).at w s t f n ys b op r h;
    }

    -- a birth in both runs
    pub step_born : {g : Frame} {w : Way on} {x : Exits on} {R : MVal → MVal → Type 0} (c : ℕ)
        (name : Name) → made_named on.table c ≡ Some name → BodyFlowsTo on w (x Normal)
        → ((u v : MVal) → (Sees on ((declared on).birth c) → u ≡ v) → R u v)
        → Step on g w x R (born on.table c name) (born on.table c name)
    step_born {g} {w} {x} {R} c name is q e = record {
      at =
          λ s t f f' m n l h.
          let number = λ (p : Sees on ((declared on).birth c)). l.outer.births c p in
          (step_emit on (Born name (s.births c)) (Born name (t.births c)) ((declared on).birth c)
          (sound.born c name is (s.births c)) (sound.born c name is (t.births c))
          (λ s t l p. inl (ap (Born name) (number p)))
          (λ p. step_change on w (with_object c (first_field on.table c))
          (with_object c (first_field on.table c))
          (λ s t l. like_level on g w s t (with_object c (first_field on.table c) s)
          (with_object c (first_field on.table c) t) (born_level c s) (born_made c s)
          (born_level c t) (born_made c t)
          (record {
            statics = l.outer.statics;
            fields =
                λ i j e p m. object_like s.fields t.fields c (s.births c) (t.births c)
                (first_field on.table c) i m j
                (λ p1. l.outer.births c
                (subst (λ i. Sees on ((declared on).birth i)) p1 (sound.births i j e p)))
                (l.outer.fields i j e p m);
            births =
                λ i p. put_like s.births t.births c (s.births c + 1) (t.births c + 1) i
                (λ p1. ap (λ n. n + 1)
                (l.outer.births c (subst (λ i. Sees on ((declared on).birth i)) p1 p)))
                (l.outer.births i p);
            inputs = l.outer.inputs;
            locks = l.outer.locks;
          }) l) (step_normal on (value.Ref c (s.births c)) (value.Ref c (t.births c)) (name, is)
          (name, is) q (e _ _ (λ p. ap (value.Ref c) (number p)))))).at s t f f' m n l h;
    }

    -- two values that go to a target: equal, or explained
    pub sent : (g : Frame) (w : Way on) (to : ℕ) (V : Bool) (e e' : Event) → HasPolicy on e to
        → on.Release to V w.locks → (IsTrue V → e ≡ e') → (s t : State) → Like on g w w s t
        → Sees on to → (e ≡ e') ⊎ Explained on (record { event = e; locks = s.locks })
        (record { event = e'; locks = t.locks })
    sent g w to V e e' i r h s t l b =
        ⊎_elim (λ p. inl (h p))
        (λ p. inr
        (record {
          to = to;
          value = V;
          locks = w.locks;
          node = r;
          target = b;
          seen = subst IsTrue (sym i.seen) b;
          hidden = λ q. cc;
          left = l.left.known;
          right = l.right.known;
        })) (cases_Bool V)

    -- static fields
    set_level : (c f : ℕ) (v : MVal) (s : State) → Level on s (set_static c f v s)
    set_level c f v s = record { locals = refl; result = refl; locks = refl }

    -- a write to a field that is not seen
    hidden_static : (c f : ℕ) (v : MVal) (s : State) → (Sees on ((declared on).field c f) → ⊥)
        → Same on s (set_static c f v s)
    hidden_static c f v s u = record {
      statics =
          λ i j p. put2_keep s.statics c f v i j
          (λ p1 p2. u
          (subst (λ j. Sees on ((declared on).field c j)) p2
          (subst (λ i. Sees on ((declared on).field i j)) p1 p)));
      fields = λ c f i p n. refl;
      births = λ c p. refl;
      inputs = λ c k i p. refl;
      locks = λ l p e v. refl;
    }

    -- a write in both runs
    like_static : (c f : ℕ) (u v : MVal) (s t : State)
        → (Sees on ((declared on).field c f) → u ≡ v) → Same on s t
        → Same on (set_static c f u s) (set_static c f v t)
    like_static c f u v s t e a = record {
      statics =
          λ i j p. put2_like s.statics t.statics c f u v i j
          (λ p1 p2. e
          (subst (λ j. Sees on ((declared on).field c j)) p2
          (subst (λ i. Sees on ((declared on).field i j)) p1 p))) (a.statics i j p);
      fields = a.fields;
      births = a.births;
      inputs = a.inputs;
      locks = a.locks;
    }

    static_made : (c f : ℕ) (v : MVal) (s : State) → IsMade on v → Made on s
        → Made on (set_static c f v s)
    static_made c f v s i m = record {
      locals = m.locals;
      result = m.result;
      statics =
          λ j k. put_all (λ h. (k : ℕ) → IsMade on (h k)) s.statics c _ j
          (λ k. put_all (IsMade on) (s.statics c) f v k i (m.statics c)) m.statics k;
      fields = m.fields;
    }

    -- a write to a static field in one run
    pub tail_static : {g : Frame} {z : Way on} {x : Exits on} (c f : ℕ) (v : MVal) → IsMade on v
        → Writes on g z ((declared on).field c f) → BodyFlowsTo on z (x Normal)
        → Tail on g z x (writes_static on.table c f v)
    tail_static {g} {z} {x} c f v i wr q =
        tail_named on (field_named on.table c f) _ q
        (λ m is. tail_emit on (SetEvent m.class m.name (shown_value on.table v))
        ((declared on).field c f) (sound.set c f m is (shown_value on.table v)) wr
        (tail_change on z (set_static c f v)
        (λ b s op. keeps_level on g z s (set_static c f v s) (set_level c f v s)
        (static_made c f v s i)
        (hidden_static c f v s (λ p. blind on g z ((declared on).field c f) wr b p)))
        (tail_normal on nothing tt q)))

    -- and in two
    pub step_static : {g : Frame} {w : Way on} {x : Exits on} (c f : ℕ) (V : Bool) (u v : MVal)
        → IsMade on u → IsMade on v → on.Release ((declared on).field c f) V w.locks
        → Values V u v → BodyFlowsTo on w (x Normal)
        → Step on g w x Any (writes_static on.table c f u) (writes_static on.table c f v)
    step_static {g} {w} {x} c f V u v iu iv r e q =
        step_named on (field_named on.table c f) _ _ q tt
        (λ m is. step_emit on (SetEvent m.class m.name (shown_value on.table u))
        (SetEvent m.class m.name (shown_value on.table v)) ((declared on).field c f)
        (sound.set c f m is (shown_value on.table u))
        (sound.set c f m is (shown_value on.table v))
        (sent g w ((declared on).field c f) V _ _ (sound.set c f m is (shown_value on.table u)) r
        (λ p. ap (λ z. SetEvent m.class m.name (shown_value on.table z)) (e p)))
        (λ h. step_change on w (set_static c f u) (set_static c f v)
        (λ s t l. like_level on g w s t (set_static c f u s) (set_static c f v t)
        (set_level c f u s) (static_made c f u s iu) (set_level c f v t) (static_made c f v t iv)
        (like_static c f u v s t (λ p. let e = h p in sound.shows u v iu iv cc) l.outer) l)
        (step_normal on nothing nothing tt tt q tt)))

    -- fields of objects
    abbrev field_written : (c n f : ℕ) (v : MVal) (s : State) → State
    field_written c n f v s = record s {
      fields = put s.fields c (put (s.fields c) n (put (s.fields c n) f v));
    }

    field_level : (c n f : ℕ) (v : MVal) (s : State) → Level on s (set_field c n f v s)
    field_level c n f v s = go (nat_lt n (s.births c))
      where
        go : (b : Bool) → Level on s (if b then field_written c n f v s else s)
        go true = record { locals = refl; result = refl; locks = refl }
        go false = record { locals = refl; result = refl; locks = refl }

    field_made : (c n f : ℕ) (v : MVal) (s : State) → IsMade on v → Made on s
        → Made on (set_field c n f v s)
    field_made c n f v s i m = go (nat_lt n (s.births c))
      where
        go : (b : Bool) → Made on (if b then field_written c n f v s else s)
        go true = record {
          locals = m.locals;
          result = m.result;
          statics = m.statics;
          fields =
              λ j k l. put_all (λ h. (k l : ℕ) → IsMade on (h k l)) s.fields c _ j
              (λ k l. put_all (λ h. (l : ℕ) → IsMade on (h l)) (s.fields c) n _ k
              (λ l. put_all (IsMade on) (s.fields c n) f v l i (m.fields c n)) (m.fields c) l)
              m.fields k l;
        }
        go false = m

    -- a write to a field of objects that is not seen
    hidden_field : (c n f : ℕ) (v : MVal) (s : State) → (Sees on ((declared on).field c f) → ⊥)
        → Same on s (set_field c n f v s)
    hidden_field c n f v s u = go (nat_lt n (s.births c))
      where
        go : (b : Bool) → Same on s (if b then field_written c n f v s else s)
        go true = record {
          statics = λ c f p. refl;
          fields =
              λ i j e p m. put3_keep s.fields c n f v i m j
              (λ p1 p2. u
              (subst (λ j. Sees on ((declared on).field c j)) p2
              (subst (λ i. Sees on ((declared on).field i j)) p1 p)));
          births = λ c p. refl;
          inputs = λ c k i p. refl;
          locks = λ l p e v. refl;
        }
        go false = same_here on

    -- a write in both runs, to one object where the field is seen
    like_field : (c n n' f : ℕ) (u v : MVal) (s t : State) → IsField false (field_at on.table c f)
        → (Sees on ((declared on).field c f) → n ≡ n')
        → (Sees on ((declared on).field c f) → u ≡ v) → Same on s t
        → Same on (set_field c n f u s) (set_field c n' f v t)
    like_field c n n' f u v s t is en e a =
        ⊎_elim (λ p. subst (λ n'. Same on (set_field c n f u s) (set_field c n' f v t)) (en p)
        (go (nat_lt n (s.births c)) (nat_lt n (t.births c))
        (ap (λ b. nat_lt n b) (a.births c (sound.births c f is p))) (e p)))
        (λ p.
        let un : Sees on ((declared on).field c f) → ⊥ = λ q. cc in
        same_on on (same_back on (hidden_field c n f u s un))
        (same_on on a (hidden_field c n' f v t un)))
        (cases_Bool ((lattice on).given ((declared on).field c f)))
      where
        both : u ≡ v → (b : Bool) → Same on (if b then field_written c n f u s else s)
            (if b then field_written c n f v t else t)
        both q true = record {
          statics = a.statics;
          fields =
              λ i j e p m. put3_like s.fields t.fields c n f u v i m j (λ p1 p2. q)
              (a.fields i j e p m);
          births = a.births;
          inputs = a.inputs;
          locks = a.locks;
        }
        both q false = a

        go : (b b' : Bool) → b ≡ b' → u ≡ v
            → Same on (if b then field_written c n f u s else s)
            (if b' then field_written c n f v t else t)
        go b b' r q =
            subst (λ b'. Same on (if b then field_written c n f u s else s)
            (if b' then field_written c n f v t else t)) r (both q b)

    -- a write to a field of an object in one run
    pub tail_field : {g : Frame} {z : Way on} {x : Exits on} (c f : ℕ) (r v : MVal) → IsMade on v
        → Writes on g z ((declared on).field c f) → BodyFlowsTo on z (x Normal)
        → Tail on g z x (writes_field on.table c f r v)
    tail_field {g} {z} {x} c f r v i wr q =
        tail_named on (field_named on.table c f) _ q
        (λ m is. tail_emit on (Put m.class (object_number r) m.name (shown_value on.table v))
        ((declared on).field c f) (sound.put c f m is (object_number r) (shown_value on.table v))
        wr (tail_change on z (set_field c (object_number r) f v)
        (λ b s op. keeps_level on g z s (set_field c (object_number r) f v s)
        (field_level c (object_number r) f v s) (field_made c (object_number r) f v s i)
        (hidden_field c (object_number r) f v s
        (λ p. blind on g z ((declared on).field c f) wr b p))) (tail_normal on nothing tt q)))

    -- and in two
    pub step_field : {g : Frame} {w : Way on} {x : Exits on} (c f : ℕ) (V : Bool)
        (r r' u v : MVal) → IsField false (field_at on.table c f) → IsMade on u → IsMade on v
        → on.Release ((declared on).field c f) V w.locks
        → (Sees on ((declared on).field c f) → r ≡ r') → Values V u v
        → BodyFlowsTo on w (x Normal)
        → Step on g w x Any (writes_field on.table c f r u) (writes_field on.table c f r' v)
    step_field {g} {w} {x} c f V r r' u v here iu iv rl er e q =
        step_named on (field_named on.table c f) _ _ q tt
        (λ m is. step_emit on (Put m.class (object_number r) m.name (shown_value on.table u))
        (Put m.class (object_number r') m.name (shown_value on.table v)) ((declared on).field c f)
        (sound.put c f m is (object_number r) (shown_value on.table u))
        (sound.put c f m is (object_number r') (shown_value on.table v))
        (λ s t l p. subst
        (λ k. (Put m.class (object_number r) m.name (shown_value on.table u)
        ≡ Put m.class (object_number k) m.name (shown_value on.table v))
        ⊎ Explained on
        (record {
          event = Put m.class (object_number r) m.name (shown_value on.table u);
          locks = s.locks;
        }) (record {
          event = Put m.class (object_number k) m.name (shown_value on.table v);
          locks = t.locks;
        })) (er p)
        (sent g w ((declared on).field c f) V _ _
        (sound.put c f m is (object_number r) (shown_value on.table u)) rl
        (λ p. ap (λ z. Put m.class (object_number r) m.name (shown_value on.table z)) (e p)) s t l
        p)) (λ h. step_change on w (set_field c (object_number r) f u)
        (set_field c (object_number r') f v)
        (λ s t l. like_level on g w s t (set_field c (object_number r) f u s)
        (set_field c (object_number r') f v t) (field_level c (object_number r) f u s)
        (field_made c (object_number r) f u s iu) (field_level c (object_number r') f v t)
        (field_made c (object_number r') f v t iv)
        (like_field c (object_number r) (object_number r') f u v s t here
        (λ p. ap object_number (er p)) (λ p. let e = h p in sound.shows u v iu iv cc) l.outer) l)
        (step_normal on nothing nothing tt tt q tt)))

    -- outputs
    pub tail_output : {g : Frame} {z : Way on} {x : Exits on} (c k : ℕ) (v : MVal)
        → Writes on g z ((declared on).channel c k) → BodyFlowsTo on z (x Normal)
        → Tail on g z x (outputs on.table c k v)
    tail_output c k v wr q =
        tail_named on (channel_named on.table c k) _ q
        (λ m is. tail_emit on (Out m.class m.name (number_of v)) ((declared on).channel c k)
        (sound.out c k m is (number_of v)) wr (tail_normal on nothing tt q))

    -- and in two
    pub step_output : {g : Frame} {w : Way on} {x : Exits on} {R : MVal → MVal → Type 0} (c k : ℕ)
        (V : Bool) (u v : MVal) → R nothing nothing
        → on.Release ((declared on).channel c k) V w.locks → Values V u v
        → BodyFlowsTo on w (x Normal)
        → Step on g w x R (outputs on.table c k u) (outputs on.table c k v)
    step_output {g} {w} c k V u v rn r e q =
        step_named on (channel_named on.table c k) _ _ q rn
        (λ m is. step_emit on (Out m.class m.name (number_of u))
        (Out m.class m.name (number_of v)) ((declared on).channel c k)
        (sound.out c k m is (number_of u)) (sound.out c k m is (number_of v))
        (sent g w ((declared on).channel c k) V _ _ (sound.out c k m is (number_of u)) r
        (λ p. ap (λ z. Out m.class m.name (number_of z)) (e p)))
        (λ b. step_normal on nothing nothing tt tt q rn))
