-- What is known of the table; values that are read, and inputs.
use Rattle.std.proofs.Common.{◌≡◌, ℕ, true, false, Option, Some, None, List, ◌∷◌, refl, ap, sym}
use Rattle.std.proofs.Common.{◌∙◌, subst, length}
use Rattle.std.specs.Prelude.{IsTrue, nat_lt, ℤ}
use Rattle.par_policy.specs.Numbers.{has}
use Rattle.par_program_laws.specs.Declares.{Thrown as DThrown}
use Rattle.par_values.specs.declared.run.Event.TheVariants.{Out, Set as SetEvent, Put, Born}
use Rattle.par_values.specs.declared.value.MVal.{MVal}
use Rattle.par_values.specs.declared.value.MVal.TheVariants as value
use Rattle.par_values.specs.declared.run.Val.{Val}
use Rattle.par_values.specs.Areas.{next, left}
use Rattle.par_run_laws.specs.Names.{Name, Member, made_named, field_named, channel_named}
use Rattle.par_run_laws.specs.State.{State, take_input}
use Rattle.par_run_laws.specs.Values.{shown_value}
use Rattle.par_run_laws.specs.Meaning.{inputs}
use Rattle.par_run_laws.specs.Tasks.{Normal, Task, nothing, read, named, NULL_POINTER}
use Rattle.par_run_laws.specs.Tasks.{ARITHMETIC}
use Rattle.par_typed.specs.Members.{field_at, channel_at}
use Rattle.par_program_laws.specs.BodyNames.{IsField, IsChannel}
use Rattle.par_alike.proofs.States.{Watch, BodyFlowsTo, Exits, Frame, HasPolicy, IsMade}
use Rattle.par_alike.proofs.States.{Keeps}
use Rattle.par_alike.proofs.States.{Like, Made, Opened, Same, Sees, Way, Writes, blind}
use Rattle.par_alike.proofs.States.{declared}
use Rattle.par_alike.proofs.OneRun.{Tail, tail_change, tail_normal}
use Rattle.par_alike.proofs.TwoRuns.{Step, step_normal}
use Rattle.par_alike.proofs.Puts.{put2_keep, put2_like}

-- ---- what is known of the table
-- what is declared to be thrown, with its policy
pub data Throws : List DThrown → ℕ → ℕ → Type 0 where
  first_of : (t : DThrown) (ts : List DThrown) → Throws (t ∷ ts) t.class t.policy
  later_of : (t : DThrown) (ts : List DThrown) (c p : ℕ) → Throws ts c p → Throws (t ∷ ts) c p

module _ (on : Watch) where
  -- what the policies, the classes and the values of the table keep
  pub record Sound : Type 0 where
    -- an event has the policy of what it tells of
    pub out : (c k : ℕ) (m : Member) → channel_named on.table c k ≡ Some m → (n : ℤ)
        → HasPolicy on (Out m.class m.name n) ((declared on).channel c k)
    pub set : (c f : ℕ) (m : Member) → field_named on.table c f ≡ Some m → (v : Val)
        → HasPolicy on (SetEvent m.class m.name v) ((declared on).field c f)
    pub put : (c f : ℕ) (m : Member) → field_named on.table c f ≡ Some m → (n : ℕ) (v : Val)
        → HasPolicy on (Put m.class n m.name v) ((declared on).field c f)
    pub born : (c : ℕ) (name : Name) → made_named on.table c ≡ Some name → (n : ℕ)
        → HasPolicy on (Born name n) ((declared on).birth c)
    -- the classes of the exceptions that operators, null tests and methods throw are there
    pub arithmetic : nat_lt ARITHMETIC (length on.table.classes) ≡ true
    pub throws : (c k x p : ℕ) → Throws ((declared on).method c k).throws x p
        → nat_lt x (length on.table.classes) ≡ true
    pub null_pointer : nat_lt NULL_POINTER (length on.table.classes) ≡ true
    -- values that are shown alike are equal
    pub shows : (u v : MVal) → IsMade on u → IsMade on v
        → shown_value on.table u ≡ shown_value on.table v → u ≡ v
    -- who sees a field of objects sees their births
    pub births : (c f : ℕ) → IsField false (field_at on.table c f)
        → Sees on ((declared on).field c f) → Sees on ((declared on).birth c)

  -- ---- changes
  -- frame and locks are the same
  pub record Level (s t : State) : Type 0 where
    pub locals : s.locals ≡ t.locals
    pub result : s.result ≡ t.result
    pub locks : s.locks ≡ t.locks

  -- what is known stays known
  level_opened : (g : Frame) (w : Way on) (s t : State) → Level s t → (Made on s → Made on t)
      → Opened on g w s → Opened on g w t
  level_opened g w s t v m p = record {
    known = λ l b. subst (λ ls. IsTrue (has ls l)) v.locks (p.known l b);
    held = λ l b. subst (λ ls. IsTrue (has ls l)) v.locks (p.held l b);
    made = m p.made;
  }

  -- so nothing is done to the frame
  pub keeps_level : (g : Frame) (w : Way on) (s t : State) → Level s t → (Made on s → Made on t)
      → Same on s t → Keeps on g w w s t
  keeps_level g w s t v m a = record {
    context = λ p. p;
    moved = λ u. record { locals = λ i p. (p, ap (λ h. h i) v.locals); result = λ p. v.result };
    calm = record {
      outer = a;
      this = λ e. ap (λ h. h 0) v.locals;
      opens = level_opened g w s t v m;
    };
  }

  -- two states stay alike
  pub like_level : (g : Frame) (w : Way on) (s t s' t' : State) → Level s s'
      → (Made on s → Made on s') → Level t t' → (Made on t → Made on t') → Same on s' t'
      → Like on g w w s t → Like on g w w s' t'
  like_level g w s t s' t' v m v' m' a l = record {
    locals = λ i p p'. ap (λ h. h i) (sym v.locals) ∙ l.locals i p p' ∙ ap (λ h. h i) v'.locals;
    result = λ p. sym v.result ∙ l.result p ∙ v'.result;
    this = λ e. ap (λ h. h 0) (sym v.locals) ∙ l.this e ∙ ap (λ h. h 0) v'.locals;
    outer = a;
    left = level_opened g w s s' v m l.left;
    right = level_opened g w t t' v' m' l.right;
  }

  -- what is read
  pub tail_read : {g : Frame} {z : Way on} {x : Exits on} (h : State → MVal)
      → ((s : State) → Made on s → IsMade on (h s)) → BodyFlowsTo on z (x Normal)
      → Tail on g z x (read h)
  tail_read h m q = record {
    at =
        λ w s t f n ys b op r k. (tail_normal on (h t) (m t (r.calm.opens op).made) q).at w s t f
        n ys b op r k;
  }

  -- what is read in both
  pub step_read : {g : Frame} {w : Way on} {x : Exits on} {R : MVal → MVal → Type 0}
      (h h' : State → MVal) → ((s : State) → Made on s → IsMade on (h s))
      → ((s : State) → Made on s → IsMade on (h' s)) → BodyFlowsTo on w (x Normal)
      → ((s t : State) → Like on g w w s t → R (h s) (h' t)) → Step on g w x R (read h) (read h')
  step_read h h' i i' q e = record {
    at =
        λ s t f f' m n l k.
        (step_normal on (h s) (h' t) (i s l.left.made) (i' t l.right.made) q (e s t l)).at s t f
        f' m n l k;
  }

  -- what a number names
  pub tail_named : {N : Type 0} {g : Frame} {z : Way on} {x : Exits on} (a : Option N)
      (next : N → Task) → BodyFlowsTo on z (x Normal)
      → ((i : N) → a ≡ Some i → Tail on g z x (next i)) → Tail on g z x (named a next)
  tail_named None next q h = tail_normal on nothing tt q
  tail_named (Some i) next q h = h i refl

  -- what a number names, in both
  pub step_named : {N : Type 0} {g : Frame} {w : Way on} {x : Exits on} {R : MVal → MVal → Type 0}
      (a : Option N) (next next' : N → Task) → BodyFlowsTo on w (x Normal) → R nothing nothing
      → ((i : N) → a ≡ Some i → Step on g w x R (next i) (next' i))
      → Step on g w x R (named a next) (named a next')
  step_named None next next' q r h = step_normal on nothing nothing tt tt q r
  step_named (Some i) next next' q r h = h i refl

  -- inputs
  taken_level : (c k : ℕ) (s : State) → Level s (take_input c k s)
  taken_level c k s = record { locals = refl; result = refl; locks = refl }

  taken_made : (c k : ℕ) (s : State) → Made on s → Made on (take_input c k s)
  taken_made c k s m = record {
    locals = m.locals;
    result = m.result;
    statics = m.statics;
    fields = m.fields;
  }

  -- an input that the observer does not see
  pub tail_input : {g : Frame} {z : Way on} {x : Exits on} (c k : ℕ)
      → Writes on g z ((declared on).channel c k) → BodyFlowsTo on z (x Normal)
      → Tail on g z x (inputs c k)
  tail_input {g} {z} {x} c k wr q = record {
    at =
        λ w s t f n ys b op r h.
        (tail_change on z (take_input c k)
        (λ b t op. keeps_level g z t (take_input c k t) (taken_level c k t) (taken_made c k t)
        (record {
          statics = λ c f p. refl;
          fields = λ c f i p n. refl;
          births = λ c p. refl;
          inputs =
              λ i j e p. put2_keep t.inputs c k (left (t.inputs c k)) i j
              (λ p1 p2. blind on g z ((declared on).channel c k) wr b
              (subst (λ j. Sees on ((declared on).channel c j)) p2
              (subst (λ i. Sees on ((declared on).channel i j)) p1 p)));
          locks = λ l p e v. refl;
        })) (tail_normal on (value.Int (next (t.inputs c k))) tt q)).at w s t f n ys b op r h;
  }

  -- an input in both runs
  pub step_input : {g : Frame} {w : Way on} {x : Exits on} {R : MVal → MVal → Type 0} (c k : ℕ)
      → IsChannel true (channel_at on.table c k) → BodyFlowsTo on w (x Normal)
      → ((u v : MVal) → (Sees on ((declared on).channel c k) → u ≡ v) → R u v)
      → Step on g w x R (inputs c k) (inputs c k)
  step_input {g} {w} {x} {R} c k is q e = record {
    at =
        λ s t f f' m n l h.
        (step_normal on (value.Int (next (s.inputs c k))) (value.Int (next (t.inputs c k))) tt tt
        q (e _ _ (λ p. ap (λ z. value.Int (next z)) (l.outer.inputs c k is p)))).at
        (take_input c k s) (take_input c k t) f f' m n
        (like_level g w s t (take_input c k s) (take_input c k t) (taken_level c k s)
        (taken_made c k s) (taken_level c k t) (taken_made c k t)
        (record {
          statics = l.outer.statics;
          fields = l.outer.fields;
          births = l.outer.births;
          inputs =
              λ i j is' p. put2_like s.inputs t.inputs c k _ _ i j
              (λ p1 p2. ap left
              (l.outer.inputs c k is
              (subst (λ j. Sees on ((declared on).channel c j)) p2
              (subst (λ i. Sees on ((declared on).channel i j)) p1 p))))
              (l.outer.inputs i j is' p);
          locks = l.outer.locks;
        }) l) h;
  }
