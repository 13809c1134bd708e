-- States as an observer meets them, and what a stretch of a run does to them.
use Rattle.std.proofs.Common.{ap}
use Rattle.std.proofs.Common.{◌≡◌, ℕ, Bool, true, false, ◌⊎◌, inl, inr, ⊎_elim, Option, Some}
use Rattle.std.proofs.Common.{None, List, refl, sym, ◌∙◌, subst, length, if◌then◌else◌}
use Rattle.std.specs.Prelude.{IsTrue, nat_lt, slice_get}
use Rattle.std.specs.List.{filter}
use Rattle.par_policy.specs.Numbers.{has}
use Rattle.par_bits.specs.Sets.{Set}
use Rattle.par_typed.specs.declared.table.Table.{Table}
use Rattle.par_program_laws.specs.Lattice.{Lattice}
use Rattle.par_program_laws.specs.Kinds as kind
use Rattle.par_program_laws.specs.Kinds.{Kind}
use Rattle.par_program_laws.specs.Ways as ways
use Rattle.par_program_laws.specs.Ways.{Flows, Lands, MayFlow, MayLand, MayRaise}
use Rattle.par_program_laws.specs.Facts.{Facts}
use Rattle.par_program_laws.specs.Declares.{Declares, Method, declares}
use Rattle.par_program_laws.specs.Kinds.{Next, Loop, Catches, Absorber}
use Rattle.par_values.specs.declared.run.Event.{Event}
use Rattle.par_values.specs.declared.value.MVal.{MVal}
use Rattle.par_values.specs.declared.value.MVal.TheVariants as value
use Rattle.par_run_laws.specs.par_secrecy.Runs.{Witnessed}
use Rattle.par_run_laws.specs.par_secrecy.Shown.{Observer, sees}
use Rattle.par_run_laws.specs.Names.{Name, made_named}
use Rattle.par_run_laws.specs.State.{State}
use Rattle.par_run_laws.specs.Tasks.{Exit, Normal, Broken, Continued, Returned, Thrown}
use Rattle.par_alike.specs.Subject.{event_policy, policy_at}
use Rattle.par_alike.specs.Watched.{watched}
use Rattle.par_program_laws.specs.BodyNames.{IsField}
use Rattle.par_check_laws.specs.Checks.{lock_written}
use Rattle.par_typed.specs.Members.{field_at, channel_at}
use Rattle.par_program_laws.specs.BodyNames.{IsChannel}
use Rattle.par_check_laws.proofs.par_pass_laws.Along.{and_l}
use Rattle.par_alike.proofs.Lists.{Agree, agree_swap}

-- An observer over a table, and what may explain that it is shown different events: a release to
-- the policy of this number, of a value that it sees or not, where these locks are open.
pub record Watch : Type 1 where
  pub table : Table
  pub observer : Observer
  pub Release : ℕ → Bool → Set → Type 0

-- a method that is running, and locks that its callers keep open
pub record Frame : Type 0 where
  pub own : Method
  pub held : Set
  pub free : (l : ℕ) → IsTrue (held l) → IsTrue (own.closes l) → ⊥

pub data Other : Exit → Type 0 where
  broken : Other Broken
  continued : Other Continued
  returned : Other Returned
  thrown : (c : ℕ) → Other (Thrown c)

-- what holds of each completion
pub each_exit : (P : Exit → Type 0) → P Normal → P Broken → P Continued → P Returned
    → ((c : ℕ) → P (Thrown c)) → (k : Exit) → P k
each_exit P a b c r t Normal = a
each_exit P a b c r t Broken = b
each_exit P a b c r t Continued = c
each_exit P a b c r t Returned = r
each_exit P a b c r t (Thrown k) = t k

-- a completion that is normal or not
pub exit_cases : (P : Exit → Type 0) → P Normal → ((k : Exit) → Other k → P k) → (k : Exit) → P k
exit_cases P a b =
    each_exit P a (b Broken broken) (b Continued continued) (b Returned returned)
    (λ c. b (Thrown c) (thrown c))

abbrev pub kind_of : Exit → Kind
kind_of Normal = kind.Normal
kind_of Broken = kind.Break
kind_of Continued = kind.Continue
kind_of Returned = kind.Return
kind_of (Thrown c) = kind.Throw c

-- any two values
abbrev pub Any : MVal → MVal → Type 0
Any u v = Unit {0}

abbrev pub Unseen : Bool → Type 0
Unseen p = IsTrue p → ⊥

-- two values of this policy
abbrev pub Values : Bool → MVal → MVal → Type 0
Values V u v = IsTrue V → u ≡ v

module _ (on : Watch) where
  abbrev pub lattice : Lattice
  lattice = watched on.table.policies on.observer

  abbrev pub Way : Type 0
  Way = ways.Way lattice

  abbrev pub declared : Declares
  declared = declares on.table

  -- whether the observer sees what has the policy of this number
  abbrev pub Sees : ℕ → Type 0
  Sees n = IsTrue (lattice.given n)

  -- the event has the policy of this number, and there is one
  pub record HasPolicy (e : Event) (n : ℕ) : Type 0 where
    pub policy : event_policy on.table e ≡ policy_at on.table n
    pub seen : sees on.observer (policy_at on.table n) ≡ lattice.given n

  -- so it is shown where the observer sees that policy
  pub shown_as : (e : Event) (n : ℕ) → HasPolicy e n
      → sees on.observer (event_policy on.table e) ≡ lattice.given n
  shown_as e n h = ap (sees on.observer) h.policy ∙ h.seen

  abbrev pub Exits : Type 0
  Exits = Exit → Option Way

  -- exceptions are of classes of the table
  abbrev pub ranged : Exit → Option Way → Option Way
  ranged Normal x = x
  ranged Broken x = x
  ranged Continued x = x
  ranged Returned x = x
  ranged (Thrown c) x = if nat_lt c (length on.table.classes) then x else None

  -- the exits of a point
  abbrev pub exits : Facts lattice → ℕ → Exits
  exits a p k = ranged k ((a p).exit (kind_of k))

  -- a way that is there, and at least as restrictive, its context too
  pub record FlowsTo (w : Way) (x : Option Way) : Type 0 where
    pub way : Way
    pub there : x ≡ Some way
    pub higher : Flows lattice w way

  -- the same but for the context
  pub record BodyFlowsTo (w : Way) (x : Option Way) : Type 0 where
    pub way : Way
    pub there : x ≡ Some way
    pub higher : Lands lattice w way

  -- a way is there where one flows into it
  pub to_flow : (w : Way) (x : Option Way) → MayFlow lattice (Some w) x → FlowsTo w x
  to_flow w None h = absurd h
  to_flow w (Some z) h = record { way = z; there = refl; higher = h }

  pub to_land : (w : Way) (x : Option Way) → MayLand lattice (Some w) x → BodyFlowsTo w x
  to_land w None h = absurd h
  to_land w (Some z) h = record { way = z; there = refl; higher = h }

  -- the same, of a way by its equation
  pub flows_is : (w : Way) (x y : Option Way) → x ≡ Some w → MayFlow lattice x y → FlowsTo w y
  flows_is w x y e h = to_flow w y (subst (λ z. MayFlow lattice z y) e h)

  pub lands_is : (w : Way) (x y : Option Way) → x ≡ Some w → MayLand lattice x y → BodyFlowsTo w y
  lands_is w x y e h = to_land w y (subst (λ z. MayLand lattice z y) e h)

  abbrev pub Leaves : Exits → Exits → Type 0
  Leaves y x = (k : Exit) (v : Way) → Other k → y k ≡ Some v → FlowsTo v (x k)

  -- the exits of a part are among those of the form, the normal one with a context of its own
  pub record Merges (y x : Exits) : Type 0 where
    pub normal : (v : Way) → y Normal ≡ Some v → BodyFlowsTo v (x Normal)
    pub leaves : Leaves y x

  -- the normal exit's context is at least the entering one joined with those of the other exits
  pub record Restores (w : Way) (x : Exits) : Type 0 where
    pub entry : (z : Way) → x Normal ≡ Some z → IsTrue z.context → IsTrue w.context
    pub others : (k : Exit) (z v : Way) → Other k → x Normal ≡ Some z → x k ≡ Some v
        → IsTrue z.context → IsTrue v.context

  -- ---- states
  -- some output or field write explains that two events differ: the observer sees the target and
  -- does not see the value, and the locks there are open at both
  pub record Explained (x y : Witnessed) : Type 0 where
    pub to : ℕ
    pub value : Bool
    pub locks : Set
    pub node : on.Release to value locks
    pub target : Sees to
    pub seen : IsTrue (sees on.observer (policy_at on.table to))
    pub hidden : Unseen value
    pub left : (l : ℕ) → IsTrue (locks l) → IsTrue (has x.locks l)
    pub right : (l : ℕ) → IsTrue (locks l) → IsTrue (has y.locks l)

  abbrev pub shown : List Witnessed → List Witnessed
  shown ws = filter (λ w. sees on.observer (event_policy on.table w.event)) ws

  -- what the observer sees of both agrees, up to a difference that is explained
  abbrev pub Agrees : List Witnessed → List Witnessed → Type 0
  Agrees r q = Agree Explained (shown r) (shown q)

  -- agreeing goes both ways
  pub swap : (r q : List Witnessed) → Agrees r q → Agrees q r
  swap r q =
      agree_swap Explained
      (λ a b r. record {
        to = r.to;
        value = r.value;
        locks = r.locks;
        node = r.node;
        target = r.target;
        seen = r.seen;
        hidden = r.hidden;
        left = r.right;
        right = r.left;
      }) _ _

  -- states that agree, but for frames and locks without a policy
  pub record Same (s t : State) : Type 0 where
    pub statics : (c f : ℕ) → Sees (declared.field c f) → s.statics c f ≡ t.statics c f
    pub fields : (c f : ℕ) → IsField false (field_at on.table c f) → Sees (declared.field c f)
        → (n : ℕ) → s.fields c n f ≡ t.fields c n f
    pub births : (c : ℕ) → Sees (declared.birth c) → s.births c ≡ t.births c
    pub inputs : (c k : ℕ) → IsChannel true (channel_at on.table c k)
        → Sees (declared.channel c k) → s.inputs c k ≡ t.inputs c k
    pub locks : (l p : ℕ) → lock_written (slice_get on.table.locks l) ≡ Some p → Sees p
        → has s.locks l ≡ has t.locks l

  -- a state agrees with itself
  pub same_here : {s : State} → Same s s
  same_here = record {
    statics = λ c f p. refl;
    fields = λ c f i p n. refl;
    births = λ c p. refl;
    inputs = λ c k i p. refl;
    locks = λ l p e v. refl;
  }

  -- one stretch after another
  pub same_on : {s t u : State} → Same s t → Same t u → Same s u
  same_on a b = record {
    statics = λ c f p. a.statics c f p ∙ b.statics c f p;
    fields = λ c f i p n. a.fields c f i p n ∙ b.fields c f i p n;
    births = λ c p. a.births c p ∙ b.births c p;
    inputs = λ c k i p. a.inputs c k i p ∙ b.inputs c k i p;
    locks = λ l p e v. a.locks l p e v ∙ b.locks l p e v;
  }

  -- and backwards
  pub same_back : {s t : State} → Same s t → Same t s
  same_back a = record {
    statics = λ c f p. sym (a.statics c f p);
    fields = λ c f i p n. sym (a.fields c f i p n);
    births = λ c p. sym (a.births c p);
    inputs = λ c k i p. sym (a.inputs c k i p);
    locks = λ l p e v. sym (a.locks l p e v);
  }

  -- objects are of classes that have a name
  abbrev pub IsMade : MVal → Type 0
  IsMade (value.Int n) = Unit {0}
  IsMade value.Null = Unit {0}
  IsMade (value.Ref c n) = (name : Name) × (made_named on.table c ≡ Some name)

  -- each object in the state is of a class that has a name
  pub record Made (s : State) : Type 0 where
    pub locals : (i : ℕ) → IsMade (s.locals i)
    pub result : IsMade s.result
    pub statics : (c f : ℕ) → IsMade (s.statics c f)
    pub fields : (c n f : ℕ) → IsMade (s.fields c n f)

  -- an exit hands on a value where it is the normal one
  abbrev pub Gives : Exit → MVal → Type 0
  Gives Normal v = IsMade v
  Gives Broken v = Unit {0}
  Gives Continued v = Unit {0}
  Gives Returned v = Unit {0}
  Gives (Thrown c) v = Unit {0}

  -- what leaves by another exit hands on nothing
  pub gives_other : (k : Exit) (v : MVal) → Other k → Gives k v
  gives_other _ v broken = tt
  gives_other _ v continued = tt
  gives_other _ v returned = tt
  gives_other _ v (thrown c) = tt

  -- the locks that are known to be open, and what is known of the values
  pub record Opened (g : Frame) (w : Way) (s : State) : Type 0 where
    pub known : (l : ℕ) → IsTrue (w.locks l) → IsTrue (has s.locks l)
    pub held : (l : ℕ) → IsTrue (g.held l) → IsTrue (has s.locks l)
    pub made : Made s

  -- what is known at a way is known at a higher one
  pub open_body : {g : Frame} {w x : Way} {s : State} → Lands lattice w x → Opened g w s
      → Opened g x s
  open_body h p = record { known = λ l q. p.known l (h.locks l q); held = p.held; made = p.made }

  pub flows_here : {w : Way} → Flows lattice w w
  flows_here = record { context = λ p. p; lands = record { env = λ i p. p; locks = λ l p. p } }

  -- a way with a value in its context
  abbrev pub raised : Way → Bool → Way
  raised w v = ways.raised lattice v w

  -- only the context is raised
  pub lands_raised : {w : Way} (v : Bool) → Lands lattice w (raised w v)
  lands_raised v = record { env = λ i p. p; locks = λ l p. p }

  pub flows_raised : {w : Way} (v : Bool) → Flows lattice w (raised w v)
  flows_raised {w} v = record { context = λ p. and_l w.context v p; lands = lands_raised v }

  -- so it does not matter where the context does not
  pub raised_lands : {w : Way} {x : Option Way} (v : Bool) → BodyFlowsTo w x
      → BodyFlowsTo (raised w v) x
  raised_lands v q = record {
    way = q.way;
    there = q.there;
    higher = record { env = q.higher.env; locks = q.higher.locks };
  }

  -- two runs, one at the way w and the other at x
  pub record Like (g : Frame) (w x : Way) (s t : State) : Type 0 where
    pub locals : (i : ℕ) → IsTrue (w.env i) → IsTrue (x.env i) → s.locals i ≡ t.locals i
    pub result : Sees g.own.result → s.result ≡ t.result
    -- `this` of an instance method
    pub this : g.own.is_static ≡ false → s.locals 0 ≡ t.locals 0
    pub outer : Same s t
    pub left : Opened g w s
    pub right : Opened g x t

  -- a stretch of one run, from w to x: what it does to the frame
  pub record Moved (g : Frame) (w x : Way) (s t : State) : Type 0 where
    pub locals : (i : ℕ) → IsTrue (x.env i) → IsTrue (w.env i) × (s.locals i ≡ t.locals i)
    pub result : Sees g.own.result → s.result ≡ t.result

  -- and to the rest
  pub record Calm (g : Frame) (w x : Way) (s t : State) : Type 0 where
    pub outer : Same s t
    pub this : g.own.is_static ≡ false → s.locals 0 ≡ t.locals 0
    pub opens : Opened g w s → Opened g x t

  -- a stretch in which the context or the write effect isn't seen
  pub record Keeps (g : Frame) (w x : Way) (s t : State) : Type 0 where
    pub context : IsTrue x.context → IsTrue w.context
    pub moved : Unseen w.context → Moved g w x s t
    pub calm : Calm g w x s t

  -- the context or the write effect of the method is not seen
  pub record Blocked (g : Frame) (w : Way) : Type 0 where
    pub unseen_part : Unseen w.context ⊎ (Sees g.own.effect → ⊥)

  -- what blocks a lower way blocks a higher one
  pub blocked_on : {g : Frame} {w x : Way} → (IsTrue x.context → IsTrue w.context) → Blocked g w
      → Blocked g x
  blocked_on h b = record {
    unseen_part = ⊎_elim (λ u. inl (λ p. u (h p))) (λ u. inr u) b.unseen_part;
  }

  pub blocked_here : {g : Frame} {w : Way} → Unseen w.context → Blocked g w
  blocked_here u = record { unseen_part = inl u }

  -- what learns of the way is at least as restrictive as the context and the write effect
  pub record Writes (g : Frame) (w : Way) (to : ℕ) : Type 0 where
    pub context : Sees to → IsTrue w.context
    pub effect : Sees to → Sees g.own.effect

  -- a target that isn't seen
  pub blind : (g : Frame) (w : Way) (to : ℕ) → Writes g w to → Blocked g w → Sees to → ⊥
  blind g w to q b p = ⊎_elim (λ u. u (q.context p)) (λ u. u (q.effect p)) b.unseen_part

  -- stretches one after the other
  pub moved_on : {g : Frame} {w x y : Way} {s t u : State} → Moved g w x s t → Moved g x y t u
      → Moved g w y s u
  moved_on a b = record {
    locals = λ i p. let q = b.locals i p in let r = a.locals i q.0 in (r.0, r.1 ∙ q.1);
    result = λ p. a.result p ∙ b.result p;
  }

  pub calm_on : {g : Frame} {w x y : Way} {s t u : State} → Calm g w x s t → Calm g x y t u
      → Calm g w y s u
  calm_on a b = record {
    outer = same_on a.outer b.outer;
    this = λ e. a.this e ∙ b.this e;
    opens = λ p. b.opens (a.opens p);
  }

  pub keeps_on : {g : Frame} {w x y : Way} {s t u : State} → Keeps g w x s t → Keeps g x y t u
      → Keeps g w y s u
  keeps_on a b = record {
    context = λ p. a.context (b.context p);
    moved = λ u. moved_on (a.moved u) (b.moved (λ p. u (a.context p)));
    calm = calm_on a.calm b.calm;
  }

  -- no step is a stretch to any higher way
  pub moved_body : {g : Frame} {w x : Way} {s : State} → Lands lattice w x → Moved g w x s s
  moved_body h = record { locals = λ i p. (h.env i p, refl); result = λ p. refl }

  pub calm_body : {g : Frame} {w x : Way} {s : State} → Lands lattice w x → Calm g w x s s
  calm_body h = record { outer = same_here; this = λ e. refl; opens = λ p. open_body h p }

  pub keeps_higher : {g : Frame} {w x : Way} {s : State} → Flows lattice w x → Keeps g w x s s
  keeps_higher h = record {
    context = h.context;
    moved = λ u. moved_body h.lands;
    calm = calm_body h.lands;
  }

  -- two states stay alike while each run goes a stretch of its own
  pub like_moved : {g : Frame} {w w' x x' : Way} {s t s' t' : State} → Like g w w' s t
      → Moved g w x s s' → Calm g w x s s' → Moved g w' x' t t' → Calm g w' x' t t'
      → Like g x x' s' t'
  like_moved l a ca b cb = record {
    locals =
        λ i p p'.
        let q = a.locals i p in
        let r = b.locals i p' in
        sym q.1 ∙ l.locals i q.0 r.0 ∙ r.1;
    result = λ p. sym (a.result p) ∙ l.result p ∙ b.result p;
    this = λ e. sym (ca.this e) ∙ l.this e ∙ cb.this e;
    outer = same_on (same_back ca.outer) (same_on l.outer cb.outer);
    left = ca.opens l.left;
    right = cb.opens l.right;
  }

  -- and at a higher way
  pub like_body : {g : Frame} {w x : Way} {s t : State} → Lands lattice w x → Like g w w s t
      → Like g x x s t
  like_body h l = like_moved l (moved_body h) (calm_body h) (moved_body h) (calm_body h)
