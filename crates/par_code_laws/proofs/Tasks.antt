-- Tasks that show the same from states that differ in locks that nothing asks for and in the
-- numbers of input channels.
use Rattle.std.proofs.Common.{◌≡◌, ℕ, zero, suc, ℤ, Bool, true, false, ◌||◌, ◌&&◌, not, ◌==◌}
use Rattle.std.proofs.Common.{if◌then◌else◌, List, ◌∷◌, Option, Some, None, refl, ap, sym, ◌∙◌}
use Rattle.std.proofs.Common.{subst, slice_get}
use Rattle.std.specs.Prelude.{IsTrue, nat_eq, nat_lt}
use Rattle.std.proofs.lemmas.Bool.{eqb-true, eq-eqb}
use Rattle.par_policy.specs.Numbers.{has}
use Rattle.par_typed.specs.declared.table.ChannelInfo.{ChannelInfo}
use Rattle.par_typed.specs.declared.table.Table.{Table}
use Rattle.par_values.specs.declared.run.Event.{Event}
use Rattle.par_values.specs.declared.value.MVal.{MVal}
use Rattle.par_values.specs.declared.value.MVal.TheVariants as value
use Rattle.par_values.specs.Areas.{value_or_null, next, left}
use Rattle.par_secrecy.specs.Runs.{Run}
use Rattle.par_secrecy.specs.Secure.{events}
use Rattle.par_typed.specs.Members.{channel_at}
use Rattle.par_run_laws.specs.State.{State, put, set_local, set_result, set_static, set_field}
use Rattle.par_run_laws.specs.State.{with_object, take_input, opened, closed, open_lock, close_lock}
use Rattle.par_run_laws.specs.State.{entered, restored}
use Rattle.par_run_laws.specs.Tasks.{Normal, Broken, Continued, Returned, Thrown, Rest, Rests}
use Rattle.par_run_laws.specs.Tasks.{asked}
use Rattle.par_run_laws.specs.Tasks.{Task, nothing, done, gives, fine, paid, change, read, happens}
use Rattle.par_run_laws.specs.Tasks.{named, follow, and_then, unless_null, tested, leave, enter}
use Rattle.par_run_laws.specs.Tasks.{looped}
use Rattle.par_run_laws.specs.Tasks.{turn, turns, caught}
use Rattle.par_run_laws.specs.Meaning.{inputs}
use Rattle.par_erase.specs.Asked.{Locks}
use Rattle.par_erase.specs.Erased.{input_place}
use Rattle.par_code_laws.proofs.Channels.{inputs_apart}
use Rattle.par_alike.proofs.LockSets.{opened_has, closed_has, or_false}

-- ---- runs and states

-- the same events and the same ending, whatever locks are open
pub record Same (r q : Run) : Type 0 where
  pub shown : events r.events ≡ events q.events
  pub ending : r.ending ≡ q.ending

-- an object
abbrev pub IsObject : MVal → Type 0
IsObject (value.Int n) = ⊥
IsObject value.Null = ⊥
IsObject (value.Ref c n) = Unit {0}

abbrev pub Locals : Type 0
Locals = ℕ → MVal

abbrev pub Lines : Type 0
Lines = ℕ → ℕ → List ℤ

-- what is known of locals
abbrev pub Known : Type 1
Known = Locals → Type 0

-- the state with other input lists and other open locks
abbrev pub other : State → Lines → List ℕ → State
other s lines locks = record s { inputs = lines; locks = locks }

module _ (t : Table) (asked_for : Locks) where
  -- input lists go by places, and of the locks those are alike that some `when` asks for
  pub record Alike (lines : Lines) (ls : List ℕ) (lines' : Lines) (ls' : List ℕ) : Type 0 where
    pub inputs : (c k : ℕ) (x : ChannelInfo) → channel_at t c k ≡ Some x → x.is_input ≡ true
        → lines' c (input_place t c k) ≡ lines c k
    pub locks : (l : ℕ) → IsTrue (asked_for l) → has ls' l ≡ has ls l

  -- from such states, and where this is known, two rests show the same
  pub record Goes (P : Known) (a b : Rest) : Type 0 where
    pub at : (s : State) (lines : Lines) (locks : List ℕ) (n : ℕ) → P s.locals
        → Alike s.inputs s.locks lines locks → Same (a s n) (b (other s lines locks) n)

  -- what follows the exits, where the value of a normal one and locals behind it are known, and
  -- locals behind each other exit
  pub record Follows (N : MVal → Known) (O : Known) (f g : Rests) : Type 0 where
    pub normal : (v : MVal) → Goes (N v) (f Normal v) (g Normal v)
    pub broken : (v : MVal) → Goes O (f Broken v) (g Broken v)
    pub continued : (v : MVal) → Goes O (f Continued v) (g Continued v)
    pub returned : (v : MVal) → Goes O (f Returned v) (g Returned v)
    pub thrown : (c : ℕ) (v : MVal) → Goes O (f (Thrown c) v) (g (Thrown c) v)

  -- where what follows shows the same, so do two tasks
  pub record Does (P : Known) (N : MVal → Known) (O : Known) (c d : Task) : Type 0 where
    pub at : (f g : Rests) → Follows N O f g → Goes P (c f) (d g)

  -- more is known before, and less is asked behind
  goes_of : (P Q : Known) (a b : Rest) → ((x : Locals) → P x → Q x) → Goes Q a b → Goes P a b
  goes_of P Q a b k h = record { at = λ s i l n p. h.at s i l n (k s.locals p) }

  pub does_of : (P Q : Known) (N M : MVal → Known) (O R : Known) (c d : Task)
      → ((x : Locals) → P x → Q x) → ((v : MVal) (x : Locals) → N v x → M v x)
      → ((x : Locals) → O x → R x) → Does Q N O c d → Does P M R c d
  does_of P Q N M O R c d before normal others h = record {
    at =
        λ f g k. goes_of P Q (c f) (d g) before
        (h.at f g
        (record {
          normal = λ v. goes_of (N v) (M v) (f Normal v) (g Normal v) (normal v) (k.normal v);
          broken = λ v. goes_of O R (f Broken v) (g Broken v) others (k.broken v);
          continued = λ v. goes_of O R (f Continued v) (g Continued v) others (k.continued v);
          returned = λ v. goes_of O R (f Returned v) (g Returned v) others (k.returned v);
          thrown = λ c v. goes_of O R (f (Thrown c) v) (g (Thrown c) v) others (k.thrown c v);
        }));
  }

  -- ---- tasks of one step

  pub does_gives : (P : Known) (N : MVal → Known) (O : Known) (v : MVal)
      → ((x : Locals) → P x → N v x) → Does P N O (gives v) (gives v)
  does_gives P N O v k = record {
    at = λ f g h. goes_of P (N v) (f Normal v) (g Normal v) k (h.normal v);
  }

  pub does_broken : (P : Known) (N : MVal → Known) (v : MVal)
      → Does P N P (done Broken v) (done Broken v)
  does_broken P N v = record { at = λ f g h. h.broken v }

  pub does_continued : (P : Known) (N : MVal → Known) (v : MVal)
      → Does P N P (done Continued v) (done Continued v)
  does_continued P N v = record { at = λ f g h. h.continued v }

  pub does_returned : (P : Known) (N : MVal → Known) (v : MVal)
      → Does P N P (done Returned v) (done Returned v)
  does_returned P N v = record { at = λ f g h. h.returned v }

  pub does_thrown : (P : Known) (N : MVal → Known) (c : ℕ) (v : MVal)
      → Does P N P (done (Thrown c) v) (done (Thrown c) v)
  does_thrown P N c v = record { at = λ f g h. h.thrown c v }

  pub does_paid : (P : Known) (N : MVal → Known) (O : Known) (c d : Task) → Does P N O c d
      → Does P N O (paid c) (paid d)
  does_paid P N O c d h = record {
    at = λ f g k. record { at = λ s i l n p a. step f g k s i l n p a };
  }
    where
      step : (f g : Rests) → Follows N O f g → (s : State) (i : Lines) (l : List ℕ) (n : ℕ)
          → P s.locals → Alike s.inputs s.locks i l
          → Same (paid c f s n) (paid d g (other s i l) n)
      step f g k s i l zero p a = record { shown = refl; ending = refl }
      step f g k s i l (suc n) p a = (h.at f g k).at s i l n p a

  -- what is read stands neither in input lists nor in locks
  pub does_read : (P : Known) (N : MVal → Known) (O : Known) (h : State → MVal)
      → ((s : State) (i : Lines) (l : List ℕ) → h (other s i l) ≡ h s)
      → ((s : State) → P s.locals → N (h s) s.locals) → Does P N O (read h) (read h)
  does_read P N O h same k = record {
    at =
        λ f g r. record {
          at =
              λ s i l n p a. subst (λ v. Same (f Normal (h s) s n) (g Normal v (other s i l) n))
              (sym (same s i l)) ((r.normal (h s)).at s i l n (k s p) a);
        };
  }

  -- a change of what is neither an input list nor a lock
  pub record IsOutside (h : State → State) : Type 0 where
    pub commutes : (s : State) (i : Lines) (l : List ℕ) → h (other s i l) ≡ other (h s) i l
    pub inputs : (s : State) → (h s).inputs ≡ s.inputs
    pub locks : (s : State) → (h s).locks ≡ s.locks

  pub does_change : (P Q : Known) (N : MVal → Known) (O : Known) (h : State → State) (c d : Task)
      → IsOutside h → ((s : State) → P s.locals → Q (h s).locals) → Does Q N O c d
      → Does P N O (change h c) (change h d)
  does_change P Q N O h c d out k r = record {
    at =
        λ f g z. record {
          at =
              λ s i l n p a.
              let moved : Alike (h s).inputs (h s).locks i l =
              subst (λ ls. Alike (h s).inputs ls i l) (sym (out.locks s))
              (subst (λ is. Alike is s.locks i l) (sym (out.inputs s)) a) in
              subst (λ u. Same (c f (h s) n) (d g u n)) (sym (out.commutes s i l))
              ((r.at f g z).at (h s) i l n (k s p) moved);
        };
  }

  pub does_happens : (P : Known) (N : MVal → Known) (O : Known) (e : Event) (c d : Task)
      → Does P N O c d → Does P N O (happens e c) (happens e d)
  does_happens P N O e c d h = record {
    at =
        λ f g k. record {
          at =
              λ s i l n p a.
              let r = (h.at f g k).at s i l n p a in
              record { shown = ap (λ es. e ∷ es) r.shown; ending = r.ending };
        };
  }

  -- ---- tasks of parts

  pub does_then : (P : Known) (N M : MVal → Known) (O : Known) (c d : Task)
      (next next' : MVal → Task) → Does P N O c d
      → ((v : MVal) → Does (N v) M O (next v) (next' v))
      → Does P M O (and_then c next) (and_then d next')
  does_then P N M O c d next next' h k = record {
    at =
        λ f g r. h.at (follow next f) (follow next' g)
        (record {
          normal = λ v. (k v).at f g r;
          broken = r.broken;
          continued = r.continued;
          returned = r.returned;
          thrown = r.thrown;
        });
  }

  pub does_if : (P : Known) (N : MVal → Known) (O : Known) (b : Bool) (a c a' c' : Task)
      → Does P N O a a' → Does P N O c c' → Does P N O (if b then a else c) (if b then a' else c')
  does_if P N O true a c a' c' h k = h
  does_if P N O false a c a' c' h k = k

  -- with what a number names, or with nothing
  pub does_named : {A : Type 0} (P : Known) (N : MVal → Known) (O : Known) (o : Option A)
      (next : A → Task) → (o ≡ None → (x : Locals) → P x → N nothing x)
      → ((a : A) → Does P N O (next a) (next a)) → Does P N O (named o next) (named o next)
  does_named P N O None next k h = does_gives P N O nothing (k refl)
  does_named P N O (Some a) next k h = h a

  -- what is known of a value holds whatever locals are
  pub does_given : (F : Type 0) (P : Known) (N : MVal → Known) (O : Known) (c d : Task)
      → ((x : Locals) → P x → F) → (F → Does P N O c d) → Does P N O c d
  does_given F P N O c d k h = record {
    at =
        λ f g r. record {
          at = λ s i l n p a. ((h (k s.locals p)).at f g r).at s i l n p a;
        };
  }

  -- A receiver that is never null is tested after erasing alone, and passes.
  pub does_tested : (P : Known) (N : MVal → Known) (sure sure' : Bool) (r : MVal) (c d : Task)
      → sure' ≡ false → (sure ≡ true → IsObject r) → (IsObject r → Does P N P c d)
      → Does P N P (tested sure r c) (tested sure' r d)
  does_tested P N sure sure' r c d e k h =
      subst (λ b. Does P N P (tested sure r c) (tested b r d)) (sym e) (by_value sure r k h)
    where
      by_value : (sure : Bool) (r : MVal) → (sure ≡ true → IsObject r)
          → (IsObject r → Does P N P c d) → Does P N P (tested sure r c) (unless_null r d)
      by_value true (value.Int n) k h = absurd (k refl)
      by_value true value.Null k h = absurd (k refl)
      by_value true (value.Ref c n) k h = h tt
      by_value false (value.Int n) k h = does_thrown P N _ nothing
      by_value false value.Null k h = does_thrown P N _ nothing
      by_value false (value.Ref c n) k h = h tt

  -- ---- methods, loops and catches

  -- whatever is known of the callee's locals, those of the caller are as they were
  pub does_enter : (P Q : Known) (N : MVal → Known) (values : List MVal) (c d : Task)
      → Q (λ x. value_or_null (slice_get values x)) → ((v : MVal) (x : Locals) → P x → N v x)
      → Does Q (λ v x. Unit {0}) (λ x. Unit {0}) c d
      → Does P N P (enter c values) (enter d values)
  does_enter P Q N values c d arrived k h = record {
    at =
        λ f g r. record {
          at =
              λ s i l n p a. (h.at (leave s.locals s.result f) (leave s.locals s.result g)
              (record {
                normal = λ v. home f g r s p;
                broken = λ v. home f g r s p;
                continued = λ v. home f g r s p;
                returned = λ v. home f g r s p;
                thrown =
                    λ c v. record {
                      at = λ z i l n q a. (r.thrown c nothing).at
                          (restored s.locals s.result z) i l n p a;
                    };
              })).at (entered values s) i l n arrived a;
        };
  }
    where
      home : (f g : Rests) → Follows N P f g → (s : State) → P s.locals
          → Goes (λ x. Unit {0}) (λ z n. f Normal z.result (restored s.locals s.result z) n)
          (λ z n. g Normal z.result (restored s.locals s.result z) n)
      home f g r s p = record {
        at =
            λ z i l n q a. (r.normal z.result).at (restored s.locals s.result z) i l n
            (k z.result s.locals p) a;
      }

  pub does_turns : (P : Known) (B : MVal → Known) (m : ℕ) (holds : MVal → Bool)
      (test test' block block' : Task) → ((v : MVal) (x : Locals) → B v x → P x)
      → Does P (λ v. P) P test test' → Does P B P block block'
      → Does P (λ v. P) P (turns m (turn holds test block)) (turns m (turn holds test' block'))
  does_turns P B zero holds test test' block block' k h b = record {
    at = λ f g r. record { at = λ s i l n p a. record { shown = refl; ending = refl } };
  }
  does_turns P B (suc m) holds test test' block block' k h b =
      let again = does_turns P B m holds test test' block block' k h b in
      does_paid P (λ v. P) P _ _
      (does_then P (λ v. P) (λ v. P) P test test' _ _ h
      (λ v. does_if P (λ v. P) P (holds v) _ _ _ _
      (record {
        at =
            λ f g r. b.at (looped (turns m (turn holds test block)) f)
            (looped (turns m (turn holds test' block')) g)
            (record {
              normal = λ v. goes_of (B v) P _ _ (k v) (again.at f g r);
              broken = λ v. r.normal nothing;
              continued = λ v. again.at f g r;
              returned = r.returned;
              thrown = r.thrown;
            });
      }) (does_gives P (λ v. P) P nothing (λ x p. p))))

  pub does_caught : (P : Known) (N : MVal → Known) (O : Known) (c d : Task)
      (handle handle' : ℕ → Task) → Does P N O c d
      → ((j : ℕ) → Does O N O (handle j) (handle' j))
      → Does P N O (λ rest. c (caught handle rest)) (λ rest. d (caught handle' rest))
  does_caught P N O c d handle handle' h k = record {
    at =
        λ f g r. h.at (caught handle f) (caught handle' g)
        (record {
          normal = r.normal;
          broken = r.broken;
          continued = r.continued;
          returned = r.returned;
          thrown = λ j v. (k j).at f g r;
        });
  }

  -- ---- inputs

  -- the next number of an input channel, which goes by its place in the second run
  pub does_input : (P : Known) (N : MVal → Known) (O : Known) (c k : ℕ) (x : ChannelInfo)
      → channel_at t c k ≡ Some x → x.is_input ≡ true
      → ((v : MVal) (x : Locals) → P x → N v x)
      → Does P N O (inputs c k) (inputs c (input_place t c k))
  does_input P N O c k x there input known = record {
    at =
        λ f g r. record {
          at =
              λ s i l n p a.
              let is = a.inputs c k x there input in
              subst (λ v. Same (f Normal (value.Int (next (s.inputs c k))) (take_input c k s) n)
              (g Normal (value.Int v) (take_input c (input_place t c k) (other s i l)) n))
              (sym (ap next is))
              ((r.normal (value.Int (next (s.inputs c k)))).at (take_input c k s)
              (put i c (put (i c) (input_place t c k) (left (i c (input_place t c k))))) l n
              (known _ s.locals p)
              (record {
                inputs = λ d j y e h. taken s.inputs i is a.inputs d j y e h (d == c) refl;
                locks = a.locks;
              }));
        };
  }
    where
      -- the list behind the number, of a channel of the same class or of another one
      in_class : (lines lines' : Lines) → lines' c (input_place t c k) ≡ lines c k
          → ((j : ℕ) (y : ChannelInfo) → channel_at t c j ≡ Some y → y.is_input ≡ true
          → lines' c (input_place t c j) ≡ lines c j)
          → (j : ℕ) (y : ChannelInfo) → channel_at t c j ≡ Some y → y.is_input ≡ true
          → (b b' : Bool) → (j == k) ≡ b → (input_place t c j == input_place t c k) ≡ b'
          → (if b' then left (lines' c (input_place t c k)) else lines' c (input_place t c j))
          ≡ (if b then left (lines c k) else lines c j)
      in_class lines lines' is all j y e h true true same same' = ap left is
      in_class lines lines' is all j y e h true false same same' =
          let at = ap (input_place t c) (eqb-true j k same) in
          let yes : IsTrue (input_place t c j == input_place t c k) = eq-eqb _ _ at in
          absurd cc
      in_class lines lines' is all j y e h false true same same' =
          let at = inputs_apart t c j k y x e h there input (eqb-true _ _ same') in
          let yes : IsTrue (j == k) = eq-eqb j k at in
          absurd cc
      in_class lines lines' is all j y e h false false same same' = all j y e h

      taken : (lines lines' : Lines) → lines' c (input_place t c k) ≡ lines c k
          → ((d j : ℕ) (y : ChannelInfo) → channel_at t d j ≡ Some y → y.is_input ≡ true
          → lines' d (input_place t d j) ≡ lines d j)
          → (d j : ℕ) (y : ChannelInfo) → channel_at t d j ≡ Some y → y.is_input ≡ true
          → (b : Bool) → (d == c) ≡ b
          → (if b then put (lines' c) (input_place t c k) (left (lines' c (input_place t c k)))
          else lines' d) (input_place t d j)
          ≡ (if b then put (lines c) k (left (lines c k)) else lines d) j
      taken lines lines' is all d j y e h true same =
          let at = eqb-true d c same in
          subst (λ z. channel_at t z j ≡ Some y
          → put (lines' c) (input_place t c k) (left (lines' c (input_place t c k)))
          (input_place t z j)
          ≡ put (lines c) k (left (lines c k)) j) (sym at)
          (λ e. in_class lines lines' is (all c) j y e h (j == k)
          (input_place t c j == input_place t c k) refl refl) e
      taken lines lines' is all d j y e h false same = all d j y e h

  -- ---- locks

  -- a lock that some `when` asks for is asked in both runs
  pub does_asked : (P : Known) (N : MVal → Known) (O : Known) (l : ℕ) (a b a' b' : Task)
      → IsTrue (asked_for l) → Does P N O a a' → Does P N O b b'
      → Does P N O (asked (λ s. has s.locks l) a b) (asked (λ s. has s.locks l) a' b')
  does_asked P N O l a b a' b' is h k = record {
    at =
        λ f g r. record {
          at =
              λ s i ls n p z. subst
              (λ held. Same ((if has s.locks l then a else b) f s n)
              ((if held then a' else b') g (other s i ls) n)) (sym (z.locks l is))
              (((does_if P N O (has s.locks l) a b a' b' h k).at f g r).at s i ls n p z);
        };
  }

  -- it is opened and closed in both
  pub does_opened : (P : Known) (N : MVal → Known) (O : Known) (l : ℕ)
      → ((x : Locals) → P x → N nothing x)
      → Does P N O (change (open_lock l) fine) (change (open_lock l) fine)
  does_opened P N O l k = record {
    at =
        λ f g r. record {
          at =
              λ s i ls n p a. (r.normal nothing).at (open_lock l s) i (opened l ls) n
              (k s.locals p)
              (record {
                inputs = a.inputs;
                locks =
                    λ j is. opened_has l ls j ∙ ap (λ b. b || nat_eq j l) (a.locks j is)
                    ∙ sym (opened_has l s.locks j);
              });
        };
  }

  pub does_closed : (P : Known) (N : MVal → Known) (O : Known) (l : ℕ)
      → ((x : Locals) → P x → N nothing x)
      → Does P N O (change (close_lock l) fine) (change (close_lock l) fine)
  does_closed P N O l k = record {
    at =
        λ f g r. record {
          at =
              λ s i ls n p a. (r.normal nothing).at (close_lock l s) i (closed l ls) n
              (k s.locals p)
              (record {
                inputs = a.inputs;
                locks =
                    λ j is. closed_has l ls j ∙ ap (λ b. b && not (nat_eq j l)) (a.locks j is)
                    ∙ sym (closed_has l s.locks j);
              });
        };
  }

  -- an asked lock is not one that nothing asks for
  no_other : (l j : ℕ) → asked_for l ≡ false → IsTrue (asked_for j) → nat_eq j l ≡ false
  no_other l j none is = by_test (nat_eq j l) refl
    where
      by_test : (b : Bool) → nat_eq j l ≡ b → b ≡ false
      by_test true e = let at = ap asked_for (eqb-true j l e) in absurd cc
      by_test false e = refl

  -- one that nothing asks for is opened and closed in the first run alone
  pub does_unopened : (P : Known) (N : MVal → Known) (O : Known) (l : ℕ) → asked_for l ≡ false
      → ((x : Locals) → P x → N nothing x) → Does P N O (change (open_lock l) fine) fine
  does_unopened P N O l none k = record {
    at =
        λ f g r. record {
          at =
              λ s i ls n p a. (r.normal nothing).at (open_lock l s) i ls n (k s.locals p)
              (record {
                inputs = a.inputs;
                locks =
                    λ j is. a.locks j is ∙ sym (or_false (has s.locks j))
                    ∙ ap (λ b. has s.locks j || b) (sym (no_other l j none is))
                    ∙ sym (opened_has l s.locks j);
              });
        };
  }

  pub does_unclosed : (P : Known) (N : MVal → Known) (O : Known) (l : ℕ) → asked_for l ≡ false
      → ((x : Locals) → P x → N nothing x) → Does P N O (change (close_lock l) fine) fine
  does_unclosed P N O l none k = record {
    at =
        λ f g r. record {
          at =
              λ s i ls n p a. (r.normal nothing).at (close_lock l s) i ls n (k s.locals p)
              (record {
                inputs = a.inputs;
                locks =
                    λ j is. a.locks j is ∙ sym (and_true (has s.locks j))
                    ∙ ap (λ b. has s.locks j && not b) (sym (no_other l j none is))
                    ∙ sym (closed_has l s.locks j);
              });
        };
  }
    where
      and_true : (b : Bool) → (b && true) ≡ b
      and_true true = refl
      and_true false = refl

  -- ---- changes of what is neither an input list nor a lock

  pub local_outside : (x : ℕ) (v : MVal) → IsOutside (set_local x v)
  local_outside x v =
      record { commutes = λ s i l. refl; inputs = λ s. refl; locks = λ s. refl }

  pub result_outside : (v : MVal) → IsOutside (set_result v)
  result_outside v = record { commutes = λ s i l. refl; inputs = λ s. refl; locks = λ s. refl }

  pub static_outside : (c f : ℕ) (v : MVal) → IsOutside (set_static c f v)
  static_outside c f v =
      record { commutes = λ s i l. refl; inputs = λ s. refl; locks = λ s. refl }

  pub object_outside : (c : ℕ) (values : ℕ → MVal) → IsOutside (with_object c values)
  object_outside c values =
      record { commutes = λ s i l. refl; inputs = λ s. refl; locks = λ s. refl }

  -- a field of an object that is there
  abbrev written : ℕ → ℕ → ℕ → MVal → State → State
  written c n f v s =
      record s { fields = put s.fields c (put (s.fields c) n (put (s.fields c n) f v)) }

  pub field_outside : (c n f : ℕ) (v : MVal) → IsOutside (set_field c n f v)
  field_outside c n f v = record {
    commutes = λ s i l. by_test s i l (nat_lt n (s.births c));
    inputs = λ s. same_inputs s (nat_lt n (s.births c));
    locks = λ s. same_locks s (nat_lt n (s.births c));
  }
    where
      by_test : (s : State) (i : Lines) (l : List ℕ) (b : Bool)
          → (if b then written c n f v (other s i l) else other s i l)
          ≡ other (if b then written c n f v s else s) i l
      by_test s i l true = refl
      by_test s i l false = refl

      same_inputs : (s : State) (b : Bool)
          → (if b then written c n f v s else s).inputs ≡ s.inputs
      same_inputs s true = refl
      same_inputs s false = refl

      same_locks : (s : State) (b : Bool) → (if b then written c n f v s else s).locks ≡ s.locks
      same_locks s true = refl
      same_locks s false = refl

  -- such a change leaves the locals
  pub field_leaves : (c n f : ℕ) (v : MVal) (P : Known) (s : State) → P s.locals
      → P (set_field c n f v s).locals
  field_leaves c n f v P s p = by_test (nat_lt n (s.births c))
    where
      by_test : (b : Bool) → P (if b then written c n f v s else s).locals
      by_test true = p
      by_test false = p
