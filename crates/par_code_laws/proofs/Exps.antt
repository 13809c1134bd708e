-- Expressions without policies.
use Rattle.std.proofs.Common.{◌≡◌, ℕ, zero, suc, Bool, true, false, not, cond}
use Rattle.std.proofs.Common.{if◌then◌else◌, List, [], ◌∷◌, ◌++◌, Some, None, map, refl, ap}
use Rattle.std.proofs.Common.{sym, ◌∙◌, subst, slice_get}
use Rattle.par_typed.specs.declared.table.MethodInfo.{MethodInfo}
use Rattle.par_typed.specs.declared.table.ParamInfo.{ParamInfo}
use Rattle.par_typed.specs.declared.table.Table.{Table}
use Rattle.par_typed.specs.Plain as plain
use Rattle.par_typed.specs.Plain.{TExp, TExps, MayTExp, mark}
use Rattle.par_values.specs.declared.run.Event.TheVariants.{Out, Born}
use Rattle.par_values.specs.declared.value.MVal.{MVal}
use Rattle.par_values.specs.declared.value.MVal.TheVariants as value
use Rattle.par_values.specs.Areas.{number_of, value_or_null}
use Rattle.par_values.specs.Arithmetic.{negated}
use Rattle.par_typed.specs.Members.{method_at}
use Rattle.par_program_laws.specs.Locals.{IsSet, arriving_sure}
use Rattle.par_program_laws.specs.Forms.{Setting, IsReceiver, AreArguments}
use Rattle.par_program_laws.specs.Proper.{ExpIsProper, MayExpIsProper, ExpsAreProper}
use Rattle.par_run_laws.specs.Names.{Name, made_name, made_named, channel_named, first_field}
use Rattle.par_run_laws.specs.State.{with_object}
use Rattle.par_run_laws.specs.Tasks.{Task, nothing, gives, fine, change, happens, named, and_then}
use Rattle.par_run_laws.specs.Tasks.{ARITHMETIC}
use Rattle.par_run_laws.specs.Values.{truth, is_true, object_number, decides, throws, applied}
use Rattle.par_run_laws.specs.Meaning.{outputs, born, Calls, calls, eval, eval_all}
use Rattle.par_erase.specs.Asked.{Locks}
use Rattle.par_erase.specs.Erased.{erased_table, erased_exp, erased_may, erased_args}
use Rattle.par_code_laws.proofs.Names.{same_made, same_first}
use Rattle.par_code_laws.proofs.Channels.{same_output}
use Rattle.par_code_laws.proofs.Tasks.{IsObject, Locals, Known, Does, does_of, does_given}
use Rattle.par_code_laws.proofs.Tasks.{does_gives, does_thrown, does_paid, does_read, does_change}
use Rattle.par_code_laws.proofs.Tasks.{does_happens, does_then, does_if, does_named, does_tested}
use Rattle.par_code_laws.proofs.Tasks.{does_enter, does_input, object_outside}

-- no expression is never null without its null test
pub erased_unsure : (t : Table) (e : TExp) → (mark (erased_exp t e)).sure ≡ false
unfolding erased_exp mark
erased_unsure t (plain.Int n m) = refl
erased_unsure t (plain.Boolean b m) = refl
erased_unsure t (plain.Null m) = refl
erased_unsure t (plain.This m) = refl
erased_unsure t (plain.New c m) = refl
erased_unsure t (plain.Local x m) = refl
erased_unsure t (plain.Static c f m) = refl
erased_unsure t (plain.Field e c f m) = refl
erased_unsure t (plain.Input c k m) = refl
erased_unsure t (plain.Output c k e m) = refl
erased_unsure t (plain.Call c k o es m) = refl
erased_unsure t (plain.Neg e m) = refl
erased_unsure t (plain.Not e m) = refl
erased_unsure t (plain.Binary op a b m) = refl

-- ---- arguments

-- those of these locals that are never null hold objects
abbrev pub Arrived : List Bool → Known
Arrived sures x = (j : ℕ) → slice_get sures j ≡ Some true → IsObject (x j)

-- values for locals of which some are never null
abbrev pub AreFit : List Bool → List MVal → Type 0
AreFit [] [] = Unit {0}
AreFit [] (v ∷ vs) = ⊥
AreFit (b ∷ bs) [] = ⊥
AreFit (b ∷ bs) (v ∷ vs) = (b ≡ true → IsObject v) × AreFit bs vs

arrived : (bs : List Bool) (vs : List MVal) → AreFit bs vs
    → Arrived bs (λ x. value_or_null (slice_get vs x))
arrived [] [] h j e = absurd cc
arrived [] (v ∷ vs) h j e = absurd h
arrived (b ∷ bs) [] h j e = absurd h
arrived (b ∷ bs) (v ∷ vs) h zero e = let is : b ≡ true = cc in h.0 is
arrived (b ∷ bs) (v ∷ vs) h (suc j) e = arrived bs vs h.1 j e

-- a method's receiver is there exactly where it is not static
without_receiver : (class : ℕ) (b : Bool) → IsReceiver class b plain.Absent → b ≡ true
without_receiver class true h = refl
without_receiver class false h = absurd h

with_receiver : (class : ℕ) (b : Bool) (e : TExp) → IsReceiver class b (plain.Present e) → b ≡ false
with_receiver class true e h = absurd h
with_receiver class false e h = refl

-- ---- calls

-- called bodies show the same, where what is never null has arrived
abbrev pub Pairs : Table → Locks → Calls → Calls → Type 0
Pairs t asked_for run run' =
    (c k : ℕ) (m : MethodInfo) → method_at t c k ≡ Some m
    → Does t asked_for (Arrived (arriving_sure m)) (λ v x. Unit {0}) (λ x. Unit {0}) (run c k)
    (run' c k)

does_call : (t : Table) (asked_for : Locks) (run run' : Calls) → Pairs t asked_for run run'
    → (P : Known) (N : MVal → Known) (c k : ℕ) (m : MethodInfo) → method_at t c k ≡ Some m
    → (vs : List MVal) → AreFit (arriving_sure m) vs → ((v : MVal) (x : Locals) → P x → N v x)
    → Does t asked_for P N P (calls run c k vs) (calls run' c k vs)
does_call t asked_for run run' pairs P N c k m there vs fit known =
    does_paid t asked_for P N P _ _
    (does_enter t asked_for P (Arrived (arriving_sure m)) N vs (run c k) (run' c k)
    (arrived (arriving_sure m) vs fit) known (pairs c k m there))

-- ---- objects

-- a new object whose fields hold these values
abbrev born_with : (ℕ → ℕ → MVal) → ℕ → Name → Task
born_with values c name rest s n =
    happens (Born name (s.births c))
    (change (with_object c (values c)) (gives (value.Ref c (s.births c)))) rest s n

same_born : (t : Table) (c : ℕ)
    → named (made_named (erased_table t) c) (born (erased_table t) c)
    ≡ named (made_named t c) (born t c)
same_born t c =
    ap (λ o. named o (born (erased_table t) c)) (same_made t c)
    ∙ ap (λ (values : ℕ → ℕ → MVal). named (made_named t c) (born_with values c)) (same_first t)

does_born : (t : Table) (asked_for : Locks) (P : Known) (N : MVal → Known) (O : Known) (c : ℕ)
    (name : Name) → ((n : ℕ) (x : Locals) → P x → N (value.Ref c n) x)
    → Does t asked_for P N O (born t c name) (born t c name)
does_born t asked_for P N O c name known = record {
  at =
      λ f g r. record {
        at =
            λ s i l n p a. ((does_happens t asked_for P N O (Born name (s.births c)) _ _
            (does_change t asked_for P P N O (with_object c (first_field t c)) _ _
            (object_outside t asked_for c (first_field t c)) (λ s p. p)
            (does_gives t asked_for P N O (value.Ref c (s.births c)) (known (s.births c))))).at
            f g r).at s i l n p a;
      };
}

-- an event of an output channel
does_output : (t : Table) (asked_for : Locks) (P : Known) (N : MVal → Known) (c k place : ℕ)
    (v : MVal) → channel_named (erased_table t) c place ≡ channel_named t c k
    → ((x : Locals) → P x → N nothing x)
    → Does t asked_for P N P (outputs t c k v) (outputs (erased_table t) c place v)
does_output t asked_for P N c k place v same known =
    subst (λ o. Does t asked_for P N P (outputs t c k v)
    (named o (λ m. happens (Out m.class m.name (number_of v)) fine))) (sym same)
    (does_named t asked_for P N P (channel_named t c k) _ (λ none. known)
    (λ m. does_happens t asked_for P N P _ _ _ (does_gives t asked_for P N P nothing known)))

module _ (st : Setting) (asked_for : Locks) where
  -- the locals that are set and never null hold objects
  abbrev pub Holds : List ℕ → Known
  Holds set x = (j : ℕ) → IsSet set j → slice_get st.sures j ≡ Some true → IsObject (x j)

  -- and so does a value that is never null
  abbrev pub Valued : List ℕ → Bool → MVal → Known
  Valued set sure v x = Holds set x × (sure ≡ true → IsObject v)

  unsure : (set : List ℕ) (sure : Bool) → sure ≡ false → (v : MVal) (x : Locals) → Holds set x
      → Valued set sure v x
  unsure set sure none v x h = (h, λ e. let bad : false ≡ true = sym none ∙ e in absurd cc)

  -- a value, and then the next task with what is known of it
  pub does_value : (set : List ℕ) (sure : Bool) (M : MVal → Known) (c d : Task)
      (next next' : MVal → Task)
      → Does st.table asked_for (Holds set) (Valued set sure) (Holds set) c d
      → ((v : MVal) → (sure ≡ true → IsObject v)
      → Does st.table asked_for (Holds set) M (Holds set) (next v) (next' v))
      → Does st.table asked_for (Holds set) M (Holds set) (and_then c next) (and_then d next')
  does_value set sure M c d next next' h k =
      does_then st.table asked_for (Holds set) (Valued set sure) M (Holds set) c d next next' h
      (λ v. does_given st.table asked_for (sure ≡ true → IsObject v) (Valued set sure v) M
      (Holds set) (next v) (next' v) (λ x p. p.1)
      (λ fact. does_of st.table asked_for (Valued set sure v) (Holds set) M M (Holds set)
      (Holds set) (next v) (next' v) (λ x p. p.0) (λ v x p. p) (λ x p. p) (k v fact)))

  module _ (run run' : Calls) (pairs : Pairs st.table asked_for run run') where
    mutual
      unfolding eval eval_all erased_exp erased_may erased_args ExpIsProper MayExpIsProper
          ExpsAreProper mark

      -- an expression gives the same, and one that is never null gives an object
      pub exp_does : (e : TExp) (set : List ℕ) → ExpIsProper st set e
          → Does st.table asked_for (Holds set) (Valued set (mark e).sure) (Holds set)
          (eval st.table run e) (eval (erased_table st.table) run' (erased_exp st.table e))
      exp_does (plain.Int n m) set p =
          does_paid st.table asked_for _ _ _ _ _
          (does_gives st.table asked_for _ _ _ (value.Int n) (unsure set m.sure p.1 (value.Int n)))
      exp_does (plain.Boolean b m) set p =
          does_paid st.table asked_for _ _ _ _ _
          (does_gives st.table asked_for _ _ _ (truth b) (unsure set m.sure p.1 (truth b)))
      exp_does (plain.Null m) set p =
          does_paid st.table asked_for _ _ _ _ _
          (does_gives st.table asked_for _ _ _ value.Null (unsure set m.sure p.1 value.Null))
      exp_does (plain.This m) set p =
          does_paid st.table asked_for _ _ _ _ _
          (does_read st.table asked_for (Holds set) (Valued set m.sure) (Holds set)
          (λ s. s.locals 0) (λ s i l. refl) (λ s h. (h, λ e. h 0 p.is_set p.local_sure)))
      exp_does (plain.New c m) set p =
          let there : made_named st.table c ≡ Some p.info.name =
          ap made_name p.there ∙ ap (λ b. if b then None else Some p.info.name) p.ordinary in
          does_paid st.table asked_for _ _ _ _ _
          (subst (λ d. Does st.table asked_for (Holds set) (Valued set m.sure) (Holds set)
          (named (made_named st.table c) (born st.table c)) d) (sym (same_born st.table c))
          (does_named st.table asked_for (Holds set) (Valued set m.sure) (Holds set)
          (made_named st.table c) (born st.table c) (λ none x h. absurd cc)
          (λ name. does_born st.table asked_for (Holds set) (Valued set m.sure) (Holds set) c name
          (λ n x h. (h, λ e. tt)))))
      exp_does (plain.Local x m) set p =
          does_paid st.table asked_for _ _ _ _ _
          (does_read st.table asked_for (Holds set) (Valued set m.sure) (Holds set)
          (λ s. s.locals x) (λ s i l. refl)
          (λ s h. (h, λ e. h x p.is_set (p.local_sure ∙ ap Some e))))
      exp_does (plain.Static c f m) set p =
          does_paid st.table asked_for _ _ _ _ _
          (does_read st.table asked_for (Holds set) (Valued set m.sure) (Holds set)
          (λ s. s.statics c f) (λ s i l. refl)
          (λ s h. unsure set m.sure p.marked.1 (s.statics c f) s.locals h))
      exp_does (plain.Field e c f m) set p =
          does_paid st.table asked_for _ _ _ _ _
          (does_value set (mark e).sure (Valued set m.sure) _ _ _ _ (exp_does e set p.2)
          (λ r object. does_tested st.table asked_for (Holds set) (Valued set m.sure) (mark e).sure
          (mark (erased_exp st.table e)).sure r _ _ (erased_unsure st.table e) object
          (λ is. does_read st.table asked_for (Holds set) (Valued set m.sure) (Holds set)
          (λ s. s.fields c (object_number r) f) (λ s i l. refl)
          (λ s h. unsure set m.sure p.1.marked.1 (s.fields c (object_number r) f) s.locals h))))
      exp_does (plain.Input c k m) set p =
          does_paid st.table asked_for _ _ _ _ _
          (does_input st.table asked_for (Holds set) (Valued set m.sure) (Holds set) c k p.0.info
          p.0.there p.0.kind (unsure set m.sure p.1.1))
      exp_does (plain.Output c k e m) set p =
          does_paid st.table asked_for _ _ _ _ _
          (does_value set (mark e).sure (Valued set m.sure) _ _ _ _ (exp_does e set p.3)
          (λ v object. does_output st.table asked_for (Holds set) (Valued set m.sure) c k _ v
          (same_output st.table c k p.0.info p.0.there p.0.kind)
          (unsure set m.sure p.1.1 nothing)))
      exp_does (plain.Call c k plain.Absent es m) set p =
          let static = without_receiver c p.0.info.is_static p.0.receiver in
          does_paid st.table asked_for _ _ _ _ _
          (args_do es p.0.info.params set p.0.arguments p.2 m.sure (calls run c k)
          (calls run' c k)
          (λ vs fit. does_call st.table asked_for run run' pairs (Holds set) (Valued set m.sure) c k
          p.0.info p.0.there vs
          (subst (λ b. AreFit (cond b [] (true ∷ []) ++ map (λ q. q.notnull) p.0.info.params) vs)
          (sym static) fit) (unsure set m.sure p.0.marked.1)))
      exp_does (plain.Call c k (plain.Present e) es m) set p =
          let instance = with_receiver c p.0.info.is_static e p.0.receiver in
          does_paid st.table asked_for _ _ _ _ _
          (does_value set (mark e).sure (Valued set m.sure) _ _ _ _ (exp_does e set p.1)
          (λ r object. args_do es p.0.info.params set p.0.arguments p.2 m.sure _ _
          (λ vs fit. does_tested st.table asked_for (Holds set) (Valued set m.sure) (mark e).sure
          (mark (erased_exp st.table e)).sure r _ _ (erased_unsure st.table e) object
          (λ is. does_call st.table asked_for run run' pairs (Holds set) (Valued set m.sure) c k
          p.0.info p.0.there (r ∷ vs)
          (subst
          (λ b. AreFit (cond b [] (true ∷ []) ++ map (λ q. q.notnull) p.0.info.params) (r ∷ vs))
          (sym instance) ((λ _. is), fit)) (unsure set m.sure p.0.marked.1)))))
      exp_does (plain.Neg e m) set p =
          does_paid st.table asked_for _ _ _ _ _
          (does_value set (mark e).sure (Valued set m.sure) _ _ _ _ (exp_does e set p.2)
          (λ v object. does_gives st.table asked_for (Holds set) (Valued set m.sure) (Holds set)
          (value.Int (negated (number_of v)))
          (unsure set m.sure p.0.1 (value.Int (negated (number_of v))))))
      exp_does (plain.Not e m) set p =
          does_paid st.table asked_for _ _ _ _ _
          (does_value set (mark e).sure (Valued set m.sure) _ _ _ _ (exp_does e set p.2)
          (λ v object. does_gives st.table asked_for (Holds set) (Valued set m.sure) (Holds set)
          (truth (not (is_true v))) (unsure set m.sure p.0.1 (truth (not (is_true v))))))
      exp_does (plain.Binary op a b m) set p =
          does_paid st.table asked_for _ _ _ _ _
          (does_value set (mark a).sure (Valued set m.sure) _ _ _ _ (exp_does a set p.2)
          (λ u object. does_if st.table asked_for (Holds set) (Valued set m.sure) (Holds set)
          (decides op u) _ _ _ _
          (does_gives st.table asked_for (Holds set) (Valued set m.sure) (Holds set) u
          (unsure set m.sure p.1 u))
          (does_value set (mark b).sure (Valued set m.sure) _ _ _ _ (exp_does b set p.3)
          (λ v other. does_if st.table asked_for (Holds set) (Valued set m.sure) (Holds set)
          (throws op v) _ _ _ _
          (does_thrown st.table asked_for (Holds set) (Valued set m.sure) ARITHMETIC nothing)
          (does_gives st.table asked_for (Holds set) (Valued set m.sure) (Holds set)
          (applied op u v) (unsure set m.sure p.1 (applied op u v)))))))

      -- arguments, and then the next tasks with their values
      pub args_do : (es : TExps) (ps : List ParamInfo) (set : List ℕ) → AreArguments ps es
          → ExpsAreProper st set es → (sure : Bool) (next next' : List MVal → Task)
          → ((vs : List MVal) → AreFit (map (λ q. q.notnull) ps) vs
          → Does st.table asked_for (Holds set) (Valued set sure) (Holds set) (next vs) (next' vs))
          → Does st.table asked_for (Holds set) (Valued set sure) (Holds set)
          (eval_all st.table run es next)
          (eval_all (erased_table st.table) run' (erased_args st.table es) next')
      args_do plain.NoExps [] set h p sure next next' k = k [] tt
      args_do plain.NoExps (q ∷ ps) set h p sure next next' k = absurd h
      args_do (plain.More e es) [] set h p sure next next' k = absurd h
      args_do (plain.More e es) (q ∷ ps) set h p sure next next' k =
          does_value set (mark e).sure (Valued set sure) _ _ _ _ (exp_does e set p.0)
          (λ v object. args_do es ps set h.1 p.1 sure (λ vs. next (v ∷ vs)) (λ vs. next' (v ∷ vs))
          (λ vs fit. k (v ∷ vs) ((λ never. object (h.0.sure never)), fit)))
