-- What inputs and births leave behind.
use Rattle.std.proofs.Common.{◌≡◌, ℕ, ℤ, Bool, true, false, cond, ◌+◌, List, [], ◌∷◌, ◌++◌, map}
use Rattle.std.proofs.Common.{append_assoc, length, Option, Some, None, unwrap_or, if◌then◌else◌}
use Rattle.std.proofs.Common.{refl, ap, sym, ◌∙◌, subst, arith, ⊎_elim, ◌==◌, ◌&&◌}
use Rattle.std.specs.Prelude.{nat_lt, is_some}
use Rattle.std.proofs.Math.Path.{fun_ext}
use Rattle.std.proofs.lemmas.Bool.{cases_eq}
use Rattle.std.proofs.lemmas.Bool.Decides.{nat_tests}
use Rattle.par_values.specs.declared.run.Event.{Event}
use Rattle.par_values.specs.declared.run.Event.TheVariants.{Born, Set, Put}
use Rattle.par_values.specs.declared.run.Val.{Val}
use Rattle.par_values.specs.declared.value.MVal.{MVal}
use Rattle.par_values.specs.declared.value.MVal.TheVariants.{Int, Null, Ref}
use Rattle.par_values.specs.Areas as areas
use Rattle.par_secrecy.specs.Runs.{Run, with_first}
use Rattle.par_run_laws.specs.Meaning.{inputs, born}
use Rattle.par_run_laws.specs.Names.{Name, Member, first_field, channel_named}
use Rattle.par_run_laws.specs.Source.{given_to}
use Rattle.par_run_laws.specs.State.{State, put, with_object, set_static, set_field}
use Rattle.par_run_laws.specs.Tasks.{Normal, Rests, Task, change, gives, fine, happens, named}
use Rattle.par_run_laws.specs.Values.{shown_value, object_number}
use Rattle.par_meaning.specs.declared.work.Completion.TheVariants as normal
use Rattle.par_meaning.specs.declared.work.Then.{Then}
use Rattle.par_meaning.specs.declared.work.Then.TheVariants.{Ends}
use Rattle.par_meaning.specs.declared.run.SourceEvent.{SourceEvent}
use Rattle.par_meaning.specs.declared.machine.Machine.{Machine}
use Rattle.par_source_state.specs.Frame.{held as held_locals}
use Rattle.par_source_state.specs.Held.{Held, keep_input, bear, write_static, write_field}
use Rattle.par_source_state.specs.Held.{write_here}
use Rattle.par_source_state.specs.Stored.{holds}
use Rattle.par_meaning.specs.Work.{Setting, Follows}
use Rattle.par_meaning.specs.Onward.{state, state_of, behind, witnessed, goes_on, begins, told}
use Rattle.par_source_state.proofs.Puts.{put_here, put_other, put_two, put_three, below_is}

unwrapped : {A : Type 0} (b : Bool) (v d : A) (o : Option A) → unwrap_or (cond b (Some v) o) d
    ≡ cond b v (unwrap_or o d)
unwrapped true v d o = refl
unwrapped false v d o = refl

-- a value that is kept anew is what is read
read_put : {A : Type 0} (f : ℕ → ℕ → Option A) (g : ℕ → ℕ → A) (x y : ℕ) (v : A) (a b : ℕ)
    → unwrap_or (put f x (put (f x) y (Some v)) a b) (g a b)
    ≡ put (λ a b. unwrap_or (f a b) (g a b)) x (put (λ b. unwrap_or (f x b) (g x b)) y v) a b
read_put f g x y v a b =
    ap (λ o. unwrap_or o (g a b)) (sym (put_two f x y (Some v) a b))
    ∙ unwrapped (x == a && y == b) v (g a b) (f a b)
    ∙ put_two (λ a b. unwrap_or (f a b) (g a b)) x y v a b

module _ (p : Setting) (locals : ℕ → MVal) (result : MVal) (h : Held) where
  -- the next number of an input channel is taken
  pub took : (c k n : ℕ) (ns ms : List ℤ) (v : MVal) (rest : Rests) (h' : Held) → h'
      ≡ keep_input c k ns h → (state p locals result h).inputs c k ≡ ms → ns ≡ areas.left ms → v
      ≡ Int (areas.next ms)
      → rest Normal v (state p locals result h') n ≡ inputs c k rest (state p locals result h) n
  took c k n ns ms v rest h' kept all rests first =
      let s = state p locals result h in
      ap (λ v. rest Normal v (state p locals result h') n)
      (first ∙ ap (λ ns. Int (areas.next ns)) (sym all))
      ∙ ap (λ h. rest Normal (Int (areas.next (s.inputs c k))) (state p locals result h) n) kept
      ∙ ap (λ (i : ℕ → ℕ → List ℤ). rest Normal (Int (areas.next (s.inputs c k)))
      (record s { inputs = i }) n)
      (fun_ext (λ a. fun_ext (λ b. read_put h.inputs
      (λ a b. given_to p.lines (channel_named p.table a b)) c k ns a b)))
      ∙ ap (λ (ns : List ℤ). rest Normal (Int (areas.next (s.inputs c k)))
      (record s { inputs = put s.inputs c (put (s.inputs c) k ns) }) n)
      (rests ∙ ap areas.left (sym all))

pub no_numbers : (ns : List ℤ) → length ns ≡ 0 → ns ≡ []
no_numbers [] e = refl
no_numbers (n ∷ ns) e = absurd (omega arith)

none_is : {A : Type 0} (o : Option A) (d : A) → is_some o ≡ false → unwrap_or o d ≡ d
none_is None d e = refl
none_is (Some v) d e = absurd cc

lt_next : (m b : ℕ) → (m ≡ b → ⊥) → nat_lt m (b + 1) ≡ nat_lt m b
lt_next m b apart = grind (arith, nat_tests)

module _ (births : ℕ → ℕ) (fields : ℕ → ℕ → ℕ → Option MVal) (first : ℕ → ℕ → MVal) (c : ℕ)
    (unborn : (f : ℕ) → is_some (fields c (births c) f) ≡ false) where
  -- a field of an object that is born
  held_field : ℕ → ℕ → ℕ → ℕ → MVal
  held_field b a m f = if nat_lt m b then unwrap_or (fields a m f) (first a f) else Null

  before : ℕ → ℕ → ℕ → MVal
  unfolding held_field
  before a m f = held_field (births a) a m f

  last_object : (m f : ℕ) → m ≡ births c → held_field (births c + 1) c m f ≡ first c f
  unfolding held_field
  last_object m f e =
      ap (λ (b : Bool). if b then unwrap_or (fields c m f) (first c f) else Null)
      (below_is m (births c + 1) (omega arith))
      ∙ none_is (fields c m f) (first c f)
      (subst (λ m. is_some (fields c m f) ≡ false) (sym e) (unborn f))

  of_class : (m f : ℕ) → held_field (births c + 1) c m f ≡ put (before c) (births c) (first c) m f
  unfolding held_field before
  of_class m f = ⊎_elim
      (λ (e : m ≡ births c). last_object m f e
      ∙ sym (ap (λ (g : ℕ → MVal). g f) (put_here (before c) (births c) (first c) m e)))
      (λ (apart : m ≡ births c → ⊥). ap (λ (b : Bool). if b then unwrap_or (fields c m f)
      (first c f) else Null) (lt_next m (births c) apart)
      ∙ sym (ap (λ (g : ℕ → MVal). g f) (put_other (before c) (births c) (first c) m apart)))
      (cases_eq m (births c))

  -- an object more, whose fields nobody wrote
  fields_with : (a m f : ℕ) → held_field (put births c (births c + 1) a) a m f
      ≡ put before c (put (before c) (births c) (first c)) a m f
  unfolding held_field before
  fields_with a m f = ⊎_elim
      (λ (e : a ≡ c). subst (λ a. held_field (put births c (births c + 1) a) a m f
      ≡ put before c (put (before c) (births c) (first c)) a m f) (sym e)
      (ap (λ b. held_field b c m f) (put_here births c (births c + 1) c refl) ∙ of_class m f
      ∙ sym (ap (λ (g : ℕ → ℕ → MVal). g m f)
      (put_here before c (put (before c) (births c) (first c)) c refl))))
      (λ (apart : a ≡ c → ⊥). ap (λ b. held_field b a m f)
      (put_other births c (births c + 1) a apart)
      ∙ sym (ap (λ (g : ℕ → ℕ → MVal). g m f)
      (put_other before c (put (before c) (births c) (first c)) a apart)))
      (cases_eq a c)

-- an object is born
pub bore : (p : Setting) (locals : ℕ → MVal) (result : MVal) (h : Held) (c n number : ℕ)
    (rest : Rests) (h' : Held) → h' ≡ bear c h → number ≡ h.births c
    → ((f : ℕ) → is_some (h.fields c (h.births c) f) ≡ false)
    → rest Normal (Ref c number) (state p locals result h') n
    ≡ change (with_object c (first_field p.table c)) (gives (Ref c (h.births c))) rest
    (state p locals result h) n
unfolding held_field before
bore p locals result h c n number rest h' is number_is unborn =
    let s = state p locals result h in
    ap (λ (k : ℕ). rest Normal (Ref c k) (state p locals result h') n) number_is
    ∙ ap (λ (h : Held). rest Normal (Ref c (s.births c)) (state p locals result h) n) is
    ∙ ap (λ (g : ℕ → ℕ → ℕ → MVal). rest Normal (Ref c (s.births c))
    (record s { births = put s.births c (s.births c + 1); fields = g }) n)
    (fun_ext (λ a. fun_ext (λ m. fun_ext
    (λ f. fields_with h.births h.fields (first_field p.table) c unborn a m f))))

-- a static field is written
wrote_static : (p : Setting) (locals : ℕ → MVal) (result : MVal) (h : Held) (c f : ℕ) (v : MVal)
    (n : ℕ) (rest : Rests) (h' : Held) → h' ≡ write_static c f v h
    → rest Normal Null (state p locals result h') n
    ≡ rest Normal Null (set_static c f v (state p locals result h)) n
wrote_static p locals result h c f v n rest h' is =
    let s = state p locals result h in
    ap (λ (h : Held). rest Normal Null (state p locals result h) n) is
    ∙ ap (λ (statics : ℕ → ℕ → MVal). rest Normal Null (record s { statics = statics }) n)
    (fun_ext (λ a. fun_ext (λ b. read_put h.statics (first_field p.table) c f v a b)))

module _ (births : ℕ → ℕ) (fields : ℕ → ℕ → ℕ → Option MVal) (first : ℕ → ℕ → MVal) where
  read_here : ℕ → ℕ → ℕ → MVal
  read_here a m b = if nat_lt m (births a) then unwrap_or (fields a m b) (first a b) else Null

  choice : (same there : Bool) (v x : MVal) → (same ≡ true → there ≡ true)
      → (if there then cond same v x else Null) ≡ cond same v (if there then x else Null)
  choice true true v x h = refl
  choice true false v x h = absurd (let e = h refl in cc)
  choice false true v x h = refl
  choice false false v x h = refl

  same_object : (c k f a m b : ℕ) → (c == a && k == m && f == b) ≡ true → nat_lt k (births c) ≡ true
      → nat_lt m (births a) ≡ true
  same_object c k f a m b same there =
      let class : c ≡ a = grind (arith, nat_tests) in
      let number : k ≡ m = grind (arith, nat_tests) in
      ap (λ c. nat_lt m (births c)) (sym class) ∙ ap (λ k. nat_lt k (births c)) (sym number) ∙ there

  -- a field of an object that is there is written
  written : (c k f : ℕ) (v : MVal) → nat_lt k (births c) ≡ true → (a m b : ℕ)
      → (if nat_lt m (births a) then unwrap_or
      (put fields c (put (fields c) k (put (fields c k) f (Some v))) a m b) (first a b) else Null)
      ≡ put read_here c (put (read_here c) k (put (read_here c k) f v)) a m b
  unfolding read_here
  written c k f v there a m b =
      let same = c == a && k == m && f == b in
      ap (λ (o : Option MVal). if nat_lt m (births a) then unwrap_or o (first a b) else Null)
      (sym (put_three fields c k f (Some v) a m b))
      ∙ ap (λ (x : MVal). if nat_lt m (births a) then x else Null)
      (unwrapped same v (first a b) (fields a m b))
      ∙ choice same (nat_lt m (births a)) v (unwrap_or (fields a m b) (first a b))
      (λ e. same_object c k f a m b e there)
      ∙ put_three read_here c k f v a m b

-- a field of an object is written, where the object is there
wrote_field : (p : Setting) (locals : ℕ → MVal) (result : MVal) (h : Held) (c k f : ℕ) (v : MVal)
    (there : Bool) → nat_lt k (h.births c) ≡ there
    → state p locals result (if there then write_here c k f v h else h)
    ≡ (let s = state p locals result h in if there then record s
    { fields = put s.fields c (put (s.fields c) k (put (s.fields c k) f v)) } else s)
unfolding read_here
wrote_field p locals result h c k f v true there =
    let s = state p locals result h in
    ap (λ (fields : ℕ → ℕ → ℕ → MVal). record s { fields = fields })
    (fun_ext (λ a. fun_ext (λ m. fun_ext
    (λ b. written h.births h.fields (first_field p.table) c k f v there a m b))))
wrote_field p locals result h c k f v false there = refl

-- one event more
pub behind_more : (es : List SourceEvent) (e : SourceEvent) (run : Run) → behind (es ++ e ∷ []) run
    ≡ behind es (with_first (witnessed e) run)
behind_more es e run =
    ap (λ ws. record { events = ws ++ run.events; ending = run.ending }) (map_more es)
    ∙ ap (λ ws. record { events = ws; ending = run.ending })
    (append_assoc (map witnessed es) (witnessed e ∷ []) run.events)
  where
    map_more : (es : List SourceEvent) → map witnessed (es ++ e ∷ [])
        ≡ map witnessed es ++ witnessed e ∷ []
    map_more [] = refl
    map_more (x ∷ es) = ap (λ ws. witnessed x ∷ ws) (map_more es)

module _ (p : Setting) (rest : Follows) (n : ℕ) (old m : Machine) where
  -- what happens comes behind what has happened
  told_behind : (event : Event) (v : MVal) (store : Held) (task : Task) → m ≡ told event old
      → rest old.frames.below old.values Normal v
      (state p (held_locals old.frames.own) old.result store) n
      ≡ task (rest old.frames.below old.values) (state_of p old) n
      → behind m.events (rest m.frames.below m.values Normal v
      (state p (held_locals m.frames.own) m.result store) n)
      ≡ begins p rest old (happens event task) n
  told_behind event v store task is same =
      let w : SourceEvent = record { event = event; locks = (holds old.store).locks } in
      ap (λ (m : Machine). behind m.events
      (rest m.frames.below m.values Normal v (state p (held_locals m.frames.own) m.result store) n))
      is
      ∙ behind_more old.events w (rest old.frames.below old.values Normal v
      (state p (held_locals old.frames.own) old.result store) n)
      ∙ ap (λ run. behind old.events (with_first (witnessed w) run)) same

  pub born_told : (store : Held) (c number k : ℕ) (name : Name) (o : Option Name) (on : Then) → m
      ≡ told (Born name k) old → store ≡ bear c (holds m.store)
      → number ≡ (holds m.store).births c → k ≡ (holds old.store).births c → o ≡ Some name → on
      ≡ Ends (normal.Normal (Ref c number))
      → ((f : ℕ) → is_some ((holds old.store).fields c ((holds old.store).births c) f) ≡ false)
      → behind m.events (goes_on p rest on m.frames.below m.values
      (state p (held_locals m.frames.own) m.result store) n)
      ≡ begins p rest old (named o (born p.table c)) n
  born_told store c number k name o on is bears number_is k_is named_is on_is unborn =
      let task = change (with_object c (first_field p.table c))
      (gives (Ref c ((holds old.store).births c))) in
      ap (λ on. behind m.events (goes_on p rest on m.frames.below m.values
      (state p (held_locals m.frames.own) m.result store) n)) on_is
      ∙ told_behind (Born name k) (Ref c number) store task is
      (bore p (held_locals old.frames.own) old.result (holds old.store) c n number
      (rest old.frames.below old.values) store
      (bears ∙ ap (λ (m : Machine). bear c (holds m.store)) is)
      (number_is ∙ ap (λ (m : Machine). (holds m.store).births c) is) unborn)
      ∙ ap (λ k. begins p rest old (happens (Born name k) task) n) k_is
      ∙ ap (λ (o : Option Name). begins p rest old (named o (born p.table c)) n) (sym named_is)

  pub static_told : (store : Held) (c f : ℕ) (v : MVal) (class name : Name) (val : Val)
      (member : Member) (o : Option Member)
      → m ≡ told (Set class name val) old → store ≡ write_static c f v (holds m.store)
      → class ≡ member.class → name ≡ member.name → val ≡ shown_value p.table v → o ≡ Some member
      → behind m.events (rest m.frames.below m.values Normal Null
      (state p (held_locals m.frames.own) m.result store) n)
      ≡ begins p rest old (named o (λ m. happens (Set m.class m.name (shown_value p.table v))
      (change (set_static c f v) fine))) n
  static_told store c f v class name val member o is writes class_is name_is val_is named_is =
      let task = change (set_static c f v) fine in
      told_behind (Set class name val) Null store task is
      (wrote_static p (held_locals old.frames.own) old.result (holds old.store) c f v n
      (rest old.frames.below old.values) store
      (writes ∙ ap (λ (m : Machine). write_static c f v (holds m.store)) is))
      ∙ ap (λ class. begins p rest old (happens (Set class name val) task) n) class_is
      ∙ ap (λ name. begins p rest old (happens (Set member.class name val) task) n) name_is
      ∙ ap (λ val. begins p rest old (happens (Set member.class member.name val) task) n) val_is
      ∙ ap (λ (o : Option Member). begins p rest old
      (named o (λ m. happens (Set m.class m.name (shown_value p.table v)) task)) n) (sym named_is)

  pub field_told : (store : Held) (c f k : ℕ) (r v : MVal) (class name : Name) (val : Val)
      (member : Member) (o : Option Member)
      → m ≡ told (Put class k name val) old → store ≡ write_field c k f v (holds m.store) → k
      ≡ object_number r
      → class ≡ member.class → name ≡ member.name → val ≡ shown_value p.table v → o ≡ Some member
      → behind m.events (rest m.frames.below m.values Normal Null
      (state p (held_locals m.frames.own) m.result store) n)
      ≡ begins p rest old (named o (λ m. happens
      (Put m.class (object_number r) m.name (shown_value p.table v))
      (change (set_field c (object_number r) f v) fine))) n
  field_told store c f k r v class name val member o is writes k_is class_is name_is val_is named_is
      =
      let task : ℕ → Task = λ k. change (set_field c k f v) fine in
      let shows = shown_value p.table v in
      told_behind (Put class k name val) Null store (task k) is
      (ap (λ (h : Held). rest old.frames.below old.values Normal Null
      (state p (held_locals old.frames.own) old.result h) n)
      (writes ∙ ap (λ (m : Machine). write_field c k f v (holds m.store)) is)
      ∙ ap (λ (s : State). rest old.frames.below old.values Normal Null s n)
      (wrote_field p (held_locals old.frames.own) old.result (holds old.store) c k f v
      (nat_lt k ((holds old.store).births c)) refl))
      ∙ ap (λ k. begins p rest old (happens (Put class k name val) (task k)) n) k_is
      ∙ ap (λ class. begins p rest old (happens (Put class (object_number r) name val)
      (task (object_number r))) n) class_is
      ∙ ap (λ name. begins p rest old (happens (Put member.class (object_number r) name val)
      (task (object_number r))) n) name_is
      ∙ ap (λ val. begins p rest old (happens (Put member.class (object_number r) member.name val)
      (task (object_number r))) n) val_is
      ∙ ap (λ (o : Option Member). begins p rest old
      (named o (λ m. happens (Put m.class (object_number r) m.name shows) (task (object_number r))))
      n) (sym named_is)
