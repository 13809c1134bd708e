-- The table of a well-typed program is sound for each observer.
use Rattle.std.proofs.Common.{◌≡◌, ◌<◌, ℕ, ℤ, true, false, List, []}
use Rattle.std.proofs.Common.{Some, refl, ap, sym, ◌∙◌, subst, length, arith}
use Rattle.std.specs.Prelude.{map, slice_get, nat_lt}
use Rattle.std.specs.List.{AllByRecursion}
use Rattle.std.proofs.lemmas.Bool.{lt-ltb}
use Rattle.par_policy.specs.declared.clauses.Clause.{Clause}
use Rattle.par_typed.specs.declared.table.FieldInfo.{FieldInfo}
use Rattle.par_typed.specs.declared.table.ClassInfo.{ClassInfo}
use Rattle.par_program_laws.specs.Declares.{declares, channels_of, fields_of, birth_of}
use Rattle.par_program_laws.specs.Declares.{channel_of as channel_number, field_of as field_number}
use Rattle.par_program_laws.specs.TableNames.{AreNamesApart, HasOwnNames}
use Rattle.par_program_laws.specs.Births.{AreBirthsBelow, AreFieldsWritten, HasBirthBelow}
use Rattle.par_program_laws.specs.Births.{IsBornBelow}
use Rattle.par_typed_laws.specs.Tables.{IsInRange, ClassInRange, ChannelInRange, FieldInRange}
use Rattle.par_typed_laws.specs.Signatures.{HasBuiltIns}
use Rattle.par_values.specs.declared.run.Event.{Event}
use Rattle.par_values.specs.declared.run.Event.TheVariants.{Out, Set as SetEvent, Put, Born}
use Rattle.par_values.specs.declared.run.Val.{Val}
use Rattle.par_values.specs.declared.run.Val.TheVariants as shown
use Rattle.par_values.specs.declared.value.MVal.{MVal}
use Rattle.par_values.specs.declared.value.MVal.TheVariants as value
use Rattle.par_run_laws.specs.Names.{Name, Member, channel_named, field_named, made_named}
use Rattle.par_run_laws.specs.Values.{shown_value, shown_object}
use Rattle.par_alike.specs.Subject.{event_policy, policy_at, channel_policy}
use Rattle.par_alike.specs.Subject.{field_policy, of_class}
use Rattle.par_typed.specs.Members.{field_at}
use Rattle.par_program_laws.specs.BodyNames.{IsField}
use Rattle.par_alike.proofs.States.{Watch, HasPolicy, IsMade, Sees}
use Rattle.par_alike.proofs.States.{declared}
use Rattle.par_alike.proofs.Leaves.{Sound, Throws}
use Rattle.par_secure_laws.proofs.CallPoints.{method_is}
use Rattle.par_secure_laws.proofs.Tables.{all_at, found, channels_look, fields_look, classes_look}
use Rattle.par_secure_laws.proofs.Tables.{distinct_front, Channel, channel_is, Field, field_is}
use Rattle.par_secure_laws.proofs.Tables.{made_is, seen_in_range, built_in, method_below}
use Rattle.par_secure_laws.proofs.Tables.{method_in_range, own_field, one_place, named}

module _ (on : Watch) (range : IsInRange on.table) (apart : AreNamesApart on.table) where
  -- an event that tells of a class
  of_class_is : (c : ℕ) (class : ClassInfo) (said : ClassInfo → List Clause)
      → slice_get on.table.classes c ≡ Some class
      → of_class class.name said on.table.classes ≡ said class
  of_class_is c class said there =
      classes_look class.name said on.table.classes
      ∙ found (λ c. c.name) said [] on.table.classes c class apart.classes there

  -- the members of a class have names of their own
  own_names : (c : ℕ) (class : ClassInfo) → slice_get on.table.classes c ≡ Some class
      → HasOwnNames class
  own_names c class there = all_at HasOwnNames on.table.classes c class apart.members there

  -- its numbers are in range
  in_range : (c : ℕ) (class : ClassInfo) → slice_get on.table.classes c ≡ Some class
      → ClassInRange on.table class
  in_range c class there =
      all_at (ClassInRange on.table) on.table.classes c class range.classes there

  -- an event with the policy of a number that there is
  has_policy : (e : Event) (n p : ℕ) → event_policy on.table e ≡ policy_at on.table p → n ≡ p
      → p < length on.table.policies → HasPolicy on e n
  has_policy e n p policy is below =
      subst (λ n. HasPolicy on e n) (sym is)
      (record { policy = policy; seen = seen_in_range on.table.policies p on.observer below })

  -- ---- channels

  -- the number that is declared for a channel
  channel_declared : (c k : ℕ) (m : Member) (h : Channel on.table c k m)
      → (declared on).channel c k ≡ h.info.policy
  unfolding declares
  channel_declared c k m h = ap (λ o. channels_of o k) h.there ∙ ap (λ o. channel_number o) h.here

  -- the policy that its events have
  channel_said : (c k : ℕ) (m : Member) (h : Channel on.table c k m)
      → of_class h.class.name (λ c. channel_policy on.table h.info.name c.channels)
      on.table.classes ≡ policy_at on.table h.info.policy
  channel_said c k m h =
      of_class_is c h.class (λ c. channel_policy on.table h.info.name c.channels) h.there
      ∙ channels_look on.table h.info.name h.class.channels
      ∙ found (λ k. k.name) (λ k. policy_at on.table k.policy) [] h.class.channels k h.info
      (distinct_front (map (λ k. k.name) h.class.channels) (map (λ m. m.name) h.class.methods)
      (own_names c h.class h.there).callees) h.here

  out_policy : (c k : ℕ) (m : Member) → channel_named on.table c k ≡ Some m → (n : ℤ)
      → HasPolicy on (Out m.class m.name n) ((declared on).channel c k)
  out_policy c k m is n =
      let h = channel_is on.table c k m is in
      subst (λ m. HasPolicy on (Out m.class m.name n) ((declared on).channel c k)) h.member
      (has_policy (Out h.class.name h.info.name n) ((declared on).channel c k) h.info.policy
      (channel_said c k m h) (channel_declared c k m h)
      (all_at (ChannelInRange on.table) h.class.channels k h.info
      (in_range c h.class h.there).channels h.here))

  -- ---- fields

  -- the number that is declared for a field
  field_declared : (c f : ℕ) (class : ClassInfo) (info : FieldInfo)
      → slice_get on.table.classes c ≡ Some class → slice_get class.fields f ≡ Some info
      → (declared on).field c f ≡ info.policy
  unfolding declares
  field_declared c f class info there here =
      ap (λ o. fields_of o f) there ∙ ap (λ o. field_number o) here

  -- and for births
  birth_declared : (c : ℕ) (class : ClassInfo) → slice_get on.table.classes c ≡ Some class
      → (declared on).birth c ≡ class.birth
  unfolding declares
  birth_declared c class there = ap (λ o. birth_of o) there

  -- the policy that events of a field have
  field_said : (c f : ℕ) (m : Member) (h : Field on.table c f m)
      → of_class h.class.name (λ c. field_policy on.table h.info.name c.fields) on.table.classes
      ≡ policy_at on.table h.info.policy
  field_said c f m h =
      of_class_is c h.class (λ c. field_policy on.table h.info.name c.fields) h.there
      ∙ fields_look on.table h.info.name h.class.fields
      ∙ found (λ f. f.name) (λ f. policy_at on.table f.policy) [] h.class.fields f h.info
      (own_names c h.class h.there).fields h.here

  field_below : (c f : ℕ) (m : Member) (h : Field on.table c f m)
      → h.info.policy < length on.table.policies
  field_below c f m h =
      (all_at (FieldInRange on.table) h.class.fields f h.info (in_range c h.class h.there).fields
      h.here).1

  set_policy : (c f : ℕ) (m : Member) → field_named on.table c f ≡ Some m → (v : Val)
      → HasPolicy on (SetEvent m.class m.name v) ((declared on).field c f)
  set_policy c f m is v =
      let h = field_is on.table c f m is in
      subst (λ m. HasPolicy on (SetEvent m.class m.name v) ((declared on).field c f)) h.member
      (has_policy (SetEvent h.class.name h.info.name v) ((declared on).field c f) h.info.policy
      (field_said c f m h) (field_declared c f h.class h.info h.there h.here)
      (field_below c f m h))

  put_policy : (c f : ℕ) (m : Member) → field_named on.table c f ≡ Some m → (n : ℕ) (v : Val)
      → HasPolicy on (Put m.class n m.name v) ((declared on).field c f)
  put_policy c f m is n v =
      let h = field_is on.table c f m is in
      subst (λ m. HasPolicy on (Put m.class n m.name v) ((declared on).field c f)) h.member
      (has_policy (Put h.class.name n h.info.name v) ((declared on).field c f) h.info.policy
      (field_said c f m h) (field_declared c f h.class h.info h.there h.here)
      (field_below c f m h))

  -- ---- births

  born_policy : (c : ℕ) (name : Name) → made_named on.table c ≡ Some name → (n : ℕ)
      → HasPolicy on (Born name n) ((declared on).birth c)
  born_policy c name is n =
      let h = made_is on.table c name is in
      subst (λ z. HasPolicy on (Born z n) ((declared on).birth c)) h.named
      (has_policy (Born h.class.name n) ((declared on).birth c) h.class.birth
      (of_class_is c h.class (λ c. policy_at on.table c.birth) h.there)
      (birth_declared c h.class h.there) (in_range c h.class h.there).birth)

  -- who sees a field of objects sees their births
  births_seen : AreBirthsBelow on.table → AreFieldsWritten on.table → (c f : ℕ)
      → IsField false (field_at on.table c f) → Sees on ((declared on).field c f)
      → Sees on ((declared on).birth c)
  births_seen below written c f own seen =
      let h = own_field on.table c f own in
      let born = all_at (IsBornBelow on.table h.class.birth) h.class.fields f h.info
      (all_at (HasBirthBelow on.table) on.table.classes c h.class below h.there) h.here in
      let wrote : h.info.inferred ≡ false = all_at (λ f. f.inferred ≡ false) h.class.fields f
      h.info (all_at (λ c. AllByRecursion (λ f. f.inferred ≡ false) c.fields) on.table.classes c
      h.class written h.there) h.here in
      subst (λ n. Sees on n) (sym (birth_declared c h.class h.there))
      (born h.own wrote on.observer.actor on.observer.locks
      (subst (λ n. Sees on n) (field_declared c f h.class h.info h.there h.here) seen))

  -- ---- values

  -- an object is shown by the name of its class
  shown_ref : (c n : ℕ) (name : Name) → made_named on.table c ≡ Some name
      → shown_value on.table (value.Ref c n) ≡ shown.Ref name n
  shown_ref c n name is =
      ap (λ o. shown_object o n) (named on.table c name (made_is on.table c name is))

  -- objects that are shown alike are one
  same_object : (c n d m : ℕ) (one other : Name) → made_named on.table c ≡ Some one
      → made_named on.table d ≡ Some other → shown.Ref one n ≡ shown.Ref other m
      → value.Ref c n ≡ value.Ref d m
  same_object c n d m one other is is' e =
      let x = made_is on.table c one is in
      let y = made_is on.table d other is' in
      let names : one ≡ other = cc in
      let numbers : n ≡ m = cc in
      let classes : c ≡ d = one_place on.table.classes apart.classes c d x.class y.class x.there
      y.there (x.named ∙ names ∙ sym y.named) in
      ap (λ z. value.Ref z n) classes ∙ ap (value.Ref d) numbers

  -- so are values
  shown_alike : (u v : MVal) → IsMade on u → IsMade on v
      → shown_value on.table u ≡ shown_value on.table v → u ≡ v
  shown_alike (value.Int a) (value.Int b) i j e = cc
  shown_alike (value.Int a) value.Null i j e = absurd cc
  shown_alike (value.Int a) (value.Ref d m) i j e =
      let f : shown.Int a ≡ shown.Ref j.0 m = e ∙ shown_ref d m j.0 j.1 in absurd cc
  shown_alike value.Null (value.Int b) i j e = absurd cc
  shown_alike value.Null value.Null i j e = refl
  shown_alike value.Null (value.Ref d m) i j e =
      let f : shown.Null ≡ shown.Ref j.0 m = e ∙ shown_ref d m j.0 j.1 in absurd cc
  shown_alike (value.Ref c n) (value.Int b) i j e =
      let f : shown.Ref i.0 n ≡ shown.Int b = sym (shown_ref c n i.0 i.1) ∙ e in absurd cc
  shown_alike (value.Ref c n) value.Null i j e =
      let f : shown.Ref i.0 n ≡ shown.Null = sym (shown_ref c n i.0 i.1) ∙ e in absurd cc
  shown_alike (value.Ref c n) (value.Ref d m) i j e =
      same_object c n d m i.0 j.0 i.1 j.1
      (sym (shown_ref c n i.0 i.1) ∙ e ∙ shown_ref d m j.0 j.1)

  -- ---- exceptions

  -- what is declared to be thrown is of a class of the table
  thrown_there : (c k x p : ℕ) → Throws ((declared on).method c k).throws x p
      → nat_lt x (length on.table.classes) ≡ true
  thrown_there c k x p h =
      let there = subst (λ m. Throws m.throws x p) (method_is on c k) h in
      let below = method_below on.table _ x p
      (λ m e. method_in_range on.table range.classes c k m e) there in
      lt-ltb _ _ below

  -- the table is sound
  pub sound : HasBuiltIns on.table → AreBirthsBelow on.table → AreFieldsWritten on.table → Sound on
  sound built below written = record {
    out = out_policy;
    set = set_policy;
    put = put_policy;
    born = born_policy;
    arithmetic = built_in on.table built 0 (omega arith);
    throws = thrown_there;
    null_pointer = built_in on.table built 1 (omega arith);
    shows = shown_alike;
    births = births_seen below written;
  }
