-- How two runs begin: the method `main`, and inputs that an observer cannot tell apart.
use Rattle.std.proofs.Common.{◌≡◌, ℕ, zero, suc, Bool, true, false, cond, List, [], ◌∷◌}
use Rattle.std.proofs.Common.{Option, Some, None, refl, ap, sym, ◌∙◌, subst, if◌then◌else◌}
use Rattle.std.specs.Prelude.{map, slice_get, IsTrue, All, Contains, codes}
use Rattle.std.specs.List.{filter, flat_map}
use Rattle.std.specs.Str.{bytes_eq}
use Rattle.std.proofs.lemmas.List.Elements.{All-contains, Contains-append_left}
use Rattle.std.proofs.lemmas.List.Elements.{Contains-append_right}
use Rattle.par_policy.specs.Numbers.{has}
use Rattle.par_policy.proofs.Ordered.{Contains-first, Contains-later}
use Rattle.par_typed.specs.declared.table.ChannelInfo.{ChannelInfo}
use Rattle.par_typed.specs.declared.table.MethodInfo.{MethodInfo}
use Rattle.par_typed.specs.declared.table.ClassInfo.{ClassInfo}
use Rattle.par_typed.specs.declared.program.Typed.{Typed}
use Rattle.par_program_laws.specs.Declares.{declares, method_of, channels_of}
use Rattle.par_program_laws.specs.Declares.{channel_of as channel_number}
use Rattle.par_typed_laws.specs.Tables.{IsInRange, ClassInRange, ChannelInRange}
use Rattle.par_typed_laws.specs.Beginning.{mains, HasMain}
use Rattle.par_values.specs.declared.inputs.Inputs.{Inputs}
use Rattle.par_secrecy.specs.Subject.{InputChannel, given}
use Rattle.par_secrecy.specs.Shown.{sees, Alike}
use Rattle.par_run_laws.specs.Names.{channel_named, channel_of, channel_member, place_of, main_of}
use Rattle.par_run_laws.specs.Names.{main_in}
use Rattle.par_run_laws.specs.Source.{given_to}
use Rattle.par_alike.specs.Subject.{input_of, inputs_in, input_channels, subject}
use Rattle.par_typed.specs.Members.{method_at, methods_in, channel_at, channels_in}
use Rattle.par_program_laws.specs.BodyNames.{IsChannel}
use Rattle.par_alike.specs.Watched.{IsThere}
use Rattle.par_alike.proofs.States.{Watch, Sees, declared}
use Rattle.par_secure_laws.proofs.CallPoints.{method_is}
use Rattle.par_secure_laws.proofs.Tables.{all_at, seen_in_range}

-- ---- the method `main`

-- the only method of the name is the first
first_main : (ms : List MethodInfo) (m : MethodInfo) → mains ms ≡ m ∷ []
    → slice_get ms (place_of (codes "main") ms) ≡ Some m
first_main [] m e = absurd cc
first_main (x ∷ xs) m e = by_name (bytes_eq x.name (codes "main")) e (λ h. first_main xs m h)
  where
    by_name : (b : Bool) → cond b (x ∷ mains xs) (mains xs) ≡ m ∷ []
        → (mains xs ≡ m ∷ [] → slice_get xs (place_of (codes "main") xs) ≡ Some m)
        → slice_get (x ∷ xs) (if b then 0 else suc (place_of (codes "main") xs)) ≡ Some m
    by_name true e h = let is : x ≡ m = cc in ap Some is
    by_name false e h = h e

-- in its class
main_found : (o : Option ClassInfo) (m : MethodInfo) → mains (methods_in o) ≡ m ∷ []
    → slice_get (methods_in o) (main_in o) ≡ Some m
main_found None m e = absurd cc
main_found (Some class) m e = first_main class.methods m e

module _ (on : Watch) (main : HasMain on.table) where
  -- the method `main` is there
  main_is : method_at on.table on.table.main (main_of on.table) ≡ Some main.0
  main_is = main_found (slice_get on.table.classes on.table.main) main.0 main.1.in_class

  pub main_there : IsThere (method_at on.table on.table.main (main_of on.table))
  main_there = subst IsThere (sym main_is) tt

  -- it expects no lock
  pub main_free : (l : ℕ)
      → IsTrue (((declared on).method on.table.main (main_of on.table)).expects l) → ⊥
  main_free l h =
      let own = subst (λ m. IsTrue (m.expects l)) (method_is on on.table.main (main_of on.table))
      h in
      let named = subst (λ o. IsTrue ((method_of o).expects l)) main_is own in
      let none : IsTrue (has [] l) = subst (λ ls. IsTrue (has ls l)) main.1.expects named in
      absurd cc

  -- it is static
  pub main_static : ((declared on).method on.table.main (main_of on.table)).is_static ≡ true
  main_static =
      ap (λ m. m.is_static) (method_is on on.table.main (main_of on.table))
      ∙ ap (λ o. (method_of o).is_static) main_is ∙ main.1.is_static

-- ---- inputs

abbrev inputs_among : List ChannelInfo → List ChannelInfo
inputs_among ks = filter (λ c. c.is_input) ks

-- an input channel among those of a class
contains_input : {A : Type 0} (f : ChannelInfo → A) (k : ChannelInfo) (ks : List ChannelInfo)
    (i : ℕ) → slice_get ks i ≡ Some k → k.is_input ≡ true
    → Contains (map f (inputs_among ks)) (f k)
contains_input f k [] i e h = absurd cc
contains_input f k (x ∷ xs) zero e h =
    let is : x ≡ k = cc in
    let input : x.is_input ≡ true = ap (λ c. c.is_input) is ∙ h in
    let rest = inputs_among xs in
    subst (λ b. Contains (map f (cond b (x ∷ rest) rest)) (f k)) (sym input)
    (subst (Contains (map f (x ∷ rest))) (ap f is) (Contains-first (f x) (map f rest)))
contains_input f k (x ∷ xs) (suc i) e h =
    let at : slice_get xs i ≡ Some k = e in kept x.is_input (contains_input f k xs i at h)
  where
    kept : (b : Bool) → Contains (map f (inputs_among xs)) (f k)
        → Contains (map f (cond b (x ∷ inputs_among xs) (inputs_among xs))) (f k)
    kept true i = Contains-later (f x) (map f (inputs_among xs)) (f k) i
    kept false i = i

-- what a class has is among what all have
contains_flat : {A B : Type 0} (f : A → List B) (xs : List A) (i : ℕ) (x : A) (y : B)
    → slice_get xs i ≡ Some x → Contains (f x) y → Contains (flat_map f xs) y
contains_flat f [] i x y e h = absurd cc
contains_flat f (z ∷ zs) zero x y e h =
    let is : z ≡ x = cc in
    Contains-append_left (f z) (flat_map f zs) y (subst (λ z. Contains (f z) y) (sym is) h)
contains_flat f (z ∷ zs) (suc i) x y e h =
    let at : slice_get zs i ≡ Some x = e in
    Contains-append_right (f z) (flat_map f zs) y (contains_flat f zs i x y at h)

-- an input channel by its numbers
record Input (on : Watch) (c k : ℕ) : Type 0 where
  class : ClassInfo
  there : slice_get on.table.classes c ≡ Some class
  info : ChannelInfo
  here : slice_get class.channels k ≡ Some info
  input : info.is_input ≡ true

-- a number of an input channel
input_is : (on : Watch) (c k : ℕ) → IsChannel true (channel_at on.table c k) → Input on c k
input_is on c k = in_class (slice_get on.table.classes c) refl
  where
    in_channels : (class : ClassInfo) → slice_get on.table.classes c ≡ Some class
        → (o : Option ChannelInfo) → slice_get class.channels k ≡ o → IsChannel true o
        → Input on c k
    in_channels class there None here h = absurd h
    in_channels class there (Some info) here h = record {
      class = class;
      there = there;
      info = info;
      here = here;
      input = h;
    }

    in_class : (o : Option ClassInfo) → slice_get on.table.classes c ≡ o
        → IsChannel true (slice_get (channels_in o) k) → Input on c k
    in_class None there h = absurd h
    in_class (Some class) there h = in_channels class there (slice_get class.channels k) refl h

module _ (typed : Typed) (on : Watch) (same : typed.table ≡ on.table) (range : IsInRange on.table)
    (one other : Inputs) (told : Alike (subject typed) on.observer one other) where
  -- the number of its policy
  input_declared : (c k : ℕ) (h : Input on c k) → (declared on).channel c k ≡ h.info.policy
  unfolding declares
  input_declared c k h = ap (λ o. channels_of o k) h.there ∙ ap (λ o. channel_number o) h.here

  -- its name
  input_named : (c k : ℕ) (h : Input on c k)
      → channel_named on.table c k ≡ Some (record { class = h.class.name; name = h.info.name })
  input_named c k h =
      ap (λ o. channel_of o k) h.there ∙ ap (λ o. channel_member h.class.name o) h.here

  -- inputs give the same to a channel that is seen
  told_of : (h : InputChannel) → Contains (input_channels on.table) h
      → IsTrue (sees on.observer h.policy)
      → given one.channels h.class h.name ≡ given other.channels h.class h.name
  told_of h there =
      All-contains
      (λ c. IsTrue (sees on.observer c.policy)
      → given one.channels c.class c.name ≡ given other.channels c.class c.name)
      (input_channels on.table) h
      (subst (λ t. All
      (λ c. IsTrue (sees on.observer c.policy)
      → given one.channels c.class c.name ≡ given other.channels c.class c.name)
      (input_channels t)) same told) there

  -- inputs that the observer cannot tell apart give the same to each channel that it sees
  pub alike : (c k : ℕ) → IsChannel true (channel_at on.table c k)
      → Sees on ((declared on).channel c k)
      → given_to one.channels (channel_named on.table c k) ≡ given_to other.channels
      (channel_named on.table c k)
  alike c k is seen =
      let h = input_is on c k is in
      let below = all_at (ChannelInRange on.table) h.class.channels k h.info
      (all_at (ClassInRange on.table) on.table.classes c h.class range.classes h.there).channels
      h.here in
      let visible = subst (λ n. Sees on n) (input_declared c k h) seen in
      let listed = contains_flat (inputs_in on.table) on.table.classes c h.class
      (input_of on.table h.class.name h.info) h.there
      (contains_input (input_of on.table h.class.name) h.info h.class.channels k h.here h.input)
      in
      subst (λ m. given_to one.channels m ≡ given_to other.channels m) (sym (input_named c k h))
      (told_of (input_of on.table h.class.name h.info) listed
      (subst IsTrue (sym (seen_in_range on.table.policies h.info.policy on.observer below))
      visible))
