-- Channels go by their places among those of their direction, and keep their names.
use Rattle.std.proofs.Common.{◌≡◌, ℕ, zero, suc, ◌+◌, Bool, true, false, not, cond, if◌then◌else◌}
use Rattle.std.proofs.Common.{List, [], ◌∷◌, ◌++◌, Option, Some, None, map, length, take, slice_get}
use Rattle.std.proofs.Common.{option_map, count_by, refl, ap, sym, ◌∙◌, subst, arith}
use Rattle.std.proofs.lemmas.List.Sums.{sum_by-cons}
use Rattle.std.proofs.lemmas.List.{length-map}
use Rattle.std.proofs.lemmas.Option.{slice_get-map}
use Rattle.par_typed.specs.declared.table.ChannelInfo.{ChannelInfo}
use Rattle.par_typed.specs.declared.table.ClassInfo.{ClassInfo}
use Rattle.par_typed.specs.declared.table.Table.{Table}
use Rattle.par_typed.specs.Members.{channel_at, channels_in}
use Rattle.par_run_laws.specs.Names.{Name, channel_member, channel_of, channel_named}
use Rattle.par_erase.specs.Shown.{channel_info}
use Rattle.par_erase.specs.Erased.{erased_table, erased_class, erased_channels, inputs_among}
use Rattle.par_erase.specs.Erased.{outputs_among, input_place, output_place, inputs_in}
use Rattle.par_erase.proofs.Bodies.{inputs_counted}
use Rattle.par_code_laws.proofs.Names.{class_there}

-- ---- a list, and those of its items that pass a test

-- one where a test passes
abbrev one_if : Bool → ℕ
one_if b = cond b 1 0

passed : (b : Bool) → b ≡ true → one_if b ≡ suc zero
passed true e = refl
passed false e = absurd cc

module _ (passes : ChannelInfo → Bool) where
  -- how many of the first channels pass
  abbrev place : List ChannelInfo → ℕ → ℕ
  place cs k = count_by passes (take k cs)

  -- the names of those that pass
  abbrev among : List ChannelInfo → List Name
  among [] = []
  among (c ∷ cs) = if passes c then c.name ∷ among cs else among cs

  -- one more in front
  place_behind : (c : ChannelInfo) (cs : List ChannelInfo) (k : ℕ)
      → place (c ∷ cs) (suc k) ≡ one_if (passes c) + place cs k
  place_behind c cs k = sum_by-cons (λ channel. cond (passes channel) 1 0) c (take k cs)

  -- a channel that passes has its name at its place
  found : (cs : List ChannelInfo) (k : ℕ) (x : ChannelInfo) → slice_get cs k ≡ Some x
      → passes x ≡ true → slice_get (among cs) (place cs k) ≡ Some x.name
  found [] k x e h = absurd cc
  found (c ∷ cs) zero x e h =
      let is : c ≡ x = cc in
      subst (λ b. slice_get (if b then c.name ∷ among cs else among cs) 0 ≡ Some x.name)
      (sym (ap passes is ∙ h)) (ap (λ y. Some y.name) is)
  found (c ∷ cs) (suc k) x e h =
      let at : slice_get cs k ≡ Some x = e in
      ap (slice_get (among (c ∷ cs))) (place_behind c cs k)
      ∙ behind (passes c) (place cs k) (found cs k x at h)
    where
      behind : (b : Bool) (n : ℕ) → slice_get (among cs) n ≡ Some x.name
          → slice_get (if b then c.name ∷ among cs else among cs) (one_if b + n) ≡ Some x.name
      behind true n e = let one : 1 + n ≡ suc n = omega arith in
          ap (slice_get (c.name ∷ among cs)) one ∙ e
      behind false n e = let none : 0 + n ≡ n = omega arith in ap (slice_get (among cs)) none ∙ e

  -- two that pass have different places
  apart : (cs : List ChannelInfo) (k j : ℕ) (x y : ChannelInfo) → slice_get cs k ≡ Some x
      → passes x ≡ true → slice_get cs j ≡ Some y → passes y ≡ true → place cs k ≡ place cs j
      → k ≡ j
  apart [] k j x y e h f g same = absurd cc
  apart (c ∷ cs) zero zero x y e h f g same = refl
  apart (c ∷ cs) zero (suc j) x y e h f g same =
      let is : c ≡ x = cc in
      let one = passed (passes c) (ap passes is ∙ h) in
      let more = place_behind c cs j in
      let first : place (c ∷ cs) 0 ≡ 0 = refl in
      absurd (omega (arith, one, more, first, same))
  apart (c ∷ cs) (suc k) zero x y e h f g same =
      let is : c ≡ y = cc in
      let one = passed (passes c) (ap passes is ∙ g) in
      let more = place_behind c cs k in
      let first : place (c ∷ cs) 0 ≡ 0 = refl in
      absurd (omega (arith, one, more, first, same))
  apart (c ∷ cs) (suc k) (suc j) x y e h f g same =
      let left = place_behind c cs k in
      let right = place_behind c cs j in
      let at : slice_get cs k ≡ Some x = e in
      let there : slice_get cs j ≡ Some y = f in
      ap suc (apart cs k j x y at h there g (omega (arith, left, right, same)))

-- what goes in, and what goes out
inputs_pass : (cs : List ChannelInfo) → inputs_among cs ≡ among (λ c. c.is_input) cs
inputs_pass [] = refl
inputs_pass (c ∷ cs) =
    ap (λ names. if c.is_input then c.name ∷ names else names) (inputs_pass cs)

outputs_pass : (cs : List ChannelInfo) → outputs_among cs ≡ among (λ c. not c.is_input) cs
outputs_pass [] = refl
outputs_pass (c ∷ cs) =
    ap (λ names. if c.is_input then names else c.name ∷ names) (outputs_pass cs)
    ∙ turned c.is_input (among (λ c. not c.is_input) cs)
    (c.name ∷ among (λ c. not c.is_input) cs)
  where
    turned : (b : Bool) (names more : List Name)
        → (if b then names else more) ≡ (if not b then more else names)
    turned true names more = refl
    turned false names more = refl

-- ---- a list in front of another one

front : {X : Type 0} (xs ys : List X) (i : ℕ) (x : X) → slice_get xs i ≡ Some x
    → slice_get (xs ++ ys) i ≡ Some x
front [] ys i x e = absurd cc
front (z ∷ xs) ys zero x e = e
front (z ∷ xs) ys (suc i) x e = front xs ys i x e

back : {X : Type 0} (xs ys : List X) (i : ℕ)
    → slice_get (xs ++ ys) (length xs + i) ≡ slice_get ys i
back [] ys i = let none : 0 + i ≡ i = omega arith in ap (slice_get ys) none
back (x ∷ xs) ys i =
    let one : length (x ∷ xs) + i ≡ suc (length xs + i) = omega arith in
    ap (slice_get (x ∷ (xs ++ ys))) one ∙ back xs ys i

-- ---- the channels of a class

input_there : (cs : List ChannelInfo) (k : ℕ) (x : ChannelInfo) → slice_get cs k ≡ Some x
    → x.is_input ≡ true
    → slice_get (erased_channels cs) (place (λ c. c.is_input) cs k)
    ≡ Some (channel_info true x.name)
input_there cs k x e h =
    front (map (channel_info true) (inputs_among cs)) (map (channel_info false) (outputs_among cs))
    (place (λ c. c.is_input) cs k) (channel_info true x.name)
    (slice_get-map (channel_info true) (inputs_among cs) (place (λ c. c.is_input) cs k)
    ∙ ap (option_map (channel_info true))
    (ap (λ names. slice_get names (place (λ c. c.is_input) cs k)) (inputs_pass cs)
    ∙ found (λ c. c.is_input) cs k x e h))

output_there : (cs : List ChannelInfo) (k : ℕ) (x : ChannelInfo) → slice_get cs k ≡ Some x
    → x.is_input ≡ false
    → slice_get (erased_channels cs)
    (count_by (λ c. c.is_input) cs + place (λ c. not c.is_input) cs k)
    ≡ Some (channel_info false x.name)
output_there cs k x e h =
    let ins = map (channel_info true) (inputs_among cs) in
    let outs = map (channel_info false) (outputs_among cs) in
    let at = place (λ c. not c.is_input) cs k in
    let many : length ins ≡ count_by (λ c. c.is_input) cs =
    length-map (inputs_among cs) (channel_info true) ∙ inputs_counted cs in
    ap (λ n. slice_get (ins ++ outs) (n + at)) (sym many) ∙ back ins outs at
    ∙ slice_get-map (channel_info false) (outputs_among cs) at
    ∙ ap (option_map (channel_info false))
    (ap (λ names. slice_get names at) (outputs_pass cs)
    ∙ found (λ c. not c.is_input) cs k x e (ap not h))

-- ---- the channels of a table

module _ (t : Table) where
  -- an input channel keeps its name
  pub same_input : (c k : ℕ) (x : ChannelInfo) → channel_at t c k ≡ Some x → x.is_input ≡ true
      → channel_named (erased_table t) c (input_place t c k) ≡ channel_named t c k
  same_input c k x e h =
      ap (λ o. channel_of o (input_place t c k)) (class_there t c)
      ∙ in_class (slice_get t.classes c) refl e
    where
      in_class : (o : Option ClassInfo) → slice_get t.classes c ≡ o
          → slice_get (channels_in o) k ≡ Some x
          → channel_of (option_map erased_class o) (input_place t c k) ≡ channel_of o k
      in_class None is e = absurd cc
      in_class (Some class) is e =
          let here : input_place t c k ≡ place (λ c. c.is_input) class.channels k =
          ap (λ o. place (λ c. c.is_input) (channels_in o) k) is in
          ap (λ n. channel_member class.name (slice_get (erased_channels class.channels) n)) here
          ∙ ap (channel_member class.name) (input_there class.channels k x e h)
          ∙ sym (ap (channel_member class.name) e)

  -- an output channel keeps its name
  pub same_output : (c k : ℕ) (x : ChannelInfo) → channel_at t c k ≡ Some x → x.is_input ≡ false
      → channel_named (erased_table t) c (inputs_in t c + output_place t c k) ≡ channel_named t c k
  same_output c k x e h =
      ap (λ o. channel_of o (inputs_in t c + output_place t c k)) (class_there t c)
      ∙ in_class (slice_get t.classes c) refl e
    where
      in_class : (o : Option ClassInfo) → slice_get t.classes c ≡ o
          → slice_get (channels_in o) k ≡ Some x
          → channel_of (option_map erased_class o) (inputs_in t c + output_place t c k)
          ≡ channel_of o k
      in_class None is e = absurd cc
      in_class (Some class) is e =
          let here : inputs_in t c + output_place t c k
          ≡ count_by (λ c. c.is_input) class.channels
          + place (λ c. not c.is_input) class.channels k =
          ap (λ o. count_by (λ c. c.is_input) (channels_in o)
          + place (λ c. not c.is_input) (channels_in o) k) is in
          ap (λ n. channel_member class.name (slice_get (erased_channels class.channels) n)) here
          ∙ ap (channel_member class.name) (output_there class.channels k x e h)
          ∙ sym (ap (channel_member class.name) e)

  -- two input channels of a class have different places
  pub inputs_apart : (c k j : ℕ) (x y : ChannelInfo) → channel_at t c k ≡ Some x
      → x.is_input ≡ true → channel_at t c j ≡ Some y → y.is_input ≡ true
      → input_place t c k ≡ input_place t c j → k ≡ j
  inputs_apart c k j x y e h f g same =
      apart (λ c. c.is_input) (channels_in (slice_get t.classes c)) k j x y e h f g same
