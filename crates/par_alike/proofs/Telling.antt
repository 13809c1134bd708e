-- The tests of an observer over the channels of a program, and what they test.
use Rattle.std.proofs.Common.{◌≡◌, Bool, true, false, cond, ◌&&◌, ◌↔◌, List, [], ◌∷◌, ◌++◌, map}
use Rattle.std.proofs.Common.{All, refl}
use Rattle.std.specs.Prelude.{IsTrue}
use Rattle.std.specs.List.{list_all, filter, flat_map}
use Rattle.std.specs.Bool.{Decides}
use Rattle.std.specs.Cmp.Lexicographic.{pointwise}
use Rattle.std.specs.Ordering.{int_eq}
use Rattle.std.proofs.lemmas.Bool.{and_parts, and_from, cond_both, false≢true}
use Rattle.std.proofs.lemmas.Bool.Decides.{Decides-int_eq}
use Rattle.std.proofs.lemmas.List.Elements.{All-nil, All-cons, All-head, All-tail, All-append}
use Rattle.std.proofs.lemmas.Slice.Eq.{slice_eq-Decides}
use Rattle.par_typed.specs.declared.table.ChannelInfo.{ChannelInfo}
use Rattle.par_typed.specs.declared.table.ClassInfo.{ClassInfo}
use Rattle.par_typed.specs.declared.table.Table.{Table}
use Rattle.par_typed.specs.declared.program.Typed.{Typed}
use Rattle.par_values.specs.declared.inputs.Inputs.{Inputs}
use Rattle.par_run_laws.specs.par_secrecy.Subject.{Name, InputChannel, given}
use Rattle.par_run_laws.specs.par_secrecy.Shown.{Observer, sees, Alike}
use Rattle.par_alike.specs.Subject.{policy_at, input_of, inputs_in, subject}
use Rattle.par_alike.specs.Tests.{channel_test, class_tests}

module _ (o : Observer) (a b : Inputs) (table : Table) where
  -- both inputs give an input channel the same where the observer sees it
  abbrev AlikeOn : InputChannel → Type 0
  AlikeOn k =
      IsTrue (sees o k.policy)
      → given a.channels k.class k.name ≡ given b.channels k.class k.name

  abbrev read_of : Name → ChannelInfo → InputChannel
  read_of class c = input_of table class c

  abbrev inputs_among : List ChannelInfo → List ChannelInfo
  inputs_among cs = filter (λ c. c.is_input) cs

  abbrev inputs_of : Name → List ChannelInfo → List InputChannel
  inputs_of class cs = map (read_of class) (inputs_among cs)

  abbrev GiveSame : Name → ChannelInfo → Type 0
  GiveSame class c = given a.channels class c.name ≡ given b.channels class c.name

  abbrev same_test : Name → ChannelInfo → Bool
  same_test class c =
      pointwise int_eq (given a.channels class c.name) (given b.channels class c.name)

  same_decides : (class : Name) (c : ChannelInfo) → Decides (same_test class c) (GiveSame class c)
  same_decides class c =
      slice_eq-Decides Decides-int_eq (given a.channels class c.name)
      (given b.channels class c.name) (same_test class c) refl

  abbrev asked : ChannelInfo → Bool
  asked c = c.is_input && sees o (policy_at table c.policy)

  where_asked : (t s : Bool) → IsTrue (cond t s true) → IsTrue t → IsTrue s
  where_asked true s h e = h
  where_asked false s h e = absurd (false≢true e)

  -- the test of a channel passes
  abbrev Passes : Name → ChannelInfo → Type 0
  Passes class c = IsTrue (channel_test a b table o class c)

  -- both inputs give it the same where it is an input that the observer sees
  abbrev IsAlike : Name → ChannelInfo → Type 0
  IsAlike class c = IsTrue c.is_input → AlikeOn (read_of class c)

  same_from_test : (class : Name) (c : ChannelInfo) → Passes class c → IsAlike class c
  same_from_test class c h is_input seen =
      let is_asked = and_from c.is_input _ is_input seen in
      (same_decides class c).0 (where_asked (asked c) (same_test class c) h is_asked)

  test_from_same : (class : Name) (c : ChannelInfo) → IsAlike class c → Passes class c
  test_from_same class c h =
      cond_both (asked c) (same_test class c) true IsTrue (λ e. same (and_parts c.is_input _ e))
      (λ e. refl)
    where
      same : IsTrue c.is_input × IsTrue (sees o (policy_at table c.policy))
          → IsTrue (same_test class c)
      same both = (same_decides class c).1 (h both.0 both.1)

  -- the inputs among some channels and one before them, where that is one or is not
  abbrev with_input : Bool → ChannelInfo → List ChannelInfo → List ChannelInfo
  with_input k c cs = cond k (c ∷ inputs_among cs) (inputs_among cs)

  -- one more channel, which counts where it is an input
  join : (class : Name) (c : ChannelInfo) (cs : List ChannelInfo) → IsAlike class c
      → All AlikeOn (inputs_of class cs) → All AlikeOn (inputs_of class (c ∷ cs))
  join class c cs = by_kind c.is_input
    where
      by_kind : (k : Bool) → (IsTrue k → AlikeOn (read_of class c))
          → All AlikeOn (inputs_of class cs) → All AlikeOn (map (read_of class) (with_input k c cs))
      by_kind true h rest = All-cons AlikeOn _ (inputs_of class cs) (h refl) rest
      by_kind false h rest = rest

  split : (class : Name) (c : ChannelInfo) (cs : List ChannelInfo)
      → All AlikeOn (inputs_of class (c ∷ cs))
      → IsAlike class c × All AlikeOn (inputs_of class cs)
  split class c cs = by_kind c.is_input
    where
      by_kind : (k : Bool) → All AlikeOn (map (read_of class) (with_input k c cs))
          → (IsTrue k → AlikeOn (read_of class c)) × All AlikeOn (inputs_of class cs)
      by_kind true h =
          let first = All-head AlikeOn _ (inputs_of class cs) h in
          ((λ e. first), All-tail AlikeOn _ (inputs_of class cs) h)
      by_kind false h = ((λ e. absurd (false≢true e)), h)

  -- the channels of a class
  class_from_tests : (class : Name) (cs : List ChannelInfo)
      → IsTrue (list_all (channel_test a b table o class) cs)
      → All AlikeOn (inputs_of class cs)
  class_from_tests class [] h = All-nil AlikeOn
  class_from_tests class (c ∷ cs) h =
      let both = and_parts (channel_test a b table o class c) _ h in
      join class c cs (same_from_test class c both.0) (class_from_tests class cs both.1)

  tests_from_class : (class : Name) (cs : List ChannelInfo) → All AlikeOn (inputs_of class cs)
      → IsTrue (list_all (channel_test a b table o class) cs)
  tests_from_class class [] h = refl
  tests_from_class class (c ∷ cs) h =
      let both = split class c cs h in
      and_from (channel_test a b table o class c) _ (test_from_same class c both.0)
      (tests_from_class class cs both.1)

  -- those of two rows of channels
  front : (xs ys : List InputChannel) → All AlikeOn (xs ++ ys) → All AlikeOn xs
  front [] ys h = All-nil AlikeOn
  front (x ∷ xs) ys h =
      All-cons AlikeOn x xs (All-head AlikeOn x (xs ++ ys) h)
      (front xs ys (All-tail AlikeOn x (xs ++ ys) h))

  behind : (xs ys : List InputChannel) → All AlikeOn (xs ++ ys) → All AlikeOn ys
  behind [] ys h = h
  behind (x ∷ xs) ys h = behind xs ys (All-tail AlikeOn x (xs ++ ys) h)

  all_from_tests : (classes : List ClassInfo) → IsTrue (list_all (class_tests a b table o) classes)
      → All AlikeOn (flat_map (inputs_in table) classes)
  all_from_tests [] h = All-nil AlikeOn
  all_from_tests (c ∷ cs) h =
      let both = and_parts (class_tests a b table o c) _ h in
      All-append AlikeOn (inputs_in table c) (flat_map (inputs_in table) cs)
      (class_from_tests c.name c.channels both.0) (all_from_tests cs both.1)

  tests_from_all : (classes : List ClassInfo) → All AlikeOn (flat_map (inputs_in table) classes)
      → IsTrue (list_all (class_tests a b table o) classes)
  tests_from_all [] h = refl
  tests_from_all (c ∷ cs) h =
      let here = front (inputs_in table c) (flat_map (inputs_in table) cs) h in
      let rest = behind (inputs_in table c) (flat_map (inputs_in table) cs) h in
      and_from (class_tests a b table o c) _ (tests_from_class c.name c.channels here)
      (tests_from_all cs rest)

pub alike_iff : (typed : Typed) (o : Observer) (a b : Inputs)
    → IsTrue (list_all (class_tests a b typed.table o) typed.table.classes)
    ↔ Alike (subject typed) o a b
alike_iff typed o a b =
    let classes = typed.table.classes in
    (all_from_tests o a b typed.table classes, tests_from_all o a b typed.table classes)
