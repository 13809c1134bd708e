-- The declarations in the tree of a source stand in the order of its tokens.
use Rattle.std.proofs.Common.{◌≡◌, ℕ, zero, suc, ◌+◌, ◌<◌, ◌≤◌, Bool, true, false, List, [], ◌∷◌}
use Rattle.std.proofs.Common.{◌++◌, Option, Some, None, Ok, Err, refl, subst, map, if◌then◌else◌}
use Rattle.std.proofs.Common.{nat_le, arith}
use Rattle.par_lexer.specs.declared.token.Token.{Token}
use Rattle.par_names.specs.par_grammar.declared.sort.Sort.TheVariants.{End}
use Rattle.par_names.specs.par_grammar.Sorts.{same}
use Rattle.par_names.specs.par_grammar.Grammar.{token, kept, finish, counts, restarts, enters}
use Rattle.par_names.specs.par_grammar.Grammar.{leaves, name}
use Rattle.par_names.specs.par_grammar.Grammar.{builds, alternative}
use Rattle.par_names.specs.par_grammar.Derivation.{Input, next, Syntax, TooDeep, Outcome, State}
use Rattle.par_names.specs.par_grammar.Derivation.{Step, goes}
use Rattle.par_names.specs.par_grammar.Derivation.{ends, state, stops, takes, keeps, nests}
use Rattle.par_names.specs.par_grammar.Derivation.{replaces, step_by}
use Rattle.par_names.specs.par_grammar.Derivation.{step, Comes, last, more}
use Rattle.par_names.specs.par_tree.Plain.{Source}
use Rattle.par_names.specs.par_tree.Grammar.{Names, Builders, Symbols}
use Rattle.par_names.specs.par_tree.Grammar as g
use Rattle.par_names.specs.par_tree.Values.{Value, Values, tok, paragon}
use Rattle.par_names.specs.Declarations.{declared_classes}
use Rattle.par_source_laws.specs.Order.{IsInOrder}
use Rattle.par_source_laws.specs.Laws.{TreesAreInOrder}
use Rattle.par_source_laws.proofs.Tokens.{Follow, tokens_follow}
use Rattle.par_source_laws.proofs.Places.{Lies, ascends_from, class_place, SourceLies}
use Rattle.par_source_laws.proofs.Standing.{Stack, stack_further, small_builder, built_lies}
use Rattle.par_source_laws.proofs.Alternatives.{all_small, leads, is_opening, and_left, and_right}
use Rattle.par_source_laws.proofs.Alternatives.{small_front, leads_front, if_any, alternative_small}
use Rattle.par_source_laws.proofs.Alternatives.{alternative_leads}

-- before the first token none can be kept
abbrev Begun : ℕ → Symbols → Type 0
Begun zero s = leads s ≡ true
Begun (suc n) s = Unit {0}

-- what is pending, what is left and what is built where all tokens up to this place are taken
record Stands (hi : ℕ) (s : Symbols) (left : List Token) (vs : Values) : Type 0 where
  small : all_small s ≡ true
  begun : Begun hi s
  stack : Stack hi vs
  follow : Follow hi left

abbrev Built : Outcome Value → Type 0
Built (Ok built) = (hi : ℕ) × Stack hi built.0
Built (Err fault) = Unit {0}

abbrev IsKept : Step Names Builders Value → Type 0
IsKept (goes t) = (hi : ℕ) × Stands hi t.pending t.input.left t.values
IsKept (ends o) = Built o

-- ---- what is pending

begun_by : (hi : ℕ) (s r : Symbols) → (leads s ≡ true → leads r ≡ true) → Begun hi s → Begun hi r
begun_by zero s r f h = f h
begun_by (suc n) s r f h = tt

-- the rest stands as well, where no token is taken
rests : (hi : ℕ) (s r : Symbols) (left : List Token) (vs : Values)
    → (all_small s ≡ true → all_small r ≡ true)
    → (leads s ≡ true → leads r ≡ true) → Stands hi s left vs → Stands hi r left vs
rests hi s r left vs f g h =
    record
    { small = f h.small; begun = begun_by hi s r g h.begun; stack = h.stack; follow = h.follow }

-- a token that is kept is not the first
positive : (hi from : ℕ) (s : Symbols) → (leads s ≡ false) → Begun hi s → hi ≤ from → 0 < from
positive zero from s is h le = absurd (cc (is, h))
positive (suc n) from s is h le = omega (arith, le)

-- ---- steps

by_test : (b : Bool) (x y : Step Names Builders Value) → IsKept x → IsKept y
    → IsKept (if b then x else y)
by_test true x y p q = p
by_test false x y p q = q

takes_kept : (hi : ℕ) (s : Symbols) (i : Input) (vs : Values) (ts : List Token) → all_small s ≡ true
    → Stack hi vs → Follow hi ts
    → IsKept (takes s i vs ts)
takes_kept hi s i vs [] small stack follow = tt
takes_kept hi s i vs (x ∷ ts) small stack follow =
    let le : hi ≤ suc x.from = omega (arith, follow.0) in
    let further = stack_further hi (suc x.from) vs le stack in
    (suc x.from, record { small = small; begun = tt; stack = further; follow = follow.1 })

keeps_kept : (hi : ℕ) (s : Symbols) (i : Input) (vs : Values) (ts : List Token) → all_small s ≡ true
    → Stack hi vs → Follow hi ts
    → ((from : ℕ) → hi ≤ from → 0 < from) → IsKept (keeps tok s i vs ts)
keeps_kept hi s i vs [] small stack follow later = tt
keeps_kept hi s i vs (x ∷ ts) small stack follow later =
    let own : Lies hi (suc x.from) x.from = record {
      positive = later x.from follow.0;
      above = follow.0;
      below = omega arith;
    } in
    let le : hi ≤ suc x.from = omega (arith, follow.0) in
    let more : Stack (suc x.from) (tok x ∷ vs) = (hi, le, own, stack) in
    (suc x.from, record { small = small; begun = tt; stack = more; follow = follow.1 })

nests_kept : (hi : ℕ) (s : Symbols) (i : Input) (vs : Values) (ts : List Token)
    → Stands hi s i.left vs → IsKept (nests s i vs ts)
nests_kept hi s i vs [] h = tt
nests_kept hi s i vs (x ∷ ts) h =
    by_test (nat_le (i.blocks + i.counted) 64) (goes (state s i vs)) (stops (TooDeep i.at)) (hi, h)
    tt

replaces_kept : (hi : ℕ) (a : Option Symbols) (s : Symbols) (i : Input) (vs : Values)
    → if_any all_small a ≡ true
    → ((xs : Symbols) → a ≡ Some xs → all_small xs ≡ true → Stands hi (xs ++ s) i.left vs)
    → IsKept (replaces a s i vs)
replaces_kept hi None s i vs small f = tt
replaces_kept hi (Some xs) s i vs small f = (hi, f xs refl small)

named_kept : (hi : ℕ) (n : Names) (s : Symbols) (i : Input) (vs : Values)
    → Stands hi (name n ∷ s) i.left vs
    → IsKept (replaces (alternative paragon n (next i)) s i vs)
named_kept hi n s i vs h =
    replaces_kept hi (alternative paragon n (next i)) s i vs (alternative_small n (next i))
    (λ xs is small. record {
      small = small_front xs s small h.small;
      begun = begun_by hi (name n ∷ s) (xs ++ s) (opens xs is) h.begun;
      stack = h.stack;
      follow = h.follow;
    }) where
      opens : (xs : Symbols) → alternative paragon n (next i) ≡ Some xs → leads (name n ∷ s) ≡ true
          → leads (xs ++ s) ≡ true
      opens xs is k =
          leads_front xs s
          (subst (λ a. if_any leads a ≡ true) is
          (alternative_leads n (next i) (and_left (is_opening n) (leads s) k)))
          (and_right (is_opening n) (leads s) k)

step_kept : (hi : ℕ) (p : Symbols) (i : Input) (vs : Values) → Stands hi p i.left vs
    → IsKept (step_by paragon p i vs)
step_kept hi [] i vs h = (hi, h.stack)
step_kept hi (token k ∷ s) i vs h =
    by_test (same (next i) k) (takes s i vs i.left) (stops (Syntax i.at))
    (takes_kept hi s i vs i.left h.small h.stack h.follow) tt
step_kept hi (kept k ∷ s) i vs h =
    by_test (same (next i) k) (keeps tok s i vs i.left) (stops (Syntax i.at))
    (keeps_kept hi s i vs i.left h.small h.stack h.follow
    (λ from le. positive hi from (kept k ∷ s) refl h.begun le)) tt
step_kept hi (finish ∷ s) i vs h =
    by_test (same (next i) End) (goes (state s i vs)) (stops (Syntax i.at))
    (hi, rests hi (finish ∷ s) s i.left vs (λ k. k) (λ k. k) h) tt
step_kept hi (counts ∷ s) i vs h =
    nests_kept hi s (record i { counted = i.counted + 1 }) vs i.left
    (rests hi (counts ∷ s) s i.left vs (λ k. k) (λ k. k) h)
step_kept hi (restarts ∷ s) i vs h = (hi, rests hi (restarts ∷ s) s i.left vs (λ k. k) (λ k. k) h)
step_kept hi (enters ∷ s) i vs h =
    nests_kept hi s (record i { blocks = i.blocks + 1 }) vs i.left
    (rests hi (enters ∷ s) s i.left vs (λ k. k) (λ k. k) h)
step_kept hi (leaves ∷ s) i vs h = (hi, rests hi (leaves ∷ s) s i.left vs (λ k. k) (λ k. k) h)
step_kept hi (name n ∷ s) i vs h = named_kept hi n s i vs h
step_kept hi (builds b ∷ s) i vs h = (
  hi,
  record {
    small = and_right (small_builder b) (all_small s) h.small;
    begun = begun_by hi (builds b ∷ s) s (λ k. k) h.begun;
    stack = built_lies hi b vs (and_left (small_builder b) (all_small s) h.small) h.stack;
    follow = h.follow;
  },
)

-- by the steps of the derivation
comes_built : {s : State Names Builders Value} {o : Outcome Value} (hi : ℕ) → Comes paragon s o
    → Stands hi s.pending s.input.left s.values → Built o
unfolding step
comes_built {s = s} hi (last e) h = subst IsKept e (step_kept hi s.pending s.input s.values h)
comes_built {s = s} hi (more t e rest) h =
    let first = subst IsKept e (step_kept hi s.pending s.input s.values h) in
    comes_built first.0 rest first.1

in_order : (lo hi : ℕ) (tree : Source) → SourceLies lo hi tree → IsInOrder tree
in_order lo hi tree h = record {
  arities = h.arities;
  classes = ascends_from lo hi (map class_place (declared_classes tree)) h.classes;
  methods = h.methods;
  members = h.members;
  exceptions = h.exceptions;
}

pub trees_are_in_order : TreesAreInOrder
trees_are_in_order bytes tokens tree laid comes =
    let start : Stands 0 (name g.Program ∷ []) tokens [] = record {
      small = refl;
      begun = refl;
      stack = tt;
      follow = tokens_follow bytes tokens laid;
    } in
    let built = comes_built 0 comes.1 start in
    let own = built.1 in
    in_order own.0 built.0 tree own.2
