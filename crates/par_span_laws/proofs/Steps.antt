-- What holds of tokens holds of all that a derivation builds, where each builder keeps it.
use Rattle.std.proofs.Common.{◌+◌, Bool, true, false, List, [], ◌∷◌, Option, Some, None, Ok, Err}
use Rattle.std.proofs.Common.{subst, if◌then◌else◌, nat_le}
use Rattle.std.specs.List.{AllByRecursion}
use Rattle.par_typed.specs.par_lexer.declared.token.Token.{Token}
use Rattle.par_tree.specs.par_grammar.declared.sort.Sort.TheVariants.{End}
use Rattle.par_tree.specs.par_grammar.Sorts.{same}
use Rattle.par_tree.specs.par_grammar.Grammar.{Symbols, token, kept, finish, counts, restarts}
use Rattle.par_tree.specs.par_grammar.Grammar.{enters}
use Rattle.par_tree.specs.par_grammar.Grammar.{leaves, name, builds, Grammar, alternative}
use Rattle.par_tree.specs.par_grammar.Derivation.{Input, next, Syntax, TooDeep, Outcome, State}
use Rattle.par_tree.specs.par_grammar.Derivation.{Step, goes}
use Rattle.par_tree.specs.par_grammar.Derivation.{ends, state, stops, takes, keeps, nests, replaces}
use Rattle.par_tree.specs.par_grammar.Derivation.{step_by}
use Rattle.par_tree.specs.par_grammar.Derivation.{step, Comes, last, more}

module _ {Names Builders Values : Type 0} (g : Grammar Names Builders Values) (P : Values → Type 0)
    (Q : Token → Type 0) where
  abbrev pub Holds : Outcome Values → Type 0
  Holds (Ok built) = AllByRecursion P built.0
  Holds (Err fault) = Unit {0}

  abbrev StepHolds : Step Names Builders Values → Type 0
  StepHolds (goes t) = AllByRecursion P t.values × AllByRecursion Q t.input.left
  StepHolds (ends o) = Holds o

  module _ (read_holds : (x : Token) → Q x → P (g.read x))
      (built_holds : (b : Builders) (vs : List Values) → AllByRecursion P vs
      → AllByRecursion P (g.built b vs))
    where
      by_test : (b : Bool) (x y : Step Names Builders Values) → StepHolds x → StepHolds y
          → StepHolds (if b then x else y)
      by_test true x y p q = p
      by_test false x y p q = q

      takes_holds : (s : Symbols Names Builders) (i : Input) (vs : List Values) (ts : List Token)
          → AllByRecursion P vs → AllByRecursion Q ts → StepHolds (takes s i vs ts)
      takes_holds s i vs [] p q = tt
      takes_holds s i vs (x ∷ ts) p q = (p, q.1)

      keeps_holds : (s : Symbols Names Builders) (i : Input) (vs : List Values) (ts : List Token)
          → AllByRecursion P vs → AllByRecursion Q ts → StepHolds (keeps g.read s i vs ts)
      keeps_holds s i vs [] p q = tt
      keeps_holds s i vs (x ∷ ts) p q = ((read_holds x q.0, p), q.1)

      nests_holds : (s : Symbols Names Builders) (i : Input) (vs : List Values) (ts : List Token)
          → AllByRecursion P vs → AllByRecursion Q i.left → StepHolds (nests s i vs ts)
      nests_holds s i vs [] p q = tt
      nests_holds s i vs (x ∷ ts) p q =
          by_test (nat_le (i.blocks + i.counted) 64) (goes (state s i vs))
          (stops (TooDeep i.at)) (p, q) tt

      replaces_holds : (a : Option (Symbols Names Builders))
          (s : Symbols Names Builders) (i : Input)
          (vs : List Values) → AllByRecursion P vs → AllByRecursion Q i.left
          → StepHolds (replaces a s i vs)
      replaces_holds None s i vs p q = tt
      replaces_holds (Some ys) s i vs p q = (p, q)

      step_holds : (p : Symbols Names Builders) (i : Input) (vs : List Values) → AllByRecursion P vs
          → AllByRecursion Q i.left → StepHolds (step_by g p i vs)
      step_holds [] i vs p q = p
      step_holds (token k ∷ s) i vs p q =
          by_test (same (next i) k) (takes s i vs i.left) (stops (Syntax i.at))
          (takes_holds s i vs i.left p q) tt
      step_holds (kept k ∷ s) i vs p q =
          by_test (same (next i) k) (keeps g.read s i vs i.left) (stops (Syntax i.at))
          (keeps_holds s i vs i.left p q) tt
      step_holds (finish ∷ s) i vs p q =
          by_test (same (next i) End) (goes (state s i vs)) (stops (Syntax i.at)) (p, q) tt
      step_holds (counts ∷ s) i vs p q =
          nests_holds s (record i { counted = i.counted + 1 }) vs i.left p q
      step_holds (restarts ∷ s) i vs p q = (p, q)
      step_holds (enters ∷ s) i vs p q =
          nests_holds s (record i { blocks = i.blocks + 1 }) vs i.left p q
      step_holds (leaves ∷ s) i vs p q = (p, q)
      step_holds (name n ∷ s) i vs p q = replaces_holds (alternative g n (next i)) s i vs p q
      step_holds (builds b ∷ s) i vs p q = (built_holds b vs p, q)

      -- by the steps of the derivation
      pub holds : {s : State Names Builders Values} {o : Outcome Values} → Comes g s o
          → AllByRecursion P s.values → AllByRecursion Q s.input.left → Holds o
      unfolding step
      holds {s = s} (last e) p q = subst StepHolds e (step_holds s.pending s.input s.values p q)
      holds {s = s} (more t e rest) p q =
          let first = subst StepHolds e (step_holds s.pending s.input s.values p q) in
          holds rest first.0 first.1
