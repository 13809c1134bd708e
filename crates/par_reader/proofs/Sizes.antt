-- What a derivation builds is no larger than the tokens that it takes, where a kept token weighs 1
-- at most and no builder adds.
use Rattle.std.proofs.Common.{ℕ, ◌+◌, ◌≤◌, Bool, true, false, List, [], ◌∷◌, length, Option, Some}
use Rattle.std.proofs.Common.{None, Ok, Err, subst, arith, if◌then◌else◌, nat_le}
use Rattle.par_grammar.specs.par_lexer.declared.token.Token.{Token}
use Rattle.par_grammar.specs.declared.sort.Sort.TheVariants.{End}
use Rattle.par_grammar.specs.Sorts.{same}
use Rattle.par_grammar.specs.Grammar.{Symbols, token, kept, finish, counts, restarts, enters}
use Rattle.par_grammar.specs.Grammar.{leaves, name, builds, Grammar, alternative}
use Rattle.par_grammar.specs.Derivation.{Input, next, Syntax, TooDeep, Outcome, State, Step, goes}
use Rattle.par_grammar.specs.Derivation.{ends, state, stops, takes, keeps, nests, replaces, step_by}
use Rattle.par_grammar.specs.Derivation.{step, Comes, last, more}

module _ {Names Builders Values : Type 0} (g : Grammar Names Builders Values)
    (weight : Values → ℕ) where
  -- what some values weigh together
  abbrev pub total : List Values → ℕ
  total [] = 0
  total (v ∷ vs) = weight v + total vs

  -- Built values and tokens that are left are at most m together.
  abbrev pub Fits : ℕ → Outcome Values → Type 0
  Fits m (Ok built) = total built.0 + length built.1.left ≤ m
  Fits m (Err fault) = Unit {0}

  abbrev StepFits : ℕ → Step Names Builders Values → Type 0
  StepFits m (goes t) = total t.values + length t.input.left ≤ m
  StepFits m (ends o) = Fits m o

  fits_more : (m n : ℕ) (o : Outcome Values) → n ≤ m → Fits n o → Fits m o
  fits_more m n (Ok built) le fits = omega (arith, le, fits)
  fits_more m n (Err fault) le fits = tt

  module _ (token_weight : (x : Token) → weight (g.read x) ≤ 1)
      (built_weight : (b : Builders) (vs : List Values) → total (g.built b vs) ≤ total vs) where
    by_test : (m : ℕ) (b : Bool) (x y : Step Names Builders Values) → StepFits m x → StepFits m y
        → StepFits m (if b then x else y)
    by_test m true x y p q = p
    by_test m false x y p q = q

    takes_fits : (m : ℕ) (s : Symbols Names Builders) (i : Input) (vs : List Values)
        (ts : List Token) → total vs + length ts ≤ m → StepFits m (takes s i vs ts)
    takes_fits m s i vs [] h = tt
    takes_fits m s i vs (x ∷ ts) h = omega (arith, h)

    keeps_fits : (m : ℕ) (s : Symbols Names Builders) (i : Input) (vs : List Values)
        (ts : List Token) → total vs + length ts ≤ m → StepFits m (keeps g.read s i vs ts)
    keeps_fits m s i vs [] h = tt
    keeps_fits m s i vs (x ∷ ts) h = let one = token_weight x in omega (arith, h, one)

    nests_fits : (m : ℕ) (s : Symbols Names Builders) (i : Input) (vs : List Values)
        (ts : List Token) → total vs + length i.left ≤ m → StepFits m (nests s i vs ts)
    nests_fits m s i vs [] h = tt
    nests_fits m s i vs (x ∷ ts) h =
        by_test m (nat_le (i.blocks + i.counted) 64) (goes (state s i vs))
        (stops (TooDeep i.at)) h tt

    replaces_fits : (m : ℕ) (a : Option (Symbols Names Builders)) (s : Symbols Names Builders)
        (i : Input) (vs : List Values) → total vs + length i.left ≤ m
        → StepFits m (replaces a s i vs)
    replaces_fits m None s i vs h = tt
    replaces_fits m (Some ys) s i vs h = h

    step_fits : (p : Symbols Names Builders) (i : Input) (vs : List Values)
        → StepFits (total vs + length i.left) (step_by g p i vs)
    step_fits [] i vs = omega arith
    step_fits (token k ∷ s) i vs =
        by_test _ (same (next i) k) (takes s i vs i.left) (stops (Syntax i.at))
        (takes_fits _ s i vs i.left (omega arith)) tt
    step_fits (kept k ∷ s) i vs =
        by_test _ (same (next i) k) (keeps g.read s i vs i.left) (stops (Syntax i.at))
        (keeps_fits _ s i vs i.left (omega arith)) tt
    step_fits (finish ∷ s) i vs =
        by_test _ (same (next i) End) (goes (state s i vs)) (stops (Syntax i.at)) (omega arith) tt
    step_fits (counts ∷ s) i vs =
        nests_fits _ s (record i { counted = i.counted + 1 }) vs i.left (omega arith)
    step_fits (restarts ∷ s) i vs = omega arith
    step_fits (enters ∷ s) i vs =
        nests_fits _ s (record i { blocks = i.blocks + 1 }) vs i.left (omega arith)
    step_fits (leaves ∷ s) i vs = omega arith
    step_fits (name n ∷ s) i vs = replaces_fits _ (alternative g n (next i)) s i vs (omega arith)
    step_fits (builds b ∷ s) i vs = let no_more = built_weight b vs in omega (arith, no_more)

    -- by the steps of the derivation
    pub sized : {s : State Names Builders Values} {o : Outcome Values} → Comes g s o
        → Fits (total s.values + length s.input.left) o
    unfolding step
    sized {s = s} (last e) =
        subst (StepFits (total s.values + length s.input.left)) e
        (step_fits s.pending s.input s.values)
    sized {s = s} {o = o} (more t e rest) =
        let first =
        subst (StepFits (total s.values + length s.input.left)) e
        (step_fits s.pending s.input s.values) in
        fits_more _ (total t.values + length t.input.left) o first (sized rest)
