-- What it means that a function reads some symbols of a grammar.
use Rattle.std.specs.Prelude.{◌≡◌, ◌≢◌, true, List, [], ◌∷◌, ◌++◌, Result, Ok, Err}
use Rattle.std.specs.Borrow.{Bor}
use Rattle.par_grammar.specs.par_lexer.declared.token.Token.{Token}
use Rattle.par_grammar.specs.declared.sort.Sort.{Sort}
use Rattle.par_grammar.specs.Sorts.{same, sort_of}
use Rattle.par_grammar.specs.Grammar.{Grammar, Symbols}
use Rattle.par_grammar.specs.Derivation.{Input, Fault, Syntax, TooDeep}
use Rattle.par_grammar.proofs.Total.{Founded}
use Rattle.par_grammar.proofs.Run.{run}
use Rattle.par_reader.specs.declared.cursor.Cursor.{Cursor}
use Rattle.par_reader.specs.declared.error.ParseError.{ParseError}
use Rattle.par_reader.specs.declared.error.ParseError.TheVariants as error

-- the input that a cursor stands before
abbrev pub input : {L : Type 0} → Cursor L → Input
input c = record { left = c.left.now; at = c.at; blocks = c.blocks; counted = c.counted }

-- the fault that an error tells; want of memory tells none
abbrev pub fault_of : ParseError → Fault
fault_of (error.Syntax n) = Syntax n
fault_of (error.TooDeep n) = TooDeep n
fault_of error.Memory = Syntax 0

module _ {Names Builders Values : Type 0} (g : Grammar Names Builders Values) (f : Founded g) where
  -- The derivation gets past the symbols, whatever is pending behind them and whatever values lie
  -- below old: what the answer shows stands in the place of old, and j is left.
  abbrev pub Passes : {A : Type 0} → Symbols Names Builders → List Values → (A → List Values)
      → Input → Result A ParseError → Input → Type 0
  Passes xs old show i (Ok a) j = (s : Symbols Names Builders) (vs : List Values)
      → run g f (xs ++ s) i (old ++ vs) ≡ run g f s j (show a ++ vs)
  Passes xs old show i (Err e) j = Unit {0}

  -- The derivation ends within the symbols, at the fault that is told.
  abbrev pub Fails : {A : Type 0} → Symbols Names Builders → List Values → Input
      → Result A ParseError → Type 0
  Fails xs old i (Ok a) = Unit {0}
  Fails xs old i (Err e) = e ≢ error.Memory → (s : Symbols Names Builders) (vs : List Values)
      → run g f (xs ++ s) i (old ++ vs) ≡ Err (fault_of e)

  -- The symbols are read from i on, over the values old: j is left, or a fault is told.
  pub record Reads {A : Type 0} (xs : Symbols Names Builders) (old : List Values)
      (show : A → List Values) (i : Input) (r : Result A ParseError) (j : Input) : Type 0 where
    pub ok : Passes xs old show i r j
    pub err : Fails xs old i r

  -- The symbols are read without a value, and cannot fail.
  abbrev pub Steps : Symbols Names Builders → Input → Input → Type 0
  Steps xs i j = (s : Symbols Names Builders) (vs : List Values)
      → run g f (xs ++ s) i vs ≡ run g f s j vs

-- no value
abbrev pub nothing : {Values : Type 0} → Unit {0} → List Values
nothing u = []

-- the token is of this sort
abbrev pub IsOf : Sort → Token → Type 0
IsOf k x = same (sort_of x.kind) k ≡ true

-- the value of a token that is kept
abbrev pub the_token : {Names Builders Values : Type 0} → Grammar Names Builders Values → Bor Token
    → List Values
the_token g x = g.read x.now ∷ []
