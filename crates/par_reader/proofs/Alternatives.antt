-- How a reader of a name is made of readers of its alternatives, and a loop of readers of its body.
use Rattle.std.proofs.Common.{◌≡◌, ◌≢◌, List, [], ◌∷◌, ◌++◌, Some, None, Result, Ok, Err, subst}
use Rattle.std.proofs.Common.{sym, ap, ◌∙◌}
use Rattle.std.proofs.lemmas.List.{append_assoc}
use Rattle.std.specs.Result.{IsErrAnd}
use Rattle.par_grammar.specs.Grammar.{Grammar, Symbols, name, builds, alternative}
use Rattle.par_grammar.specs.Derivation.{Input, next}
use Rattle.par_grammar.proofs.Total.{Founded}
use Rattle.par_grammar.proofs.Run.{run, run_name, run_no_name, run_builds}
use Rattle.par_reader.specs.declared.error.ParseError.{ParseError}
use Rattle.par_reader.specs.declared.error.ParseError.TheVariants as error
use Rattle.par_reader.specs.Reads.{Reads, fault_of}

module _ {Names Builders Values : Type 0} (g : Grammar Names Builders Values) (f : Founded g) where
  -- the derivation comes from symbols before i, over the values old, to symbols before j, over mid
  abbrev pub Leads : Symbols Names Builders → List Values → Input → Symbols Names Builders
      → List Values → Input → Type 0
  Leads xs old i ys mid j = (s : Symbols Names Builders) (vs : List Values)
      → run g f (xs ++ s) i (old ++ vs) ≡ run g f (ys ++ s) j (mid ++ vs)

  -- the derivation of the symbols comes to what the error tells
  abbrev pub FailsWith : Symbols Names Builders → List Values → Input → ParseError → Type 0
  FailsWith xs old i e = e ≢ error.Memory → (s : Symbols Names Builders) (vs : List Values)
      → run g f (xs ++ s) i (old ++ vs) ≡ Err (fault_of e)

  -- who reads what the symbols lead to reads the symbols
  pub continued : {A : Type 0} {xs : Symbols Names Builders}
      (ys : Symbols Names Builders) {old : List Values}
      (mid : List Values) {show : A → List Values} {i k j : Input} {r : Result A ParseError}
      → Leads xs old i ys mid k → Reads g f ys mid show k r j → Reads g f xs old show i r j
  continued ys mid {r = Ok a} leads read =
      record { ok = λ s vs. leads s vs ∙ read.ok s vs; err = tt }
  continued ys mid {r = Err e} leads read =
      record { ok = tt; err = λ told s vs. leads s vs ∙ read.err told s vs }

  -- who answers an error, where the derivation comes to what it tells, reads the symbols
  pub failing : {A : Type 0} {xs : Symbols Names Builders} {old : List Values}
      {show : A → List Values} {i j : Input} {r : Result A ParseError} {e : ParseError}
      → IsErrAnd r (λ y. y ≡ e) → FailsWith xs old i e → Reads g f xs old show i r j
  failing {r = Ok a} same fails = elim same [ ]
  failing {xs = xs} {old = old} {i = i} {r = Err y} same fails =
      record { ok = tt; err = subst (FailsWith xs old i) (sym same) fails }

  -- an error of a part to which the symbols lead is handed on
  pub handed : {A : Type 0} {xs : Symbols Names Builders}
      (ys : Symbols Names Builders) {old : List Values} (mid : List Values) (k : Input)
      {show : A → List Values} {i j : Input} {r : Result A ParseError} {e : ParseError}
      → IsErrAnd r (λ y. y ≡ e) → Leads xs old i ys mid k → FailsWith ys mid k e
      → Reads g f xs old show i r j
  handed ys mid k same leads fails = failing same (λ told s vs. leads s vs ∙ fails told s vs)

  -- a name is read by reading the alternative that the next token chooses
  pub opens : {A : Type 0} {n : Names} {ys : Symbols Names Builders} {old : List Values}
      {show : A → List Values} {i j : Input} {r : Result A ParseError}
      → alternative g n (next i) ≡ Some ys → Reads g f ys old show i r j
      → Reads g f (name n ∷ []) old show i r j
  opens {n = n} {ys = ys} {old = old} {i = i} e read =
      continued ys old (λ s vs. run_name g f s i (old ++ vs) n ys e) read

  -- where it chooses none, the fault stands at it
  pub refuses : {A : Type 0} {n : Names} {old : List Values} {show : A → List Values} {i j : Input}
      → alternative g n (next i) ≡ None
      → Reads g f (name n ∷ []) old show i (Err (error.Syntax i.at)) j
  refuses {n = n} {old = old} {i = i} e =
      record { ok = tt; err = λ told s vs. run_no_name g f s i (old ++ vs) n e }

  -- an alternative of nothing
  pub keeping : {A : Type 0} {old : List Values} {show : A → List Values} {i : Input} {a : A}
      → ((vs : List Values) → old ++ vs ≡ show a ++ vs) → Reads g f [] old show i (Ok a) i
  keeping {i = i} same = record { ok = λ s vs. ap (run g f s i) (same vs); err = tt }

  -- an alternative that only builds
  pub building : {A : Type 0} (b : Builders) {old : List Values} {show : A → List Values}
      {i : Input} {a : A}
      → ((vs : List Values) → g.built b (old ++ vs) ≡ show a ++ vs)
      → Reads g f (builds b ∷ []) old show i (Ok a) i
  building b {old = old} {i = i} made =
      record {
        ok =
            λ s vs. run_builds g f s i (old ++ vs) b ∙ ap (run g f s i) (made vs);
        err = tt;
      }

  -- A loop: an alternative that ends with its own name. When the part before is read, the name is
  -- pending again.
  opened : (n : Names) (ys : Symbols Names Builders) (i : Input)
      → alternative g n (next i) ≡ Some (ys ++ name n ∷ [])
      → (s : Symbols Names Builders) (vs : List Values)
      → run g f (name n ∷ s) i vs ≡ run g f (ys ++ name n ∷ s) i vs
  opened n ys i e s vs =
      run_name g f s i vs n (ys ++ name n ∷ []) e
      ∙ ap (λ xs. run g f xs i vs) (append_assoc ys (name n ∷ []) s)

  pub again : {A : Type 0} (n : Names) (ys : Symbols Names Builders)
      (old : List Values) {show : A → List Values} {i j : Input} {a : A}
      → alternative g n (next i) ≡ Some (ys ++ name n ∷ []) → Reads g f ys old show i (Ok a) j
      → Leads (name n ∷ []) old i (name n ∷ []) (show a) j
  again n ys old {i = i} e read s vs = opened n ys i e s (old ++ vs) ∙ read.ok (name n ∷ s) vs

  pub fails_again : {A : Type 0} (n : Names) (ys : Symbols Names Builders)
      (old : List Values) {show : A → List Values} {i j : Input} {y : ParseError}
      → alternative g n (next i) ≡ Some (ys ++ name n ∷ []) → Reads g f ys old show i (Err y) j
      → FailsWith (name n ∷ []) old i y
  fails_again n ys old {i = i} e read told s vs =
      opened n ys i e s (old ++ vs) ∙ read.err told (name n ∷ s) vs
