-- A reader of all that is pending tells what the derivation comes to.
use Rattle.std.proofs.Common.{◌≡◌, ◌≢◌, List, [], ◌++◌, Ok, Err, subst, ◌∙◌}
use Rattle.par_grammar.specs.Grammar.{Grammar, Symbols}
use Rattle.par_grammar.specs.Derivation.{Input, Outcome, state, Comes}
use Rattle.par_grammar.proofs.Total.{Founded}
use Rattle.par_grammar.proofs.Run.{run, comes_run, run_done}
use Rattle.par_reader.specs.declared.error.ParseError.{ParseError}
use Rattle.par_reader.specs.declared.error.ParseError.TheVariants as error
use Rattle.par_reader.specs.Reads.{Reads, fault_of}

module _ {Names Builders Values : Type 0} (g : Grammar Names Builders Values) (f : Founded g) where
  comes : (xs : Symbols Names Builders) (i : Input) (vs : List Values) (o : Outcome Values)
      → run g f xs i vs ≡ o → Comes g (state xs i vs) o
  comes xs i vs o e = subst (Comes g (state xs i vs)) e (comes_run g f xs i vs)

  -- it comes to the value that is shown, and to what is left
  pub comes_to : {A : Type 0} (xs : Symbols Names Builders) (show : A → List Values)
      (i j : Input) (a : A)
      → Reads g f xs [] show i (Ok a) j → Comes g (state (xs ++ []) i []) (Ok (show a ++ [], j))
  comes_to xs show i j a read =
      comes (xs ++ []) i [] (Ok (show a ++ [], j)) (read.ok [] [] ∙ run_done g f j (show a ++ []))

  -- it comes to the fault that is told
  pub comes_to_fault : {A : Type 0} (xs : Symbols Names Builders) (show : A → List Values)
      (i j : Input) (e : ParseError)
      → e ≢ error.Memory → Reads g f xs [] show i (Err e) j
      → Comes g (state (xs ++ []) i []) (Err (fault_of e))
  comes_to_fault xs show i j e told read =
      comes (xs ++ []) i [] (Err (fault_of e)) (read.err told [] [])
