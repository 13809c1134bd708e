-- What a parse of the programs' commands says of words.
use Rattle.std.proofs.Common.{◌≡◌, true, false, List, [], Option, Ok, refl}
use Rattle.std.proofs.Common.{sym, ap, subst, ◌∙◌, inl, inr}
use Rattle.std.specs.Option.{option_map_or}
use Rattle.std.specs.Prelude.{codes}
use Rattle.std.specs.Str.{bytes_eq}
use Rattle.clap.specs.Words.{App, FailsBy, HasKind, HasMatchesOf, IsAmong, fault_of}
use Rattle.clap.specs.Words.{first_value, found_of, is_simple, is_simple_and_free, kind_of}
use Rattle.clap.specs.Words.{matches_of, rows_of}
use Rattle.clap.specs.declared.error.Error.{Error}
use Rattle.clap.specs.declared.error.kind.ErrorKind.TheVariants.{OutOfMemory}
use Rattle.clap.specs.declared.parser.matches.ArgMatches.{ArgMatches}
use Rattle.clap.specs.declared.parser.matches.Found.{Found}
use Rattle.clap.proofs.WalkLemmas.{first_value-rows}
use Rattle.par_words.specs.declared.words.Which.{Which}
use Rattle.par_words.specs.declared.words.Which.TheVariants.{Compiler, Runner}
use Rattle.par_words.specs.declared.commands.Flag.{Flag}
use Rattle.par_words.specs.Commands.{Text, command_of, name_of, IsTaken, rows, has_flag}

-- both commands are simple, and no argument has a rule on another
simple : (which : Which) → is_simple (command_of which) ≡ true
simple Compiler = refl
simple Runner = refl

simple_and_free : (which : Which) → is_simple_and_free (command_of which) ≡ true
simple_and_free Compiler = refl
simple_and_free Runner = refl

module _ (which : Which) (a : App) (is : a ≡ command_of which) (words : List Text) where
  -- a parse that gives matches has no fault
  pub taken_so : (m : ArgMatches)
      → (is_simple_and_free a ≡ true → FailsBy (fault_of a words) (Ok m)) → IsTaken which words
  taken_so m kinds =
      ap (λ (b : App). fault_of b words) (sym is)
      ∙ kinds (ap is_simple_and_free is ∙ simple_and_free which)

  pub rows_so : (m : ArgMatches) → HasMatchesOf a words m → rows_of (found_of m) ≡ rows which words
  rows_so m has = (has (ap is_simple is ∙ simple which)).0 ∙ ap (λ (b : App). matches_of b words) is

  -- and one that fails has a fault, or memory is wanting
  pub refused_so : (e : Error) → (is_simple_and_free a ≡ true → HasKind (fault_of a words) e)
      → (kind_of e ≡ OutOfMemory → ⊥)
      → fault_of (command_of which) words ≡ [] → ⊥
  refused_so e kinds other none =
      let here : HasKind (fault_of a words) e =
      kinds (ap is_simple_and_free is ∙ simple_and_free which) in
      let nothing : fault_of a words ≡ [] = ap (λ (b : App). fault_of b words) is ∙ none in
      elim here [
        | inl memory ↦ other memory
        | inr among ↦ subst (IsAmong (kind_of e)) nothing among
      ]

-- whether a flag was found, by its first value
pub flag_so : (flag : Flag) (f : Found) (o : Option Text) → o ≡ first_value f (name_of flag)
    → option_map_or (λ text. bytes_eq text (codes "true")) o false ≡ has_flag (rows_of f) flag
flag_so flag f o is =
    ap (λ (x : Option Text). option_map_or (λ text. bytes_eq text (codes "true")) x false)
    (is ∙ first_value-rows f (name_of flag))
