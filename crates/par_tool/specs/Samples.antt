-- What is said of samples.
use Rattle.std.specs.Prelude.{◌≡◌, ℕ, List, length}
use Rattle.par_sample.specs.Source.{source}
use Rattle.par_sample.specs.declared.summary.Summary.{Summary}
use Rattle.par_sample.specs.Counted.{summary_of}
use Rattle.par_typed.specs.declared.program.Typed.{Typed}
use Rattle.par_compile.specs.declared.compiled.CompiledClass.{CompiledClass}
use Rattle.par_tool.specs.declared.answer.Answer.{Answer}
use Rattle.par_tool.specs.declared.answer.Answer.TheVariants as answer
use Rattle.par_tool.specs.Sources.{IsSecureAs, AreClassesOf, IsUnaccepted}

-- The sample of this number is accepted, it has class files, and this is what it has in it.
pub record IsSummedUp (number : ℕ) (summary : Summary) : Type 0 where
  pub typed : Typed
  pub accepted : IsSecureAs (source number) typed
  pub classes : List CompiledClass
  pub compiled : AreClassesOf typed classes
  pub summary_is : summary ≡ summary_of number typed.table (length classes)

-- why the sample of a number ends with an answer
abbrev pub Sampled : ℕ → Answer → Type 0
Sampled number (answer.Sampled summary) = IsSummedUp number summary
Sampled number a = IsUnaccepted (source number) a
