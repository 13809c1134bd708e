-- What an accepted program has in it can be counted, and what is refused of a sample.
use Rattle.std.proofs.Common.{◌≡◌, ℕ, ◌≤◌, List, [], ◌∷◌, length, map, take, ap, subst}
use Rattle.std.proofs.Common.{arith}
use Rattle.std.specs.List.{AllByRecursion}
use Rattle.std.proofs.lemmas.List.{length-map, length-take}
use Rattle.par_typed.specs.declared.table.ClassInfo.{ClassInfo}
use Rattle.par_typed.specs.declared.table.Table.{Table}
use Rattle.par_sample.specs.Source.{source}
use Rattle.par_sample.specs.Counted.{BUILT_IN_CLASSES, IsSmallClass}
use Rattle.par_audit.specs.par_typed_laws.Limits.{IsLimitedClass}
use Rattle.par_audit.specs.par_typed_laws.Signatures.{kind_of, HasBuiltIns}
use Rattle.par_tool.specs.declared.answer.Answer.TheVariants.{Refused}
use Rattle.par_tool.specs.declared.reads.Failure.{Failure}
use Rattle.par_tool.specs.declared.reads.Failure.TheVariants.{Answered, Memory}
use Rattle.par_tool.specs.Failures.{IsFailure}
use Rattle.par_tool.specs.Outside.{Text}
use Rattle.par_tool.specs.Sources.{IsUnaccepted, IsBroken}
use Rattle.par_tool.specs.Samples.{Sampled}

pub small_classes : (classes : List ClassInfo) → AllByRecursion IsLimitedClass classes
    → AllByRecursion IsSmallClass classes
small_classes [] limited = tt
small_classes (c ∷ cs) limited = (
  let own : IsLimitedClass c = limited.0 in
      record { methods = own.methods; nodes = own.nodes },
  small_classes cs limited.1,
)

-- the classes that every program has are there
pub two_classes : (table : Table) → HasBuiltIns table → BUILT_IN_CLASSES ≤ length table.classes
two_classes table has =
    let first = take 2 table.classes in
    let two : length (map kind_of first) ≡ 2 = ap length has in
    let kept = length-map first kind_of in
    let few = length-take 2 table.classes in
    omega (arith, two, kept, few)

-- what is refused of the source that a sample is, is refused of the sample
pub unaccepted : (number : ℕ) (bytes : Text) → bytes ≡ source number → (failure : Failure)
    → IsFailure (IsUnaccepted bytes) failure → IsFailure (Sampled number) failure
unaccepted number bytes is (Answered (Refused rule line column limit count)) h =
    subst (λ (s : Text). IsBroken s rule line column limit count) is h
unaccepted number bytes is (Answered _) h = absurd h
unaccepted number bytes is Memory h = tt
