-- The checks of the bodies of a source are at places of its tree.
use Rattle.std.proofs.Common.{◌≤◌}
use Rattle.std.proofs.lemmas.List.Elements.{All-from_recursion, All-contains}
use Rattle.par_resolved.specs.Resolved.{table_of}
use Rattle.par_type_rules.specs.TypedBodies.{typed_program}
use Rattle.par_check_laws.specs.Asked.{Check}
use Rattle.par_check_laws.specs.Checks.{checks}
use Rattle.par_observer.specs.Spans.{BodyIn}
use Rattle.par_observer.specs.SpanLaw.{ChecksLieWithin}
use Rattle.par_observer.proofs.BodySpans.{program_in}
use Rattle.par_observer.proofs.TableSpans.{table_in}
use Rattle.par_observer.proofs.CheckSpans.{checks_in}

pub checks_lie : ChecksLieWithin
checks_lie m w tree h b among c asked =
    let bodies = typed_program w (table_of tree) tree in
    let body : BodyIn m b =
    All-contains (BodyIn m) bodies b
    (All-from_recursion (BodyIn m) bodies (program_in m w (table_of tree) tree h)) among in
    let told = checks_in m (table_of tree) b (table_in m tree h) body in
    All-contains (λ (d : Check). d.at ≤ m) (checks (table_of tree) b) c
    (All-from_recursion (λ (d : Check). d.at ≤ m) (checks (table_of tree) b) told) asked
