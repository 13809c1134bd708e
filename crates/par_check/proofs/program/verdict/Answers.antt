use Rattle.par_typed.specs.Shown.{bodies}
use Rattle.par_check.proofs.Judged.{verdict_told, kept_by_some, told_so}
use Rattle.par_check.proofs.program.verdict.Goals as goal

pub returns : goal.returns
returns c =
    let typed = c.args.typed.now in
    let told = told_so typed.table c.of-policies.result typed.bodies
    c.as_slice.result.now c.new-findings.result c.note_all_found.new.findings
    c.first.result c.of-policies.ensures c.as_slice.ensures c.new-findings.ensures
    c.first.ensures c.in_ok-note_all_found.ensures in
    record {
      judged = verdict_told typed.table (bodies typed.bodies) c.first.result told;
      kept = kept_by_some typed c.first.result c.requires.few told;
    }
