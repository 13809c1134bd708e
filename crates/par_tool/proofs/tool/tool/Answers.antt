use Rattle.std.proofs.Common.{refl, subst, arith}
use Rattle.par_words.proofs.Asking.{asks_named, asks_few, asks_verified}
use Rattle.par_tool.specs.declared.reads.Failure.{Failure}
use Rattle.par_tool.specs.Answers.{BreaksOff}
use Rattle.par_tool.specs.Lines.{texts_of}
use Rattle.par_tool.proofs.Exact as exactly
use Rattle.par_tool.proofs.Calls.{words_end, check_ends, compile_ends, trace_ends, trace_fails}
use Rattle.par_tool.proofs.Calls.{run_ends, run_fails, audit_ends, audit_fails}
use Rattle.par_tool.proofs.Calls.{infer_ends, infer_fails, sample_ends, verify_ends}
use Rattle.par_tool.proofs.Faults.{outcome_said, failure_said}
use Rattle.par_tool.proofs.WrittenFiles.{complete}
use Rattle.par_tool.proofs.Safe.{safe}
use Rattle.par_tool.proofs.tool.tool.Goals as goal

pub started-requires : goal.started-requires
started-requires g c =
    let asks = rw c.in-Run.is at c.in-Ok.ensures in
    asks_named _ _ c.in-Run.main.now c.in-Run.inputs.now c.in-Run.steps asks

pub verify_class-requires : goal.verify_class-requires
verify_class-requires g c =
    let asks = rw c.in-Verify.is at c.in-Ok.ensures in
    asks_verified _ _ c.in-Verify.main.now asks

pub tell_run-requires : goal.tell_run-requires
tell_run-requires g c =
    let asks = rw c.in-Run.is at c.in-Ok.ensures in
    let few = asks_few _ _ c.in-Run.main.now c.in-Run.inputs.now c.in-Run.steps asks in
    let fresh = c.in-Ok-started.ensures.started.1.fresh in
    omega (arith, few, fresh)

pub returns-in-Err-clause-ends : goal.returns-in-Err-clause-ends
returns-in-Err-clause-ends g c =
    words_end _ _ _ _ _ _ _ _ c.in-Err.unread c.in-Err.ensures ((refl, refl), refl)
    (subst (λ (f : Failure). BreaksOff f c.break_off.result (g.S.Sink.held c.args.out.now)
    (g.S.Sink.held c.break_off.new.out) (g.S.Sink.counts c.args.out.now)
    (g.S.Sink.counts c.break_off.new.out)) c.into.ensures c.break_off.ensures.said)

pub returns-in-Check-clause-ends : goal.returns-in-Check-clause-ends
returns-in-Check-clause-ends g c =
    let asks = rw c.in-Check.is at c.in-Ok.ensures in
    check_ends _ _ _ _ _ _ _ _ c.in-Check.file.now c.check.result asks c.check.ensures.counted
    c.check.ensures.kept c.check.ensures.checked c.check.ensures.failed c.conclude.ensures.said

pub returns-in-Compile-clause-ends : goal.returns-in-Compile-clause-ends
returns-in-Compile-clause-ends g c =
    let asks = rw c.in-Compile.is at c.in-Ok.ensures in
    compile_ends _ _ _ _ _ _ _ _ c.in-Compile.file.now c.compile_file.result asks
    c.compile_file.ensures.compiled c.compile_file.ensures.failed c.compile_file.ensures.memory
    c.conclude-in-Compile.ensures.said

pub returns-in-Sample-clause-ends : goal.returns-in-Sample-clause-ends
returns-in-Sample-clause-ends g c =
    let asks = rw c.in-Sample.is at c.in-Ok.ensures in
    sample_ends _ _ _ _ _ _ _ _ c.in-Sample.number c.make_sample.result asks
    ((refl, refl), refl) c.make_sample.ensures.sampled c.make_sample.ensures.failed
    c.conclude-in-Sample.ensures.said

pub returns-in-Verify-clause-ends : goal.returns-in-Verify-clause-ends
returns-in-Verify-clause-ends g c =
    let asks = rw c.in-Verify.is at c.in-Ok.ensures in
    verify_ends _ _ _ _ _ _ _ _ c.in-Verify.main.now c.verify_class.result asks
    c.verify_class.ensures.kept c.verify_class.ensures.verified c.verify_class.ensures.failed
    c.verify_class.ensures.memory c.conclude-in-Verify.ensures.said

pub returns-in-Ok-trace_source-clause-ends : goal.returns-in-Ok-trace_source-clause-ends
returns-in-Ok-trace_source-clause-ends g c =
    let asks = rw c.in-Trace.is at c.in-Ok.ensures in
    trace_ends _ _ _ _ _ _ _ _ c.in-Trace.file.now c.in-Trace.inputs.now c.in-Trace.bound
    c.in-Ok-trace_source.traced.typed.table c.in-Ok-trace_source.traced.run asks
    c.in-Ok-trace_source.ensures.counted c.in-Ok-trace_source.ensures.kept
    c.in-Ok-trace_source.ensures.traced c.tell_trace.ensures.said

pub returns-in-Err-trace_source-clause-ends : goal.returns-in-Err-trace_source-clause-ends
returns-in-Err-trace_source-clause-ends g c =
    let asks = rw c.in-Trace.is at c.in-Ok.ensures in
    trace_fails _ _ _ _ _ _ _ _ c.in-Trace.file.now c.in-Trace.inputs.now c.in-Trace.bound
    c.in-Err-trace_source.failure asks c.in-Err-trace_source.ensures.kept
    c.in-Err-trace_source.ensures.failed c.in-Err-trace_source.ensures.memory
    c.break_off-in-Err-trace_source.ensures.said

pub returns-in-Ok-audit_source-clause-ends : goal.returns-in-Ok-audit_source-clause-ends
returns-in-Ok-audit_source-clause-ends g c =
    let asks = rw c.in-Audit.is at c.in-Ok.ensures in
    audit_ends _ _ _ _ _ _ _ _ c.in-Audit.actor.now c.in-Audit.file.now
    (texts_of c.in-Ok-audit_source.lines.items) asks
    c.in-Ok-audit_source.ensures.counted c.in-Ok-audit_source.ensures.kept
    c.in-Ok-audit_source.ensures.audited c.tell_all.ensures.said

pub returns-in-Err-audit_source-clause-ends : goal.returns-in-Err-audit_source-clause-ends
returns-in-Err-audit_source-clause-ends g c =
    let asks = rw c.in-Audit.is at c.in-Ok.ensures in
    audit_fails _ _ _ _ _ _ _ _ c.in-Audit.actor.now c.in-Audit.file.now
    c.in-Err-audit_source.failure asks c.in-Err-audit_source.ensures.counted
    c.in-Err-audit_source.ensures.kept c.in-Err-audit_source.ensures.failed
    c.break_off-in-Err-audit_source.ensures.said

pub returns-in-Ok-infer_source-clause-ends : goal.returns-in-Ok-infer_source-clause-ends
returns-in-Ok-infer_source-clause-ends g c =
    let asks = rw c.in-Infer.is at c.in-Ok.ensures in
    infer_ends _ _ _ _ _ _ _ _ c.in-Infer.file.now
    (texts_of c.in-Ok-infer_source.lines.items) asks
    c.in-Ok-infer_source.ensures.counted c.in-Ok-infer_source.ensures.kept
    c.in-Ok-infer_source.ensures.filled c.tell_all-in-Ok-infer_source.ensures.said

pub returns-in-Err-infer_source-clause-ends : goal.returns-in-Err-infer_source-clause-ends
returns-in-Err-infer_source-clause-ends g c =
    let asks = rw c.in-Infer.is at c.in-Ok.ensures in
    infer_fails _ _ _ _ _ _ _ _ c.in-Infer.file.now
    c.in-Err-infer_source.failure asks c.in-Err-infer_source.ensures.counted
    c.in-Err-infer_source.ensures.kept c.in-Err-infer_source.ensures.failed
    c.break_off-in-Err-infer_source.ensures.said

pub returns-in-Ok-started-clause-ends : goal.returns-in-Ok-started-clause-ends
returns-in-Ok-started-clause-ends g c =
    let asks = rw c.in-Run.is at c.in-Ok.ensures in
    run_ends _ _ _ _ _ _ _ _ c.in-Run.main.now c.in-Run.inputs.now c.in-Run.steps
    c.in-Ok-started.machine asks c.in-Ok-started.ensures.kept c.in-Ok-started.ensures.started
    c.tell_run.ensures.said

pub returns-in-Err-started-clause-ends : goal.returns-in-Err-started-clause-ends
returns-in-Err-started-clause-ends g c =
    let asks = rw c.in-Run.is at c.in-Ok.ensures in
    run_fails _ _ _ _ _ _ _ _ c.in-Run.main.now c.in-Run.inputs.now c.in-Run.steps
    c.in-Err-started.failure asks c.in-Err-started.ensures.kept c.in-Err-started.ensures.failed
    c.in-Err-started.ensures.memory c.break_off-in-Err-started.ensures.said

pub returns-in-Err-clause-usage : goal.returns-in-Err-clause-usage
returns-in-Err-clause-usage g c = exactly.usage _ _ _ _ _ _ _ _ (returns-in-Err-clause-ends g c)

pub returns-in-Check-clause-usage : goal.returns-in-Check-clause-usage
returns-in-Check-clause-usage g c = exactly.usage _ _ _ _ _ _ _ _ (returns-in-Check-clause-ends g c)

pub returns-in-Compile-clause-usage : goal.returns-in-Compile-clause-usage
returns-in-Compile-clause-usage g c =
    exactly.usage _ _ _ _ _ _ _ _ (returns-in-Compile-clause-ends g c)

pub returns-in-Sample-clause-usage : goal.returns-in-Sample-clause-usage
returns-in-Sample-clause-usage g c =
    exactly.usage _ _ _ _ _ _ _ _ (returns-in-Sample-clause-ends g c)

pub returns-in-Verify-clause-usage : goal.returns-in-Verify-clause-usage
returns-in-Verify-clause-usage g c =
    exactly.usage _ _ _ _ _ _ _ _ (returns-in-Verify-clause-ends g c)

pub returns-in-Ok-trace_source-clause-usage : goal.returns-in-Ok-trace_source-clause-usage
returns-in-Ok-trace_source-clause-usage g c =
    exactly.usage _ _ _ _ _ _ _ _ (returns-in-Ok-trace_source-clause-ends g c)

pub returns-in-Err-trace_source-clause-usage : goal.returns-in-Err-trace_source-clause-usage
returns-in-Err-trace_source-clause-usage g c =
    exactly.usage _ _ _ _ _ _ _ _ (returns-in-Err-trace_source-clause-ends g c)

pub returns-in-Ok-audit_source-clause-usage : goal.returns-in-Ok-audit_source-clause-usage
returns-in-Ok-audit_source-clause-usage g c =
    exactly.usage _ _ _ _ _ _ _ _ (returns-in-Ok-audit_source-clause-ends g c)

pub returns-in-Err-audit_source-clause-usage : goal.returns-in-Err-audit_source-clause-usage
returns-in-Err-audit_source-clause-usage g c =
    exactly.usage _ _ _ _ _ _ _ _ (returns-in-Err-audit_source-clause-ends g c)

pub returns-in-Ok-infer_source-clause-usage : goal.returns-in-Ok-infer_source-clause-usage
returns-in-Ok-infer_source-clause-usage g c =
    exactly.usage _ _ _ _ _ _ _ _ (returns-in-Ok-infer_source-clause-ends g c)

pub returns-in-Err-infer_source-clause-usage : goal.returns-in-Err-infer_source-clause-usage
returns-in-Err-infer_source-clause-usage g c =
    exactly.usage _ _ _ _ _ _ _ _ (returns-in-Err-infer_source-clause-ends g c)

pub returns-in-Ok-started-clause-usage : goal.returns-in-Ok-started-clause-usage
returns-in-Ok-started-clause-usage g c =
    exactly.usage _ _ _ _ _ _ _ _ (returns-in-Ok-started-clause-ends g c)

pub returns-in-Err-started-clause-usage : goal.returns-in-Err-started-clause-usage
returns-in-Err-started-clause-usage g c =
    exactly.usage _ _ _ _ _ _ _ _ (returns-in-Err-started-clause-ends g c)

pub returns-in-Err-clause-exact : goal.returns-in-Err-clause-exact
returns-in-Err-clause-exact g c = exactly.exact _ _ _ _ _ _ _ _ (returns-in-Err-clause-ends g c)

pub returns-in-Check-clause-exact : goal.returns-in-Check-clause-exact
returns-in-Check-clause-exact g c = exactly.exact _ _ _ _ _ _ _ _ (returns-in-Check-clause-ends g c)

pub returns-in-Compile-clause-exact : goal.returns-in-Compile-clause-exact
returns-in-Compile-clause-exact g c =
    exactly.exact _ _ _ _ _ _ _ _ (returns-in-Compile-clause-ends g c)

pub returns-in-Sample-clause-exact : goal.returns-in-Sample-clause-exact
returns-in-Sample-clause-exact g c =
    exactly.exact _ _ _ _ _ _ _ _ (returns-in-Sample-clause-ends g c)

pub returns-in-Verify-clause-exact : goal.returns-in-Verify-clause-exact
returns-in-Verify-clause-exact g c =
    exactly.exact _ _ _ _ _ _ _ _ (returns-in-Verify-clause-ends g c)

pub returns-in-Ok-trace_source-clause-exact : goal.returns-in-Ok-trace_source-clause-exact
returns-in-Ok-trace_source-clause-exact g c =
    exactly.exact _ _ _ _ _ _ _ _ (returns-in-Ok-trace_source-clause-ends g c)

pub returns-in-Err-trace_source-clause-exact : goal.returns-in-Err-trace_source-clause-exact
returns-in-Err-trace_source-clause-exact g c =
    exactly.exact _ _ _ _ _ _ _ _ (returns-in-Err-trace_source-clause-ends g c)

pub returns-in-Ok-audit_source-clause-exact : goal.returns-in-Ok-audit_source-clause-exact
returns-in-Ok-audit_source-clause-exact g c =
    exactly.exact _ _ _ _ _ _ _ _ (returns-in-Ok-audit_source-clause-ends g c)

pub returns-in-Err-audit_source-clause-exact : goal.returns-in-Err-audit_source-clause-exact
returns-in-Err-audit_source-clause-exact g c =
    exactly.exact _ _ _ _ _ _ _ _ (returns-in-Err-audit_source-clause-ends g c)

pub returns-in-Ok-infer_source-clause-exact : goal.returns-in-Ok-infer_source-clause-exact
returns-in-Ok-infer_source-clause-exact g c =
    exactly.exact _ _ _ _ _ _ _ _ (returns-in-Ok-infer_source-clause-ends g c)

pub returns-in-Err-infer_source-clause-exact : goal.returns-in-Err-infer_source-clause-exact
returns-in-Err-infer_source-clause-exact g c =
    exactly.exact _ _ _ _ _ _ _ _ (returns-in-Err-infer_source-clause-ends g c)

pub returns-in-Ok-started-clause-exact : goal.returns-in-Ok-started-clause-exact
returns-in-Ok-started-clause-exact g c =
    exactly.exact _ _ _ _ _ _ _ _ (returns-in-Ok-started-clause-ends g c)

pub returns-in-Err-started-clause-exact : goal.returns-in-Err-started-clause-exact
returns-in-Err-started-clause-exact g c =
    exactly.exact _ _ _ _ _ _ _ _ (returns-in-Err-started-clause-ends g c)

pub returns-in-Err-clause-complete : goal.returns-in-Err-clause-complete
returns-in-Err-clause-complete g c = complete _ _ _ _ _ _ _ _ (returns-in-Err-clause-ends g c)

pub returns-in-Check-clause-complete : goal.returns-in-Check-clause-complete
returns-in-Check-clause-complete g c = complete _ _ _ _ _ _ _ _ (returns-in-Check-clause-ends g c)

pub returns-in-Compile-clause-complete : goal.returns-in-Compile-clause-complete
returns-in-Compile-clause-complete g c =
    complete _ _ _ _ _ _ _ _ (returns-in-Compile-clause-ends g c)

pub returns-in-Sample-clause-complete : goal.returns-in-Sample-clause-complete
returns-in-Sample-clause-complete g c =
    complete _ _ _ _ _ _ _ _ (returns-in-Sample-clause-ends g c)

pub returns-in-Verify-clause-complete : goal.returns-in-Verify-clause-complete
returns-in-Verify-clause-complete g c =
    complete _ _ _ _ _ _ _ _ (returns-in-Verify-clause-ends g c)

pub returns-in-Ok-trace_source-clause-complete : goal.returns-in-Ok-trace_source-clause-complete
returns-in-Ok-trace_source-clause-complete g c =
    complete _ _ _ _ _ _ _ _ (returns-in-Ok-trace_source-clause-ends g c)

pub returns-in-Err-trace_source-clause-complete : goal.returns-in-Err-trace_source-clause-complete
returns-in-Err-trace_source-clause-complete g c =
    complete _ _ _ _ _ _ _ _ (returns-in-Err-trace_source-clause-ends g c)

pub returns-in-Ok-audit_source-clause-complete : goal.returns-in-Ok-audit_source-clause-complete
returns-in-Ok-audit_source-clause-complete g c =
    complete _ _ _ _ _ _ _ _ (returns-in-Ok-audit_source-clause-ends g c)

pub returns-in-Err-audit_source-clause-complete : goal.returns-in-Err-audit_source-clause-complete
returns-in-Err-audit_source-clause-complete g c =
    complete _ _ _ _ _ _ _ _ (returns-in-Err-audit_source-clause-ends g c)

pub returns-in-Ok-infer_source-clause-complete : goal.returns-in-Ok-infer_source-clause-complete
returns-in-Ok-infer_source-clause-complete g c =
    complete _ _ _ _ _ _ _ _ (returns-in-Ok-infer_source-clause-ends g c)

pub returns-in-Err-infer_source-clause-complete : goal.returns-in-Err-infer_source-clause-complete
returns-in-Err-infer_source-clause-complete g c =
    complete _ _ _ _ _ _ _ _ (returns-in-Err-infer_source-clause-ends g c)

pub returns-in-Ok-started-clause-complete : goal.returns-in-Ok-started-clause-complete
returns-in-Ok-started-clause-complete g c =
    complete _ _ _ _ _ _ _ _ (returns-in-Ok-started-clause-ends g c)

pub returns-in-Err-started-clause-complete : goal.returns-in-Err-started-clause-complete
returns-in-Err-started-clause-complete g c =
    complete _ _ _ _ _ _ _ _ (returns-in-Err-started-clause-ends g c)

pub returns-in-Err-clause-verified : goal.returns-in-Err-clause-verified
returns-in-Err-clause-verified g c = safe _ _ _ _ _ _ _ _ (returns-in-Err-clause-ends g c)

pub returns-in-Check-clause-verified : goal.returns-in-Check-clause-verified
returns-in-Check-clause-verified g c = safe _ _ _ _ _ _ _ _ (returns-in-Check-clause-ends g c)

pub returns-in-Compile-clause-verified : goal.returns-in-Compile-clause-verified
returns-in-Compile-clause-verified g c = safe _ _ _ _ _ _ _ _ (returns-in-Compile-clause-ends g c)

pub returns-in-Sample-clause-verified : goal.returns-in-Sample-clause-verified
returns-in-Sample-clause-verified g c = safe _ _ _ _ _ _ _ _ (returns-in-Sample-clause-ends g c)

pub returns-in-Verify-clause-verified : goal.returns-in-Verify-clause-verified
returns-in-Verify-clause-verified g c = safe _ _ _ _ _ _ _ _ (returns-in-Verify-clause-ends g c)

pub returns-in-Ok-trace_source-clause-verified : goal.returns-in-Ok-trace_source-clause-verified
returns-in-Ok-trace_source-clause-verified g c =
    safe _ _ _ _ _ _ _ _ (returns-in-Ok-trace_source-clause-ends g c)

pub returns-in-Err-trace_source-clause-verified : goal.returns-in-Err-trace_source-clause-verified
returns-in-Err-trace_source-clause-verified g c =
    safe _ _ _ _ _ _ _ _ (returns-in-Err-trace_source-clause-ends g c)

pub returns-in-Ok-audit_source-clause-verified : goal.returns-in-Ok-audit_source-clause-verified
returns-in-Ok-audit_source-clause-verified g c =
    safe _ _ _ _ _ _ _ _ (returns-in-Ok-audit_source-clause-ends g c)

pub returns-in-Err-audit_source-clause-verified : goal.returns-in-Err-audit_source-clause-verified
returns-in-Err-audit_source-clause-verified g c =
    safe _ _ _ _ _ _ _ _ (returns-in-Err-audit_source-clause-ends g c)

pub returns-in-Ok-infer_source-clause-verified : goal.returns-in-Ok-infer_source-clause-verified
returns-in-Ok-infer_source-clause-verified g c =
    safe _ _ _ _ _ _ _ _ (returns-in-Ok-infer_source-clause-ends g c)

pub returns-in-Err-infer_source-clause-verified : goal.returns-in-Err-infer_source-clause-verified
returns-in-Err-infer_source-clause-verified g c =
    safe _ _ _ _ _ _ _ _ (returns-in-Err-infer_source-clause-ends g c)

pub returns-in-Ok-started-clause-verified : goal.returns-in-Ok-started-clause-verified
returns-in-Ok-started-clause-verified g c =
    safe _ _ _ _ _ _ _ _ (returns-in-Ok-started-clause-ends g c)

pub returns-in-Err-started-clause-verified : goal.returns-in-Err-started-clause-verified
returns-in-Err-started-clause-verified g c =
    safe _ _ _ _ _ _ _ _ (returns-in-Err-started-clause-ends g c)

pub returns-in-Check-clause-faults_are_told : goal.returns-in-Check-clause-faults_are_told
returns-in-Check-clause-faults_are_told g c =
    λ alone four five six. outcome_said _ _ _ _ _ _ _ four five six c.check.result
    c.conclude.ensures.said (c.check.ensures.faults_are_told alone)

pub returns-in-Compile-clause-faults_are_told : goal.returns-in-Compile-clause-faults_are_told
returns-in-Compile-clause-faults_are_told g c =
    λ alone four five six. outcome_said _ _ _ _ _ _ _ four five six c.compile_file.result
    c.conclude-in-Compile.ensures.said (c.compile_file.ensures.faults_are_told alone)

pub returns-in-Verify-clause-faults_are_told : goal.returns-in-Verify-clause-faults_are_told
returns-in-Verify-clause-faults_are_told g c =
    λ alone four five six. outcome_said _ _ _ _ _ _ _ four five six c.verify_class.result
    c.conclude-in-Verify.ensures.said (c.verify_class.ensures.faults_are_told alone)

pub returns-in-Err-trace_source-clause-faults_are_told
    : goal.returns-in-Err-trace_source-clause-faults_are_told
returns-in-Err-trace_source-clause-faults_are_told g c =
    λ alone four five six. failure_said _ _ _ _ _ _ _ four five six c.in-Err-trace_source.failure
    c.break_off-in-Err-trace_source.ensures.said
    (c.in-Err-trace_source.ensures.faults_are_told alone)

pub returns-in-Err-audit_source-clause-faults_are_told
    : goal.returns-in-Err-audit_source-clause-faults_are_told
returns-in-Err-audit_source-clause-faults_are_told g c =
    λ alone four five six. failure_said _ _ _ _ _ _ _ four five six c.in-Err-audit_source.failure
    c.break_off-in-Err-audit_source.ensures.said
    (c.in-Err-audit_source.ensures.faults_are_told alone)

pub returns-in-Err-infer_source-clause-faults_are_told
    : goal.returns-in-Err-infer_source-clause-faults_are_told
returns-in-Err-infer_source-clause-faults_are_told g c =
    λ alone four five six. failure_said _ _ _ _ _ _ _ four five six c.in-Err-infer_source.failure
    c.break_off-in-Err-infer_source.ensures.said
    (c.in-Err-infer_source.ensures.faults_are_told alone)

pub returns-in-Err-started-clause-faults_are_told
    : goal.returns-in-Err-started-clause-faults_are_told
returns-in-Err-started-clause-faults_are_told g c =
    λ alone four five six. failure_said _ _ _ _ _ _ _ four five six c.in-Err-started.failure
    c.break_off-in-Err-started.ensures.said (c.in-Err-started.ensures.faults_are_told alone)
