use Rattle.std.proofs.Common.{◌∷◌, [], List, subst}
use Rattle.par_values.specs.Ran.{Fine}
use Rattle.par_meaning.specs.declared.run.SourceEvent.{SourceEvent}
use Rattle.par_event_lines.specs.Texts.{Text, line, ending_text}
use Rattle.par_event_lines.specs.Telling.{IsCutOff}
use Rattle.par_trace.specs.Puts.{ArePut}
use Rattle.par_trace.specs.Texts.{run_of, lines}
use Rattle.par_trace.proofs.Puts.{cut-longer}
use Rattle.par_trace.proofs.Told.{told, handed, ends-put, ends-cut}
use Rattle.par_trace.proofs.run_lines.tell_lines.Goals as goal

pub returns-in_err-tell_events-clause-untold : goal.returns-in_err-tell_events-clause-untold
returns-in_err-tell_events-clause-untold g c =
    let u = c.in_err-tell_events.field-0.0 in
    let old = g.S.Sink.held c.args.out.now in
    let new = g.S.Sink.held c.tell_events.new.out in
    let before = g.S.Sink.counts c.args.out.now in
    let after = g.S.Sink.counts c.tell_events.new.out in
    let last : List Text = line (ending_text (Fine c.args.run.now.ending)) ∷ [] in
    handed c.from_residual.result u
    (IsCutOff (lines c.args.table.now (run_of c.args.run.now)) old new before after)
    c.from_residual.ensures.1
    (cut-longer (told c.args.table.now c.args.run.now.events) last u old new before after
    (subst (λ (es : List SourceEvent). IsCutOff (told c.args.table.now es) old new before after u)
    c.as_slice.ensures c.in_err-tell_events.ensures.untold))

pub returns-clause-put : goal.returns-clause-put
returns-clause-put g c =
    let old = g.S.Sink.held c.args.out.now in
    let held = g.S.Sink.held c.tell_events.new.out in
    let before = g.S.Sink.counts c.args.out.now in
    let between = g.S.Sink.counts c.tell_events.new.out in
    ends-put (told c.args.table.now c.args.run.now.events)
    (line (ending_text (Fine c.args.run.now.ending))) old held (g.S.Sink.held c.tell_ending.new.out)
    before between (g.S.Sink.counts c.tell_ending.new.out)
    (subst (λ (es : List SourceEvent). ArePut (told c.args.table.now es) old held before between)
    c.as_slice.ensures c.in_ok-tell_events.ensures.put)
    c.tell_ending.result c.tell_ending.ensures.counted c.tell_ending.ensures.put

pub returns-clause-untold : goal.returns-clause-untold
returns-clause-untold g c =
    let old = g.S.Sink.held c.args.out.now in
    let held = g.S.Sink.held c.tell_events.new.out in
    let before = g.S.Sink.counts c.args.out.now in
    let between = g.S.Sink.counts c.tell_events.new.out in
    ends-cut (told c.args.table.now c.args.run.now.events)
    (line (ending_text (Fine c.args.run.now.ending))) old held (g.S.Sink.held c.tell_ending.new.out)
    before between (g.S.Sink.counts c.tell_ending.new.out)
    (subst (λ (es : List SourceEvent). ArePut (told c.args.table.now es) old held before between)
    c.as_slice.ensures c.in_ok-tell_events.ensures.put)
    c.tell_ending.result c.in_ok-tell_events.ensures.faults_never_fall c.tell_ending.ensures.untold
