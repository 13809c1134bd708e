use Rattle.std.proofs.Common.{ap, sym, ◌∙◌}
use Rattle.std.specs.List.{position}
use Rattle.par_source_state.specs.Lined.{Names, is_line}
use Rattle.par_source_state.proofs.Given.{line_there, no_line}
use Rattle.par_source_state.proofs.lines.Lines.given.Goals as goal

pub returns-in-Some : goal.returns-in-Some
returns-in-Some c =
    let all = c.args.self.now.all.now in
    let names : Names = (c.bytes.result, c.bytes-2.result) in
    c.numbers.ensures ∙ sym (line_there c.args.class.now c.args.channel.now all c.in-Some.place
    (c.in-Some.ensures ∙ c.args.self.now.placed names
    ∙ ap (λ class. position (is_line class c.bytes-2.result.now) all) c.bytes.ensures.bytes
    ∙ ap (λ channel. position (is_line c.args.class.now channel) all) c.bytes-2.ensures.bytes))

pub returns-in-None : goal.returns-in-None
returns-in-None c =
    let all = c.args.self.now.all.now in
    let names : Names = (c.bytes.result, c.bytes-2.result) in
    sym (no_line c.args.class.now c.args.channel.now all
    (c.in-None.ensures ∙ c.args.self.now.placed names
    ∙ ap (λ class. position (is_line class c.bytes-2.result.now) all) c.bytes.ensures.bytes
    ∙ ap (λ channel. position (is_line c.args.class.now channel) all) c.bytes-2.ensures.bytes))
