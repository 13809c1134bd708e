use Rattle.std.proofs.Common.{is_some, ap, ◌∙◌}
use Rattle.par_trace.proofs.Found.{found}
use Rattle.par_trace.proofs.channels.InputChannels.has.Goals as goal

pub returns : goal.returns
returns c =
    c.is_some.ensures ∙ ap is_some c.place.ensures
    ∙ found c.args.self.now.keys.items c.args.self.now.firsts
    (record { class = c.bytes.result; name = c.bytes-2.result }) c.args.line.now
    c.args.self.now.placed c.bytes.ensures.bytes c.bytes-2.ensures.bytes
