use Rattle.std.proofs.Common.{sym, ap, ◌∙◌, arith}
use Rattle.par_actions.specs.par_lines.Lines.{line_of}
use Rattle.par_method_area.proofs.Lining.{long-none}
use Rattle.par_method_area.proofs.channels.ChannelLines.line.Goals as goal

-- no line is for a long text
pub returns-then-name-gt-LONGEST : goal.returns-then-name-gt-LONGEST
returns-then-name-gt-LONGEST c =
    sym (long-none c.self.inside.channels.items c.args.class.now c.args.name.now
    c.self.invariant.short (omega arith))
    ∙ ap (λ channels. line_of channels c.args.class.now c.args.name.now) c.self.view_is

pub returns : goal.returns
returns c =
    c.place.ensures ∙ c.self.invariant.places (record { class = c.args.class; name = c.args.name })
    ∙ ap (λ channels. line_of channels c.args.class.now c.args.name.now) c.self.view_is
