use Rattle.std.proofs.Common.{◌∙◌, sym}
use Rattle.par_frame_steps.proofs.Parts.{kind_some, kind_none}
use Rattle.par_frame_steps.proofs.pile.Pile.kind_at.Goals as goal

pub returns-in-Some : goal.returns-in-Some
returns-in-Some c =
    kind_some c.args.self.now c.args.place c.in-Some.kind (sym c.get.ensures ∙ c.in-Some.is)

pub returns-in-None : goal.returns-in-None
returns-in-None c = kind_none c.args.self.now c.args.place (sym c.get.ensures ∙ c.in-None.is)
