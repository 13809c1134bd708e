use Rattle.std.proofs.Common.{◌∙◌}
use Rattle.par_machine.proofs.Placed.{shown_places}
use Rattle.par_machine.proofs.machine.Machine.places.Goals as goal

pub returns : goal.returns
returns c =
    let m = c.args.self.now in
    c.places.ensures ∙ shown_places m.area.files m.running.stack c.point.ensures.some m.sound.frames
