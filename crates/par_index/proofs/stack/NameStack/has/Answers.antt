use Rattle.std.proofs.Common.{ap, ◌∙◌, is_some}
use Rattle.std.specs.Str.{bytes_eq}
use Rattle.par_index.proofs.Places.{position-is_some}
use Rattle.par_index.proofs.stack.NameStack.has.Goals as goal

pub returns : goal.returns
returns c =
    c.is_some.ensures ∙ ap is_some c.place.ensures
    ∙ position-is_some (bytes_eq c.args.name.now) c.args.self.now
