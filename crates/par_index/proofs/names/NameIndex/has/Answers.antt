use Rattle.std.proofs.Common.{ap, ◌∙◌, is_some}
use Rattle.std.specs.Str.{bytes_eq}
use Rattle.par_index.specs.Texts.{texts}
use Rattle.par_index.proofs.Places.{position-is_some}
use Rattle.par_index.proofs.names.NameIndex.has.Goals as goal

pub returns : goal.returns
returns c =
    c.is_some.ensures ∙ ap is_some c.place.ensures
    ∙ position-is_some (bytes_eq c.args.name.now) (texts c.args.self.now.names.items)
