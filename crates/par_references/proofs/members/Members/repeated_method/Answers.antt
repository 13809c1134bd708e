use Rattle.std.proofs.Common.{ap, ◌∙◌}
use Rattle.par_references.proofs.Keyed.{methods-repeated}
use Rattle.par_references.specs.Firsts.{first_repeated}
use Rattle.par_references.specs.Placed.{same_key}
use Rattle.par_references.proofs.members.Members.repeated_method.Goals as goal

pub returns : goal.returns
returns c =
    let s = c.args.self.now in
    c.repeated.ensures ∙ ap (first_repeated same_key) s.methods_keyed
    ∙ methods-repeated s.texts.files.now s.file.now s.among
