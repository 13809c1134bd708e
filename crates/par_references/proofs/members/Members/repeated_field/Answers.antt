use Rattle.std.proofs.Common.{ap, ◌∙◌}
use Rattle.par_references.proofs.Keyed.{fields-repeated}
use Rattle.par_references.specs.Firsts.{first_repeated}
use Rattle.par_references.specs.Placed.{same_key}
use Rattle.par_references.proofs.members.Members.repeated_field.Goals as goal

pub returns : goal.returns
returns c =
    let s = c.args.self.now in
    c.repeated.ensures ∙ ap (first_repeated same_key) s.fields_keyed
    ∙ fields-repeated s.texts.files.now s.file.now s.among
