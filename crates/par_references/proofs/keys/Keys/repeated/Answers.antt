use Rattle.std.proofs.Common.{sym, ap, ◌∙◌}
use Rattle.std.specs.List.{position}
use Rattle.par_references.specs.Placed.{same_key}
use Rattle.par_references.proofs.keys.Keys.repeated.Goals as goal

pub first_repeated-requires : goal.first_repeated-requires
first_repeated-requires c =
    λ key. c.args.self.now.placed key
    ∙ ap (position (same_key key)) (sym c.as_slice.ensures.value)
