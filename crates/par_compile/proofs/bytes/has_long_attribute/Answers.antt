use Rattle.std.proofs.Common.{sym, ap, ◌∙◌}
use Rattle.par_compile.specs.Whole.{any_long, has_long_attribute}
use Rattle.par_compile.proofs.bytes.has_long_attribute.Goals as goal

pub returns-in-Some : goal.returns-in-Some
returns-in-Some c =
    c.any_long.ensures ∙ (ap any_long c.as_slice.ensures ∙ sym (ap has_long_attribute c.in-Some.is))
