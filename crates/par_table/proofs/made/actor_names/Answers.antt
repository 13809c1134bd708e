use Rattle.std.proofs.Common.{◌≡◌, map, ap, ◌∙◌, subst, IfOk}
use Rattle.par_parts.specs.Gathered.{all_of}
use Rattle.par_table.proofs.made.actor_names.Goals as goal

pub returns : goal.returns
returns c =
    subst (λ ids. IfOk c.names_of.result (λ found. found ≡ map (λ a. a.name) ids))
    (ap all_of c.as_slice.ensures.value ∙ c.in_ok-ids.ensures) c.names_of.ensures
