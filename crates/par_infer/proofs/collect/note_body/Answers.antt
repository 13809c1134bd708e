use Rattle.std.proofs.Common.{sym, subst, ap, ◌∙◌}
use Rattle.par_asked.specs.Seen.{seen_checks}
use Rattle.par_infer.specs.Collected.{HaveSmallEffects}
use Rattle.par_infer.proofs.collect.note_body.Goals as goal

pub note_bounds-requires-clause-effects : goal.note_bounds-requires-clause-effects
note_bounds-requires-clause-effects g c =
    subst (λ cs. HaveSmallEffects cs)
    (sym (ap seen_checks c.as_slice.ensures ∙ c.in_ok-asked.ensures)) c.requires.effects
