use Rattle.std.proofs.Common.{[], ◌++◌, ◌∷◌, ap, ◌∙◌}
use Rattle.par_tree.specs.Shown.{source}
use Rattle.par_resolved.specs.Seen.{known_seen}
use Rattle.par_parts.specs.Gathered.{all_of}
use Rattle.par_limits.proofs.Orders.{listed, at_start}
use Rattle.par_limits.proofs.listed.entries_by_place.Goals as goal

pub returns : goal.returns
returns c =
    listed (known_seen c.args.known.now) (source c.args.program.now)
    (all_of c.args.exprs.now) c.in_ok-policy.policy _ _ _ _ c.in_ok-policy.ensures
    (c.in_ok-push.ensures.items ∙ ap
    (λ es. es ++ at_start c.in_ok-policy.policy ∷ []) c.new-found.ensures.items)
    c.requires c.in_ok-push_written.ensures c.in_ok-push_queries.ensures
    c.in_ok-sort_entries.ensures
