use Rattle.std.proofs.Common.{◌≡◌, sym, ◌∙◌, subst, IfOk}
use Rattle.par_tree.specs.Shown.{source}
use Rattle.par_resolved.specs.Seen.{known_seen}
use Rattle.par_parts.specs.Gathered.{all_of}
use Rattle.par_limits.proofs.Passes.{joins_passed, joins_stopped}
use Rattle.par_limits.proofs.policies.first_by.Goals as goal

pub returns-in-None : goal.returns-in-None
returns-in-None c =
    subst (λ o. IfOk c.first_of_table.result (λ first. first ≡ o))
    (joins_passed (source c.args.program.now) (known_seen c.args.known.now)
    (all_of c.args.exprs.now) c.requires.seen c.requires.written
    (sym c.in-None.is ∙ c.in_ok-first_join.ensures))
    c.first_of_table.ensures

pub returns-in-Some : goal.returns-in-Some
returns-in-Some c =
    joins_stopped (source c.args.program.now) (known_seen c.args.known.now)
    (all_of c.args.exprs.now) c.in-Some.first c.requires.seen c.requires.written
    (sym c.in-Some.is ∙ c.in_ok-first_join.ensures)
