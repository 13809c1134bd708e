use Rattle.std.proofs.Common.{◌≡◌, ap, ◌∙◌, subst}
use Rattle.par_typed.specs.Shown.{body, bodies}
use Rattle.par_rounds.specs.par_pass_laws.Written.{table as by_point}
use Rattle.par_rounds.specs.par_ways.Seen.{seen_facts}
use Rattle.par_rounds.specs.Bodies.{AreLeastClosed}
use Rattle.par_program_laws.specs.Orderly.{IsOrderlyBody}
use Rattle.par_locks.specs.Open.{entering}
use Rattle.par_rounds.proofs.Program.{all_at, same_body}
use Rattle.par_locks.proofs.locks.locks_of.Goals as goal

pub rows_of-requires : goal.rows_of-requires
rows_of-requires c =
    all_at (IsOrderlyBody c.args.typed.now.table)
    (bodies c.args.typed.now.bodies) c.args.body _ c.requires.orderly c.body_at-body.ensures

pub returns : goal.returns
returns c = λ b h.
    let rows = c.in_ok-rows.rows.items in
    let same : body c.body_at-body.result.now ≡ b = same_body _ _ _ c.body_at-body.ensures h in
    record {
      facts = by_point (seen_facts rows);
      least =
          subst (λ d. AreLeastClosed c.args.typed.now.table d (by_point (seen_facts rows))) same
          c.in_ok-rows.ensures.facts;
      same =
          λ p. c.in_ok-locks.ensures p
          ∙ ap (λ l. entering (by_point (seen_facts l) p).entry) c.deref.ensures.value;
    }
