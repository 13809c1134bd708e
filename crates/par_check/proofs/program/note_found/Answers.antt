use Rattle.std.proofs.Common.{subst}
use Rattle.par_typed.specs.declared.table.Table.{Table}
use Rattle.par_typed.specs.Shown.{body}
use Rattle.par_rounds.specs.par_pass_laws.Written.{table as by_point}
use Rattle.par_rounds.specs.par_ways.Seen.{seen_facts}
use Rattle.par_asked.specs.par_check_laws.Right.{AreRight}
use Rattle.par_check.proofs.Right.{least_right}
use Rattle.par_check.proofs.program.note_found.Goals as goal

pub returns-clause-told : goal.returns-clause-told
returns-clause-told c =
    let facts = by_point (seen_facts c.in_ok-facts.facts.rows.items) in
    let b = body c.args.body.now in
    let noted = c.in_ok-note_body.ensures.noted in
    record {
      facts = facts;
      right =
          subst (λ (t : Table). AreRight t b facts) c.table.ensures
          (least_right c.table.result.now b facts c.in_ok-facts.ensures);
      told = noted.0;
      are = noted.1;
      is = noted.2;
    }
