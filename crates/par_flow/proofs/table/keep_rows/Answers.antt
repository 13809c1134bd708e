use Rattle.std.proofs.Common.{◌<◌, ◌≤◌, false, length, refl, sym, subst, ◌∙◌, arith}
use Rattle.std.proofs.lemmas.List.{take_all}
use Rattle.par_envs.specs.Numbered.{envs}
use Rattle.par_rounds.specs.par_ways.Seen.{IsRowWide, seen_facts}
use Rattle.par_flow.specs.Table.{AllShow}
use Rattle.par_flow.proofs.Rows.{all_more, facts_more, flags_more}
use Rattle.par_flow.proofs.Used.{used_more}
use Rattle.par_flow.proofs.table.keep_rows.Goals as goal

pub loop-place-preserved : goal.loop-place-preserved
loop-place-preserved c =
    let inside : c.loop-place.place < length c.args.statements.now = let e = c.requires in
    let l = c.loop-place-test.true in omega (arith, e, l) in
    record {
      found = c.in_ok-row.ensures.found;
      facts =
          all_more (envs c.loop-place.numbered.entries.items)
          (envs c.keep_row.new.numbered.entries.items) c.in_ok-row.ensures.more
          c.loop-place.rows.items c.push.new.self.items c.in_ok-row.row _ _ _
          c.in_ok-push.ensures.items
          (facts_more c.args.facts.now c.loop-place.place c.index-facts-place.result
          c.loop-place-test.true c.index-facts-place.is) c.loop-place.invariant.facts
          c.in_ok-row.ensures.fact;
      statements =
          flags_more c.loop-place.rows.items c.push.new.self.items c.in_ok-row.row
          c.args.statements.now c.loop-place.place _ false c.in_ok-push.ensures.items
          c.loop-place.invariant.statements inside
          c.in_ok-row.ensures.statement refl;
      used =
          used_more (envs c.loop-place.numbered.entries.items)
          (envs c.keep_row.new.numbered.entries.items) c.loop-place.rows.items
          c.push.new.self.items c.in_ok-row.row c.in_ok-push.ensures.items c.in_ok-row.ensures.adds
          c.loop-place.invariant.used;
      long =
          λ n wide. c.in_ok-row.ensures.long n
          (subst (IsRowWide n) (sym c.index-facts-place.is)
          (wide c.loop-place.place c.index-facts-place.result c.loop-place-test.true))
          (c.loop-place.invariant.long n wide);
    }

pub returns-clause-found : goal.returns-clause-found
returns-clause-found c = c.loop-place.invariant.found

pub returns-clause-facts : goal.returns-clause-facts
returns-clause-facts c =
    subst (λ fs. AllShow (envs c.loop-place.numbered.entries.items) c.loop-place.rows.items
    (seen_facts fs)) (take_all c.loop-place.place c.args.facts.now c.loop-place-test.false)
    c.loop-place.invariant.facts

pub returns-clause-statements : goal.returns-clause-statements
returns-clause-statements c =
    let all : length c.args.statements.now ≤ c.loop-place.place =
    let e = c.requires in let l = c.loop-place-test.false in omega (arith, e, l) in
    c.loop-place.invariant.statements ∙ take_all c.loop-place.place c.args.statements.now all

pub returns-clause-used : goal.returns-clause-used
returns-clause-used c = c.loop-place.invariant.used

pub returns-clause-long : goal.returns-clause-long
returns-clause-long c = c.loop-place.invariant.long
