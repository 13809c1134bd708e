use Rattle.std.proofs.Common.{◌≡◌, List, map, subst, sym}
use Rattle.par_typed.specs.declared.table.ClassInfo.{ClassInfo}
use Rattle.par_typed.specs.Shown.{bodies}
use Rattle.par_reached.specs.Reached.{set_at}
use Rattle.par_flow.specs.Table.{facts_in}
use Rattle.par_check.specs.par_check_laws.Right.{AreAllRight}
use Rattle.par_infer.specs.First.{IsFirstFailed}
use Rattle.par_infer.proofs.First.{first_always}
use Rattle.par_infer.specs.Filled.{filled_in}
use Rattle.par_infer.specs.Judged.{IsJudged}
use Rattle.par_infer.proofs.Whole.{least_accepted}
use Rattle.par_infer.proofs.solve.infer_fields.Goals as goal

pub returns-in-Some-clause-refused : goal.returns-in-Some-clause-refused
returns-in-Some-clause-refused c =
    let F = facts_in in
    let t = c.args.typed.now.table in
    let bs = bodies c.args.typed.now.bodies in
    let fs = map F c.as_slice.result.now in
    let right : AreAllRight t bs fs =
    subst (λ xs. AreAllRight t bs (map F xs)) (sym c.as_slice.ensures)
    c.in_ok-facts.ensures.right in
    let failed : IsFirstFailed t bs fs (set_at c.decide.new.sets) c.in-Some.refusal =
    subst (IsJudged t bs fs (set_at c.decide.new.sets)) c.in-Some.is
    c.in_ok-refusal.ensures.judged in
    record {
      facts = fs;
      right = right;
      first =
          first_always t bs fs (set_at c.decide.new.sets) c.in-Some.refusal
          c.requires.declared.inferred c.requires.policies right c.in_ok-refusal.ensures.least
          failed;
      asked = record {
        body = failed.body;
        there = failed.there;
        check = failed.check;
        asked = failed.asked;
        is = failed.is;
      };
    }

pub returns-clause-filled : goal.returns-clause-filled
returns-clause-filled c =
    let F = facts_in in
    let t = c.args.typed.now.table in
    let bs = bodies c.args.typed.now.bodies in
    let fs = map F c.as_slice.result.now in
    let right : AreAllRight t bs fs =
    subst (λ xs. AreAllRight t bs (map F xs)) (sym c.as_slice.ensures)
    c.in_ok-facts.ensures.right in
    record {
      facts = fs;
      right = right;
      sets = c.decide.new.sets;
      least = c.in_ok-refusal.ensures.least;
      filled =
          subst (λ (cs : List ClassInfo). c.in_ok-fill-in-None.field-0.fields
          ≡ filled_in c.decide.new.sets 0 cs) c.as_slice-in-None.ensures
          c.in_ok-fill-in-None.ensures;
      accepted =
          least_accepted t c.requires.declared c.requires.policies bs fs
          (set_at c.decide.new.sets) right c.in_ok-refusal.ensures.least
          (subst (IsJudged t bs fs (set_at c.decide.new.sets)) c.in-None.is
          c.in_ok-refusal.ensures.judged);
    }
