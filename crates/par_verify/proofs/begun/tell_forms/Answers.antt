use Rattle.std.proofs.Common.{◌≡◌, suc, ◌+◌, ◌∷◌, drop, drop-cons, sym, ap}
use Rattle.std.proofs.Common.{subst, ◌∙◌, arith}
use Rattle.std.proofs.lemmas.List.{drop_all}
use Rattle.par_frame_steps.specs.Marks.{kinds_of, frame_of}
use Rattle.par_frame_passes.specs.Tables.{table_of}
use Rattle.par_verify.proofs.Folding.{Tells, begun, one_more, ended, if-said}
use Rattle.par_verify.proofs.begun.tell_forms.Goals as goal

pub loop-form-init : goal.loop-form-init
loop-form-init c =
    let code = c.args.code.now in
    record {
      near = omega arith;
      told = λ all said.
          subst (λ ks. Tells c.args.entries.now code.max_locals code.code all 0 ks
          c.args.forms.now (table_of c.args.table.now))
          (sym (ap kinds_of c.in_ok-copy.ensures))
          (begun c.args.entries.now code.max_locals code.code all (kinds_of c.args.start.now)
          c.args.forms.now c.args.table.now c.requires.blank said);
    }

pub loop-form-preserved : goal.loop-form-preserved
loop-form-preserved c =
    let forms = c.args.forms.now in
    let i = c.loop-form.form-index in
    let form = c.form-item.result in
    let from = c.loop-form.from in
    let at = from + c.from.result in
    let next : suc i ≡ i + 1 = omega arith in
    let split : drop i forms ≡ form ∷ drop (i + 1) forms =
    drop-cons forms i form c.loop-form-test.true
    ∙ ap (λ f. f ∷ drop (suc i) forms) (sym c.form-item.is)
    ∙ ap (λ n. form ∷ drop n forms) next in
    let near = c.loop-form.invariant.near in
    let short = c.from.ensures in
    record {
      near = omega (arith, near, short);
      told = λ all said.
          one_more c.args.entries.now c.args.code.now.max_locals c.args.code.now.code all form
          (drop (i + 1) forms) from at (kinds_of c.loop-form.listed)
          (kinds_of c.in_ok-listed.listed) (table_of c.loop-form.table)
          (table_of c.put.new.table) (frame_of c.in_ok-frame.frame)
          (ap (λ n. from + n) (c.from.ensures ∙ c.delta.ensures)) c.in_ok-listed.ensures
          c.in_ok-frame.ensures c.put.ensures
          (subst (λ fs. Tells c.args.entries.now c.args.code.now.max_locals
          c.args.code.now.code all from (kinds_of c.loop-form.listed) fs
          (table_of c.loop-form.table)) split (c.loop-form.invariant.told all said));
    }

pub returns : goal.returns
returns c =
    let pool = c.args.entries.now in
    let code = c.args.code.now in
    let i = c.loop-form.form-index in
    let listed = kinds_of c.loop-form.listed in
    let table = table_of c.loop-form.table in
    if-said _ _
    (λ all said. ended pool code.max_locals code.code all c.loop-form.from listed table
    (subst (λ fs. Tells pool code.max_locals code.code all c.loop-form.from listed fs table)
    (drop_all i c.args.forms.now c.loop-form-test.false) (c.loop-form.invariant.told all said)))
