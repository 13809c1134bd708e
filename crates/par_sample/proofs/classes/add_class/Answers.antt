use Rattle.std.proofs.Common.{◌≡◌, ◌∙◌, arith, string_bytes}
use Rattle.std.proofs.lemmas.Result.{on_ok_weaker}
use Rattle.par_sample.proofs.Lines.{method_numbers, add_method, all_numbers, all_lines}
use Rattle.par_sample.proofs.classes.add_class.Goals as goal

pub loop-method-preserved : goal.loop-method-preserved
loop-method-preserved c first at =
    let (numbers, text) = c.loop-method.invariant first at in
    let r = c.loop-method.numbers.last in (
      c.add_method.ensures.numbers
          ∙ method_numbers first c.args.class c.loop-method.method r numbers,
      add_method _ _ _ first c.args.class c.loop-method.method r numbers text
          c.in_ok-add_method.ensures.text,
    )

pub returns-clause-numbers : goal.returns-clause-numbers
returns-clause-numbers c first at =
    let (numbers, text) = c.loop-method.invariant first at in
    let ten : c.loop-method.method ≡ 10 =
    omega (arith, c.loop-method-test.false, c.loop-method.auto.method-end) in
    on_ok_weaker c.add_line-2.result
    (λ _. numbers ∙ all_numbers first c.args.class c.loop-method.method ten) c.add_line-2.ensures

pub returns-clause-text : goal.returns-clause-text
returns-clause-text c first at =
    let (numbers, text) = c.loop-method.invariant first at in
    let ten : c.loop-method.method ≡ 10 =
    omega (arith, c.loop-method-test.false, c.loop-method.auto.method-end) in
    on_ok_weaker c.add_line-2.result
    (all_lines _ _ (string_bytes c.add_line-2.new.text) first c.args.class c.loop-method.method ten
    text)
    c.add_line-2.ensures
