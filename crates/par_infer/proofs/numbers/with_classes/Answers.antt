use Rattle.std.proofs.Common.{◌<◌, ◌+◌, ℕ, ◌||◌, drop, subst, ap, ◌∙◌}
use Rattle.std.specs.Prelude.{IsTrue}
use Rattle.std.proofs.lemmas.Bool.{or_left}
use Rattle.par_bits.specs.Sets.{Set, has}
use Rattle.par_program_laws.specs.Inferred.{inferred_among, inferred_in}
use Rattle.par_infer.proofs.Noted.{Goes, goes_on, classes_left}
use Rattle.par_infer.proofs.numbers.with_classes.Goals as goal

pub with_fields-result-requires : goal.with_fields-result-requires
with_fields-result-requires c = λ n h.
    subst (λ (s : Set). (n : ℕ) → IsTrue (s n) → n < 256)
    (classes_left c.args.classes.now c.loop-class.class-index c.class-item.result
    c.loop-class-test.true c.class-item.is) c.loop-class.invariant.few n
    (or_left _ _ (subst (λ fs. IsTrue (inferred_among fs n)) c.as_slice.ensures h))

pub loop-class-preserved : goal.loop-class-preserved
loop-class-preserved c =
    let i = c.loop-class.class-index in
    let item = c.class-item.result in
    let old = has c.args.numbers in
    let now = has c.loop-class.result in
    let all = inferred_in c.args.classes.now in
    goes_on all (inferred_among item.fields) (inferred_in (drop (i + 1) c.args.classes.now)) old now
    (has c.with_fields-result.result)
    (subst (λ (s : Set). Goes all s old now)
    (classes_left c.args.classes.now i item c.loop-class-test.true c.class-item.is)
    c.loop-class.invariant)
    (λ n. c.with_fields-result.ensures n ∙ ap (λ fs. now n || inferred_among fs n)
    c.as_slice.ensures)
