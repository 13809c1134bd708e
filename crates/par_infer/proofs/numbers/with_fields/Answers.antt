use Rattle.std.proofs.Common.{◌<◌, ◌+◌, ℕ, drop, subst, ap, ◌∙◌}
use Rattle.std.specs.Prelude.{IsTrue}
use Rattle.par_bits.specs.Sets.{Set, has}
use Rattle.par_program_laws.specs.Inferred.{inferred_among}
use Rattle.par_infer.proofs.Noted.{Goes, goes_on, own, own_few, own_noted, own_left, fields_left}
use Rattle.par_infer.proofs.numbers.with_fields.Goals as goal
use Rattle.par_infer.proofs.numbers.with_fields.Goals.{then-field, else-field}

pub with-result-requires : goal.with-result-requires
with-result-requires c =
    let i = c.loop-field.field-index in
    own_few c.field-item.result (inferred_among (drop (i + 1) c.args.fields.now))
    (subst (λ (s : Set). (n : ℕ) → IsTrue (s n) → n < 256)
    (fields_left c.args.fields.now i c.field-item.result c.loop-field-test.true c.field-item.is)
    c.loop-field.invariant.few) c.if-field.true

pub loop-field-preserved : goal.loop-field-preserved
loop-field-preserved c =
    let i = c.loop-field.field-index in
    let item = c.field-item.result in
    let old = has c.args.numbers in
    let now = has c.loop-field.result in
    let next = has c.if-field.result in
    let all = inferred_among c.args.fields.now in
    goes_on all (own item) (inferred_among (drop (i + 1) c.args.fields.now)) old now next
    (subst (λ (s : Set). Goes all s old now)
    (fields_left c.args.fields.now i item c.loop-field-test.true c.field-item.is)
    c.loop-field.invariant)
    (elim c.if-field.branch [
      | then-field w ↦
          own_noted item now next w.if-field.true
          (λ n. ap (λ x. has x n) w.result-is ∙ ap (λ (s : Set). s n) w.with-result.ensures)
      | else-field w ↦
          own_left item now next w.if-field.false (λ n. ap (λ x. has x n) w.result-is)
    ])
