use Rattle.std.proofs.Common.{◌≡◌, ◌+◌, ◌<◌, if◌then◌else◌, not, List, length, take, get_or, sym}
use Rattle.std.proofs.Common.{ap, subst, ◌∙◌, arith}
use Rattle.par_class.specs.declared.file.FieldFile.{FieldFile}
use Rattle.par_step_laws.specs.Fields.{is_shared, is_own, many_of}
use Rattle.par_actions.specs.declared.fields.Field.{Field}
use Rattle.par_method_area.specs.Fields.{IsFieldRow, row_behind}
use Rattle.par_method_area.specs.Rows.{AreRows}
use Rattle.par_method_area.proofs.Beside.{push}
use Rattle.par_method_area.proofs.Counts.{many-few, filter-count}
use Rattle.par_method_area.proofs.fields.field_rows.Goals as goal

pub and_one-before-requires-clause-shared : goal.and_one-before-requires-clause-shared
and_one-before-requires-clause-shared c =
    let i = c.loop-field.field-index in
    let within : i < length c.args.file.now.fields =
    subst (λ (ys : List FieldFile). i < length ys) c.as_slice-field-items.ensures
    c.loop-field-test.true in
    let few = many-few is_shared c.args.file.now i in
    omega (arith, within, few, c.loop-field.invariant.0, c.requires.few, c.requires.small.fields)

pub and_one-before-requires-clause-own : goal.and_one-before-requires-clause-own
and_one-before-requires-clause-own c =
    let i = c.loop-field.field-index in
    let within : i < length c.args.file.now.fields =
    subst (λ (ys : List FieldFile). i < length ys) c.as_slice-field-items.ensures
    c.loop-field-test.true in
    let few = many-few is_own c.args.file.now i in
    omega (arith, within, few, c.loop-field.invariant.1, c.requires.small.fields)

pub loop-field-preserved : goal.loop-field-preserved
loop-field-preserved c =
    let i = c.loop-field.field-index in
    let x = c.field-item.result in
    let file = c.args.file.now in
    let numbers = c.args.numbers.now in
    let before = c.loop-field.before in
    let row = c.field_row.result in
    let inv = c.loop-field.invariant in
    let within : i < length file.fields =
    subst (λ (ys : List FieldFile). i < length ys) c.as_slice-field-items.ensures
    c.loop-field-test.true in
    let at : x ≡ get_or file.fields i x = c.field-item.is
    ∙ ap (λ (ys : List FieldFile). get_or ys i x) c.as_slice-field-items.ensures in
    let shared : c.and_one-before.result.shared ≡ before.shared + (if is_shared x then 1 else 0) =
    c.and_one-before.ensures.shared
    ∙ ap (λ b. before.shared + (if b then 1 else 0)) c.is_static.ensures in
    let own : c.and_one-before.result.own ≡ before.own + (if is_own x then 1 else 0) =
    c.and_one-before.ensures.own
    ∙ ap (λ b. before.own + (if not b then 1 else 0)) c.is_static.ensures in
    let more_shared = filter-count is_shared file.fields i x within at in
    let more_own = filter-count is_own file.fields i x within at in
    let is : row ≡ row_behind numbers file.pool.entries x (c.args.shared + many_of is_shared file i)
    (many_of is_own file i) =
    c.field_row.ensures ∙ ap (λ entries. row_behind numbers entries x before.shared before.own)
    c.as_slice-entries.ensures
    ∙ ap (λ n. row_behind numbers file.pool.entries x n before.own) inv.0
    ∙ ap (λ n. row_behind numbers file.pool.entries x (c.args.shared + many_of is_shared file i) n)
    inv.1 in (
      omega (arith, shared, more_shared, inv.0),
      omega (arith, own, more_own, inv.1),
      subst (λ (rows : List Field). AreRows (IsFieldRow numbers c.args.shared file)
          (take (i + 1) file.fields) rows) (sym c.in_ok-push.ensures.ok)
          (push (IsFieldRow numbers c.args.shared file) file.fields i x c.loop-field.rows row within
          at inv.2 is),
    )
