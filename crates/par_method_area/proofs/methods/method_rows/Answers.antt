use Rattle.std.proofs.Common.{◌≡◌, ◌+◌, ◌<◌, List, length, map, take, get_or, sym, ap, subst, ◌∙◌}
use Rattle.par_class.specs.declared.file.MethodFile.{MethodFile}
use Rattle.par_method_area.specs.declared.methods.MethodRow.{MethodRow}
use Rattle.par_method_area.specs.Methods.{IsMethodRow, line_in, line_row}
use Rattle.par_method_area.specs.Rows.{AreRows}
use Rattle.par_method_area.proofs.Beside.{push, made-push}
use Rattle.par_method_area.proofs.methods.method_rows.Goals as goal

pub loop-method-preserved : goal.loop-method-preserved
loop-method-preserved c =
    let i = c.loop-method.method-index in
    let x = c.method-item.result in
    let file = c.args.file.now in
    let said = c.args.signatures.now in
    let row = c.in_ok-method_row.field-0 in
    let within : i < length file.methods =
    subst (λ (ys : List MethodFile). i < length ys) c.as_slice-method-items.ensures
    c.loop-method-test.true in
    let at : x ≡ get_or file.methods i x = c.method-item.is
    ∙ ap (λ (ys : List MethodFile). get_or ys i x) c.as_slice-method-items.ensures in (
      subst (λ (rows : List MethodRow). AreRows (IsMethodRow said file)
          (take (i + 1) file.methods) rows) (sym c.in_ok-push.ensures.ok)
          (push (IsMethodRow said file) file.methods i x c.loop-method.rows row within at
          c.loop-method.invariant.0 (c.in_ok-method_row.ensures.row i)),
      ap (map line_in) c.in_ok-push.ensures.ok
          ∙ made-push line_in (line_row c.args.lines.now file) file.methods i x c.loop-method.rows
          row within at c.loop-method.invariant.1 c.in_ok-method_row.ensures.line,
    )
