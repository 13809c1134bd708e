use Rattle.std.proofs.Common.{◌≡◌, ℕ, ◌+◌, ◌<◌, List, [], length, map, take, get_or, sym, ap, subst}
use Rattle.std.proofs.Common.{◌∙◌, arith}
use Rattle.par_class.specs.declared.file.ClassFile.{ClassFile}
use Rattle.par_step_laws.specs.par_link.Conditions.{IsSmall}
use Rattle.par_step_laws.specs.Fields.{is_shared}
use Rattle.par_method_area.specs.declared.classes.ClassRow.{ClassRow}
use Rattle.par_method_area.specs.Classes.{IsClassRow, IsFileRow, lines_in, file_lines}
use Rattle.par_method_area.specs.Rows.{AreRows}
use Rattle.par_method_area.proofs.Beside.{push, made-push}
use Rattle.par_method_area.proofs.Counts.{statics-none, statics-count, few-before, filter-few}
use Rattle.par_method_area.proofs.classes.class_rows.Goals as goal

pub loop-file-init : goal.loop-file-init
loop-file-init c = (
  ap length (sym statics-none),
  subst (λ (rows : List ClassRow). AreRows (IsClassRow c.args.numbers.now c.args.files.now) [] rows)
      (sym c.new-rows.ensures) tt,
  ap (map lines_in) c.new-rows.ensures,
)

pub overflow_cast-shared : goal.overflow_cast-shared
overflow_cast-shared c =
    let few = few-before c.args.files.now c.loop-file.file-index c.requires.small c.requires.few in
    omega (arith, few, c.loop-file.invariant.0)

pub class_row-requires-clause-few : goal.class_row-requires-clause-few
class_row-requires-clause-few c =
    let few = few-before c.args.files.now c.loop-file.file-index c.requires.small c.requires.few in
    omega (arith, few, c.loop-file.invariant.0)

pub overflow_add-shared : goal.overflow_add-shared
overflow_add-shared c =
    let x = c.file-item.result in
    let few = few-before c.args.files.now c.loop-file.file-index c.requires.small c.requires.few in
    let small : IsSmall x =
    subst (λ (f : ClassFile). IsSmall f) (sym c.file-item.is)
    (c.requires.small c.loop-file.file-index x c.loop-file-test.true) in
    let count = filter-few is_shared x.fields in
    omega (arith, few, count, small.fields, c.shared_count.ensures, c.loop-file.invariant.0)

pub loop-file-preserved : goal.loop-file-preserved
loop-file-preserved c =
    let i = c.loop-file.file-index in
    let x = c.file-item.result in
    let files = c.args.files.now in
    let numbers = c.args.numbers.now in
    let row = c.in_ok-class_row.field-0 in
    let inv = c.loop-file.invariant in
    let within : i < length files = c.loop-file-test.true in
    let at : x ≡ get_or files i x = c.file-item.is in
    let count = statics-count files i x within at in
    let is : IsClassRow numbers files i x row =
    subst (λ (n : ℕ). IsFileRow numbers n x row) inv.0 c.in_ok-class_row.ensures.row in (
      omega (arith, count, inv.0, c.shared_count.ensures),
      subst (λ (rows : List ClassRow). AreRows (IsClassRow numbers files) (take (i + 1) files) rows)
          (sym c.in_ok-push.ensures.ok)
          (push (IsClassRow numbers files) files i x c.loop-file.rows row within at inv.1 is),
      ap (map lines_in) c.in_ok-push.ensures.ok
          ∙ made-push lines_in (file_lines c.args.lines.now) files i x c.loop-file.rows row within
          at inv.2 c.in_ok-class_row.ensures.lines,
    )
