use Rattle.std.proofs.Common.{sym, refl}
use Rattle.par_method_area.proofs.Calling.{row-there, own-there}
use Rattle.par_method_area.proofs.Coded.{code-found, moved}
use Rattle.par_method_area.proofs.area.MethodArea.code.Goals as goal

pub returns-in_err-get-2 : goal.returns-in_err-get-2
returns-in_err-get-2 c =
    let i = c.self.inside in
    absurd (row-there i.linked i.rows i.exceptions i.statics c.self.invariant
    (record { class = c.args.class; place = c.args.method }) c.in_ok-file.field-0.now
    c.in_ok-file.ensures.item (sym c.in_err-get-2.ensures.item))

pub returns-in_err-row : goal.returns-in_err-row
returns-in_err-row c =
    let i = c.self.inside in
    absurd (own-there i.linked i.rows i.exceptions i.statics c.self.invariant
    (record { class = c.args.class; place = c.args.method }) c.in_ok-get-2.field-0.now
    c.in_ok-file.field-0.now c.in_ok-get.field-0.now
    c.in_ok-file.ensures.item c.in_ok-get.ensures.item (sym c.in_ok-get-2.ensures.item)
    (sym c.in_err-row.ensures.item))

pub returns : goal.returns
returns c =
    let i = c.self.inside in
    moved c.args.class c.args.method c.self.view_is _
    (code-found i.linked c.args.class c.args.method c.in_ok-file.field-0.now
    c.in_ok-file.ensures.item c.in_ok-get.field-0.now c.in_ok-get.ensures.item
    i.rows i.exceptions i.statics c.self.invariant c.in_ok-get-2.field-0.now c.in_ok-row.row.now
    (sym c.in_ok-get-2.ensures.item) (sym c.in_ok-row.ensures.item)
    c.in_ok-code.code.now (sym c.in_ok-code.ensures.value) _ c.as_slice.ensures refl refl refl refl)
