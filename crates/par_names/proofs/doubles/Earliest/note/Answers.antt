use Rattle.std.proofs.Common.{◌∙◌, sym, ap, cond, Some}
use Rattle.std.specs.Str.{bytes_eq}
use Rattle.par_names.specs.Earliest.{is_below, place_of}
use Rattle.par_names.proofs.Least.{kept, put}
use Rattle.par_names.proofs.doubles.Earliest.note.Goals as goal

pub returns-in_ok-insert : goal.returns-in_ok-insert
returns-in_ok-insert c = λ name at.
    let key = record c.bytes.result { now = name } in
    let before = place_of c.args.self.now in
    let id = c.args.id.now in
    ap (λ o. is_below o at) (c.in_ok-insert.ensures.updates.0 key)
    ∙ ap (λ n. is_below (cond (bytes_eq n name) (Some id.at) (before name)) at)
    c.bytes.ensures.bytes
    ∙ put before id.name name id.at at (sym c.has_before.ensures ∙ c.if-not-has_before.true)

pub returns-else-not-has_before : goal.returns-else-not-has_before
returns-else-not-has_before c = λ name at.
    let id = c.args.id.now in
    kept (place_of c.args.self.now) id.name name id.at at
    (sym c.has_before.ensures ∙ c.if-not-has_before.false)
