use Rattle.std.proofs.Common.{ap, subst, ◌∙◌, slice_get}
use Rattle.par_single.specs.Members.{text_at}
use Rattle.par_step_laws.specs.Links.{field_in}
use Rattle.par_method_area.specs.Area.{Area}
use Rattle.par_method_area.specs.Known.{KnowsNames}
use Rattle.par_method_area.proofs.Named.{field-named}
use Rattle.par_method_area.proofs.area.MethodArea.field_names.Goals as goal

pub returns-in-Some-get : goal.returns-in-Some-get
returns-in-Some-get c =
    let d = c.args.declared in
    subst (λ (a : Area). KnowsNames (field_in a.files d.class d.place (slice_get a.files d.class))
    (record { class = c.own_name.result; name = c.text_at.result })) c.self.view_is
    (field-named c.self.inside.linked d.class d.place c.in-Some.file.now c.in-Some.ensures.item
    c.self.invariant.linked
    (record { class = c.own_name.result; name = c.text_at.result }) c.own_name.ensures
    c.in-Some-get.field.now c.in-Some-get.ensures.item
    (c.text_at.ensures ∙ ap (λ entries. text_at entries c.in-Some-get.field.now.name)
    c.as_slice.ensures))
