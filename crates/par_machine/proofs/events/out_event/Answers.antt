use Rattle.std.proofs.Common.{ap, sym, ◌∙◌, w32}
use Rattle.std.proofs.lemmas.Int.{to_z-of_z}
use Rattle.par_values.specs.declared.run.Event.TheVariants.{Out}
use Rattle.par_values.specs.Areas.{Name}
use Rattle.par_machine.proofs.Named.{output_at}
use Rattle.par_machine.proofs.events.out_event.Goals as goal

pub new-requires : goal.new-requires
new-requires c =
    (output_at c.args.area.now.files c.args.site c.index.result c.member-names.result c.requires
    c.index.ensures c.member-names.ensures).class

pub new-requires-2 : goal.new-requires-2
new-requires-2 c =
    (output_at c.args.area.now.files c.args.site c.index.result c.member-names.result c.requires
    c.index.ensures c.member-names.ensures).name

pub returns : goal.returns
returns c = λ m is.
    let has = output_at c.args.area.now.files c.args.site c.index.result c.member-names.result
    c.requires c.index.ensures c.member-names.ensures in
    ap (λ n. Out c.in_ok-class.class c.in_ok-name.name n)
    (to_z-of_z w32 c.args.number c.ranges.number)
    ∙ ap (λ (class : Name). Out class c.in_ok-name.name c.args.number) c.in_ok-class.ensures
    ∙ ap (λ (name : Name). Out c.member-names.result.class.now name c.args.number)
    c.in_ok-name.ensures
    ∙ sym (has.out m c.args.number is)
