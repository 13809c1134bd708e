use Rattle.std.proofs.Common.{sym}
use Rattle.par_source_state.specs.Named.{member_is}
use Rattle.par_meaning.specs.Onward.{setting}
use Rattle.par_source_state.specs.Stored.{holds}
use Rattle.par_meaning.proofs.Happened.{field_told}
use Rattle.par_meaning.proofs.fields.write_object.Goals as goal

pub returns : goal.returns
returns c = λ d rest n.
    field_told (setting c.args.program.now d) rest n c.args.machine.now c.tell.new.machine
    (holds c.write_field.new.self) c.args.class c.args.field c.object_number-number.result c.args.of
    c.args.value
    c.in_ok-class_name.class_name c.in_ok-name.name c.in_ok-shows.shows (member_is c.in-Some.member)
    _
    c.in_ok-tell.ensures c.in_ok-write_field.ensures c.object_number-number.ensures
    c.in_ok-class_name.ensures c.in_ok-name.ensures c.in_ok-shows.ensures (sym c.in-Some.ensures)
