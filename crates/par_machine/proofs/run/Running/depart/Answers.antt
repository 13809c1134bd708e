use Rattle.std.proofs.Common.{refl, sym}
use Rattle.par_method_area.specs.par_step_laws.Classes.{class_names}
use Rattle.par_method_area.specs.par_step_laws.Links.{link_at}
use Rattle.par_machine.specs.Running.{here}
use Rattle.par_machine.specs.Site.{areas_at, spot_of, operation_at}
use Rattle.par_method_area.specs.Known.{code_at}
use Rattle.par_machine.proofs.Found.{code_known, never_unknown}
use Rattle.par_machine.proofs.Owned.{departure_own, has_result}
use Rattle.par_machine.proofs.Performed.{performs}
use Rattle.par_machine.proofs.run.Running.depart.Goals as goal

pub returns : goal.returns
returns c =
    let files = c.args.area.now.files in
    let r = c.args.self.now in
    let s = c.args.site in
    let known = code_known files s.point.class s.point.method
    (code_at files s.point.class s.point.method) c.in-Some.code c.in-Some.ensures in
    let own = departure_own (link_at files (here r).class) s.instr c.requires.instr in
    performs c.args.area.now r s c.args.ahead c.depart.result r.stack s.instr
    (operation_at files r s)
    c.requires.sound c.requires.there refl own.unput own.uncalled refl own.unwritten
    (c.depart.ensures (link_at files (here r).class) (class_names files) (spot_of files r s)
    (areas_at files r)
    (sym c.requires.there.stands.room) (has_result files r s c.in-Some.code.gives
    c.requires.there.point known.gives) refl)
    (record { point = refl; room = refl; waiting = refl }) (λ still. refl)

pub unreachable-unreachable : goal.unreachable-unreachable
unreachable-unreachable c =
    let p = c.args.site.point in
    never_unknown c.args.area.now.files p.class p.method
    (code_at c.args.area.now.files p.class p.method) c.requires.coded c.in_default.ensures
