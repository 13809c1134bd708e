use Rattle.std.proofs.Common.{[], ◌∷◌, refl, sym, ap, subst, ◌∙◌}
use Rattle.par_instr.specs.declared.instr.Instr.TheVariants.{Putstatic}
use Rattle.par_values.specs.declared.kind.Kind.TheVariants.{Anything}
use Rattle.par_values.specs.Operations.{PutStatic, Misnamed, of_field}
use Rattle.par_method_area.specs.par_step_laws.Classes.{class_names}
use Rattle.par_method_area.specs.par_step_laws.Links.{link_at}
use Rattle.par_machine.specs.Instructions.{is_branch, index_of}
use Rattle.par_machine.specs.Site.{areas_at, spot_of, IsPerformed}
use Rattle.par_machine.proofs.Asked.{at_instr, field_known, field_unknown}
use Rattle.par_machine.proofs.Coming.{is_at}
use Rattle.par_machine.proofs.Written.{static_performed, missed_write}
use Rattle.par_machine.proofs.run.Running.write_static.Goals as goal

pub returns : goal.returns
returns c =
    let files = c.args.area.now.files in
    let known = field_known (class_names files) (link_at files c.args.site.point.class c.args.index)
    c.in-Some.named c.in-Some.ensures in
    let at = is_at files c.args.self.now c.args.site c.args.ahead c.requires.there
    (ap is_branch c.requires.instr) in
    subst (λ d. IsPerformed c.args.area.now c.args.self.now c.args.site d
    (record c.args.self.now {
      stack = c.put_static-done.new.stack;
      statics = c.put_static-done.new.statics;
    }))
    (sym c.unless_lock.ensures)
    (static_performed c.args.area.now c.args.self.now c.args.site c.args.ahead c.args.index known.0
    c.in-Some.named c.put_static-done.result
    c.put_static-done.new.stack c.put_static-done.new.statics c.requires.sound c.requires.there
    c.requires.instr
    (at_instr files c.args.self.now c.args.site (Putstatic c.args.index) c.requires.there.point
    c.requires.instr
    ∙ ap (of_field PutStatic (Misnamed (Anything ∷ []) 0)) known.1)
    (ap (λ i. link_at files c.args.site.point.class (index_of i)) c.requires.instr ∙ known.1)
    known.2
    (c.put_static-done.ensures.done (class_names files) (spot_of files c.args.self.now c.args.site)
    (areas_at files c.args.self.now) known.0 known.2.is refl at)
    c.put_static-done.ensures.kept c.put_static-done.ensures.still c.put_static-done.ensures.unset)

pub returns-in_default : goal.returns-in_default
returns-in_default c =
    let files = c.args.area.now.files in
    let at = is_at files c.args.self.now c.args.site c.args.ahead c.requires.there
    (ap is_branch c.requires.instr) in
    missed_write c.args.area.now c.args.self.now c.args.site c.args.ahead c.misnamed.result
    (Putstatic c.args.index) (Anything ∷ []) 0
    c.requires.sound c.requires.there c.requires.instr refl
    (at_instr files c.args.self.now c.args.site (Putstatic c.args.index) c.requires.there.point
    c.requires.instr
    ∙ field_unknown (class_names files) (link_at files c.args.site.point.class c.args.index)
    PutStatic (Anything ∷ []) 0 c.in_default.ensures)
    (c.misnamed.ensures (class_names files) (spot_of files c.args.self.now c.args.site)
    (areas_at files c.args.self.now) at)
