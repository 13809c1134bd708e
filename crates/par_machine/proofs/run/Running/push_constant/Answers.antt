use Rattle.std.proofs.Common.{[], ◌≡◌, false, None, refl, ap, subst, ◌∙◌, inl, inr, rules, to_z}
use Rattle.std.proofs.Common.{of_z, w32}
use Rattle.par_instr.specs.declared.instr.Instr.{Instr}
use Rattle.par_instr.specs.declared.instr.Instr.TheVariants.{Ldc, LdcW}
use Rattle.par_values.specs.Operations.{Push, operation, constant}
use Rattle.par_method_area.specs.par_step_laws.Classes.{class_names}
use Rattle.par_method_area.specs.par_step_laws.Links.{link_at}
use Rattle.par_method_area.specs.par_step_laws.Step.{called_on_object}
use Rattle.par_method_area.specs.par_actions.Done.{Comes}
use Rattle.par_machine.specs.Instructions.{is_branch}
use Rattle.par_machine.specs.Site.{areas_at, spot_of, IsPerformed}
use Rattle.par_machine.proofs.Asked.{at_instr, number_known, number_unknown}
use Rattle.par_machine.proofs.Coming.{is_at}
use Rattle.par_machine.proofs.Performed.{performs, missed}
use Rattle.par_machine.proofs.Standing.{may_put}
use Rattle.par_machine.proofs.run.Running.push_constant.Goals as goal

pub returns-in-Some : goal.returns-in-Some
returns-in-Some c = elim c.requires.instr [
  | inl is ↦ by (Ldc c.args.index) is refl refl refl refl
  | inr is ↦ by (LdcW c.args.index) is refl refl refl refl
]
  where
    by : (i : Instr) → c.args.site.instr ≡ i → is_branch i ≡ false → may_put i ≡ false
        → called_on_object i ≡ None
        → operation (link_at c.args.area.now.files c.args.site.point.class) i ≡ constant
        (link_at c.args.area.now.files c.args.site.point.class c.args.index)
        → IsPerformed c.args.area.now c.args.self.now c.args.site c.push_number.result
        (record c.args.self.now { stack = c.push_number.new.stack })
    by i is plain unput uncalled o =
        let whole : to_z w32 (of_z w32 c.in-Some.number) ≡ c.in-Some.number = search rules in
        performs c.args.area.now c.args.self.now c.args.site c.args.ahead c.push_number.result
        c.push_number.new.stack i
        (Push c.in-Some.number) c.requires.sound c.requires.there is unput uncalled
        (at_instr c.args.area.now.files c.args.self.now c.args.site i c.requires.there.point is ∙ o
        ∙ number_known (link_at c.args.area.now.files c.args.site.point.class c.args.index)
        c.in-Some.number c.in-Some.ensures) refl
        (subst (λ n. Comes c.push_number.result (class_names c.args.area.now.files)
        (spot_of c.args.area.now.files c.args.self.now c.args.site) (Push n)
        (areas_at c.args.area.now.files c.args.self.now) c.args.self.now.stack
        c.push_number.new.stack) whole
        (c.push_number.ensures.done (class_names c.args.area.now.files)
        (spot_of c.args.area.now.files c.args.self.now c.args.site)
        (areas_at c.args.area.now.files c.args.self.now)
        (is_at c.args.area.now.files c.args.self.now c.args.site c.args.ahead c.requires.there
        (ap is_branch is ∙ plain))))
        c.push_number.ensures.kept c.push_number.ensures.still

pub returns-in-None : goal.returns-in-None
returns-in-None c = elim c.requires.instr [
  | inl is ↦ by (Ldc c.args.index) is refl refl refl refl
  | inr is ↦ by (LdcW c.args.index) is refl refl refl refl
]
  where
    by : (i : Instr) → c.args.site.instr ≡ i → is_branch i ≡ false → may_put i ≡ false
        → called_on_object i ≡ None
        → operation (link_at c.args.area.now.files c.args.site.point.class) i ≡ constant
        (link_at c.args.area.now.files c.args.site.point.class c.args.index)
        → IsPerformed c.args.area.now c.args.self.now c.args.site c.misnamed.result c.args.self.now
    by i is plain unput uncalled o =
        missed c.args.area.now c.args.self.now c.args.site c.args.ahead c.misnamed.result i [] 1
        c.requires.sound c.requires.there is unput uncalled
        (at_instr c.args.area.now.files c.args.self.now c.args.site i c.requires.there.point is ∙ o
        ∙ number_unknown (link_at c.args.area.now.files c.args.site.point.class c.args.index)
        c.in-None.ensures)
        (c.misnamed.ensures (class_names c.args.area.now.files)
        (spot_of c.args.area.now.files c.args.self.now c.args.site)
        (areas_at c.args.area.now.files c.args.self.now)
        (is_at c.args.area.now.files c.args.self.now c.args.site c.args.ahead c.requires.there
        (ap is_branch is ∙ plain)))
