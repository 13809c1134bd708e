use Rattle.std.proofs.Common.{◌≡◌, ◌+◌, pos, ◌+ℤ◌, true, length, refl, sym, ap, subst, ◌∙◌, rules}
use Rattle.std.proofs.Common.{to_z, of_z, w16, arith}
use Rattle.par_stack.specs.Frames.{with_running, at_offset}
use Rattle.par_method_area.specs.par_step_laws.Step.{offset}
use Rattle.par_method_area.specs.par_actions.declared.done.Done.{Done}
use Rattle.par_method_area.specs.par_actions.declared.done.Done.TheVariants as done
use Rattle.par_starts.specs.Standing.{reach_of}
use Rattle.par_machine.specs.Settled.{is_told}
use Rattle.par_machine.specs.Site.{IsKnown}
use Rattle.par_machine.proofs.Gone.{null_pointer}
use Rattle.par_machine.proofs.Handed.{stays_there, told_no_call, goes_settled, jumps_settled}
use Rattle.par_machine.proofs.Handed.{tells_settled, null_settled, object_settled, heap_grown}
use Rattle.par_machine.proofs.Sound.{first_stands}
use Rattle.par_machine.proofs.run.Running.settle.Goals as goal

pub stuck-requires : goal.stuck-requires
stuck-requires c =
    let stands = first_stands c.args.area.now.files c.args.self.now.stack c.point.ensures.some
    c.requires.sound.frames in
    let there = stays_there c.args.done (done.Bad c.in-Bad.reason) _ c.in-Bad.is refl
    c.requires.stays in
    let class = ap (λ p. p.class) there in
    omega (arith, stands.class, class)

pub returns-in-Goes : goal.returns-in-Goes
returns-in-Goes c =
    rw c.in-Goes.is
    (goes_settled c.args.area.now c.args.site c.args.self.now c.requires.sound c.go_to.new.self
    c.point.ensures.some
    (stays_there c.args.done done.Goes _ c.in-Goes.is refl c.requires.stays) c.requires.forward
    c.requires.within c.go_to.ensures)

pub returns-in-Jumps : goal.returns-in-Jumps
returns-in-Jumps c =
    let whole : to_z w16 (of_z w16 c.distance.result) ≡ c.distance.result = search rules in
    let same : c.target.result ≡ offset (pos c.args.site.point.at +ℤ reach_of c.args.site.instr) =
    c.target.ensures ∙ ap (λ z. offset (pos c.args.site.point.at +ℤ z))
    (whole ∙ c.distance.ensures) in
    rw c.in-Jumps.is
    (jumps_settled c.args.area.now c.args.site c.args.self.now c.requires.sound
    c.go_to-in-Jumps.new.self c.point.ensures.some
    (stays_there c.args.done done.Jumps _ c.in-Jumps.is refl c.requires.stays)
    (subst (IsKnown c.args.area.now.files c.args.site) c.in-Jumps.is c.requires.known)
    (c.go_to-in-Jumps.ensures ∙ ap (λ n. with_running (at_offset n) c.args.self.now.stack) same))

pub returns-in-ThrowsNull : goal.returns-in-ThrowsNull
returns-in-ThrowsNull c =
    let many = c.count-in-ThrowsNull.ensures.many ∙ ap length c.linked-in-ThrowsNull.ensures in
    rw c.in-ThrowsNull.is
    (null_settled c.args.area.now c.args.site c.args.self.now c.requires.sound c.in-ThrowsNull.later
    c.throw_next-in-ThrowsNull.result c.throw_next-in-ThrowsNull.new.self
    (c.count-in-ThrowsNull.result + 1) (null_pointer c.args.area.now.files
    ∙ ap (λ n. n + 1) (sym many))
    c.throw_next-in-ThrowsNull.ensures.turn c.throw_next-in-ThrowsNull.ensures.memory
    c.throw_next-in-ThrowsNull.ensures.over
    c.throw_next-in-ThrowsNull.ensures.sound c.throw_next-in-ThrowsNull.ensures.grown)

pub returns-in-Throws : goal.returns-in-Throws
returns-in-Throws c =
    rw c.in-Throws.is
    (object_settled c.args.area.now c.args.site c.args.self.now c.requires.sound c.in-Throws.later
    c.throw.result c.throw.new.self c.in-Throws.exception
    c.throw.ensures.turn c.throw.ensures.memory c.throw.ensures.over c.throw.ensures.sound
    (heap_grown c.args.area.now c.args.site c.args.self.now c.requires.sound c.throw.new.self
    c.throw.ensures.heap))

pub returns-in_ok-event-in_default : goal.returns-in_ok-event-in_default
returns-in_ok-event-in_default c =
    let told : is_told c.args.done ≡ true = by c.args.done refl in
    tells_settled c.args.area.now c.args.site c.args.self.now c.requires.sound
    c.go_to-in_default.new.self c.point.ensures.some
    (stays_there c.args.done c.args.done _ refl (told_no_call c.args.done told) c.requires.stays)
    c.args.done c.in_ok-event-in_default.event told c.in_ok-event-in_default.ensures
    c.requires.forward c.requires.within c.go_to-in_default.ensures
  where
    by : (d : Done) → c.args.done ≡ d → is_told d ≡ true
    by done.Goes e = absurd (c.in_default.not-Goes e)
    by done.Jumps e = absurd (c.in_default.not-Jumps e)
    by done.ThrowsArithmetic e = absurd (c.in_default.not-ThrowsArithmetic e)
    by (done.ThrowsNull later) e = absurd (c.in_default.not-ThrowsNull later e)
    by (done.Throws v later) e = absurd (c.in_default.not-Throws v later e)
    by done.Calls e = absurd (c.in_default.not-Calls e)
    by done.Returns e = absurd (c.in_default.not-Returns e)
    by (done.ReturnsWith v) e = absurd (c.in_default.not-ReturnsWith v e)
    by (done.Bad n) e = absurd (c.in_default.not-Bad n e)
    by _ e = refl
