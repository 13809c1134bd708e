use Rattle.std.proofs.Common.{◌≡◌, ◌+◌, ◌<◌, false, length, get_or, ap, arith, refl, sym, ◌∙◌}
use Rattle.std.proofs.Common.{add-one}
use Rattle.std.specs.Option.{option_map}
use Rattle.par_frame_steps.specs.Marks.{frame_of}
use Rattle.par_frame_guesses.specs.Methods.{exc_of, act_in, handler_in, code_in}
use Rattle.par_frame_passes.specs.Tables.{table_of}
use Rattle.par_frame_passes.proofs.Sparing.{spares-here, spares-on, spares-none}
use Rattle.par_frame_passes.proofs.Visits.{swept-all, gone-anew, gone-calm, gone-back}
use Rattle.par_frame_passes.proofs.fixpoint.settles.Goals as goal

pub steps-init : goal.steps-init
steps-init c =
    let m = c.args.method.now in
    λ start told kept. (
      gone-anew (exc_of m) (act_in m) (handler_in m) (code_in m) start
          (table_of c.args.table.now) _ c.args.sweep.now.again c.args.sweep.now.at refl
          c.requires.at kept,
      spares-none (exc_of m) (act_in m) (handler_in m) (code_in m) c.args.sweep.now.at
          (table_of c.args.table.now) (option_map frame_of c.args.spared.now)
          (ap (option_map frame_of) c.requires.spared),
    )

pub returns-then-not-rose : goal.returns-then-not-rose
returns-then-not-rose c =
    let m = c.args.method.now in
    λ start first told begins kept.
    let gone = (c.steps.invariant start told kept).0 in
    swept-all (exc_of m) (act_in m) (handler_in m) (code_in m) start
    (table_of c.steps.table) c.steps.sweep.at first begins gone.0
    (omega (arith, c.if-at-len.true, c.len.ensures, c.at-at.ensures))
    (gone.1 (sym c.rose.ensures ∙ c.if-not-rose.true))

pub steps-preserved-then-at-len : goal.steps-preserved-then-at-len
steps-preserved-then-at-len c =
    let m = c.args.method.now in
    λ start told kept. (
      gone-anew (exc_of m) (act_in m) (handler_in m) (code_in m) start
          (table_of c.steps.table) _ c.begin_again.new.self.again c.begin_again.new.self.at
          refl c.begin_again.ensures.at (c.steps.invariant start told kept).0.0,
      spares-none (exc_of m) (act_in m) (handler_in m) (code_in m) c.begin_again.new.self.at
          (table_of c.steps.table) (option_map frame_of c.forget.new.spared) c.forget.ensures,
    )

pub returns-in-Refused : goal.returns-in-Refused
returns-in-Refused c =
    let m = c.args.method.now in
    let placed = rw c.in-Refused.is at c.in_ok-course.ensures.visited in
    let visited = rw c.at-at.ensures at placed in
    λ start first told begins kept.
    let before = c.steps.invariant start told kept in
    visited start told
    (spares-here (exc_of m) (act_in m) (handler_in m) (code_in m) c.steps.sweep.at
    (table_of c.steps.table) (option_map frame_of c.steps.spared) _ _ _ _
    c.requires.begun (omega (arith, c.if-at-len.false, c.len.ensures, c.at-at.ensures))
    (c.is_marked.ensures
    ∙ ap (λ n. get_or c.args.begun.now n false) c.at-at.ensures)
    c.forget-else-at-len.ensures before.1)
    before.0.0

pub steps-preserved-in-Calm : goal.steps-preserved-in-Calm
steps-preserved-in-Calm c =
    let m = c.args.method.now in
    let inside : c.steps.sweep.at < length (code_in m).code =
    omega (arith, c.if-at-len.false, c.len.ensures, c.at-at.ensures) in
    let next : c.go_on.new.self.at ≡ c.steps.sweep.at + 1 =
    rw c.in-Calm.is at c.go_on.ensures.at ∙ sym (add-one c.steps.sweep.at) in
    let placed = rw c.in-Calm.is at c.in_ok-course.ensures.visited in
    let visited = rw c.at-at.ensures at placed in
    let apart = rw c.in-Calm.is at c.in_ok-course.ensures.spared in
    let spared = rw c.at-at.ensures at apart in
    λ start told kept.
    let before = c.steps.invariant start told kept in
    let here =
    spares-here (exc_of m) (act_in m) (handler_in m) (code_in m) c.steps.sweep.at
    (table_of c.steps.table) (option_map frame_of c.steps.spared) _ _ _ _
    c.requires.begun inside
    (c.is_marked.ensures
    ∙ ap (λ n. get_or c.args.begun.now n false) c.at-at.ensures)
    c.forget-else-at-len.ensures before.1 in (
      gone-calm (exc_of m) (act_in m) (handler_in m) (code_in m) start
          (table_of c.steps.table) (table_of c.visit.new.table) _ c.steps.sweep.again _
          c.steps.sweep.at _ (visited start told here) refl
          (rw c.in-Calm.is at c.go_on.ensures.again) next before.0,
      spares-on (exc_of m) (act_in m) (handler_in m) (code_in m) c.steps.sweep.at _
          (table_of c.visit.new.table) _ (option_map frame_of c.visit.new.spared) _ refl refl
          next (spared start told here before.0.0 refl),
    )

pub steps-preserved : goal.steps-preserved
steps-preserved c =
    let m = c.args.method.now in
    let placed = rw c.in-Rises.is at c.in_ok-course.ensures.visited in
    let visited = rw c.at-at.ensures at placed in
    λ start told kept.
    let before = c.steps.invariant start told kept in
    let here =
    spares-here (exc_of m) (act_in m) (handler_in m) (code_in m) c.steps.sweep.at
    (table_of c.steps.table) (option_map frame_of c.steps.spared) _ _ _ _
    c.requires.begun (omega (arith, c.if-at-len.false, c.len.ensures, c.at-at.ensures))
    (c.is_marked.ensures
    ∙ ap (λ n. get_or c.args.begun.now n false) c.at-at.ensures)
    c.forget-else-at-len.ensures before.1 in (
      gone-back (exc_of m) (act_in m) (handler_in m) (code_in m) start
          (table_of c.steps.table) (table_of c.visit.new.table) _ c.steps.sweep.again _
          c.steps.sweep.at _ 0 (visited start told here) refl
          (rw c.in-Rises.is at c.go_on.ensures.again) before.0,
      spares-none (exc_of m) (act_in m) (handler_in m) (code_in m) c.go_on.new.self.at
          (table_of c.visit.new.table) (option_map frame_of c.forget-in-Rises.new.spared)
          c.forget-in-Rises.ensures,
    )
