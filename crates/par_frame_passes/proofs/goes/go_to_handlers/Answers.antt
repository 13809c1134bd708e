use Rattle.std.proofs.Common.{sym, ap, ◌∙◌}
use Rattle.par_frame_steps.specs.Marks.{frame_of}
use Rattle.par_frame_guesses.specs.Methods.{exc_of, act_in, handler_in, code_in}
use Rattle.par_frame_passes.specs.Tables.{table_of}
use Rattle.par_frame_passes.proofs.Ways.{handlers-begun, handler-taken, handler-passed}
use Rattle.par_frame_passes.proofs.Ways.{went-moved}
use Rattle.par_frame_passes.proofs.goes.go_to_handlers.Goals as goal
use Rattle.par_frame_passes.proofs.goes.go_to_handlers.Goals.{then-is_around+in_ok-then}
use Rattle.par_frame_passes.proofs.goes.go_to_handlers.Goals.{else-is_around}

pub loop-catch-init : goal.loop-catch-init
loop-catch-init c =
    let m = c.args.method.now in
    λ start told. handlers-begun (exc_of m) (act_in m) (handler_in m) (code_in m) start c.args.at
    (frame_of c.args.frame.now) c.args.catches.now (table_of c.args.table.now)

pub loop-catch-preserved : goal.loop-catch-preserved
loop-catch-preserved c =
    let m = c.args.method.now in
    let k = frame_of c.args.frame.now in
    elim c.if-is_around.branch [
      | then-is_around+in_ok-then w ↦
          λ start told. went-moved (exc_of m) (act_in m) (handler_in m) (code_in m) start
          c.args.at _ (table_of c.args.table.now) _ _ _ _
          (ap table_of w.table-is) (w.course-is ∙ w.joined-course.ensures)
          (handler-taken (exc_of m) (act_in m) (handler_in m) (code_in m) start c.args.at k
          c.args.catches.now c.loop-catch.catch-index _ c.loop-catch-test.true
          (table_of c.args.table.now) _ _ _ _
          (sym c.is_around.ensures ∙ w.if-is_around.true)
          (c.loop-catch.invariant start told) (w.in_ok-then.ensures start told))
      | else-is_around w ↦
          λ start told. went-moved (exc_of m) (act_in m) (handler_in m) (code_in m) start
          c.args.at _ (table_of c.args.table.now) _ _ _ _
          (ap table_of w.table-is) w.course-is
          (handler-passed (exc_of m) (act_in m) (handler_in m) (code_in m) start c.args.at k
          c.args.catches.now c.loop-catch.catch-index _ c.loop-catch-test.true
          (table_of c.args.table.now) _ _
          (sym c.is_around.ensures ∙ w.if-is_around.false)
          (c.loop-catch.invariant start told))
    ]
