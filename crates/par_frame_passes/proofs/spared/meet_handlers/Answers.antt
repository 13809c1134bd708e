use Rattle.std.proofs.Common.{◌≡◌, List, length, Ok, sym, ap, subst, ◌∙◌}
use Rattle.std.proofs.lemmas.Bool.{eqb-true}
use Rattle.std.specs.Option.{option_map}
use Rattle.par_class.specs.declared.file.Catch.{Catch}
use Rattle.par_kinds.specs.Passes.{handled}
use Rattle.par_frame_steps.specs.Marks.{frame_of}
use Rattle.par_frame_guesses.specs.Methods.{exc_of, act_in, handler_in, code_in}
use Rattle.par_frame_passes.specs.Sweeps.{Went}
use Rattle.par_frame_passes.specs.Tables.{table_of}
use Rattle.par_frame_passes.specs.declared.course.Course.{Course}
use Rattle.par_frame_passes.specs.declared.course.Course.TheVariants as course
use Rattle.par_frame_passes.proofs.Sparing.{spared-went, none-went, met-spares}
use Rattle.par_frame_passes.proofs.spared.meet_handlers.Goals as goal

pub returns-then-is_empty-clause-went : goal.returns-then-is_empty-clause-went
returns-then-is_empty-clause-went c =
    let m = c.args.method.now in
    λ start told spares. none-went (exc_of m) (act_in m) (handler_in m) (code_in m) start
    c.args.at (table_of c.args.table.now) (frame_of c.args.frame.now) (code_in m).catches
    (ap length (sym c.as_slice-catches.ensures)
    ∙ eqb-true _ 0 (sym c.is_empty.ensures ∙ c.if-is_empty.true))

pub returns-then-is_empty-clause-spared : goal.returns-then-is_empty-clause-spared
returns-then-is_empty-clause-spared c = λ start told spares kept meets calm. spares

pub returns-then-is_spared-clause-went : goal.returns-then-is_spared-clause-went
returns-then-is_spared-clause-went c =
    let m = c.args.method.now in
    λ start told spares. spared-went (exc_of m) (act_in m) (handler_in m) (code_in m) start
    c.args.at (table_of c.args.table.now) (option_map frame_of c.args.spared.now) _
    (frame_of c.args.frame.now) c.is_spared.ensures c.if-is_spared.true spares

pub returns-then-is_spared-clause-spared : goal.returns-then-is_spared-clause-spared
returns-then-is_spared-clause-spared c = λ start told spares kept meets calm. spares

pub returns-clause-went : goal.returns-clause-went
returns-clause-went c =
    let m = c.args.method.now in
    λ start told spares. subst (λ (cs : List Catch). Went (exc_of m) (act_in m) (handler_in m)
    (code_in m) start c.args.at
    (handled (exc_of m) (act_in m) (handler_in m) (code_in m) start c.args.at
    (frame_of c.args.frame.now) cs)
    (table_of c.args.table.now) (Ok c.in_ok-course.course) (table_of c.go_to_handlers.new.table))
    c.as_slice-catches.ensures (c.in_ok-course.ensures start told)

pub returns-clause-spared : goal.returns-clause-spared
returns-clause-spared c =
    let m = c.args.method.now in
    λ start told spares kept meets calm.
    let still : c.in_ok-course.course ≡ course.Calm = cc calm in
    rw c.replace-before.ensures.after
    (met-spares (exc_of m) (act_in m) (handler_in m) (code_in m) start c.args.at
    (table_of c.args.table.now) (table_of c.go_to_handlers.new.table)
    (frame_of c.args.frame.now) (frame_of c.in_ok-met.met)
    c.in_ok-met.ensures kept meets
    (subst (λ (way : Course). Went (exc_of m) (act_in m) (handler_in m) (code_in m) start
    c.args.at
    (handled (exc_of m) (act_in m) (handler_in m) (code_in m) start c.args.at
    (frame_of c.args.frame.now) (code_in m).catches)
    (table_of c.args.table.now) (Ok way) (table_of c.go_to_handlers.new.table)) still
    (subst (λ (cs : List Catch). Went (exc_of m) (act_in m) (handler_in m)
    (code_in m) start c.args.at
    (handled (exc_of m) (act_in m) (handler_in m) (code_in m) start c.args.at
    (frame_of c.args.frame.now) cs)
    (table_of c.args.table.now) (Ok c.in_ok-course.course) (table_of c.go_to_handlers.new.table))
    c.as_slice-catches.ensures (c.in_ok-course.ensures start told))))
