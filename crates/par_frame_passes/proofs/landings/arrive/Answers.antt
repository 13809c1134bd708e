use Rattle.std.proofs.Common.{w32}
use Rattle.std.proofs.lemmas.Int.{to_z-of_z}
use Rattle.par_frame_steps.specs.Marks.{frame_of}
use Rattle.par_frame_guesses.specs.Methods.{exc_of, act_in, handler_in, code_in}
use Rattle.par_frame_passes.specs.Tables.{table_of}
use Rattle.par_frame_passes.proofs.Landed.{refused, rises, stays, begins}
use Rattle.par_frame_passes.proofs.landings.arrive.Goals as goal

pub returns-in-None : goal.returns-in-None
returns-in-None c =
    let m = c.args.method.now in
    let lands = rw c.in-None.is at c.in_ok-landed.ensures in
    λ start told. refused (exc_of m) (act_in m) (handler_in m) (code_in m) start c.args.at
    (record { to = c.args.to; frame = frame_of c.args.frame; exact = c.args.exact }) _
    (to_z-of_z w32 c.args.to c.ranges.to) (table_of c.args.table.now)
    (table_of c.land.new.table) (lands start told)

pub returns-in-Some-false : goal.returns-in-Some-false
returns-in-Some-false c =
    let m = c.args.method.now in
    let lands = rw c.in-Some-false.is at c.in_ok-landed.ensures in
    λ start told. stays (exc_of m) (act_in m) (handler_in m) (code_in m) start c.args.at
    (record { to = c.args.to; frame = frame_of c.args.frame; exact = c.args.exact }) _
    (to_z-of_z w32 c.args.to c.ranges.to) (table_of c.args.table.now)
    (table_of c.land.new.table) _ c.in-Some-false.field-0-test
    (lands start told)

pub returns-in-Some-true : goal.returns-in-Some-true
returns-in-Some-true c =
    let m = c.args.method.now in
    let lands = rw c.in-Some-true.is at c.in_ok-landed.ensures in
    λ start told. begins (exc_of m) (act_in m) (handler_in m) (code_in m) start c.args.at
    (record { to = c.args.to; frame = frame_of c.args.frame; exact = c.args.exact }) _
    (to_z-of_z w32 c.args.to c.ranges.to) (table_of c.args.table.now)
    (table_of c.land.new.table) _ _ c.is_new-is_new.ensures
    c.if-is_new.true c.in-Some-true.field-0-test (lands start told)

pub returns-in-Some-true-2 : goal.returns-in-Some-true-2
returns-in-Some-true-2 c =
    let m = c.args.method.now in
    let lands = rw c.in-Some-true-2.is at c.in_ok-landed.ensures in
    λ start told. rises (exc_of m) (act_in m) (handler_in m) (code_in m) start c.args.at
    (record { to = c.args.to; frame = frame_of c.args.frame; exact = c.args.exact }) _
    (to_z-of_z w32 c.args.to c.ranges.to) (table_of c.args.table.now)
    (table_of c.land.new.table) _ 0 (lands start told)
