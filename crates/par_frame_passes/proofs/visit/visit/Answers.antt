use Rattle.std.proofs.Common.{◌≡◌, Some, sym}
use Rattle.std.specs.Option.{option_map}
use Rattle.par_kinds.specs.Passes.{frame_at}
use Rattle.par_frame_steps.specs.Marks.{frame_of}
use Rattle.par_frame_guesses.specs.Methods.{exc_of, act_in, handler_in, code_in, fixed_at}
use Rattle.par_frame_passes.specs.Tables.{table_of}
use Rattle.par_frame_passes.proofs.Visits.{visited-nothing}
use Rattle.par_frame_passes.proofs.Sparing.{spares-taken}
use Rattle.par_frame_passes.proofs.visit.visit.Goals as goal

pub returns-in_default-clause-visited : goal.returns-in_default-clause-visited
returns-in_default-clause-visited c =
    let m = c.args.method.now in
    let at = c.args.at in
    λ start told spares. visited-nothing (exc_of m) (act_in m) (handler_in m) (code_in m) start
    (fixed_at m at) at (table_of c.args.table.now) (table_of c.taken.new.table)
    c.in_ok-frame.ensures.left (told.fixed at)
    (sym (rw c.in_default.is at c.in_ok-frame.ensures.found))

pub returns-in_default-clause-spared : goal.returns-in_default-clause-spared
returns-in_default-clause-spared c =
    let m = c.args.method.now in
    let at = c.args.at in
    λ start told spares kept calm. spares-taken (exc_of m) (act_in m) (handler_in m) (code_in m)
    start (fixed_at m at) at (table_of c.args.table.now) (table_of c.taken.new.table)
    (option_map frame_of c.args.spared.now) c.in_ok-frame.ensures.left spares

pub returns-clause-visited : goal.returns-clause-visited
returns-clause-visited c =
    let t = table_of c.args.table.now in
    let there : frame_at t c.args.at ≡ Some (frame_of c.in-Some.frame) =
    sym (rw c.in-Some.is at c.in_ok-frame.ensures.found) in
    λ start told spares.
    c.go_through.ensures.visited start t told c.in_ok-frame.ensures.left there spares

pub returns-clause-spared : goal.returns-clause-spared
returns-clause-spared c =
    let t = table_of c.args.table.now in
    let there : frame_at t c.args.at ≡ Some (frame_of c.in-Some.frame) =
    sym (rw c.in-Some.is at c.in_ok-frame.ensures.found) in
    λ start told spares kept calm.
    c.go_through.ensures.spared start t told c.in_ok-frame.ensures.left there spares kept calm
