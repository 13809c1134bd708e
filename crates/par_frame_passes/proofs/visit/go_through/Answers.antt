use Rattle.std.proofs.Common.{Ok, Some, sym, ap, subst, ◌≡◌, ◌+◌, ◌-◌, ◌∙◌, arith}
use Rattle.std.specs.Option.{option_map}
use Rattle.par_instr.specs.Decoding.{decoded_at}
use Rattle.par_frame_steps.specs.Marks.{frame_of, flow_of}
use Rattle.par_frame_guesses.specs.Methods.{exc_of, act_in, handler_in, code_in, fixed_at}
use Rattle.par_frame_passes.specs.Sparing.{Spares}
use Rattle.par_frame_passes.specs.Sweeps.{Visited}
use Rattle.par_frame_passes.specs.Tables.{table_of}
use Rattle.par_frame_passes.specs.declared.course.Course.{Course}
use Rattle.par_frame_passes.specs.declared.course.Course.TheVariants as course
use Rattle.par_frame_passes.proofs.Visits.{visited-undecoded, visited-unfit, visited-gone}
use Rattle.par_frame_passes.proofs.Visits.{visited-then}
use Rattle.par_frame_passes.proofs.Sparing.{spares-taken, spares-calm}
use Rattle.par_frame_passes.proofs.visit.go_through.Goals as goal

pub returns-in_default-clause-visited : goal.returns-in_default-clause-visited
returns-in_default-clause-visited c =
    let m = c.args.method.now in
    let at = c.args.at in
    let k = frame_of c.args.frame in
    λ start t told is there spares. visited-undecoded (exc_of m) (act_in m) (handler_in m)
    (code_in m) start (fixed_at m at) at t (table_of c.args.table.now) is (told.fixed at) k there
    (ap (λ bytes. decoded_at bytes at) (sym c.as_slice.ensures) ∙ c.in_default.ensures.nothing)

pub returns-in-None-clause-visited : goal.returns-in-None-clause-visited
returns-in-None-clause-visited c =
    let m = c.args.method.now in
    let at = c.args.at in
    let k = frame_of c.args.frame in
    let here : decoded_at (code_in m).code at
    ≡ Some (record { instr = c.in-Ok.instr; size = c.in-Ok.next - at }) =
    ap (λ bytes. decoded_at bytes at) (sym c.as_slice.ensures) ∙ c.in-Ok.ensures.decoded in
    λ start t told is there spares. visited-unfit (exc_of m) (act_in m) (handler_in m)
    (code_in m) start (fixed_at m at) at t (table_of c.args.table.now) is (told.fixed at) k there _
    here (rw c.in-None.is at c.in-Ok-set_out.ensures.left)

pub returns-in_ok-onward-in-Some-clause-visited : goal.returns-in_ok-onward-in-Some-clause-visited
returns-in_ok-onward-in-Some-clause-visited c =
    let m = c.args.method.now in
    let at = c.args.at in
    let size = c.in-Ok.next - at in
    let k = frame_of c.args.frame in
    let here : decoded_at (code_in m).code at
    ≡ Some (record { instr = c.in-Ok.instr; size = size }) =
    ap (λ bytes. decoded_at bytes at) (sym c.as_slice.ensures) ∙ c.in-Ok.ensures.decoded in
    let left = rw c.in-Some.is at c.in-Ok-set_out.ensures.left in
    let sizes : at + size ≡ c.in-Ok.next = omega (arith, c.in-Ok.ensures.within) in
    λ start t told is there spares. subst (λ (course : Course). Visited (exc_of m) (act_in m)
    (handler_in m) (code_in m) start at t (Ok course) (table_of c.go_on.new.table))
    (sym c.joined.ensures)
    (visited-gone (exc_of m) (act_in m) (handler_in m) (code_in m) start (fixed_at m at) at t
    (table_of c.args.table.now) is (told.fixed at) k there _ here left.0
    (frame_of c.set_out.new.frame) left.1 (flow_of c.in-Some.flow) left.2
    (table_of c.set_out.new.table) (table_of c.go_on.new.table) c.in-Ok-set_out.setting.aside
    c.in_ok-onward-in-Some.onward
    (c.in-Ok-set_out.ensures.went start told
    (spares-taken (exc_of m) (act_in m) (handler_in m) (code_in m) start (fixed_at m at) at t
    (table_of c.args.table.now) (option_map frame_of c.args.spared.now) is spares))
    (c.in_ok-onward-in-Some.ensures start size told sizes))

-- ---- handlers that need no second look

pub returns-in_ok-onward-in-Some-clause-spared : goal.returns-in_ok-onward-in-Some-clause-spared
returns-in_ok-onward-in-Some-clause-spared c =
    let m = c.args.method.now in
    let at = c.args.at in
    let size = c.in-Ok.next - at in
    let k = frame_of c.args.frame in
    let here : decoded_at (code_in m).code at
    ≡ Some (record { instr = c.in-Ok.instr; size = size }) =
    ap (λ bytes. decoded_at bytes at) (sym c.as_slice.ensures) ∙ c.in-Ok.ensures.decoded in
    let left = rw c.in-Some.is at c.in-Ok-set_out.ensures.left in
    let sizes : at + size ≡ c.in-Ok.next = omega (arith, c.in-Ok.ensures.within) in
    λ start t told is there spares kept calm.
    let still : c.joined.result ≡ course.Calm = cc calm in
    let before = spares-taken (exc_of m) (act_in m) (handler_in m) (code_in m) start
    (fixed_at m at) at t (table_of c.args.table.now) (option_map frame_of c.args.spared.now) is
    spares in
    visited-then (exc_of m) (act_in m) (handler_in m) (code_in m) start (fixed_at m at) at t
    (table_of c.args.table.now) is (told.fixed at) k there _ here
    (frame_of c.set_out.new.frame) left.1 (flow_of c.in-Some.flow) left.2
    (table_of c.set_out.new.table) (table_of c.go_on.new.table) c.in-Ok-set_out.setting.aside
    c.in_ok-onward-in-Some.onward (sym c.joined.ensures ∙ still)
    (c.in-Ok-set_out.ensures.went start told before)
    (c.in_ok-onward-in-Some.ensures start size told sizes) kept
    (λ s. Spares (exc_of m) (act_in m) (handler_in m) (code_in m) at s
    (option_map frame_of c.set_out.new.spared))
    (λ quiet from meets. c.in-Ok-set_out.ensures.spared start told before from meets quiet)
    (λ quiet met. spares-calm (exc_of m) (act_in m) (handler_in m) (code_in m) at at
    (table_of c.set_out.new.table) (table_of c.go_on.new.table)
    (option_map frame_of c.set_out.new.spared) quiet met)
