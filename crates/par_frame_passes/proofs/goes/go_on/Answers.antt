use Rattle.std.proofs.Common.{sym, subst, arith}
use Rattle.std.proofs.lemmas.Int.{ints}
use Rattle.par_frame_moves.specs.par_kinds.Acts.{next_offsets}
use Rattle.par_kinds.specs.Passes.{onward}
use Rattle.par_frame_steps.specs.Marks.{frame_of, flow_of}
use Rattle.par_frame_steps.specs.declared.act.Flow.{Flow}
use Rattle.par_frame_guesses.specs.Methods.{exc_of, act_in, handler_in, code_in}
use Rattle.par_frame_passes.specs.Sweeps.{Went}
use Rattle.par_frame_passes.specs.Tables.{table_of}
use Rattle.par_frame_passes.proofs.Ways.{gone, gone-both}
use Rattle.par_frame_passes.proofs.goes.go_on.Goals as goal

pub returns-in-Onward : goal.returns-in-Onward
returns-in-Onward c =
    let m = c.args.method.now in
    λ start size told sizes. subst (λ (flow : Flow). Went (exc_of m) (act_in m) (handler_in m)
    (code_in m) start c.args.at
    (onward (exc_of m) (act_in m) (handler_in m) (code_in m) start (frame_of c.args.frame)
    (next_offsets (flow_of flow) c.args.at size))
    (table_of c.args.table.now) c.go_to.result (table_of c.go_to.new.table))
    (sym c.in-Onward.is)
    (gone (exc_of m) (act_in m) (handler_in m) (code_in m) start c.args.at
    (frame_of c.args.frame) _ _ _ _ _ (c.go_to.ensures start told) (omega (arith, ints, sizes)))

pub returns-in-Jumps : goal.returns-in-Jumps
returns-in-Jumps c =
    let m = c.args.method.now in
    λ start size told sizes. subst (λ (flow : Flow). Went (exc_of m) (act_in m) (handler_in m)
    (code_in m) start c.args.at
    (onward (exc_of m) (act_in m) (handler_in m) (code_in m) start (frame_of c.args.frame)
    (next_offsets (flow_of flow) c.args.at size))
    (table_of c.args.table.now) c.go_to-in-Jumps.result (table_of c.go_to-in-Jumps.new.table))
    (sym c.in-Jumps.is)
    (gone (exc_of m) (act_in m) (handler_in m) (code_in m) start c.args.at
    (frame_of c.args.frame) _ _ _ _ _ (c.go_to-in-Jumps.ensures start told) (omega (arith, ints)))

pub returns-in-Branches : goal.returns-in-Branches
returns-in-Branches c =
    let m = c.args.method.now in
    λ start size told sizes. subst (λ (flow : Flow). Went (exc_of m) (act_in m) (handler_in m)
    (code_in m) start c.args.at
    (onward (exc_of m) (act_in m) (handler_in m) (code_in m) start (frame_of c.args.frame)
    (next_offsets (flow_of flow) c.args.at size))
    (table_of c.args.table.now) c.go_to_both.result (table_of c.go_to_both.new.table))
    (sym c.in-Branches.is)
    (gone-both (exc_of m) (act_in m) (handler_in m) (code_in m) start c.args.at
    (frame_of c.args.frame) _ _ _ _ _ _ _ (c.go_to_both.ensures start told)
    (omega (arith, ints, sizes)) (omega (arith, ints)))
