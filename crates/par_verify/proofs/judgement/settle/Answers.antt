use Rattle.std.proofs.Common.{refl, sym, ◌∙◌}
use Rattle.std.proofs.lemmas.Result.{IfOk-weaker}
use Rattle.par_frame_passes.specs.par_frame_guesses.Methods.{exc_of, act_in, handler_in}
use Rattle.par_frame_passes.specs.par_frame_guesses.Methods.{code_in}
use Rattle.par_frame_passes.specs.Tables.{table_of}
use Rattle.par_verify.proofs.Judged.{unsized, settled}
use Rattle.par_verify.proofs.judgement.settle.Goals as goal

pub returns-then-not-are_sized : goal.returns-then-not-are_sized
returns-then-not-are_sized c =
    let m = c.args.method.now in
    λ start first told begins within same. unsized (exc_of m) (act_in m) (handler_in m)
    (code_in m) start (table_of c.args.table.now)
    (sym (c.are_sized.ensures start told) ∙ c.if-not-are_sized.true)

pub returns : goal.returns
returns c =
    let m = c.args.method.now in
    let code = code_in m in
    let t = table_of c.args.table.now in
    IfOk-weaker c.passes.result _ _
    (λ found is. λ start first told begins within same.
    settled (exc_of m) (act_in m) (handler_in m) code start first begins within t t found same
    (sym (c.are_sized.ensures start told) ∙ c.if-not-are_sized.false) refl
    (is start first told begins))
    c.passes.ensures
