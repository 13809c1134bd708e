use Rattle.std.proofs.Common.{ap, ◌∙◌, ℕ, Option, Some}
use Rattle.std.proofs.Math.Path.{fun_ext}
use Rattle.par_values.specs.declared.value.MVal.{MVal}
use Rattle.par_source_state.specs.Held.{static_in}
use Rattle.par_source_state.specs.Stored.{holds}
use Rattle.par_source_state.proofs.Puts.{put_two}
use Rattle.par_source_state.proofs.store.Store.write_static.Goals as goal

pub returns : goal.returns
returns c =
    ap (λ (statics : ℕ → ℕ → Option MVal). record (holds c.args.self.now) { statics = statics })
    (fun_ext (λ a. fun_ext (λ b. c.in_ok-insert.ensures.updates.0 (a, b)
    ∙ put_two (static_in c.args.self.now.statics) c.args.class c.args.field (Some c.args.value) a
    b)))
