use Rattle.std.proofs.Common.{ap, ◌∙◌, ℕ, ℤ, List, Option}
use Rattle.std.proofs.Math.Path.{fun_ext}
use Rattle.par_source_state.specs.Held.{numbers_left}
use Rattle.par_source_state.specs.Stored.{holds}
use Rattle.par_source_state.proofs.Puts.{left_put}
use Rattle.par_source_state.proofs.store.Store.keep_input.Goals as goal

pub returns : goal.returns
returns c =
    ap (λ (inputs : ℕ → ℕ → Option (List ℤ)). record (holds c.args.self.now) { inputs = inputs })
    (fun_ext (λ a. fun_ext (λ b. ap numbers_left (c.in_ok-insert.ensures.updates.0 (a, b))
    ∙ left_put c.args.self.now.inputs c.args.class c.args.channel c.args.left a b)))
