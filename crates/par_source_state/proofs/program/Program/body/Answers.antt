use Rattle.std.proofs.Common.{ap, sym, ◌∙◌}
use Rattle.std.specs.Prelude.{slice_get}
use Rattle.par_source_state.specs.Bodied.{body_at}
use Rattle.par_source_state.proofs.Placed.{body_there, no_body}
use Rattle.par_source_state.proofs.program.Program.body.Goals as goal

pub returns-in-Some : goal.returns-in-Some
returns-in-Some c =
    let all = c.args.self.now.typed.now.bodies in
    c.at.ensures ∙ ap (λ bodies. body_at (slice_get bodies c.in-Some.place)) c.as_slice.ensures
    ∙ sym (body_there c.args.class c.args.method all c.in-Some.place
    (c.in-Some.ensures ∙ c.args.self.now.placed (c.args.class, c.args.method)))

pub returns-in-None : goal.returns-in-None
returns-in-None c =
    sym (no_body c.args.class c.args.method c.args.self.now.typed.now.bodies
    (c.in-None.ensures ∙ c.args.self.now.placed (c.args.class, c.args.method)))
