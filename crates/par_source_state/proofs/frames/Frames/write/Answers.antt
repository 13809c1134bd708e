use Rattle.std.proofs.Common.{ap, ◌∙◌, ◌<◌, drop, sym, subst}
use Rattle.std.proofs.lemmas.List.{drop-set-add}
use Rattle.par_run_laws.specs.State.{put}
use Rattle.par_source_state.specs.Frame.{Frame, held}
use Rattle.par_source_state.proofs.Locals.{set_held}
use Rattle.std.proofs.Common.{length}
use Rattle.par_source_state.proofs.frames.Frames.write.Goals as goal

pub returns-clause-own : goal.returns-clause-own
returns-clause-own c =
    let there = subst (λ (f : Frame). c.args.number < length f.own) (sym c.self.view_is)
    c.requires in
    ap held (drop-set-add c.self.inside.base c.self.inside.locals.items c.args.number c.args.value)
    ∙ set_held (drop c.self.inside.base c.self.inside.locals.items) c.args.number c.args.value there
    ∙ ap (λ (f : Frame). put (held f.own) c.args.number c.args.value) c.self.view_is
