use Rattle.std.proofs.Common.{ap, sym, ◌∙◌, Bool, if◌then◌else◌}
use Rattle.par_run_laws.specs.Tasks.{looped, fine}
use Rattle.par_typed.specs.Shown.{shown, does}
use Rattle.par_meaning.specs.Work.{loops, performs}
use Rattle.par_meaning.proofs.accept.turn.Goals as goal

pub returns-then-is_true : goal.returns-then-is_true
returns-then-is_true c = λ p rest below vs s n.
    let again = loops p (shown c.args.test.now) (does c.args.body.now) in
    ap (λ (b : Bool). (if b then (λ rests. performs p (does c.args.body.now) (looped again rests))
    else fine) (rest below vs) s n)
    (sym (sym c.is_true.ensures ∙ c.if-is_true.true))
