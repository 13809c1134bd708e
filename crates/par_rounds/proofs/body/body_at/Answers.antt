use Rattle.std.proofs.Common.{◌<◌, length, sym, ap, ◌∙◌, arith}
use Rattle.std.specs.Prelude.{slice_get}
use Rattle.par_typed.specs.Shown.{bodies}
use Rattle.par_rounds.proofs.Program.{body_at}
use Rattle.par_rounds.proofs.body.body_at.Goals as goal

pub returns : goal.returns
returns c =
    let bs = c.as_slice-bodies.result.now in let t = c.index-bodies-place.result in
    let inside : c.from-place.result < length bs = let e = ap length c.as_slice-bodies.ensures in
    let f = c.from-place.ensures in let g = c.requires in omega (arith, e, f, g) in
    ap (λ l. slice_get (bodies l) c.args.body) (sym c.as_slice-bodies.ensures)
    ∙ ap (slice_get (bodies bs)) (sym c.from-place.ensures)
    ∙ body_at bs c.from-place.result t inside c.index-bodies-place.is
